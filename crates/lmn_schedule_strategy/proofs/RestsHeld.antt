-- The rests besides the registers that a match has set: there is one of each membrane, and it is the rest besides what head code
-- sets.
use Rattle.std.proofs.Common.{ℕ, suc, ◌≡◌, ◌<◌, ◌+◌, true, not, inl, inr, List, [], ◌∷◌, ◌++◌, map, length, Option, Some, None, refl, sym, ap, subst, ◌∙◌, arith}
use Rattle.std.specs.Prelude.{slice_get, ◌↔◌}
use Rattle.lmn_base.specs.Graphs.{Reached, StandsWhole}
use Rattle.lmn_base.specs.Lists.{In}
use Rattle.lmn_base.proofs.Lists.{get_below, get_there as there, in_either, value_or}
use Rattle.lmn_store_heap.specs.Heap.{Heap, atoms_in, port_id}
use Rattle.lmn_store_heap.specs.Graphs.{atom_map}
use Rattle.lmn_store_heap.specs.Sound.{Valid}
use Rattle.lmn_store_heap.proofs.ListLemmas.{in_left, in_right}
use Rattle.lmn_ground_parts.specs.Rests.{IsRest}
use Rattle.lmn_ground_parts.specs.Walks.{is_in}
use Rattle.lmn_congruence_splice.specs.Classes.{rising}
use Rattle.lmn_congruence_splice.specs.Splice.{IsOneOf}
use Rattle.lmn_congruence_splice.proofs.EndLemmas.{in_rising}
use Rattle.lmn_instr_code.specs.declared.instr.Instr.{Instr}
use Rattle.lmn_instr_code.specs.Running.{HeadRegisters, atoms_set, membranes_set}
use Rattle.lmn_machine_registers.specs.Agreeing.{Agrees}
use Rattle.lmn_machine_registers.specs.declared.registers.SetRegisters.{SetRegisters}
use Rattle.lmn_solid_bodies.specs.Running.{Registers}
use Rattle.lmn_solid_bodies.proofs.Dropping.{not_in, out_of}
use Rattle.lmn_solid_bodies.proofs.Firing.{heap_in_of, of_heap_in, rising_below}
use Rattle.lmn_solid_bodies.proofs.HeadPorts.{in_map, of_map}
use Rattle.lmn_machine_commit.specs.Registers.{HasRests, IsBeside, IsRestBeside}
use Rattle.lmn_machine_commit.proofs.RestOf.{rest_of}
use Rattle.lmn_machine.specs.Searching.{AreAllSet, AreHeldWhole}
use Rattle.lmn_schedule_strategy.specs.Turns.{HoldsRestsOf, IsBesideCode, IsRestOf}
use Rattle.lmn_schedule_strategy.proofs.RestsFound.{all_of_parts}
use Rattle.lmn_base.proofs.Numbers.{no_more as none_more}

-- what is read of a list by its places
map_rising : {B : Type 0} (f : ℕ → ℕ) (v : B → ℕ) (xs : List B) (a : ℕ) → ((k : ℕ) (x : B) → slice_get xs k ≡ Some x → f (a + k) ≡ v x) → map f (rising a (length xs)) ≡ map v xs
map_rising f v [] a e = refl
map_rising f v (x ∷ xs) a e =
    let first : f a ≡ v x = ap f (let z : a ≡ a + 0 = omega arith in z) ∙ e 0 x refl in
    let more = map_rising f v xs (suc a) (λ k y w. ap f (next a k) ∙ e (suc k) y w) in
    λ i. first i ∷ more i
  where
    next : (a k : ℕ) → suc a + k ≡ a + suc k
    next a k = omega arith

module _ {A M : Type 0} (atom : A → ℕ) (membrane : M → ℕ) (h : Heap) (valid : Valid h) (g : SetRegisters A M) (held : AreHeldWhole atom membrane h g) where
  abbrev root : ℕ → ℕ × ℕ
  root k = value_or (port_id atom) (0, 0) (slice_get g.parts k)

  root_is : (k : ℕ) (p : A × ℕ) → slice_get g.parts k ≡ Some p → root k ≡ port_id atom p
  root_is k p e = ap (λ o. value_or (port_id atom) (0, 0) o) e

  -- the atoms of the parts
  in_parts : (ps : List ℕ) × ((a : ℕ) → In a ps ↔ ((k : ℕ) × (k < length g.parts) × Reached (atom_map h) (root k) a))
  in_parts = all_of_parts h valid (length g.parts) root (λ k l. let p = there g.parts k l in let w = (held.whole k p.0 p.1).whole in (w.0, subst (λ z. StandsWhole (atom_map h) z w.0) (sym (root_is k p.0 p.1)) w.1))

  -- the atoms in registers
  abbrev taken : List ℕ
  taken = map atom g.atoms ++ in_parts.0

  beside : (a : ℕ) → (not (is_in taken a) ≡ true) ↔ IsBeside atom h g a
  beside a = (
    (λ e. record {
      no_atom = λ i. not_in taken a e (in_left a (map atom g.atoms) in_parts.0 i);
      no_part = λ w. not_in taken a e (in_right a (map atom g.atoms) in_parts.0 ((in_parts.1 a).1 (w.0, get_below g.parts w.0 w.1 w.2, subst (λ z. Reached (atom_map h) z a) (sym (root_is w.0 w.1 w.2)) w.3)));
    }),
    (λ b. out_of taken a (λ i. elim (in_either a (map atom g.atoms) in_parts.0 i) [
      | inl j ↦ b.no_atom j
      | inr j ↦ (let w = (in_parts.1 a).0 j in let p = there g.parts w.0 w.1 in b.no_part (w.0, p.0, p.1, subst (λ z. Reached (atom_map h) z a) (root_is w.0 p.0 p.1) w.2))
    ])),
  )

  -- the lists of the rest of the membrane in a register
  pub rests_held : (k : ℕ) → (l : List ℕ × List ℕ) × ((m : M) → slice_get g.membranes k ≡ Some m → IsRestBeside atom membrane h g (membrane m) l.0 l.1)
  rests_held k = by (slice_get g.membranes k) refl
    where
      by : (o : Option M) → slice_get g.membranes k ≡ o → (l : List ℕ × List ℕ) × ((m : M) → slice_get g.membranes k ≡ Some m → IsRestBeside atom membrane h g (membrane m) l.0 l.1)
      by None e = (([], []), λ m f. absurd (let z : None ≡ Some m = sym e ∙ f in cc))
      by (Some x) e =
          let w = rest_of h valid (membrane x) (held.membranes k x e) (λ a. not (is_in taken a)) (λ y. not (is_in (map membrane g.membranes) y)) in (
            (w.0, w.1),
            λ m f. (let same : x ≡ m = (let z : Some x ≡ Some m = sym e ∙ f in cc) in subst (λ z. IsRestBeside atom membrane h g (membrane z) w.0 w.1) same ((λ a. not (is_in taken a)), (λ a i. beside a), w.2)),
          )

module _ {A M : Type 0} (atom : A → ℕ) (membrane : M → ℕ) (h : Heap) (g : SetRegisters A M) (code : List Instr) (set : AreAllSet g code) (s : HeadRegisters) (agrees : Agrees atom membrane g s) where
  atoms_are : map s.images.atom (rising 0 (atoms_set code)) ≡ map atom g.atoms
  atoms_are = ap (λ n. map s.images.atom (rising 0 n)) (sym set.atoms) ∙ map_rising s.images.atom atom g.atoms 0 (λ k x e. ap s.images.atom (none_more k) ∙ agrees.atoms k x e)

  membranes_are : map s.images.membrane (rising 0 (1 + membranes_set code)) ≡ map membrane g.membranes
  membranes_are = ap (λ n. map s.images.membrane (rising 0 n)) (sym set.membranes) ∙ map_rising s.images.membrane membrane g.membranes 0 (λ k x e. ap s.images.membrane (none_more k) ∙ agrees.membranes k x e)

  to_code : (a : ℕ) → IsBeside atom h g a → IsBesideCode h code s a
  to_code a b = record {
    no_atom = λ k l e. b.no_atom (subst (In a) atoms_are (of_heap_in a (map s.images.atom (rising 0 (atoms_set code)))
        (subst (λ z. IsOneOf z (map s.images.atom (rising 0 (atoms_set code)))) e (in_map s.images.atom k (rising 0 (atoms_set code)) (in_rising (atoms_set code) 0 k (omega arith) (omega (arith, l)))))));
    no_part = λ k l q. let p = there g.parts k (subst (λ n. k < n) (sym set.parts) l) in b.no_part (k, p.0, p.1, subst (λ z. Reached (atom_map h) z a) (agrees.parts k p.0 p.1) q);
  }

  of_code : (a : ℕ) → IsBesideCode h code s a → IsBeside atom h g a
  of_code a b = record {
    no_atom = λ i. (let w = of_map s.images.atom a (rising 0 (atoms_set code)) (heap_in_of a (map s.images.atom (rising 0 (atoms_set code))) (subst (In a) (sym atoms_are) i)) in
        let l = (rising_below (atoms_set code) 0 w.0 w.1).1 in b.no_atom w.0 (omega (arith, l)) w.2);
    no_part = λ w. b.no_part w.0 (subst (λ n. w.0 < n) set.parts (get_below g.parts w.0 w.1 w.2)) (subst (λ z. Reached (atom_map h) z a) (sym (agrees.parts w.0 w.1 w.2)) w.3);
  }

  -- A rest besides the registers is one besides what the code sets.
  pub rest_by_code : (k : ℕ) (x : M) → slice_get g.membranes k ≡ Some x → (atoms membranes : List ℕ) → IsRestBeside atom membrane h g (membrane x) atoms membranes → IsRestOf h code s k atoms membranes
  rest_by_code k x e atoms membranes w =
      let home : membrane x ≡ s.images.membrane k = sym (agrees.membranes k x e) in (
        w.0,
        (λ a i. let v = w.1 a (subst (λ z. In a (atoms_in h z)) (sym home) i) in ((λ t. to_code a (v.0 t)), (λ b. v.1 (of_code a b)))),
        subst (λ ms. IsRest h (s.images.membrane k) w.0 (λ y. not (is_in ms y)) atoms membranes) (sym membranes_are) (subst (λ z. IsRest h z w.0 (λ y. not (is_in (map membrane g.membranes) y)) atoms membranes) home w.2),
      )

-- Registers of a body that agree and hold the rests besides the registers hold those besides what the code sets.
pub holds_by_code : {A M : Type 0} (atom : A → ℕ) (membrane : M → ℕ) (h : Heap) (g : SetRegisters A M) (code : List Instr) → AreAllSet g code → (r : Registers) → Agrees atom membrane g r.head → HasRests atom membrane h g r → HoldsRestsOf h code r
holds_by_code atom membrane h g code set r agrees rests k l =
    let x = there g.membranes k (subst (λ n. k < n) (sym set.membranes) l) in
    rest_by_code atom membrane h g code set r.head agrees k x.0 x.1 (r.left_atoms k) (r.left_membranes k) (rests k x.0 x.1)
