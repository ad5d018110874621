-- What is left in the membranes of a head, as registers hold it.
use Rattle.std.proofs.Common.{ℕ, zero, suc, ◌≡◌, ◌<◌, Bool, not, inl, inr, List, [], ◌++◌, length, Option, Some, None, refl, sym, subst, ◌∙◌, arith}
use Rattle.std.specs.Prelude.{slice_get, ◌↔◌}
use Rattle.lmn_base.specs.Graphs.{Reached}
use Rattle.lmn_base.specs.Lists.{In}
use Rattle.lmn_base.proofs.Lists.{get_below, get_there as there, in_either}
use Rattle.lmn_store_heap.specs.Heap.{Heap, within}
use Rattle.lmn_store_heap.specs.Graphs.{atom_map}
use Rattle.lmn_store_heap.specs.Sound.{Valid}
use Rattle.lmn_store_heap.proofs.Heights.{mem_of_place}
use Rattle.lmn_store_heap.proofs.ListLemmas.{in_left, in_right}
use Rattle.lmn_ground_parts.specs.Walks.{is_in}
use Rattle.lmn_congruence_splice.specs.Classes.{rising}
use Rattle.lmn_congruence_splice.specs.Splice.{IsOneOf}
use Rattle.lmn_congruence_splice.proofs.EndLemmas.{in_rising}
use Rattle.lmn_solid_heads.specs.declared.items.HeadItem.{HeadItem}
use Rattle.lmn_solid_heads.specs.Heads.{HeadMembrane, atoms_of, typed_contexts_of, membranes_of}
use Rattle.lmn_solid_heads.specs.Embeddings.{HasMembrane, Lies}
use Rattle.lmn_solid_bodies.specs.Fired.{images_of}
use Rattle.lmn_solid_bodies.specs.Running.{Registers}
use Rattle.lmn_solid_bodies.specs.Within.{HoldsRests, IsTakenAtom, membrane_images}
use Rattle.lmn_solid_bodies.proofs.Dropping.{not_in, out_of}
use Rattle.lmn_solid_bodies.proofs.Firing.{heap_in_of, of_heap_in, rising_below}
use Rattle.lmn_solid_bodies.proofs.HeadPorts.{in_map, of_map}
use Rattle.lmn_machine_commit.proofs.RestOf.{rest_of}
use Rattle.lmn_schedule_strategy.proofs.RestsFound.{IsLeftBy, in_parts}

-- The atoms that a head takes are its images and those of its parts.
module _ (h : Heap) (head : List HeadItem) (r : Registers) (ps : List ℕ) (are : (a : ℕ) → In a ps ↔ ((k : ℕ) × (k < length (typed_contexts_of head)) × Reached (atom_map h) (r.head.images.part k) a)) where
  pub of_taken : (a : ℕ) → In a (images_of r head ++ ps) → IsTakenAtom h head r.head.images a
  of_taken a i = elim (in_either a (images_of r head) ps i) [
    | inl j ↦ (let n = length (atoms_of head) in let w = of_map r.head.images.atom a (rising 0 n) (heap_in_of a (images_of r head) j) in inl (w.0, (let b = (rising_below n 0 w.0 w.1).1 in omega (arith, b)), w.2))
    | inr j ↦ (let w = (are a).0 j in let t = there (typed_contexts_of head) w.0 w.1 in inr (w.0, t.0, t.1, w.2))
  ]

  pub in_taken : (a : ℕ) → IsTakenAtom h head r.head.images a → In a (images_of r head ++ ps)
  in_taken a (inl w) =
      let n = length (atoms_of head) in
      in_left a (images_of r head) ps (of_heap_in a (images_of r head) (subst (λ z. IsOneOf z (images_of r head)) w.2 (in_map r.head.images.atom w.0 (rising 0 n) (in_rising n 0 w.0 (omega arith) (let l = w.1 in omega (arith, l))))))
  in_taken a (inr w) = in_right a (images_of r head) ps ((are a).1 (w.0, get_below (typed_contexts_of head) w.0 w.1 w.2, w.3))

module _ (h : Heap) (valid : Valid h) (head : List HeadItem) (m : ℕ) (r : Registers) (lies : Lies h head m r.head.images) where
  -- the atoms that are taken
  abbrev taken : List ℕ
  taken = images_of r head ++ (in_parts h valid head m r lies).0

  -- there is a rest of each membrane of the head
  some_left : (k : ℕ) (b : HeadMembrane) → HasMembrane head k b → (l : List ℕ × List ℕ) × IsLeftBy h head r k l.0 l.1
  some_left k b has =
      let parts = in_parts h valid head m r lies in
      let left : ℕ → Bool = λ a. not (is_in taken a) in
      let at = r.head.images.membrane in
      let w = rest_of h valid (at k) (mem_of_place h (at k) (within (at b.inside)) ((valid.sound.listed.mems (at b.inside) (at k)).0 (lies.membranes_placed k b has))) left (λ x. not (is_in (membrane_images r head) x)) in
      ((w.0, w.1), (left, (λ a i. ((λ e t. not_in taken a e (in_taken h head r parts.0 parts.1 a t)), (λ o. out_of taken a (λ j. o (of_taken h head r parts.0 parts.1 a j))))), w.2))

  -- chosen for each number
  pub all_left : (j : ℕ) → (l : List ℕ × List ℕ) × ((c : HeadMembrane) → HasMembrane head j c → IsLeftBy h head r j l.0 l.1)
  all_left zero = (([], []), λ c v. (let e = v.1 in absurd (omega (arith, e))))
  all_left (suc j) = by (slice_get (membranes_of head) j) refl
    where
      by : (o : Option HeadMembrane) → slice_get (membranes_of head) j ≡ o → (l : List ℕ × List ℕ) × ((c : HeadMembrane) → HasMembrane head (suc j) c → IsLeftBy h head r (suc j) l.0 l.1)
      by None e = (([], []), λ c v. absurd (let i : v.0 ≡ j = (let f = v.1 in omega (arith, f)) in let n : None ≡ Some c = sym e ∙ subst (λ z. slice_get (membranes_of head) z ≡ Some c) i v.2 in cc))
      by (Some c) e = let w = some_left (suc j) c (j, refl, e) in (w.0, λ d v. w.1)

  -- the registers with the rests of the membranes of the head
  abbrev pub with_rests : Registers
  with_rests = record r { left_atoms = λ j. (all_left j).0.0; left_membranes = λ j. (all_left j).0.1 }

  pub rests_held : HoldsRests h with_rests head
  rests_held k b has closed = (all_left k).1 b has
