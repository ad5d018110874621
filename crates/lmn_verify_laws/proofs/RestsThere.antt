-- Registers that hold the rests of a heap hold what the head of verified code leaves in its graph.
use Rattle.std.proofs.Common.{ℕ, zero, suc, ◌≡◌, ◌≢◌, ◌∙◌, ◌<◌, ◌+◌, Bool, List, ◌∷◌, ◌++◌, length, map, sym, ap, subst, inl, inr, arith}
use Rattle.std.specs.Prelude.{flat_map, not}
use Rattle.lmn_base.specs.Lists.{In}
use Rattle.lmn_base.proofs.Lists.{get_below, get_there, in_either}
use Rattle.lmn_store_heap.specs.Heap.{Heap, atoms_in, mems_in}
use Rattle.lmn_store_heap.specs.Lists.{Distinct, without_all}
use Rattle.lmn_store_heap.specs.Solid.{regions_of}
use Rattle.lmn_store_heap.specs.Sound.{Valid}
use Rattle.lmn_store_heap.proofs.ListLemmas.{each_of, in_left, in_right}
use Rattle.lmn_ground_parts.specs.Rests.{keep}
use Rattle.lmn_ground_parts.specs.Walks.{is_in}
use Rattle.lmn_congruence_splice.specs.Classes.{rising}
use Rattle.lmn_solid_heads.specs.Heads.{atoms_of, typed_contexts_of}
use Rattle.lmn_instr_code.specs.declared.instr.Code.{Code}
use Rattle.lmn_instr_code.specs.Running.{atoms_set, membranes_set}
use Rattle.lmn_schedule_strategy.specs.Turns.{HoldsRestsOf, IsBesideCode}
use Rattle.lmn_solid_bodies.specs.Fired.{images_of}
use Rattle.lmn_solid_bodies.specs.RestCopies.{rest_membranes}
use Rattle.lmn_solid_bodies.specs.Rules.{PartAtoms}
use Rattle.lmn_solid_bodies.specs.Running.{Registers}
use Rattle.lmn_solid_bodies.proofs.Contents.{keep_without}
use Rattle.lmn_solid_bodies.proofs.Dropping.{not_in, out_of}
use Rattle.lmn_verify_code.specs.Verified.{IsVerified}
use Rattle.lmn_verify_laws.specs.Flat.{flat_head}
use Rattle.lmn_verify_laws.proofs.Items.{atom_count, atoms_counted, parts_counted, typed_count}
use Rattle.lmn_verify_solids.specs.Firing.{AreWithin, IsTaken, LeavesRests, found}
use Rattle.lmn_verify_solids.specs.Graphs.{Stand}
use Rattle.lmn_verify_solids.specs.Heads.{parts_set}
use Rattle.lmn_verify_solids.specs.Heaps.{graph_of}
use Rattle.lmn_verify_laws.specs.Laws.{RestsThere}
use Rattle.lmn_verify_solids.proofs.HeapsAreGraphs.{stands}
use Rattle.lmn_verify_laws.proofs.RestsBack.{all_atoms, parts_same}

-- what stands in a list of images is that of a number
of_images : (f : ℕ → ℕ) (b n a : ℕ) → In a (map f (rising b n)) → (k : ℕ) × (k < b + n) × (f k ≡ a)
of_images f b zero a i = absurd i
of_images f b (suc n) a (inl e) = (b, omega arith, e)
of_images f b (suc n) a (inr i) = let w = of_images f (suc b) n a i in let l = w.1 in (w.0, omega (arith, l), w.2)

to_images : (f : ℕ → ℕ) (b n k : ℕ) → k < n → In (f (b + k)) (map f (rising b n))
to_images f b zero k l = absurd (omega (arith, l))
to_images f b (suc n) zero l = let z : b ≡ b + 0 = omega arith in inl (ap f z)
to_images f b (suc n) (suc k) l = let z : suc b + k ≡ b + suc k = omega arith in inr (subst (λ j. In (f j) (map f (rising (suc b) n))) z (to_images f (suc b) n k (omega (arith, l))))

module _ (code : Code) (k : ℕ) (is : IsVerified code k) (h : Heap) (v : Valid h) (r : Registers) (holds : HoldsRestsOf h code.head r) (parts : List ℕ) (are : PartAtoms h (flat_head code) r.head.images parts) where
  abbrev taken : List ℕ
  taken = images_of r (flat_head code) ++ parts

  many_atoms : length (atoms_of (flat_head code)) ≡ atoms_set code.head
  many_atoms = atom_count code ∙ atoms_counted code.head is.looked_at

  many_parts : length (typed_contexts_of (flat_head code)) ≡ parts_set code.head
  many_parts = typed_count code ∙ parts_counted code.head ∙ sym (parts_same code.head)

  taken_is : (a : ℕ) → In a taken → IsTaken (graph_of h) code.head r.head a
  taken_is a i = elim (in_either a (images_of r (flat_head code)) parts i) [
    | inl j ↦ (let w = of_images r.head.images.atom 0 (length (atoms_of (flat_head code))) a j in
        let l = w.1 in let n = many_atoms in inl (w.0, omega (arith, l, n), w.2))
    | inr j ↦ (let w = are.are a j in
        let l = get_below (typed_contexts_of (flat_head code)) w.0 w.1 w.2 in let n = many_parts in inr (w.0, omega (arith, l, n), w.3))
  ]

  is_taken : (a : ℕ) → IsTaken (graph_of h) code.head r.head a → In a taken
  is_taken a (inl w) =
      let l = w.1 in
      let n = many_atoms in
      let z : 0 + w.0 ≡ w.0 = omega arith in
      in_left a (images_of r (flat_head code)) parts (subst (λ b. In b (images_of r (flat_head code))) (ap r.head.images.atom z ∙ w.2) (to_images r.head.images.atom 0 (length (atoms_of (flat_head code))) w.0 (omega (arith, l, n))))
  is_taken a (inr w) =
      let l = w.1 in
      let n = many_parts in
      let t = get_there (typed_contexts_of (flat_head code)) w.0 (omega (arith, l, n)) in
      in_right a (images_of r (flat_head code)) parts (are.all w.0 t.0 a t.1 w.2)

  untaken : (a : ℕ) → IsBesideCode h code.head r.head a → In a taken → ⊥
  untaken a u i = elim (taken_is a i) [
    | inl s ↦ u.no_atom s.0 s.1 s.2
    | inr s ↦ u.no_part s.0 (let n = parts_same code.head in let l = s.1 in omega (arith, l, n)) s.2
  ]

  beside : (a : ℕ) → (In a taken → ⊥) → IsBesideCode h code.head r.head a
  beside a o = record {
    no_atom = λ j l s. o (is_taken a (inl (j, l, s)));
    no_part = λ j l s. o (is_taken a (inr (j, (let n = parts_same code.head in omega (arith, l, n)), s)));
  }

  abbrev images : List ℕ
  images = map r.head.images.membrane (rising 0 (1 + membranes_set code.head))

  images_are : images ≡ r.head.images.membrane 0 ∷ found code.head r
  images_are = let z : 1 + membranes_set code.head ≡ suc (membranes_set code.head) = omega arith in ap (λ n. map r.head.images.membrane (rising 0 n)) z

  abbrev other : ℕ → Bool
  other x = not (is_in images x)

  others : (x : ℕ) → without_all (r.head.images.membrane 0 ∷ found code.head r) (mems_in h x) ≡ keep other (mems_in h x)
  others x = let sound = v.sound in let listed = sound.listed in
      ap (λ ns. without_all ns (mems_in h x)) (sym images_are) ∙ keep_without other images (mems_in h x) (listed.mems_once x) (λ y i. (not_in images y, out_of images y))

  within : (m : ℕ) → m < 1 + membranes_set code.head → AreWithin (graph_of h) (without_all (r.head.images.membrane 0 ∷ found code.head r) (mems_in h (r.head.images.membrane m))) (r.left_membranes m)
  within m l =
      let rest = (holds m l).2 in
      let link : ℕ → ℕ → ℕ = λ a i. 0 in
      let forms = rest.forms in
      let x = r.head.images.membrane m in (
        regions_of h link rest.forest,
        subst (λ ms. Stand (graph_of h) link ms (r.left_membranes m) (regions_of h link rest.forest)) (sym (others x))
            (subst (λ all. Stand (graph_of h) link (keep other (mems_in h x)) all (regions_of h link rest.forest)) (sym rest.preorder) (stands h link rest.forest (keep other (mems_in h x)) forms)),
      )

  once : (m : ℕ) → m < 1 + membranes_set code.head → Distinct (rest_membranes r m)
  once m l =
      let rest = (holds m l).2 in
      let x = r.head.images.membrane m in
      (each_of (λ y. x ≢ y) (r.left_membranes m) (λ y i e. rest.outside (subst (λ z. In z (r.left_membranes m)) (sym e) i)), rest.once)

  atoms : (m : ℕ) → m < 1 + membranes_set code.head → r.left_atoms m ≡ without_all taken (atoms_in h (r.head.images.membrane m)) ++ flat_map (λ y. atoms_in h y) (r.left_membranes m)
  atoms m l =
      let w = holds m l in
      let rest = w.2 in
      let x = r.head.images.membrane m in
      let sound = v.sound in
      let listed = sound.listed in
      let same : without_all taken (atoms_in h x) ≡ keep w.0 (atoms_in h x) = keep_without w.0 taken (atoms_in h x) (listed.atoms_once x) (λ a i. ((λ e. untaken a ((w.1 a i).0 e)), (λ o. (w.1 a i).1 (beside a o)))) in
      rest.in_order ∙ (λ i. sym same i ++ sym (all_atoms h (r.left_membranes m)) i)

  leaves : LeavesRests (graph_of h) code.head r taken
  leaves = record { takes = λ a. (taken_is a, is_taken a); membranes = within; once = once; atoms = atoms }

-- registers that hold the rests of a heap hold what the head of verified code leaves in its graph
pub rests_there : RestsThere
rests_there code k is h v r holds parts are = leaves code k is h v r holds parts are
