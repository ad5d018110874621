-- What one match is in a heap with other numbers: what the head takes, and what is left in membranes with closed contexts.
use Rattle.std.proofs.Common.{◌≡◌, ◌∙◌, ◌+◌, ◌<◌, ◌≤◌, ℕ, zero, suc, true, not, List, ◌∷◌, ◌++◌, length, map, refl, sym, ap, subst, inl, inr, arith}
use Rattle.std.specs.Prelude.{slice_get, Some}
use Rattle.lmn_base.specs.Graphs.{Port, Reached}
use Rattle.lmn_base.specs.Lists.{In}
use Rattle.lmn_base.proofs.Common.{of_map}
use Rattle.lmn_base.proofs.Truth.{test_same}
use Rattle.lmn_base.proofs.Lists.{get_below, in_either, join_maps}
use Rattle.lmn_store_heap.specs.Graphs.{atom_map}
use Rattle.lmn_store_heap.specs.Heap.{Heap, atoms_in, mems_in}
use Rattle.lmn_store_heap.specs.Lists.{without_all}
use Rattle.lmn_store_heap.specs.Sound.{Forms, Listed, flat}
use Rattle.lmn_store_heap.proofs.Common.{in_map}
use Rattle.lmn_store_heap.proofs.ListLemmas.{in_left, in_right}
use Rattle.lmn_ground_parts.specs.Rests.{atoms_of_all, keep}
use Rattle.lmn_ground_parts.specs.Walks.{is_in}
use Rattle.lmn_solid_heads.specs.declared.items.HeadItem.{HeadItem}
use Rattle.lmn_solid_heads.specs.Embeddings.{HasMembrane}
use Rattle.lmn_solid_heads.specs.Heads.{HeadMembrane, atoms_of, membranes_of}
use Rattle.lmn_congruence_splice.specs.Classes.{rising}
use Rattle.lmn_congruence_splice.proofs.EndLemmas.{in_rising}
use Rattle.lmn_solid_bodies.specs.declared.items.BodyItem.{BodyItem}
use Rattle.lmn_solid_bodies.specs.Fired.{images_of}
use Rattle.lmn_solid_bodies.specs.Rules.{PartAtoms}
use Rattle.lmn_solid_bodies.specs.Running.{Registers}
use Rattle.lmn_solid_bodies.specs.Within.{HoldsRests, IsTakenAtom, dropped_atoms, dropped_mems, membrane_images, removed_mems}
use Rattle.lmn_solid_bodies.proofs.Firing.{heap_in_of, of_heap_in, rising_below}
use Rattle.lmn_verify_renaming.specs.Renamed.{Renaming, SameButRoom, renamed}
use Rattle.lmn_verify_renaming.proofs.Numbers.{in_back, in_there, one_to_one}
use Rattle.lmn_verify_renaming.specs.FiringLaws.{SameMatch}
use Rattle.lmn_verify_renaming.proofs.Mapped.{all_atoms_there, closed_there, flats_there, is_in_there, keep_there, without_there}
use Rattle.lmn_verify_renaming.proofs.FiringReading.{atoms_are, mems_are, reached_back, reached_there}

-- images are mapped side by side
images_there : (f g to : ℕ → ℕ) (i n : ℕ) → ((x : ℕ) → i ≤ x → x < i + n → g x ≡ to (f x)) → map g (rising i n) ≡ map to (map f (rising i n))
images_there f g to i zero same = refl
images_there f g to i (suc n) same =
    let first = same i (omega arith) (omega arith) in
    let rest = images_there f g to (suc i) n (λ x l b. same x (omega (arith, l)) (omega (arith, b))) in
    λ t. first t ∷ rest t

-- what stands in the list of what a head takes is taken, and the other way round
module _ (h : Heap) (head : List HeadItem) (r : Registers) (ps : List ℕ) (parts : PartAtoms h head r.head.images ps) where
  pub is_taken : (a : ℕ) → In a (images_of r head ++ ps) → IsTakenAtom h head r.head.images a
  is_taken a i = elim (in_either a (images_of r head) ps i) [
    | inl j ↦ (let w = of_map r.head.images.atom a (rising 0 (length (atoms_of head))) j in
        inl (w.0, plain w.0 (rising_below (length (atoms_of head)) 0 w.0 (heap_in_of w.0 (rising 0 (length (atoms_of head))) w.1)).1, w.2))
    | inr j ↦ (let w = parts.are a j in inr (w.0, w.1, w.2, w.3))
  ]
    where
      plain : (x : ℕ) → x < 0 + length (atoms_of head) → x < length (atoms_of head)
      plain x l = omega (arith, l)

  pub taken_in : (a : ℕ) → IsTakenAtom h head r.head.images a → In a (images_of r head ++ ps)
  taken_in a (inl (n, l, e)) = in_left a (images_of r head) ps (subst (λ z. In z (images_of r head)) e
      (in_map r.head.images.atom n (rising 0 (length (atoms_of head))) (of_heap_in n (rising 0 (length (atoms_of head))) (in_rising (length (atoms_of head)) 0 n (omega arith) (omega (arith, l))))))
  taken_in a (inr (g, t, w, v)) = in_right a (images_of r head) ps (parts.all g t a w v)

module _ (p : Renaming) (h k : Heap) (alike : SameButRoom (renamed p h) k) (head : List HeadItem) (body : List BodyItem) (r s : Registers) (match : SameMatch p head body r s) where
  abbrev A : ℕ → ℕ
  A = p.atoms.to

  abbrev M : ℕ → ℕ
  M = p.mems.to

  -- ---- what is taken

  pub taken_there : (a : ℕ) → IsTakenAtom h head r.head.images a → IsTakenAtom k head s.head.images (A a)
  taken_there a (inl (n, l, e)) = inl (n, l, match.atoms n l ∙ ap A e)
  taken_there a (inr (g, t, w, v)) = inr (g, t, w, subst (λ (q : Port). Reached (atom_map k) q (A a)) (sym (match.parts g t w)) (reached_there p h k alike (r.head.images.part g) a v))

  pub taken_back : (a : ℕ) → IsTakenAtom k head s.head.images (A a) → IsTakenAtom h head r.head.images a
  taken_back a (inl (n, l, e)) = inl (n, l, one_to_one p.atoms (r.head.images.atom n) a (sym (match.atoms n l) ∙ e))
  taken_back a (inr (g, t, w, v)) = inr (g, t, w, reached_back p h k alike (r.head.images.part g) a (subst (λ (q : Port). Reached (atom_map k) q (A a)) (match.parts g t w) v))

  -- ---- membranes of the head

  pub membranes_there : membrane_images s head ≡ map M (membrane_images r head)
  membranes_there = images_there r.head.images.membrane s.head.images.membrane M 1 (length (membranes_of head)) (λ x l b. match.membranes x b)

  closed_below : (j : ℕ) (b : HeadMembrane) → HasMembrane head j b → j < 1 + length (membranes_of head)
  closed_below j b (i, e, g) = (let l = get_below (membranes_of head) i b g in omega (arith, e, l))

  -- ---- what is left in a membrane with a closed context

  module _ (rests_h : HoldsRests h r head) (rests_k : HoldsRests k s head) where
    -- its membranes, and its atoms
    pub left_there : (j : ℕ) (b : HeadMembrane) → HasMembrane head j b → b.has_closed_context ≡ true → (s.left_atoms j ≡ map A (r.left_atoms j)) × (s.left_membranes j ≡ map M (r.left_membranes j))
    left_there j b w c =
        let x = rests_h j b w c in
        let y = rests_k j b w c in
        let ix = x.2 in
        let iy = y.2 in
        let here : s.head.images.membrane j ≡ M (r.head.images.membrane j) = match.membranes j (closed_below j b w) in
        let own_atoms : atoms_in k (s.head.images.membrane j) ≡ map A (atoms_in h (r.head.images.membrane j)) = ap (atoms_in k) here ∙ atoms_are p h k alike (r.head.images.membrane j) in
        let own_mems : mems_in k (s.head.images.membrane j) ≡ map M (mems_in h (r.head.images.membrane j)) = ap (mems_in k) here ∙ mems_are p h k alike (r.head.images.membrane j) in
        let tests : (a : ℕ) → In a (atoms_in h (r.head.images.membrane j)) → y.0 (A a) ≡ x.0 a =
        λ a i. (let there : In (A a) (atoms_in k (s.head.images.membrane j)) = subst (In (A a)) (sym own_atoms) (in_there p.atoms a (atoms_in h (r.head.images.membrane j)) i) in
        test_same (y.0 (A a)) (x.0 a)
        (λ e. (x.1 a i).1 (λ t. (y.1 (A a) there).0 e (taken_there a t)))
        (λ e. (y.1 (A a) there).1 (λ t. (x.1 a i).0 e (taken_back a t)))) in
        let kept_atoms : keep y.0 (atoms_in k (s.head.images.membrane j)) ≡ map A (keep x.0 (atoms_in h (r.head.images.membrane j))) =
        ap (keep y.0) own_atoms ∙ keep_there p.atoms x.0 y.0 (atoms_in h (r.head.images.membrane j)) tests in
        let kept_mems : keep (λ z. not (is_in (membrane_images s head) z)) (mems_in k (s.head.images.membrane j)) ≡ map M (keep (λ z. not (is_in (membrane_images r head) z)) (mems_in h (r.head.images.membrane j))) =
        ap (keep (λ z. not (is_in (membrane_images s head) z))) own_mems ∙ keep_there p.mems (λ z. not (is_in (membrane_images r head) z)) (λ z. not (is_in (membrane_images s head) z)) (mems_in h (r.head.images.membrane j))
        (λ z i. ap not (ap (λ zs. is_in zs (M z)) membranes_there ∙ is_in_there p.mems (membrane_images r head) z)) in
        let flats : flat iy.forest ≡ map M (flat ix.forest) = flats_there p.mems h k ix.forest iy.forest (keep (λ z. not (is_in (membrane_images r head) z)) (mems_in h (r.head.images.membrane j)))
        (λ z i. mems_are p h k alike z) ix.forms (subst (λ zs. Forms k iy.forest zs) kept_mems iy.forms) in
        let membranes : s.left_membranes j ≡ map M (r.left_membranes j) = iy.preorder ∙ flats ∙ sym (ap (map M) ix.preorder) in
        let all : atoms_of_all k (s.left_membranes j) ≡ map A (atoms_of_all h (r.left_membranes j)) =
        ap (atoms_of_all k) membranes ∙ all_atoms_there A M h k (r.left_membranes j) (λ z i. atoms_are p h k alike z) in
        (iy.in_order ∙ join_maps A (keep x.0 (atoms_in h (r.head.images.membrane j))) (atoms_of_all h (r.left_membranes j)) kept_atoms all ∙ sym (ap (map A) ix.in_order), membranes)

    has : (j : ℕ) (b : HeadMembrane) → slice_get (membranes_of head) j ≡ Some b → HasMembrane head (1 + j) b
    has j b e = (j, omega arith, e)

    -- what is dropped, and what is removed
    pub dropped_there : dropped_atoms s head ≡ map A (dropped_atoms r head)
    dropped_there = closed_there A r.left_atoms s.left_atoms 1 (membranes_of head) (λ j b e c. (left_there (1 + j) b (has j b e) c).0)

    pub dropped_mems_there : dropped_mems s head ≡ map M (dropped_mems r head)
    dropped_mems_there = closed_there M r.left_membranes s.left_membranes 1 (membranes_of head) (λ j b e c. (left_there (1 + j) b (has j b e) c).1)

    pub removed_there : removed_mems s head ≡ map M (removed_mems r head)
    removed_there = join_maps M (membrane_images r head) (dropped_mems r head) membranes_there dropped_mems_there

  -- ---- what stays in a membrane

  module _ (listed : Listed h) (ps qs : List ℕ) (parts_h : PartAtoms h head r.head.images ps) (parts_k : PartAtoms k head s.head.images qs) where
    pub stays_there : (x : ℕ) → without_all (images_of s head ++ qs) (atoms_in k (M x)) ≡ map A (without_all (images_of r head ++ ps) (atoms_in h x))
    stays_there x = ap (without_all (images_of s head ++ qs)) (atoms_are p h k alike x)
        ∙ without_there p.atoms (images_of r head ++ ps) (images_of s head ++ qs) (atoms_in h x) (listed.atoms_once x)
        (λ a i t. taken_in k head s qs parts_k (A a) (taken_there a (is_taken h head r ps parts_h a t)))
        (λ a i t. taken_in h head r ps parts_h a (taken_back a (is_taken k head s qs parts_k (A a) t)))

    pub mems_stay_there : (x : ℕ) → without_all (membrane_images s head) (mems_in k (M x)) ≡ map M (without_all (membrane_images r head) (mems_in h x))
    mems_stay_there x = ap (without_all (membrane_images s head)) (mems_are p h k alike x)
        ∙ without_there p.mems (membrane_images r head) (membrane_images s head) (mems_in h x) (listed.mems_once x)
        (λ a i t. subst (In (M a)) (sym membranes_there) (in_there p.mems a (membrane_images r head) t))
        (λ a i t. subst (λ z. In z (membrane_images r head)) (p.mems.there a) (in_back p.mems (M a) (membrane_images r head) (subst (In (M a)) membranes_there t)))
