-- Two heaps that have one solid, walked side by side.
use Rattle.std.proofs.Common.{◌≡◌, ◌≢◌, ◌∙◌, ◌+◌, ℕ, suc, List, [], ◌∷◌, ◌++◌, Some, length, map, refl, sym, ap, subst, inl, inr}
use Rattle.std.specs.List.{AllByRecursion}
use Rattle.std.proofs.lemmas.List.{length-append, map-append}
use Rattle.std.proofs.lemmas.Option.{same_Some}
use Rattle.lmn_base.specs.declared.solid.Region.{Region, out-Region}
use Rattle.lmn_base.specs.declared.solid.Region.TheOpen.{Region-F}
use Rattle.lmn_base.specs.declared.solid.Region.TheViews.{out-roll-Region}
use Rattle.lmn_base.specs.declared.solid.SolidAtom.{SolidAtom}
use Rattle.lmn_base.specs.Lists.{In}
use Rattle.lmn_base.proofs.Lists.{head_is, in_either, length_mapped, some_is, tail_is}
use Rattle.lmn_store_heap.specs.Heap.{Distinct, Heap, HeapAtom, IsAtom, atoms_in, mems_in, rules_in, within}
use Rattle.lmn_store_heap.specs.Solid.{links_from, regions_of, solid_atom_at, solid_atoms_at}
use Rattle.lmn_store_heap.specs.Sound.{Forest, Forms, Listed, bare, flat, mem}
use Rattle.lmn_store_heap.proofs.Depths.{both_distinct}
use Rattle.lmn_store_heap.proofs.ListLemmas.{distinct_left, distinct_right, apart, each_in, in_left, in_right}
use Rattle.lmn_lexer.proofs.Determined.{same_front}
use Rattle.lmn_verify_renaming.proofs.Lists.{Two, two_both, two_long}

-- the atoms of the membranes of a forest
abbrev pub atoms_of : Heap → Forest → List ℕ
atoms_of h bare = []
atoms_of h (mem m i r) = atoms_in h m ++ (atoms_of h i ++ atoms_of h r)

pub of_atoms : (h : Heap) (f : Forest) (m a : ℕ) → In m (flat f) → In a (atoms_in h m) → In a (atoms_of h f)
of_atoms h bare m a j i = absurd j
of_atoms h (mem k p q) m a (inl e) i = in_left a (atoms_in h k) (atoms_of h p ++ atoms_of h q) (subst (λ z. In a (atoms_in h z)) (sym e) i)
of_atoms h (mem k p q) m a (inr j) i = in_right a (atoms_in h k) (atoms_of h p ++ atoms_of h q) (elim (in_either m (flat p) (flat q) j) [
  | inl x ↦ in_left a (atoms_of h p) (atoms_of h q) (of_atoms h p m a x i)
  | inr x ↦ in_right a (atoms_of h p) (atoms_of h q) (of_atoms h q m a x i)
])

pub from_atoms : (h : Heap) (f : Forest) (a : ℕ) → In a (atoms_of h f) → (m : ℕ) × In m (flat f) × In a (atoms_in h m)
from_atoms h bare a i = absurd i
from_atoms h (mem k p q) a i = elim (in_either a (atoms_in h k) (atoms_of h p ++ atoms_of h q) i) [
  | inl j ↦ (k, inl refl, j)
  | inr j ↦ elim (in_either a (atoms_of h p) (atoms_of h q) j) [
    | inl x ↦ (let w = from_atoms h p a x in (w.0, inr (in_left w.0 (flat p) (flat q) w.1), w.2))
    | inr x ↦ (let w = from_atoms h q a x in (w.0, inr (in_right w.0 (flat p) (flat q) w.1), w.2))
  ]
]

-- an atom is in one membrane
one_home : (h : Heap) → Listed h → (a m n : ℕ) → In a (atoms_in h m) → In a (atoms_in h n) → m ≡ n
one_home h l a m n i j =
    let e : Some (within m) ≡ Some (within n) = sym ((l.atoms m a).0 i) ∙ (l.atoms n a).0 j in
    by (same_Some (within m) (within n) e)
  where
    by : within m ≡ within n → m ≡ n
    by e = cc e

pub atoms_once : (h : Heap) → Listed h → (f : Forest) → Distinct (flat f) → Distinct (atoms_of h f)
atoms_once h l bare d = tt
atoms_once h l (mem k p q) d =
    let left = distinct_left (flat p) (flat q) d.1 in
    let right = distinct_right (flat p) (flat q) d.1 in
    let inner = both_distinct (atoms_of h p) (atoms_of h q) (atoms_once h l p left) (atoms_once h l q right) (λ a i j.
    (let v = from_atoms h p a i in let w = from_atoms h q a j in apart (flat p) (flat q) v.0 w.0 d.1 v.1 w.1 (one_home h l a v.0 w.0 v.2 w.2))) in
    both_distinct (atoms_in h k) (atoms_of h p ++ atoms_of h q) (l.atoms_once k) inner (λ a i j.
    (let w = either a j in each_in (λ z. k ≢ z) (flat p ++ flat q) w.0 d.0 w.1 (one_home h l a k w.0 i w.2)))
  where
    either : (a : ℕ) → In a (atoms_of h p ++ atoms_of h q) → (m : ℕ) × In m (flat p ++ flat q) × In a (atoms_in h m)
    either a j = elim (in_either a (atoms_of h p) (atoms_of h q) j) [
      | inl x ↦ (let w = from_atoms h p a x in (w.0, in_left w.0 (flat p) (flat q) w.1, w.2))
      | inr x ↦ (let w = from_atoms h q a x in (w.0, in_right w.0 (flat p) (flat q) w.1, w.2))
    ]

module _ (h k : Heap) (u v : ℕ → ℕ → ℕ) where
  -- two atoms have one functor, and links of the same numbers
  pub record SameAtom (a b : ℕ) : Type 0 where
    pub left : HeapAtom
    pub right : HeapAtom
    pub is_left : h.atoms a ≡ Some left
    pub is_right : k.atoms b ≡ Some right
    pub functor : left.functor ≡ right.functor
    pub links : links_from u a 0 left.functor.arity ≡ links_from v b 0 right.functor.arity

  -- two forests of one shape, with the same in each two membranes
  abbrev pub Same : Forest → Forest → Type 0
  Same bare bare = Unit {0}
  Same bare (mem n j q) = ⊥
  Same (mem m i r) bare = ⊥
  Same (mem m i r) (mem n j q) = Two SameAtom (atoms_in h m) (atoms_in k n) × (rules_in h m ≡ rules_in k n) × Same i j × Same r q

  two_of : (xs ys : List ℕ) → AllByRecursion (IsAtom h) xs → AllByRecursion (IsAtom k) ys → solid_atoms_at h u xs ≡ solid_atoms_at k v ys → Two SameAtom xs ys
  two_of [] [] p q e = tt
  two_of [] (y ∷ ys) p q e = (let w = some_is (k.atoms y) q.0 in let f = e ∙ ap (λ o. solid_atom_at v y o ++ solid_atoms_at k v ys) w.1 in absurd (cc f))
  two_of (x ∷ xs) [] p q e = (let w = some_is (h.atoms x) p.0 in let f = sym (ap (λ o. solid_atom_at u x o ++ solid_atoms_at h u xs) w.1) ∙ e in absurd (cc f))
  two_of (x ∷ xs) (y ∷ ys) p q e =
      let w = some_is (h.atoms x) p.0 in
      let z = some_is (k.atoms y) q.0 in
      let f = sym (ap (λ o. solid_atom_at u x o ++ solid_atoms_at h u xs) w.1) ∙ e ∙ ap (λ o. solid_atom_at v y o ++ solid_atoms_at k v ys) z.1 in
      let same = head_is f in (
        record { left = w.0; right = z.0; is_left = w.1; is_right = z.1; functor = ap (λ (s : SolidAtom). s.functor) same; links = ap (λ (s : SolidAtom). s.links) same },
        two_of xs ys p.1 q.1 (tail_is f),
      )

  pub same_of : (f g : Forest) → ((m : ℕ) → In m (flat f) → AllByRecursion (IsAtom h) (atoms_in h m)) → ((m : ℕ) → In m (flat g) → AllByRecursion (IsAtom k) (atoms_in k m))
      → regions_of h u f ≡ regions_of k v g → Same f g
  same_of bare bare p q e = tt
  same_of bare (mem n j s) p q e = absurd (cc e)
  same_of (mem m i r) bare p q e = absurd (cc e)
  same_of (mem m i r) (mem n j s) p q e =
      let is = sym (out-roll-Region _) ∙ ap out-Region (head_is e) ∙ out-roll-Region _ in (
        two_of (atoms_in h m) (atoms_in k n) (p m (inl refl)) (q n (inl refl)) (ap (λ (x : Region-F Region). x.atoms) is),
        ap (λ (x : Region-F Region). x.rules) is,
        same_of i j (λ z w. p z (inr (in_left z (flat i) (flat r) w))) (λ z w. q z (inr (in_left z (flat j) (flat s) w))) (ap (λ (x : Region-F Region). x.membranes) is),
        same_of r s (λ z w. p z (inr (in_right z (flat i) (flat r) w))) (λ z w. q z (inr (in_right z (flat j) (flat s) w))) (tail_is e),
      )

  pub flats_long : (f g : Forest) → Same f g → length (flat f) ≡ length (flat g)
  flats_long bare bare s = refl
  flats_long bare (mem n j q) s = absurd s
  flats_long (mem m i r) bare s = absurd s
  flats_long (mem m i r) (mem n j q) s =
      ap suc (length-append (flat i) (flat r) ∙ (λ z. flats_long i j s.2 z + flats_long r q s.3 z) ∙ sym (length-append (flat j) (flat q)))

  pub atoms_two : (f g : Forest) → Same f g → Two SameAtom (atoms_of h f) (atoms_of k g)
  atoms_two bare bare s = tt
  atoms_two bare (mem n j q) s = absurd s
  atoms_two (mem m i r) bare s = absurd s
  atoms_two (mem m i r) (mem n j q) s =
      two_both SameAtom (atoms_in h m) (atoms_in k n) (atoms_of h i ++ atoms_of h r) (atoms_of k j ++ atoms_of k q) s.0
      (two_both SameAtom (atoms_of h i) (atoms_of k j) (atoms_of h r) (atoms_of k q) (atoms_two i j s.2) (atoms_two r q s.3))

  module _ (A M : ℕ → ℕ) where
    -- what is in the membrane to which one is taken
    pub record SameMem (m : ℕ) : Type 0 where
      pub atoms : atoms_in k (M m) ≡ map A (atoms_in h m)
      pub rules : rules_in k (M m) ≡ rules_in h m
      pub mems : mems_in k (M m) ≡ map M (mems_in h m)

    pub each_mem : (f g : Forest) (ms ns : List ℕ) → Same f g → map A (atoms_of h f) ≡ atoms_of k g → map M (flat f) ≡ flat g → Forms h f ms → Forms k g ns
        → (ns ≡ map M ms) × ((m : ℕ) → In m (flat f) → SameMem m)
    each_mem bare bare ms ns s a e F G = (G ∙ sym (ap (map M) F), λ m i. absurd i)
    each_mem bare (mem n j q) ms ns s a e F G = absurd s
    each_mem (mem m i r) bare ms ns s a e F G = absurd s
    each_mem (mem m i r) (mem n j q) ms ns s a e F G =
        let is = head_is e in
        let flats = same_front {xs = map M (flat i)} {ys = map M (flat r)} {us = flat j} {vs = flat q} (sym (map-append M (flat i) (flat r)) ∙ tail_is e) (length_mapped M (flat i) ∙ flats_long i j s.2) in
        let here = same_front {xs = map A (atoms_in h m)} {ys = map A (atoms_of h i ++ atoms_of h r)} {us = atoms_in k n} {vs = atoms_of k j ++ atoms_of k q} (sym (map-append A (atoms_in h m) (atoms_of h i ++ atoms_of h r)) ∙ a) (length_mapped A (atoms_in h m) ∙ two_long SameAtom (atoms_in h m) (atoms_in k n) s.0) in
        let others = same_front {xs = map A (atoms_of h i)} {ys = map A (atoms_of h r)} {us = atoms_of k j} {vs = atoms_of k q} (sym (map-append A (atoms_of h i) (atoms_of h r)) ∙ here.1) (length_mapped A (atoms_of h i) ∙ two_long SameAtom (atoms_of h i) (atoms_of k j) (atoms_two i j s.2)) in
        let inner = each_mem i j (mems_in h m) (mems_in k n) s.2 others.0 flats.0 F.2 G.2 in
        let rest = each_mem r q F.0 G.0 s.3 others.1 flats.1 F.3 G.3 in
        let this : SameMem m = record { atoms = ap (atoms_in k) is ∙ sym here.0; rules = ap (rules_in k) is ∙ sym s.1; mems = ap (mems_in k) is ∙ inner.0 } in (
          G.1 ∙ (λ z. sym is z ∷ rest.0 z) ∙ sym (ap (map M) F.1),
          λ z w. all z w this inner.1 rest.1,
        )
      where
        all : (z : ℕ) → In z (m ∷ (flat i ++ flat r)) → SameMem m → ((y : ℕ) → In y (flat i) → SameMem y) → ((y : ℕ) → In y (flat r) → SameMem y) → SameMem z
        all z (inl same) this p q = subst SameMem same this
        all z (inr w) this p q = elim (in_either z (flat i) (flat r) w) [ inl y ↦ p z y | inr y ↦ q z y ]
