-- What each call does to the tree of membranes.
use Rattle.std.proofs.Common.{◌≡◌, ℕ, List, [], ◌∷◌, ◌++◌, refl, sym, ap, subst, ◌∙◌, inl, inr}
use Rattle.lmn_store_heap.specs.Heap.{Heap, mems_in, without}
use Rattle.lmn_store_heap.specs.Sound.{Forest, bare, mem, flat, Forms}
use Rattle.lmn_store_heap.proofs.ListLemmas.{in_left, in_right}
use Rattle.lmn_base.proofs.Numbers.{not_equal as apart_test}
use Rattle.lmn_base.specs.Lists.{In}
use Rattle.lmn_base.proofs.Lists.{in_either}

-- only the lists of membranes matter
pub forms_frame : (s t : Heap) (f : Forest) (ms : List ℕ) → ((m : ℕ) → In m (flat f) → mems_in t m ≡ mems_in s m) → Forms s f ms → Forms t f ms
forms_frame s t bare ms same F = F
forms_frame s t (mem k i b) ms same F = (
  F.0,
  F.1,
  subst (Forms t i) (sym (same k (inl refl))) (forms_frame s t i (mems_in s k) (λ m p. same m (inr (in_left m (flat i) (flat b) p))) F.2),
  forms_frame s t b F.0 (λ m p. same m (inr (in_right m (flat i) (flat b) p))) F.3,
)

-- a list has one forest
pub forms_one : (s : Heap) (f g : Forest) (ms : List ℕ) → Forms s f ms → Forms s g ms → f ≡ g
forms_one s bare bare ms F G = refl
forms_one s bare (mem k i b) ms F G = absurd (let h : [] ≡ k ∷ G.0 = sym F ∙ G.1 in cc)
forms_one s (mem k i b) bare ms F G = absurd (let h : k ∷ F.0 ≡ [] = sym F.1 ∙ G in cc)
forms_one s (mem k i b) (mem l j c) ms F G =
    let h : k ∷ F.0 ≡ l ∷ G.0 = sym F.1 ∙ G.1 in
    let e : k ≡ l = (cc) in
    let r : F.0 ≡ G.0 = (cc) in
    let x = forms_one s i j (mems_in s l) (subst (λ z. Forms s i (mems_in s z)) e F.2) G.2 in
    let y = forms_one s b c G.0 (subst (Forms s b) r F.3) G.3 in
    λ t. mem (e t) (x t) (y t)

-- one forest beside another
abbrev pub beside : Forest → Forest → Forest
beside bare g = g
beside (mem k i r) g = mem k i (beside r g)

-- two forests side by side are that of both lists
pub forms_beside : (s : Heap) (f g : Forest) (xs ys : List ℕ) → Forms s f xs → Forms s g ys → Forms s (beside f g) (xs ++ ys)
forms_beside s bare g xs ys F G = subst (λ z. Forms s g (z ++ ys)) (sym F) G
forms_beside s (mem k i r) g xs ys F G = (F.0 ++ ys, ap (λ z. z ++ ys) F.1, F.2, forms_beside s r g F.0 ys F.3 G)

-- what isn't in a list can't be taken out of it
pub without_absent : (a : ℕ) (xs : List ℕ) → (In a xs → ⊥) → without a xs ≡ xs
without_absent a [] d = refl
without_absent a (x ∷ xs) d = rw (apart_test x a (λ e. d (inl e))) (ap (λ ys. x ∷ ys) (without_absent a xs (λ i. d (inr i))))

-- the list of a forest is in it
pub list_inside : (s : Heap) (f : Forest) (ms : List ℕ) → Forms s f ms → (x : ℕ) → In x ms → In x (flat f)
list_inside s bare ms F x i = subst (In x) F i
list_inside s (mem k i r) ms F x p = elim (subst (In x) F.1 p) [ inl e ↦ inl e | inr q ↦ inr (in_right x (flat i) (flat r) (list_inside s r F.0 F.3 x q)) ]

-- what stands in a membrane of a forest is in it
pub child_inside : (s : Heap) (f : Forest) (ms : List ℕ) → Forms s f ms → (q x : ℕ) → In q (flat f) → In x (mems_in s q) → In x (flat f)
child_inside s bare ms F q x p i = absurd p
child_inside s (mem k i r) ms F q x (inl e) p = inr (in_left x (flat i) (flat r) (list_inside s i (mems_in s k) F.2 x (subst (λ z. In x (mems_in s z)) (sym e) p)))
child_inside s (mem k i r) ms F q x (inr j) p = elim (in_either q (flat i) (flat r) j) [
  | inl w ↦ inr (in_left x (flat i) (flat r) (child_inside s i (mems_in s k) F.2 q x w p))
  | inr w ↦ inr (in_right x (flat i) (flat r) (child_inside s r F.0 F.3 q x w p))
]
