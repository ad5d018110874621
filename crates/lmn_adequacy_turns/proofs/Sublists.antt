-- Lists that keep some elements of another one, in its order.
use Rattle.std.proofs.Common.{ℕ, ◌≡◌, ◌≢◌, ◌⊎◌, ◌==◌, Bool, true, false, cond, List, [], ◌∷◌, refl, sym, ap, ◌∙◌, inl, inr}
use Rattle.std.proofs.lemmas.Bool.{cases_eq, eq-eqb}
use Rattle.lmn_store_heap.specs.Lists.{Distinct, without, without_all}
use Rattle.lmn_store_heap.specs.Sound.{Forest}
use Rattle.lmn_store_heap.proofs.ListLemmas.{each_in, each_of, in_without, withouts_nothing}
use Rattle.lmn_store_heap.proofs.Listing.{in_without_of, distinct_without}
use Rattle.lmn_adequacy.specs.Embedding.{Merged, merged_none, from_first, from_second}
use Rattle.lmn_adequacy_heaps.proofs.Forests.{tops}
use Rattle.lmn_adequacy_heaps.proofs.Lying.{TakenTree, tree_first, tree_later}
use Rattle.lmn_base.proofs.Numbers.{not_equal as apart_test}
use Rattle.lmn_base.specs.Lists.{In}
use Rattle.std.specs.List.{AllByRecursion}
use Rattle.lmn_solid_bodies.proofs.Contents.{without_all_there as step_kept}

-- the first list has elements of the second, in their order
pub data Sublist : List ℕ → List ℕ → Type 0 where
  all_gone : Sublist [] []
  keeps : {x : ℕ} {xs ys : List ℕ} → Sublist xs ys → Sublist (x ∷ xs) (x ∷ ys)
  drops : {x : ℕ} {xs ys : List ℕ} → Sublist xs ys → Sublist xs (x ∷ ys)

-- a list is part of itself
pub sub_itself : (xs : List ℕ) → Sublist xs xs
sub_itself [] = all_gone
sub_itself (x ∷ xs) = keeps (sub_itself xs)

-- and what is part of a part is part
pub sub_then : {xs ys zs : List ℕ} → Sublist xs ys → Sublist ys zs → Sublist xs zs
sub_then s all_gone = s
sub_then (keeps s) (keeps t) = keeps (sub_then s t)
sub_then (drops s) (keeps t) = drops (sub_then s t)
sub_then s (drops t) = drops (sub_then s t)

-- what stands in a part stands in the list
pub sub_in : {xs ys : List ℕ} → Sublist xs ys → (a : ℕ) → In a xs → In a ys
sub_in all_gone a i = i
sub_in (keeps s) a (inl e) = inl e
sub_in (keeps s) a (inr i) = inr (sub_in s a i)
sub_in (drops s) a i = inr (sub_in s a i)

-- a list without a number is part of it
pub sub_without : (a : ℕ) (xs : List ℕ) → Sublist (without a xs) xs
sub_without a [] = all_gone
sub_without a (x ∷ xs) = by (x == a) (sub_without a xs)
  where
    by : (b : Bool) → Sublist (without a xs) xs → Sublist (cond b xs (x ∷ without a xs)) (x ∷ xs)
    by true s = drops (sub_itself xs)
    by false s = keeps s

-- and so without some
pub sub_without_all : (bs xs : List ℕ) → Sublist (without_all bs xs) xs
sub_without_all [] xs = sub_itself xs
sub_without_all (b ∷ bs) xs = sub_then (sub_without_all bs (without b xs)) (sub_without b xs)

-- and each of two lists of which it is made
pub sub_merged : {ps xs ys : List ℕ} → Merged ps xs ys → Sublist xs ys
sub_merged merged_none = all_gone
sub_merged (from_first m) = drops (sub_merged m)
sub_merged (from_second m) = keeps (sub_merged m)

-- and what is left of a forest
pub sub_tree : {n m : ℕ} {i f f' : Forest} → TakenTree n m i f f' → Sublist (tops f') (tops f)
sub_tree (tree_first {f = f}) = drops (sub_itself (tops f))
sub_tree (tree_later t) = keeps (sub_tree t)

-- what isn't left of a list was taken
pub gone_or_left : (bs xs : List ℕ) (a : ℕ) → In a xs → In a bs ⊎ In a (without_all bs xs)
gone_or_left [] xs a i = inr i
gone_or_left (b ∷ bs) xs a i = elim (cases_eq a b) [
  | inl e ↦ inl (inl (sym e))
  | inr d ↦ elim (gone_or_left bs (without b xs) a (in_without b a xs i d)) [ inl j ↦ inl (inr j) | inr j ↦ inr j ]
]

-- ---- without some numbers, one element at a time

step_out : (ns : List ℕ) (y : ℕ) (ys : List ℕ) → Distinct (y ∷ ys) → In y ns → without_all ns (y ∷ ys) ≡ without_all ns ys
step_out [] y ys d i = absurd i
step_out (a ∷ ns) y ys d i = elim (cases_eq y a) [
  | inl e ↦ (let t : (y == a) ≡ true = eq-eqb y a e in
      let gone : without a ys ≡ ys = ap (λ z. without z ys) (sym e) ∙ absent ys d.0 in
      rw t (ap (without_all ns) (sym gone)))
  | inr n ↦ (let t : (y == a) ≡ false = apart_test y a n in
      rw t (step_out ns y (without a ys) (smaller, distinct_without a ys d.1) (elim i [ inl e ↦ absurd (n (sym e)) | inr j ↦ j ])))
]
  where
    absent : (zs : List ℕ) → AllByRecursion (λ z. y ≢ z) zs → without y zs ≡ zs
    absent [] e = refl
    absent (z ∷ zs) e = rw (apart_test z y (λ q. e.0 (sym q))) (ap (λ ws. z ∷ ws) (absent zs e.1))

    smaller : AllByRecursion (λ z. y ≢ z) (without a ys)
    smaller = each_of (λ z. y ≢ z) (without a ys) (λ z j. each_in (λ w. y ≢ w) ys z d.0 (in_without_of a z ys d.1 j).0)

-- a sublist is what some numbers leave, where it has none of them and all others
pub sub_is : (ns : List ℕ) {xs ys : List ℕ} → Sublist xs ys → Distinct ys → ((a : ℕ) → In a ys → In a ns ⊎ In a xs) → ((a : ℕ) → In a xs → In a ns → ⊥) → xs ≡ without_all ns ys
sub_is ns all_gone d t o = sym (withouts_nothing ns)
sub_is ns (keeps {x = x} {xs = xs} {ys = ys} s) d t o =
    ap (λ zs. x ∷ zs) (sub_is ns s d.1 (λ a i. elim (t a (inr i)) [ inl j ↦ inl j | inr j ↦ elim j [ inl e ↦ absurd (each_in (λ z. x ≢ z) ys a d.0 i e) | inr k ↦ inr k ] ]) (λ a i j. o a (inr i) j))
    ∙ sym (step_kept ns x ys (λ j. o x (inl refl) j))
sub_is ns (drops {x = x} {xs = xs} {ys = ys} s) d t o =
    sub_is ns s d.1 (λ a i. t a (inr i)) o
    ∙ sym (step_out ns x ys d (elim (t x (inl refl)) [ inl j ↦ j | inr j ↦ absurd (each_in (λ z. x ≢ z) ys x d.0 (sub_in s x j) refl) ]))
