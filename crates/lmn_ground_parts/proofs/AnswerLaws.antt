-- The atom of one list that stands where another stands in another list.
use Rattle.std.proofs.Common.{◌≤◌, ◌≡◌, ◌≢◌, ℕ, List, [], ◌∷◌, length, map, refl, sym, ap, subst, ◌∙◌, inl, inr, arith, Bool, true, false, cond, ◌==◌}
use Rattle.std.proofs.lemmas.Bool.{cases_eq, eq-eqb}
use Rattle.lmn_store_heap.specs.Heap.{Distinct}
use Rattle.lmn_store_heap.proofs.ListLemmas.{each_in}
use Rattle.lmn_ground_parts.specs.Copies.{answer}
use Rattle.lmn_base.proofs.Numbers.{not_equal as apart_test}
use Rattle.lmn_base.specs.Lists.{In}
use Rattle.lmn_ground_parts.specs.Walks.{is_in}

-- the answer to the first is the first
pub answer_here : (x y : ℕ) (xs ys : List ℕ) (a : ℕ) → x ≡ a → answer (x ∷ xs) (y ∷ ys) a ≡ y
answer_here x y xs ys a e = rw (eq-eqb x a e) refl

-- the answer to another is one of the others
pub answer_on : (x y : ℕ) (xs ys : List ℕ) (a : ℕ) → x ≢ a → answer (x ∷ xs) (y ∷ ys) a ≡ answer xs ys a
answer_on x y xs ys a d = rw (apart_test x a d) refl

-- each atom of the one list has its answer in the other
pub answer_in : (xs ys : List ℕ) (a : ℕ) → length xs ≤ length ys → In a xs → In (answer xs ys a) ys
answer_in [] ys a l i = absurd i
answer_in (x ∷ xs) [] a l i = absurd (omega arith)
answer_in (x ∷ xs) (y ∷ ys) a l i = elim (cases_eq x a) [
  | inl e ↦ inl (sym (answer_here x y xs ys a e))
  | inr d ↦ inr (subst (λ (z : ℕ). In z ys) (sym (answer_on x y xs ys a d)) (answer_in xs ys a (omega arith) (rest i d)))
]
  where
    rest : In a (x ∷ xs) → (x ≡ a → ⊥) → In a xs
    rest (inl e) d = absurd (d e)
    rest (inr k) d = k

-- no two atoms have one answer, where no atom stands twice among the answers
pub answer_one : (xs ys : List ℕ) (a b : ℕ) → length xs ≤ length ys → Distinct ys → In a xs → In b xs → answer xs ys a ≡ answer xs ys b → a ≡ b
answer_one [] ys a b l d i j e = absurd i
answer_one (x ∷ xs) [] a b l d i j e = absurd (omega arith)
answer_one (x ∷ xs) (y ∷ ys) a b l d i j e = elim (cases_eq x a) [
  | inl p ↦ elim (cases_eq x b) [
    | inl q ↦ sym p ∙ q
    | inr q ↦
        let f : y ≡ answer xs ys b = sym (answer_here x y xs ys a p) ∙ e ∙ answer_on x y xs ys b q in
        absurd (each_in (λ (z : ℕ). y ≢ z) ys (answer xs ys b) d.0 (answer_in xs ys b (omega arith) (rest b j q)) f)
  ]
  | inr p ↦ elim (cases_eq x b) [
    | inl q ↦
        let f : y ≡ answer xs ys a = sym (answer_here x y xs ys b q) ∙ sym e ∙ answer_on x y xs ys a p in
        absurd (each_in (λ (z : ℕ). y ≢ z) ys (answer xs ys a) d.0 (answer_in xs ys a (omega arith) (rest a i p)) f)
    | inr q ↦ answer_one xs ys a b (omega arith) d.1 (rest a i p) (rest b j q) (sym (answer_on x y xs ys a p) ∙ e ∙ answer_on x y xs ys b q)
  ]
]
  where
    rest : (c : ℕ) → In c (x ∷ xs) → (x ≡ c → ⊥) → In c xs
    rest c (inl e) d = absurd (d e)
    rest c (inr k) d = k

-- each atom of the other list is the answer to one
pub answer_onto : (xs ys : List ℕ) (b : ℕ) → length xs ≡ length ys → Distinct xs → In b ys → (a : ℕ) × In a xs × (answer xs ys a ≡ b)
answer_onto [] [] b l d i = absurd i
answer_onto [] (y ∷ ys) b l d i = absurd (omega arith)
answer_onto (x ∷ xs) [] b l d i = absurd i
answer_onto (x ∷ xs) (y ∷ ys) b l d (inl e) = (x, inl refl, answer_here x y xs ys x refl ∙ e)
answer_onto (x ∷ xs) (y ∷ ys) b l d (inr i) =
    let r = answer_onto xs ys b (omega arith) d.1 i in
    (r.0, inr r.1, answer_on x y xs ys r.0 (each_in (λ (z : ℕ). x ≢ z) xs r.0 d.0 r.1) ∙ r.2)

-- the answers of one list are the other
pub map_answer : (xs ys : List ℕ) → Distinct xs → length ys ≡ length xs → map (answer xs ys) xs ≡ ys
map_answer [] [] d l = refl
map_answer [] (y ∷ ys) d l = absurd (omega arith)
map_answer (x ∷ xs) [] d l = absurd (omega arith)
map_answer (x ∷ xs) (y ∷ ys) d l =
    ap (λ z. z ∷ map (answer (x ∷ xs) (y ∷ ys)) xs) (answer_here x y xs ys x refl)
    ∙ ap (λ zs. y ∷ zs) (same xs (λ z k. answer_on x y xs ys z (each_in (λ (w : ℕ). x ≢ w) xs z d.0 k)) ∙ map_answer xs ys d.1 (omega (arith, l)))
  where
    same : (zs : List ℕ) → ((z : ℕ) → In z zs → answer (x ∷ xs) (y ∷ ys) z ≡ answer xs ys z) → map (answer (x ∷ xs) (y ∷ ys)) zs ≡ map (answer xs ys) zs
    same [] h = refl
    same (z ∷ zs) h = ap (λ w. w ∷ map (answer (x ∷ xs) (y ∷ ys)) zs) (h z (inl refl)) ∙ ap (λ ws. answer xs ys z ∷ ws) (same zs (λ w k. h w (inr k)))

-- the test of membership is true of an element
pub is_in_true : (a : ℕ) (xs : List ℕ) → In a xs → is_in xs a ≡ true
is_in_true a [] i = absurd i
is_in_true a (x ∷ xs) (inl e) = rw (eq-eqb x a e) refl
is_in_true a (x ∷ xs) (inr i) = by (x == a) (is_in_true a xs i)
  where
    by : (t : Bool) → is_in xs a ≡ true → cond t true (is_in xs a) ≡ true
    by true e = refl
    by false e = e
