-- Where in a code instructions of some kinds stand.
use Rattle.std.proofs.Common.{ℕ, zero, suc, ◌≡◌, ◌<◌, ◌≤◌, ◌+◌, inl, inr, List, [], ◌∷◌, Some, refl, arith, ap, sym, subst, length, slice_index_or, ◌∙◌}
use Rattle.std.specs.Prelude.{slice_get}
use Rattle.lmn_base.proofs.Lists.{get_below}
use Rattle.lmn_base.proofs.Numbers.{below_next2, three_ways}
use Rattle.lmn_instr_code.specs.declared.instr.Instr.{Instr}
use Rattle.lmn_instr_pool.specs.Extents.{NoneBefore, NoneFrom}

-- what is read at a place stands there
pub index_there : (xs : List Instr) (i : ℕ) (x : Instr) → i < length xs → x ≡ slice_index_or xs i x → slice_get xs i ≡ Some x
index_there xs i x l e = by xs i l ∙ ap (λ y. Some y) (sym e) where
  by : (ys : List Instr) (j : ℕ) → j < length ys → slice_get ys j ≡ Some (slice_index_or ys j x)
  by [] j l = absurd (omega (arith, l))
  by (y ∷ ys) zero l = refl
  by (y ∷ ys) (suc j) l = by ys j (omega (arith, l))

-- nothing stands behind the end
pub none_at_end : (P : Instr → Type 0) (xs : List Instr) (n : ℕ) → length xs ≤ n → NoneFrom P n xs
none_at_end P xs n past i x l e p = let w = get_below xs i x e in absurd (omega (arith, past, l, w))

-- one place farther to the front
pub none_in_front : (P : Instr → Type 0) (xs : List Instr) (n end : ℕ) (x : Instr) → n + 1 ≡ end → NoneFrom P end xs → slice_get xs n ≡ Some x → (P x → ⊥) → NoneFrom P n xs
none_in_front P xs n end x s none e not i y l f p = elim (three_ways i n) [
  | inl b ↦ absurd (omega (arith, l, b))
  | inr r ↦ elim r [
    | inl q ↦ (let same : x ≡ y = (let g : Some x ≡ Some y = sym e ∙ ap (slice_get xs) (sym q) ∙ f in cc) in not (subst P (sym same) p))
    | inr a ↦ none i y (let k = s in omega (arith, a, k)) f p
  ]
]

-- one place farther to the back
pub none_behind : (P : Instr → Type 0) (xs : List Instr) (n : ℕ) (x : Instr) → NoneBefore P n xs → slice_get xs n ≡ Some x → (P x → ⊥) → NoneBefore P (n + 1) xs
none_behind P xs n x none e not i y l f p = elim (below_next2 i n l) [
  | inl b ↦ none i y b f p
  | inr q ↦ (let same : x ≡ y = (let g : Some x ≡ Some y = sym e ∙ ap (slice_get xs) (sym q) ∙ f in cc) in not (subst P (sym same) p))
]
