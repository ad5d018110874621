-- Names without a line feed.
use Rattle.std.proofs.Common.{ℕ, zero, suc, ◌≡◌, ◌∙◌, ◌+◌, ◌<◌, ◌≤◌, inl, inr, List, [], ◌∷◌, Some, length, sym, ap, subst, arith, slice_get}
use Rattle.std.proofs.lemmas.Bool.{cases_lt}
use Rattle.std.proofs.lemmas.Option.{same_Some}
use Rattle.lmn_congruence.specs.Rules.{Name}
use Rattle.lmn_receipt_chain.specs.Bytes.{NoFeed}
use Rattle.lmn_receipt_search.specs.Feeds.{NamesWithout}

-- the names below a number have none
abbrev pub WithoutBelow : List Name → ℕ → Type 0
WithoutBelow names k = (n : ℕ) (name : Name) → n < k → slice_get names n ≡ Some name → NoFeed name

pub without_more : (names : List Name) (k : ℕ) (text : Name) → WithoutBelow names k → slice_get names k ≡ Some text → NoFeed text → WithoutBelow names (k + 1)
without_more names k text old is none n name l e = elim (cases_lt n k) [
  | inl below ↦ old n name below e
  | inr past ↦ (let same : n ≡ k = omega (arith, l, past) in subst NoFeed (same_Some text name (sym is ∙ ap (slice_get names) (sym same) ∙ e)) none)
]

there : (names : List Name) (n : ℕ) (name : Name) → slice_get names n ≡ Some name → n < length names
there [] n name e = absurd (cc)
there (x ∷ xs) zero name e = omega arith
there (x ∷ xs) (suc n) name e = let l = there xs n name e in omega (arith, l)

pub all_without : (names : List Name) (k : ℕ) → length names ≤ k → WithoutBelow names k → NamesWithout names
all_without names k past none n name e = let l = there names n name e in none n name (omega (arith, l, past)) e
