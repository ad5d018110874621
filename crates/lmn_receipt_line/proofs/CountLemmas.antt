-- One round of the count of membranes.
use Rattle.std.proofs.Common.{◌≡◌, ◌∙◌, ℕ, suc, ◌+◌, ◌<◌, List, [], ◌∷◌, ◌++◌, length, map, take, get_or, sym, ap, arith}
use Rattle.std.specs.List.{sum_by}
use Rattle.std.proofs.lemmas.List.{append_assoc, map-append, take_more, take_all}
use Rattle.std.proofs.lemmas.List.Sums.{sum_by-append, sum_by_push}
use Rattle.std.specs.Prelude.{◌≤◌}
use Rattle.lmn_base.specs.declared.solid.Region.{Region}
use Rattle.lmn_base.specs.declared.solid.Region.TheViews.{out-Region}
use Rattle.lmn_receipt_line.specs.Walking.{membrane_count}
use Rattle.lmn_receipt_line.proofs.WalkLemmas.{count_inside}

abbrev weight : List Region → ℕ
weight rs = sum_by membrane_count rs

module _ {B : Type 0} (f : B → Region) where
  -- a region was counted, and its membranes wait
  weighed : (former popped now : List B) (e : B) → former ≡ popped ++ e ∷ [] → map f now ≡ map f popped ++ (out-Region (f e)).membranes → weight (map f former) ≡ suc (weight (map f now))
  weighed former popped now e is more =
      let a = ap weight (ap (map f) is ∙ map-append f popped (e ∷ [])) in
      let b = sum_by_push membrane_count (map f popped) (f e) in
      let c = ap weight more in
      let d = sum_by-append membrane_count (map f popped) (out-Region (f e)).membranes in
      let g = count_inside (f e) in
      omega (arith, a, b, c, d, g)

  pub count_round : (former popped now : List B) (e : B) (n k whole : ℕ) → former ≡ popped ++ e ∷ [] → map f now ≡ map f popped ++ (out-Region (f e)).membranes → k ≡ n + 1 → n + weight (map f former) ≡ whole → k + weight (map f now) ≡ whole
  count_round former popped now e n k whole is more grown so = let w = weighed former popped now e is more in omega (arith, w, grown, so)

  pub count_smaller : (former popped now : List B) (e : B) → former ≡ popped ++ e ∷ [] → map f now ≡ map f popped ++ (out-Region (f e)).membranes → weight (map f now) < weight (map f former)
  count_smaller former popped now e is more = let w = weighed former popped now e is more in omega (arith, w)

  -- one membrane more waits
  pub waits_more : (start before after : List B) (e : B) (r : Region) (i : ℕ) (rs : List Region) → after ≡ before ++ e ∷ [] → i < length rs → f e ≡ r → r ≡ get_or rs i r → map f before ≡ map f start ++ take i rs → map f after ≡ map f start ++ take (i + 1) rs
  waits_more start before after e r i rs is l same there so =
      ap (map f) is ∙ map-append f before (e ∷ []) ∙ ap (λ xs. xs ++ f e ∷ []) so ∙ append_assoc (map f start) (take i rs) (f e ∷ [])
      ∙ ap (λ x. map f start ++ (take i rs ++ x ∷ [])) (same ∙ there) ∙ ap (λ xs. map f start ++ xs) (sym (take_more rs i r l))

  pub waits_all : (start now : List B) (i : ℕ) (rs ms : List Region) → length rs ≤ i → rs ≡ ms → map f now ≡ map f start ++ take i rs → map f now ≡ map f start ++ ms
  waits_all start now i rs ms l same so = so ∙ ap (λ xs. map f start ++ xs) (take_all i rs l ∙ same)

  -- nothing waits
  pub count_all : (n whole : ℕ) (waiting : List B) → length waiting ≡ 0 → n + weight (map f waiting) ≡ whole → n ≡ whole
  count_all n whole [] e so = omega (arith, so)
  count_all n whole (b ∷ waiting) e so = absurd (omega (arith, e))
