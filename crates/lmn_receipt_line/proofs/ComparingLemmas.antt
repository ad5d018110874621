-- What is compared by one put more.
use Rattle.std.proofs.Common.{◌≡◌, ◌∙◌, ℕ, zero, suc, ◌+◌, ◌-◌, ◌<◌, ◌≤◌, List, [], ◌∷◌, ◌++◌, length, take, drop, slice_get, slice_index_or, Option, Some, None, Ok, Err, refl, sym, ap, subst, arith, append_assoc}
use Rattle.std.proofs.lemmas.List.{length-drop, take-append-drop}
use Rattle.std.proofs.Math.Seq.{take-add}
use Rattle.std.specs.Prelude.{Result}
use Rattle.std.specs.Option.{option_map}
use Rattle.std.proofs.lemmas.Option.{slice_get_past}
use Rattle.std.proofs.lemmas.Result.{on_ok_weaker, on_err_weaker}
use Rattle.lmn_base.proofs.Lists.{drop_get, get_index as there}
use Rattle.lmn_io.specs.Counts.{one_more}
use Rattle.lmn_io.specs.Writing.{WritesText}
use Rattle.lmn_io.specs.declared.sink.Failed.{Failed}
use Rattle.lmn_io.specs.Counts.{Faults}
use Rattle.lmn_receipt_line.specs.Comparing.{Compared, IsComparison, followed_by, told_of}

-- an item of what stands behind a place
get_behind : (m n : ℕ) (xs : List ℕ) → slice_get (drop m xs) n ≡ slice_get xs (m + n)
get_behind zero n xs = let same : n ≡ zero + n = omega arith in ap (slice_get xs) same
get_behind (suc m) n [] = slice_get_past [] n (omega arith) ∙ sym (slice_get_past [] (suc m + n) (omega arith))
get_behind (suc m) n (x ∷ xs) = get_behind m n xs ∙ (let same : suc (m + n) ≡ suc m + n = omega arith in ap (slice_get (x ∷ xs)) same)

-- what is told of a comparison
abbrev compared : List ℕ → ℕ → Option ℕ → ℕ → ℕ → Compared
compared text at other failures since = record { text = text; taken = followed_by (take at text) other; faults = record { count = failures; since = since } }

taken_more : (text piece left : List ℕ) (at count : ℕ) → left ≡ drop at text → take count left ≡ take count piece → take (at + count) text ≡ take at text ++ take count piece
taken_more text piece left at count is same = take-add at count text ∙ ap (λ ys. take at text ++ ys) (ap (take count) (sym is) ∙ same)

abbrev behind_by : List ℕ → List ℕ → List ℕ
behind_by text taken = length text ∷ (text ++ taken)

-- what is written behind the text
behind_text : {A E : Type 0} (piece text taken taken' : List ℕ) (result : Result A E) (faults faults' : Faults) → WritesText piece result (Some taken) faults (Some taken') faults'
    → WritesText piece result (Some (length text ∷ (text ++ taken))) faults (Some (length text ∷ (text ++ taken'))) faults'
behind_text piece text taken taken' result faults faults' w = record {
  took = λ t is. on_ok_weaker result (λ e. ap (λ o. option_map (behind_by text) o) e ∙ ap (λ ys. Some (length text ∷ ys)) (sym (append_assoc text taken t))) (w.took t is);
  prefix = λ t is. on_err_weaker result (λ e. (e.0, e.1, e.2, ap (λ o. option_map (behind_by text) o) e.3 ∙ ap (λ ys. Some (length text ∷ ys)) (sym (append_assoc text taken e.0)))) (w.prefix t is);
  later = w.later;
  same = w.same;
  rose = w.rose;
}

-- a piece of which all was met is written
pub all_met : (text piece left : List ℕ) (at count failures since after : ℕ) (other : Option ℕ) (v : Compared) → compared text at other failures since ≡ v → other ≡ None
    → left ≡ drop at text → take count left ≡ take count piece → take count piece ≡ piece → since ≤ after
    → WritesText {A = Unit {0}} {E = Failed} piece (Ok tt) (Some (told_of v)) v.faults (Some (told_of (compared text (at + count) other failures after))) (record { count = failures; since = after })
all_met text piece left at count failures since after other v view none is same whole more =
    subst (λ (w : Compared). WritesText {A = Unit {0}} {E = Failed} piece (Ok tt) (Some (told_of w)) w.faults (Some (told_of (compared text (at + count) other failures after))) (record { count = failures; since = after })) view
    (behind_text piece text (followed_by (take at text) other) (followed_by (take (at + count) text) other) (Ok tt) _ _
    (subst (λ o. WritesText {A = Unit {0}} {E = Failed} piece (Ok tt) (Some (followed_by (take at text) o)) (record { count = failures; since = since }) (Some (followed_by (take (at + count) text) o)) (record { count = failures; since = after })) (sym none)
    (record {
      took = λ t e. ap Some (taken_more text piece left at count is same ∙ ap (λ ys. take at text ++ ys) (whole ∙ sym e));
      prefix = λ t e. tt;
      later = omega arith;
      same = (refl, more);
      rose = tt;
    })))

-- of a piece of which a byte is another one a part is written
pub other_met : (text piece left : List ℕ) (at count failures since after : ℕ) (other : Option ℕ) (v : Compared) (e : Failed) → IsComparison text at other failures → compared text at other failures since ≡ v → other ≡ None
    → left ≡ drop at text → take count left ≡ take count piece → count < length piece → after ≡ one_more failures
    → WritesText {A = Unit {0}} {E = Failed} piece (Err e) (Some (told_of v)) v.faults (Some (told_of (compared text (at + count) (Some (slice_index_or piece count 0)) after 0))) (record { count = after; since = 0 })
other_met text piece left at count failures since after other v e kept view none is same l more =
    let so : (at ≤ length text) × (failures ≡ 0) = subst (λ o. IsComparison text at o failures) none kept in
    let byte = slice_index_or piece count 0 in
    let cut : piece ≡ (take count piece ++ byte ∷ []) ++ drop (count + 1) piece =
    sym (take-append-drop count piece) ∙ ap (λ ys. take count piece ++ ys) (drop_get count piece byte (there piece count l))
    ∙ sym (append_assoc (take count piece) (byte ∷ []) (drop (count + 1) piece)) in
    subst (λ (w : Compared). WritesText {A = Unit {0}} {E = Failed} piece (Err e) (Some (told_of w)) w.faults (Some (told_of (compared text (at + count) (Some byte) after 0))) (record { count = after; since = 0 })) view
    (behind_text piece text (followed_by (take at text) other) (take (at + count) text ++ byte ∷ []) (Err e) _ _
    (subst (λ o. WritesText {A = Unit {0}} {E = Failed} piece (Err e) (Some (followed_by (take at text) o)) (record { count = failures; since = since }) (Some (take (at + count) text ++ byte ∷ [])) (record { count = after; since = 0 })) (sym none)
    (record {
      took = λ t k. tt;
      prefix = λ t k. (
        take count piece ++ byte ∷ [],
        drop (count + 1) piece,
        k ∙ cut,
        ap Some (ap (λ ys. ys ++ byte ∷ []) (taken_more text piece left at count is same) ∙ append_assoc (take at text) (take count piece) (byte ∷ [])),
      );
      later = omega (arith, so.1);
      same = tt;
      rose = ap (λ n. record { count = n; since = 0 }) more;
    })))

-- and the comparison is one with another byte
pub other_kept : (text piece left : List ℕ) (at count failures after : ℕ) (other : Option ℕ) → IsComparison text at other failures → other ≡ None → left ≡ drop at text → count ≤ length left → count < length piece
    → (count < length piece → slice_get left count ≡ slice_get piece count → ⊥) → after ≡ one_more failures
    → IsComparison text (at + count) (Some (slice_index_or piece count 0)) after
other_kept text piece left at count failures after other kept none is few l differs more =
    let so : (at ≤ length text) × (failures ≡ 0) = subst (λ o. IsComparison text at o failures) none kept in
    let long : length left ≡ length text - at = ap length is ∙ length-drop at text in (
      omega (arith, so.0, few, long),
      omega (arith, more),
      λ same. differs l (ap (λ xs. slice_get xs count) is ∙ get_behind at count text ∙ same ∙ sym (there piece count l)),
    )
