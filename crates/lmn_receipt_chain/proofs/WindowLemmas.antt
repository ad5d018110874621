-- What is found in a window of a text is found in the text.
use Rattle.std.proofs.Common.{◌≡◌, ◌≢◌, ◌∙◌, ℕ, ◌==◌, if◌then◌else◌, Bool, true, false, List, [], ◌∷◌, ◌++◌, Option, None, Ok, Err, codes, decimal, drop, length, inl, inr, refl, sym, ap, subst, arith, append_assoc, true≢false}
use Rattle.std.specs.Prelude.{IfOk, Result}
use Rattle.std.proofs.lemmas.List.{drop-append-le, length-append}
use Rattle.lmn_base.proofs.Lists.{all_append}
use Rattle.lmn_base.proofs.Numbers.{same_or_not, unequal_when}
use Rattle.lmn_base.specs.declared.solid.Solid.{Solid}
use Rattle.lmn_congruence.specs.Regions.{Region}
use Rattle.lmn_flatten_plain.specs.SolidLines.{as_level}
use Rattle.lmn_flatten_plain.specs.Words.{text_of, top_pieces}
use Rattle.lmn_app_runs.specs.Runs.{end_line}
use Rattle.lmn_receipt_chain.specs.Bytes.{NoFeed}
use Rattle.lmn_receipt_chain.specs.Chains.{Continues, IsEndThere, IsEndWord, IsProcessThere, line_of_solid}
use Rattle.lmn_receipt_chain.specs.OneFeed.{HasOneFeed}
use Rattle.lmn_receipt_chain.specs.Steps.{BeginsWith, IsStep}
use Rattle.lmn_receipt_reading.specs.Windows.{IsFront, IsWindow}
use Rattle.lmn_receipt_chain.specs.declared.walk.Step.{Step}
use Rattle.lmn_receipt_chain.specs.declared.walk.Step.TheVariants.{More, Done, WrongLine, WrongEnd}
use Rattle.lmn_receipt_chain.proofs.LineBytes.{digits_quiet, first_line_one}

-- ---- the first line of a window

-- A text with a line feed and a byte behind it, cut at its first line feed.
record Cut (text : List ℕ) : Type 0 where
  line : List ℕ
  byte : ℕ
  behind : List ℕ
  quiet : NoFeed line
  is : text ≡ line ++ (10 ∷ (byte ∷ behind))

cut_here : (front : List ℕ) (byte : ℕ) (behind : List ℕ) → Cut (10 ∷ (front ++ (10 ∷ (byte ∷ behind))))
cut_here [] byte behind = record { line = []; byte = 10; behind = byte ∷ behind; quiet = tt; is = refl }
cut_here (x ∷ xs) byte behind = record { line = []; byte = x; behind = xs ++ (10 ∷ (byte ∷ behind)); quiet = tt; is = refl }

cut_first : (front : List ℕ) (byte : ℕ) (behind : List ℕ) → Cut (front ++ (10 ∷ (byte ∷ behind)))
cut_first [] byte behind = record { line = []; byte = byte; behind = behind; quiet = tt; is = refl }
cut_first (x ∷ xs) byte behind = elim (same_or_not x 10) [
  | inl e ↦ subst (λ b. Cut (b ∷ (xs ++ (10 ∷ (byte ∷ behind))))) (sym e) (cut_here xs byte behind)
  | inr d ↦ (
      let c = cut_first xs byte behind in
      record { line = x ∷ c.line; byte = c.byte; behind = c.behind; quiet = (d, c.quiet); is = ap (λ t. x ∷ t) c.is }
      )
]

not_empty : (l : List ℕ) (byte : ℕ) (behind : List ℕ) → [] ≡ l ++ (10 ∷ (byte ∷ behind)) → ⊥
not_empty [] byte behind e = absurd (cc)
not_empty (x ∷ xs) byte behind e = absurd (cc)

with_more : (P : List ℕ → Type 0) → ((b : ℕ) (bs more : List ℕ) → P (b ∷ bs) → P (b ∷ (bs ++ more)))
    → (line : List ℕ) (byte : ℕ) (behind more w : List ℕ) → w ≡ line ++ (10 ∷ (byte ∷ behind)) → P w → P (w ++ more)
with_more P more_of line byte behind more [] e h = absurd (not_empty line byte behind e)
with_more P more_of line byte behind more (b ∷ bs) e h = more_of b bs more h

module _ (text window : List ℕ) (f : IsFront text window) where
  abbrev cut : Cut window
  cut = subst Cut (sym f.holds) (cut_first f.line f.byte f.behind)

  -- the text, cut at its first line feed
  text_is : text ≡ cut.line ++ (10 ∷ ((cut.byte ∷ cut.behind) ++ f.more))
  text_is = f.begins ∙ ap (λ w. w ++ f.more) cut.is ∙ append_assoc cut.line (10 ∷ (cut.byte ∷ cut.behind)) f.more

  -- a line with which the text begins is one with which the window begins
  in_window : (t more : List ℕ) → NoFeed t → text ≡ (t ++ codes "\n") ++ more → (rest : List ℕ) × (window ≡ (t ++ codes "\n") ++ rest)
  in_window t more quiet e =
      let c = cut in
      let same = first_line_one t c.line more ((c.byte ∷ c.behind) ++ f.more) quiet c.quiet (sym (append_assoc t (10 ∷ []) more) ∙ sym e ∙ text_is) in
      (c.byte ∷ c.behind, c.is ∙ ap (λ l. l ++ (10 ∷ (c.byte ∷ c.behind))) (sym same.0) ∙ sym (append_assoc t (10 ∷ []) (c.byte ∷ c.behind)))

  -- the text has more than one line
  not_one_line : (t : List ℕ) → NoFeed t → text ≡ t ++ codes "\n" → ⊥
  not_one_line t quiet e =
      let c = cut in
      let same = first_line_one t c.line [] ((c.byte ∷ c.behind) ++ f.more) quiet c.quiet (sym e ∙ text_is) in
      absurd (let none = same.1 in cc)

  -- and so has the window
  window_is_more : (t : List ℕ) → NoFeed t → window ≡ t ++ codes "\n" → ⊥
  window_is_more t quiet e =
      let c = cut in
      let same = first_line_one t c.line [] (c.byte ∷ c.behind) quiet c.quiet (sym e ∙ c.is) in
      absurd (let none = same.1 in cc)

  -- what holds by the first byte of the window holds of the text
  first_there : (P : List ℕ → Type 0) → ((b : ℕ) (bs more : List ℕ) → P (b ∷ bs) → P (b ∷ (bs ++ more))) → P window → P text
  first_there P more_of h = subst P (sym f.begins) (with_more P more_of f.line f.byte f.behind f.more window f.holds h)

  begins_more : (S : Region) (len : ℕ) → BeginsWith S window len → BeginsWith S text len
  begins_more S len h =
      let long = ap length f.begins ∙ length-append window f.more in
      let few = h.1 in (
        h.0,
        omega (arith, long, few),
        f.begins ∙ ap (λ w. w ++ f.more) h.2 ∙ append_assoc (line_of_solid S) (drop len window) f.more
            ∙ ap (λ t. line_of_solid S ++ t) (sym (drop-append-le len window f.more few) ∙ ap (drop len) (sym f.begins)),
      )

-- ---- end lines

-- no line feed is among these bytes
abbrev without : List ℕ → Bool
without [] = true
without (b ∷ bs) = if b == 10 then false else without bs

unfed : (bs : List ℕ) → without bs ≡ true → NoFeed bs
unfed [] e = tt
unfed (b ∷ bs) e = by (b == 10) refl (unfed bs) e
  where
    by : (t : Bool) → (b == 10) ≡ t → (without bs ≡ true → NoFeed bs) → (if t then false else without bs) ≡ true → NoFeed (b ∷ bs)
    by true q r e = absurd (true≢false (sym e))
    by false q r e = (unequal_when b 10 q, r e)

-- an end line without its line feed
abbrev end_words : List ℕ → ℕ → List ℕ
end_words word n = codes "% " ++ (word ++ (codes " after " ++ decimal n))

end_is : (word : List ℕ) (n : ℕ) → end_line word n ≡ end_words word n ++ codes "\n"
end_is word n =
    ap (λ t. codes "% " ++ t) (ap (λ t. word ++ t) (sym (append_assoc (codes " after ") (decimal n) (codes "\n"))) ∙ sym (append_assoc word (codes " after " ++ decimal n) (codes "\n")))
    ∙ sym (append_assoc (codes "% ") (word ++ (codes " after " ++ decimal n)) (codes "\n"))

quiet_word : (S : Region) (word : List ℕ) → IsEndWord S word → NoFeed word
quiet_word S word (inl h) = subst NoFeed (sym h.0) (unfed (codes "irreducible") refl)
quiet_word S word (inr (inl e, h)) = subst NoFeed (sym e) (unfed (codes "budget") refl)
quiet_word S word (inr (inr (inl e), h)) = subst NoFeed (sym e) (unfed (codes "full") refl)
quiet_word S word (inr (inr (inr e), h)) = subst NoFeed (sym e) (unfed (codes "no memory") refl)

quiet_end : (S : Region) (word : List ℕ) (n : ℕ) → IsEndWord S word → NoFeed (end_words word n)
quiet_end S word n ends =
    let behind = all_append (λ b. b ≢ 10) (codes " after ") (decimal n) (unfed (codes " after ") refl) (digits_quiet n) in
    all_append (λ b. b ≢ 10) (codes "% ") (word ++ (codes " after " ++ decimal n)) (unfed (codes "% ") refl) (all_append (λ b. b ≢ 10) word (codes " after " ++ decimal n) (quiet_word S word ends) behind)

-- ---- steps

-- the line of a solid, the first of the text, is the first of a window of it
module _ (S : Region) (cuts : Type 0) (feeds : cuts → HasOneFeed S) where
  line_in_window : (text window : List ℕ) → IsWindow cuts text window → (more : List ℕ) → text ≡ line_of_solid S ++ more → (rest : List ℕ) × (window ≡ line_of_solid S ++ rest)
  line_in_window text window (inl same) more e = (more, same ∙ e)
  line_in_window text window (inr (c, f)) more e = in_window text window f (text_of (top_pieces (as_level S))) more (feeds c) e

  -- Where the window doesn't begin with the line of a solid the text doesn't.
  pub none_ahead : {E : Type 0} (is_rest : List ℕ → Type 0) (window : List ℕ) → ((rest : List ℕ) → is_rest rest → IsWindow cuts rest window) → (rest : List ℕ) × is_rest rest → (result : Result (Option ℕ) E) →
      IfOk result (λ found. found ≡ None → (more : List ℕ) → window ≡ line_of_solid S ++ more → ⊥) → IfOk result (λ found. found ≡ None → (rest : List ℕ) × is_rest rest × ((more : List ℕ) → rest ≡ line_of_solid S ++ more → ⊥))
  none_ahead is_rest window is some (Err e) h = tt
  none_ahead is_rest window is some (Ok found) h = λ none. (some.0, some.1, λ more e. (let w = line_in_window some.0 window (is some.0 some.1) more e in h none w.0 w.1))

module _ (region : Solid → Region) (fits : Solid → Type 0) (S : Region) (cuts : Type 0) (feeds : cuts → (S' : Region) → Continues S S' → HasOneFeed S') where
  step_text : (text window : List ℕ) (n : ℕ) (step : Step) → IsWindow cuts text window → IsStep region fits S window n step → IsStep region fits S text n step
  step_text text window n step (inl same) h = subst (λ t. IsStep region fits S t n step) same h
  step_text text window n (More next len) (inr (c, f)) h =
      let b = begins_more text window f (region next) len (h.2, h.3, h.4) in
      (h.0, h.1, b.0, b.1, b.2)
  step_text text window n Done (inr (c, f)) h =
      absurd (window_is_more text window f (end_words h.0 n) (quiet_end S h.0 n h.1) (h.2 ∙ end_is h.0 n))
  step_text text window n WrongLine (inr (c, f)) h = (
    first_there text window f IsProcessThere (λ b bs more k. k) h.0,
    λ S' more k e. (let w = in_window text window f (text_of (top_pieces (as_level S'))) more (feeds c S' k) e in h.1 S' w.0 k w.1),
  )
  step_text text window n WrongEnd (inr (c, f)) h = (
    first_there text window f IsEndThere (λ b bs more k. k) h.0,
    λ word ends e. not_one_line text window f (end_words word n) (quiet_end S word n ends) (e ∙ end_is word n),
  )

  -- What is found behind the line of a solid in the window is found in the text.
  pub found_ahead : {E : Type 0} (is_rest : List ℕ → Type 0) (window : List ℕ) (n : ℕ) → ((rest : List ℕ) → is_rest rest → IsWindow cuts rest window) → (rest : List ℕ) × is_rest rest → (result : Result Step E) →
      IfOk result (IsStep region fits S window n) → IfOk result (λ step. (rest : List ℕ) × is_rest rest × IsStep region fits S rest n step)
  found_ahead is_rest window n is some (Err e) h = tt
  found_ahead is_rest window n is some (Ok step) h = (some.0, some.1, step_text some.0 window n step (is some.0 some.1) h)
