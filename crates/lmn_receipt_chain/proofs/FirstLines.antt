-- The first line of a text.
use Rattle.std.proofs.Common.{ℕ, zero, suc, ◌≡◌, ◌∙◌, ◌+◌, ◌≤◌, inl, inr, List, [], ◌∷◌, ◌++◌, Some, length, take, refl, sym, ap, arith, slice_get}
use Rattle.std.proofs.lemmas.Bool.{cases_lt}
use Rattle.std.proofs.lemmas.List.{length-append}
use Rattle.std.proofs.lemmas.Option.{same_Some}
use Rattle.lmn_receipt_chain.specs.Bytes.{IsFirstLine, NoFeed}

at_end : (line more : List ℕ) (at : ℕ) → NoFeed line → at ≤ length line → slice_get (line ++ (10 ∷ more)) at ≡ Some 10 → at ≡ length line
at_end [] more zero quiet l e = refl
at_end [] more (suc at) quiet l e = absurd (omega (arith, l))
at_end (b ∷ bs) more zero quiet l e = absurd (quiet.0 (same_Some b 10 e))
at_end (b ∷ bs) more (suc at) quiet l e = let same = at_end bs more at quiet.1 (omega (arith, l)) e in omega (arith, same)

feed_there : (line more : List ℕ) → slice_get (line ++ (10 ∷ more)) (length line) ≡ Some 10
feed_there [] more = refl
feed_there (b ∷ bs) more = feed_there bs more

-- a line feed that isn't behind the line is its own,
pub ends_here : (text : List ℕ) (at byte : ℕ) → slice_get text at ≡ Some byte → byte ≡ 10 → ((line more : List ℕ) → NoFeed line → text ≡ line ++ (10 ∷ more) → at ≤ length line)
    → (line more : List ℕ) → NoFeed line → text ≡ line ++ (10 ∷ more) → at + 1 ≡ length line + 1
ends_here text at byte is feed before line more quiet e =
    let same = at_end line more at quiet (before line more quiet e) (ap (λ t. slice_get t at) (sym e) ∙ is ∙ ap (λ b. Some b) feed) in
    omega (arith, same)

-- and the line goes on behind another byte
pub goes_on : (text : List ℕ) (at byte : ℕ) → slice_get text at ≡ Some byte → (byte ≡ 10 → ⊥) → ((line more : List ℕ) → NoFeed line → text ≡ line ++ (10 ∷ more) → at ≤ length line)
    → (line more : List ℕ) → NoFeed line → text ≡ line ++ (10 ∷ more) → at + 1 ≤ length line
goes_on text at byte is other before line more quiet e = elim (cases_lt at (length line)) [
  | inl l ↦ omega (arith, l)
  | inr past ↦ (
      let l = before line more quiet e in
      let same : at ≡ length line = omega (arith, l, past) in
      absurd (other (same_Some byte 10 (sym is ∙ ap (slice_get text) same ∙ ap (λ t. slice_get t (length line)) e ∙ feed_there line more)))
      )
]

-- No line is longer than the text.
pub no_end : (text : List ℕ) (at : ℕ) → length text ≤ at → ((line more : List ℕ) → NoFeed line → text ≡ line ++ (10 ∷ more) → at ≤ length line)
    → (line more : List ℕ) → NoFeed line → text ≡ line ++ (10 ∷ more) → length text ≡ length line + 1
no_end text at past before line more quiet e = let l = before line more quiet e in absurd (omega (arith, l, past, ap length e, length-append line (10 ∷ more)))

-- So the front of the text before so many bytes is its first line.
taken : (front more : List ℕ) → take (suc (length front)) (front ++ (10 ∷ more)) ≡ front ++ 10 ∷ []
taken [] more = refl
taken (b ∷ bs) more = ap (λ z. b ∷ z) (taken bs more)

pub is_first : (text : List ℕ) (len : ℕ) → ((line more : List ℕ) → NoFeed line → text ≡ line ++ (10 ∷ more) → len ≡ length line + 1) → IsFirstLine text (take len text)
is_first text len ends front more quiet is =
    let many = ends front more quiet is in
    let all : len ≡ suc (length front) = omega (arith, many) in
    (λ i. take (all i) (is i)) ∙ taken front more
