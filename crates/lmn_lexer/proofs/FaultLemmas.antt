-- The value of digits, and the size of a name in quotes.
use Rattle.std.proofs.Common.{◌≡◌, ℕ, ◌+◌, ◌-◌, ◌*◌, ◌/◌, ◌<◌, ◌≤◌, ◌==◌, Bool, true, false, cond, List, [], ◌∷◌, ◌++◌, length, get_or, drop, refl, ap, ◌∙◌, arith}
use Rattle.std.specs.Prelude.{count_by, IsTrue, MatchOption, ◌↔◌}
use Rattle.std.specs.Bool.{then_some}
use Rattle.std.proofs.lemmas.List.{at_drop_more, at_drop_all, length-append}
use Rattle.lmn_lexer.specs.Spelling.{Quotes, nothing, quote, byte, IsQuoted}
use Rattle.lmn_lexer.specs.declared.token.Kind.{Kind}
use Rattle.lmn_lexer.specs.declared.token.Kind.TheVariants.{Int}
use Rattle.lmn_lexer.specs.Faults.{value_behind, TooLong, TokenFault, long_name, integer_out_of_range, floating_point}
use Rattle.lmn_lexer.proofs.Runs.{count-cons, count-append}
use Rattle.lmn_lexer.proofs.Exact.{quote_not_line}

-- a token that is no integer and not too long has no fault
pub token_right : (kind : Kind) (bytes after : List ℕ) → ¬ (kind ≡ Int) → ¬ (TooLong kind bytes) → (code : ℕ) → TokenFault kind bytes after code → ⊥
token_right kind bytes after k l _ (integer_out_of_range e g n) = k e
token_right kind bytes after k l _ (long_name m) = l m
token_right kind bytes after k l _ (floating_point e g) = k e

-- the value of digits is at least that of those before
pub value_grows : (n : ℕ) (ds : List ℕ) → n ≤ value_behind n ds
value_grows n [] = omega arith
value_grows n (d ∷ ds) = let more = value_grows (n * 10 + (d - 48)) ds in omega arith

-- one digit more, ten times the value and the digit
pub value_more : (n : ℕ) (digits : List ℕ) (i : ℕ) → i < length digits → value_behind n (drop i digits) ≡ value_behind (n * 10 + (get_or digits i 0 - 48)) (drop (i + 1) digits)
value_more n digits i h = at_drop_more (value_behind n) digits i 0 h

-- behind the last digit the value is as it is
pub value_all : (n : ℕ) (digits : List ℕ) (i : ℕ) → length digits ≤ i → value_behind n (drop i digits) ≡ n
value_all n digits i h = at_drop_all (value_behind n) digits i h

-- a value that is above the most stays above it
pub value_passed : (n m most : ℕ) (digits : List ℕ) → value_behind 0 digits ≡ value_behind n (drop m digits) → most < n → value_behind 0 digits ≤ most → ⊥
value_passed n m most digits e h l = let more = value_grows n (drop m digits) in omega arith

-- Each quote between quotes stands twice.
pairs : {inside name : List ℕ} → Quotes inside name → (p : ℕ) × (length inside ≡ length name + p) × (count_by (λ b. b == 39) inside ≡ 2 * p)
pairs nothing = (0, refl, refl)
pairs (quote {bs = bs} h) =
    let more = pairs h in
    let one = count-cons (λ x. x == 39) 39 (39 ∷ bs) in
    let two = count-cons (λ x. x == 39) 39 bs in
    (more.0 + 1, omega (arith, more.1), omega (arith, more.2))
pairs (byte {b = b} {bs = bs} e h) =
    let more = pairs h in
    let none = count-cons (λ x. x == 39) b bs ∙ ap (λ t. cond t 1 0 + count_by (λ x. x == 39) bs) (quote_not_line b e).0 in
    (more.0, omega (arith, more.1), omega (arith, more.2))

-- the length of a quoted name is that of its text without the quotes, where two stand for one
pub quoted_size : (bytes name : List ℕ) → IsQuoted bytes name → length bytes - 1 - count_by (λ b. b == 39) bytes / 2 ≡ length name
quoted_size bytes name q =
    let p = pairs q.quotes in
    let size = ap length q.stands in
    let sum = length-append q.inside (39 ∷ []) in
    let count = ap (count_by (λ b. b == 39)) q.stands in
    let first = count-cons (λ b. b == 39) 39 (q.inside ++ 39 ∷ []) in
    let last = count-cons (λ b. b == 39) 39 [] in
    let counts = count-append (λ b. b == 39) q.inside (39 ∷ []) in
    let inside = p.1 in
    let twice = p.2 in
    omega arith

-- faults of a token by its kind

-- a token that is no integer is too long, or has no fault
pub long_or_right : (kind : Kind) (bytes after : List ℕ) (long : Bool) → ¬ (kind ≡ Int) → (IsTrue long ↔ TooLong kind bytes)
    → MatchOption (then_some long 5) ((code : ℕ) → TokenFault kind bytes after code → ⊥) (λ code. TokenFault kind bytes after code)
long_or_right kind bytes after true k h = long_name (h.0 refl)
long_or_right kind bytes after false k h = token_right kind bytes after k (λ l. absurd (let e = h.1 l in cc))
