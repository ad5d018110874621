-- Steps of the loops that look for the end of a comment and of a name in quotes.
use Rattle.std.proofs.Common.{◌≡◌, ℕ, ◌+◌, ◌<◌, ◌≤◌, ◌==◌, true, false, ◌&&◌, if◌then◌else◌, List, [], ◌∷◌, length, get_or, drop, Option, Some, None, refl, ap, ◌∙◌, arith}
use Rattle.std.proofs.lemmas.List.{at_drop_more, at_drop_all, drop-drop}
use Rattle.lmn_lexer.specs.declared.token.Kind.TheVariants.{Quoted}
use Rattle.lmn_lexer.specs.declared.piece.Piece.{Piece}
use Rattle.lmn_lexer.specs.declared.piece.Piece.TheVariants as piece
use Rattle.lmn_lexer.specs.Spelling.{is_quotable}
use Rattle.lmn_lexer.specs.Scanning.{follows, later, close_at, quoted_behind}
use Rattle.lmn_base.proofs.Numbers.{unequal}
use Rattle.lmn_base.proofs.Truth.{and_false as false_behind}

later_more : (i : ℕ) (o : Option ℕ) → later i (later 1 o) ≡ later (i + 1) o
later_more i None = refl
later_more i (Some n) = ap Some (omega arith)

later_none : (o : Option ℕ) → o ≡ later 0 o
later_none None = refl
later_none (Some n) = ap Some (omega arith)

-- the search for the end of a comment begins at its front
pub close_begun : (text : List ℕ) → close_at text ≡ later 0 (close_at (drop 0 text))
close_begun text = later_none (close_at text)

-- the end is found at `*` and `/`
pub close_found : (text : List ℕ) (i : ℕ) → i < length text → get_or text i 0 ≡ 42 → follows 47 (drop (i + 1) text) ≡ true → later i (close_at (drop i text)) ≡ Some i
close_found text i h e f =
    at_drop_more (λ bs. later i (close_at bs)) text i 0 h
    ∙ ap (λ b. later i (if (b == 42) && follows 47 (drop (i + 1) text) then Some 0 else later 1 (close_at (drop (i + 1) text)))) e
    ∙ ap (λ b. later i (if b then Some 0 else later 1 (close_at (drop (i + 1) text)))) f
    ∙ ap Some (omega arith)

-- where they don't stand the search goes on
pub close_not_here : (text : List ℕ) (i : ℕ) → i < length text → ((get_or text i 0 == 42) && follows 47 (drop (i + 1) text)) ≡ false
    → later i (close_at (drop i text)) ≡ later (i + 1) (close_at (drop (i + 1) text))
close_not_here text i h e =
    at_drop_more (λ bs. later i (close_at bs)) text i 0 h
    ∙ ap (λ b. later i (if b then Some 0 else later 1 (close_at (drop (i + 1) text)))) e
    ∙ later_more i (close_at (drop (i + 1) text))

-- so it does where no `*` stands
pub close_elsewhere : (text : List ℕ) (i : ℕ) → i < length text → (get_or text i 0 ≡ 42 → ⊥)
    → later i (close_at (drop i text)) ≡ later (i + 1) (close_at (drop (i + 1) text))
close_elsewhere text i h e = close_not_here text i h (ap (λ b. b && follows 47 (drop (i + 1) text)) (unequal (get_or text i 0) 42 e))

-- and where no `/` follows
pub close_unfollowed : (text : List ℕ) (i : ℕ) → i < length text → follows 47 (drop (i + 1) text) ≡ false
    → later i (close_at (drop i text)) ≡ later (i + 1) (close_at (drop (i + 1) text))
close_unfollowed text i h e = close_not_here text i h (ap (λ b. (get_or text i 0 == 42) && b) e ∙ false_behind (get_or text i 0 == 42))

-- behind the last byte no end is found
pub close_nowhere : (text : List ℕ) (i : ℕ) → length text ≤ i → later i (close_at (drop i text)) ≡ None
close_nowhere text i h = at_drop_all (λ bs. later i (close_at bs)) text i h

-- a name in quotes, by its next byte
abbrev pub quoted_next : ℕ → ℕ → List ℕ → Piece
quoted_next n b bs =
    if b == 39 then (if follows 39 bs then quoted_behind (n + 2) (drop 1 bs) else piece.Token Quoted (n + 1))
    else (if b == 10 then piece.Wrong 3 0 else (if is_quotable b then quoted_behind (n + 1) bs else piece.Wrong 2 n))

-- the search for the end of quotes, byte by byte
pub quoted_steps : (n b : ℕ) (bs : List ℕ) → quoted_behind n (b ∷ bs) ≡ quoted_next n b bs
quoted_steps n b [] = refl
quoted_steps n b (c ∷ cs) = refl

-- and from a place on
pub quoted_at : (n : ℕ) (rest : List ℕ) (i : ℕ) → i < length rest → quoted_behind n (drop i rest) ≡ quoted_next n (get_or rest i 0) (drop (i + 1) rest)
quoted_at n rest i h = at_drop_more (quoted_behind n) rest i 0 h ∙ quoted_steps n (get_or rest i 0) (drop (i + 1) rest)

-- two quotes are passed
pub quoted_quote : (rest : List ℕ) (i : ℕ) → i < length rest → get_or rest i 0 ≡ 39 → follows 39 (drop (i + 1) rest) ≡ true
    → quoted_behind (i + 1) (drop i rest) ≡ quoted_behind (i + 2 + 1) (drop (i + 2) rest)
quoted_quote rest i h e f =
    quoted_at (i + 1) rest i h
    ∙ ap (λ b. quoted_next (i + 1) b (drop (i + 1) rest)) e
    ∙ ap (λ b. if b then quoted_behind (i + 1 + 2) (drop 1 (drop (i + 1) rest)) else piece.Token Quoted (i + 1 + 1)) f
    ∙ ap (quoted_behind (i + 1 + 2)) (drop-drop 1 (i + 1) rest ∙ ap (λ k. drop k rest) (omega arith))
    ∙ ap (λ n. quoted_behind n (drop (i + 2) rest)) (omega arith)

-- a byte that may stand in quotes is passed
pub quoted_byte_next : (n b : ℕ) (bs : List ℕ) → (b == 39) ≡ false → (b == 10) ≡ false → is_quotable b ≡ true → quoted_next n b bs ≡ quoted_behind (n + 1) bs
quoted_byte_next n b bs x y q =
    ap (λ t. if t then (if follows 39 bs then quoted_behind (n + 2) (drop 1 bs) else piece.Token Quoted (n + 1))
    else (if b == 10 then piece.Wrong 3 0 else (if is_quotable b then quoted_behind (n + 1) bs else piece.Wrong 2 n))) x
    ∙ ap (λ t. if t then piece.Wrong 3 0 else (if is_quotable b then quoted_behind (n + 1) bs else piece.Wrong 2 n)) y
    ∙ ap (λ t. if t then quoted_behind (n + 1) bs else piece.Wrong 2 n) q

-- so it is at each place
pub quoted_byte : (n : ℕ) (rest : List ℕ) (i : ℕ) → i < length rest → (get_or rest i 0 ≡ 39 → ⊥) → (get_or rest i 0 ≡ 10 → ⊥) → is_quotable (get_or rest i 0) ≡ true
    → quoted_behind n (drop i rest) ≡ quoted_behind (n + 1) (drop (i + 1) rest)
quoted_byte n rest i h x y q =
    quoted_at n rest i h
    ∙ quoted_byte_next n (get_or rest i 0) (drop (i + 1) rest) (unequal (get_or rest i 0) 39 x) (unequal (get_or rest i 0) 10 y) q
