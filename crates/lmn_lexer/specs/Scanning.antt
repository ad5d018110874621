-- What the private functions find at the front of a text. No public contract cites these words.
use Rattle.std.specs.Prelude.{ℕ, ◌+◌, ◌==◌, Bool, false, not, ◌&&◌, List, [], ◌∷◌, take, drop, codes, if◌then◌else◌, bytes_eq, Option, Some, None}
use Rattle.std.specs.List.{prefix_len}
use Rattle.std.specs.Char.{is_ascii_whitespace, is_ascii_lowercase, is_ascii_digit}
use Rattle.lmn_lexer.specs.declared.token.Kind.{Kind}
use Rattle.lmn_lexer.specs.declared.token.Kind.TheVariants.{Name, Quoted, Mod, Link, Int, Context, RuleCtx, LParen, RParen, LBracket, RBracket, LBrace, RBrace, Comma, Dot, Arrow, AtAt, Bar, Backslash, Equal, Less, LessEq, Greater, GreaterEq, NumEq, NumNe, Differ, Plus, Minus, Star, Slash}
use Rattle.lmn_lexer.specs.declared.piece.Piece.{Piece}
use Rattle.lmn_lexer.specs.declared.piece.Piece.TheVariants as piece
use Rattle.lmn_lexer.specs.Spelling.{goes_on, begins_link, begins_context, is_quotable}

-- the byte stands first
abbrev pub follows : ℕ → List ℕ → Bool
follows b [] = false
follows b (c ∷ cs) = c == b

-- a byte that passes the test stands first
abbrev pub first_passes : (ℕ → Bool) → List ℕ → Bool
first_passes test [] = false
first_passes test (b ∷ bs) = test b

abbrev pub word_bytes : List ℕ → ℕ
word_bytes bs = prefix_len goes_on bs

abbrev pub digit_bytes : List ℕ → ℕ
digit_bytes bs = prefix_len is_ascii_digit bs

abbrev pub line_bytes : List ℕ → ℕ
line_bytes bs = prefix_len (λ b. not (b == 10)) bs

-- a place in a text, counted with i bytes more before it
abbrev pub later : ℕ → Option ℕ → Option ℕ
later i None = None
later i (Some n) = Some (n + i)

-- the number of bytes before the first `*/`
abbrev pub close_at : List ℕ → Option ℕ
close_at [] = None
close_at (b ∷ bs) = if (b == 42) && follows 47 bs then Some 0 else later 1 (close_at bs)

abbrev pub word_kind : List ℕ → Kind
word_kind bytes = if bytes_eq bytes (codes "mod") then Mod else Name

-- what a small letter begins
abbrev pub lowercase_at : List ℕ → Piece
lowercase_at text = piece.Token (word_kind (take (1 + word_bytes (drop 1 text)) text)) (1 + word_bytes (drop 1 text))

abbrev pub context_at : List ℕ → Piece
context_at bs = if first_passes begins_context bs then piece.Token Context (1 + word_bytes bs) else piece.Wrong 2 0

abbrev pub at_sign_at : List ℕ → Piece
at_sign_at bs = if follows 64 bs then piece.Token AtAt 2 else (if first_passes begins_context bs then piece.Token RuleCtx (1 + word_bytes bs) else piece.Wrong 2 0)

abbrev pub minus_at : Bool → List ℕ → Piece
minus_at minus bs = if minus && first_passes is_ascii_digit bs then piece.Token Int (1 + digit_bytes bs) else piece.Token Minus 1

abbrev pub block_at : List ℕ → Piece
block_at bs = elim (close_at bs) [ None ↦ piece.Wrong 3 0 | Some n ↦ piece.Gap (n + 4) ]

abbrev pub slash_at : List ℕ → Piece
slash_at bs = if follows 47 bs then piece.Gap (1 + line_bytes bs) else (if follows 42 bs then block_at (drop 1 bs) else piece.Token Slash 1)

-- a name in quotes of which n bytes stand before
abbrev pub quoted_behind : ℕ → List ℕ → Piece
quoted_behind n [] = piece.Wrong 3 0
quoted_behind n (b ∷ []) = if b == 39 then piece.Token Quoted (n + 1) else (if b == 10 then piece.Wrong 3 0 else (if is_quotable b then piece.Wrong 3 0 else piece.Wrong 2 n))
quoted_behind n (b ∷ c ∷ cs) =
    if b == 39 then (if c == 39 then quoted_behind (n + 2) cs else piece.Token Quoted (n + 1))
    else (if b == 10 then piece.Wrong 3 0 else (if is_quotable b then quoted_behind (n + 1) (c ∷ cs) else piece.Wrong 2 n))

abbrev pub equal_at : List ℕ → Piece
equal_at bs =
    if follows 60 bs then piece.Token LessEq 2
    else (if follows 58 bs && follows 61 (drop 1 bs) then piece.Token NumEq 3
    else (if follows 92 bs && follows 61 (drop 1 bs) then piece.Token NumNe 3
    else piece.Token Equal 1))

abbrev pub colon_at : List ℕ → Piece
colon_at bs = if follows 45 bs then piece.Token Arrow 2 else piece.Wrong 2 0

abbrev pub bracket_at : List ℕ → Piece
bracket_at bs = if follows 58 bs then piece.Wrong 8 0 else piece.Token LBracket 1

abbrev pub greater_at : List ℕ → Piece
greater_at bs = if follows 61 bs then piece.Token GreaterEq 2 else piece.Token Greater 1

abbrev pub backslash_at : List ℕ → Piece
backslash_at bs = if follows 61 bs then piece.Token Differ 2 else piece.Token Backslash 1

-- the sign that the byte alone spells
abbrev pub sign_at : ℕ → Piece
sign_at b =
    if b == 40 then piece.Token LParen 1 else (if b == 41 then piece.Token RParen 1 else (if b == 93 then piece.Token RBracket 1
    else (if b == 123 then piece.Token LBrace 1 else (if b == 125 then piece.Token RBrace 1 else (if b == 44 then piece.Token Comma 1
    else (if b == 46 then piece.Token Dot 1 else (if b == 124 then piece.Token Bar 1 else (if b == 60 then piece.Token Less 1
    else (if b == 43 then piece.Token Plus 1 else (if b == 42 then piece.Token Star 1 else (if b == 34 then piece.Wrong 7 0
    else (if b == 33 then piece.Wrong 9 0 else piece.Wrong 2 0))))))))))))

-- a token, comment or fault that begins with a sign
abbrev pub sign_piece : Bool → ℕ → List ℕ → Piece
sign_piece minus b bs =
    if b == 37 then piece.Gap (1 + line_bytes bs) else (if b == 47 then slash_at bs else (if b == 39 then quoted_behind 1 bs
    else (if b == 36 then context_at bs else (if b == 64 then at_sign_at bs else (if b == 45 then minus_at minus bs
    else (if b == 61 then equal_at bs else (if b == 58 then colon_at bs else (if b == 91 then bracket_at bs
    else (if b == 62 then greater_at bs else (if b == 92 then backslash_at bs else sign_at b))))))))))

-- what a text begins with
abbrev pub piece_of : Bool → List ℕ → Piece
piece_of minus [] = piece.Gap 0
piece_of minus (b ∷ bs) =
    if is_ascii_whitespace b then piece.Gap 1 else (if is_ascii_lowercase b then lowercase_at (b ∷ bs)
    else (if begins_link b then piece.Token Link (1 + word_bytes bs) else (if is_ascii_digit b then piece.Token Int (1 + digit_bytes bs)
    else sign_piece minus b bs)))
