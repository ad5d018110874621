-- How each kind of token is spelled.
use Rattle.std.specs.Prelude.{◌≡◌, ◌≢◌, ℕ, ◌==◌, Bool, true, not, ◌&&◌, ◌||◌, ◌⊎◌, List, [], ◌∷◌, ◌++◌, codes, false}
use Rattle.std.specs.List.{AllByRecursion, list_all}
use Rattle.std.specs.Char.{is_ascii_lowercase, is_ascii_uppercase, is_ascii_alphabetic, is_ascii_alphanumeric, is_ascii_digit}
use Rattle.std.specs.Int.{is_in_range}
use Rattle.lmn_lexer.specs.declared.token.Kind.{Kind}
use Rattle.lmn_lexer.specs.declared.token.Kind.TheVariants.{Name, Quoted, Mod, Link, Int, Context, RuleCtx, End, LParen, RParen, LBracket, RBracket, LBrace, RBrace, Comma, Dot, Arrow, AtAt, Bar, Backslash, Equal, Less, LessEq, Greater, GreaterEq, NumEq, NumNe, Differ, Plus, Minus, Star, Slash}

-- a letter, a digit or `_`
abbrev pub goes_on : ℕ → Bool
goes_on b = is_ascii_alphanumeric b || (b == 95)

-- a large letter or `_`
abbrev pub begins_link : ℕ → Bool
begins_link b = is_ascii_uppercase b || (b == 95)

-- a letter or `_`
abbrev pub begins_context : ℕ → Bool
begins_context b = is_ascii_alphabetic b || (b == 95)

-- each byte passes the test
abbrev pub AllPass : (ℕ → Bool) → List ℕ → Type 0
AllPass test bs = AllByRecursion (λ b. test b ≡ true) bs

-- a first byte that passes one test, and bytes behind it that pass another
abbrev pub IsSpelledWith : (ℕ → Bool) → (ℕ → Bool) → List ℕ → Type 0
IsSpelledWith first more [] = ⊥
IsSpelledWith first more (b ∷ bs) = (first b ≡ true) × AllPass more bs

-- this byte, and then a first one that passes the test, and letters, digits and `_` behind it
abbrev pub IsWordBehind : ℕ → (ℕ → Bool) → List ℕ → Type 0
IsWordBehind sign first [] = ⊥
IsWordBehind sign first (b ∷ bs) = (b ≡ sign) × IsSpelledWith first goes_on bs

-- one digit or more, and behind a `-` where one may begin an integer
abbrev pub IsIntegerSpelling : Bool → List ℕ → Type 0
IsIntegerSpelling minus [] = ⊥
IsIntegerSpelling minus (b ∷ bs) = IsSpelledWith is_ascii_digit is_ascii_digit (b ∷ bs) ⊎ ((minus ≡ true) × (b ≡ 45) × IsSpelledWith is_ascii_digit is_ascii_digit bs)

-- a byte that stands for itself between quotes: 0x20 to 0x7E and 0x80 to 0xFF without the quote
abbrev pub is_quotable : ℕ → Bool
is_quotable b = (is_in_range 32 126 b || is_in_range 128 255 b) && not (b == 39)

-- What stands between quotes, and the name that it spells: a quote is written twice.
pub data Quotes : List ℕ → List ℕ → Type 0 where
  nothing : Quotes [] []
  quote : {bs name : List ℕ} → Quotes bs name → Quotes (39 ∷ 39 ∷ bs) (39 ∷ name)
  byte : {b : ℕ} {bs name : List ℕ} → is_quotable b ≡ true → Quotes bs name → Quotes (b ∷ bs) (b ∷ name)

-- the bytes are a name in quotes
pub record IsQuoted (bytes name : List ℕ) : Type 0 where
  pub inside : List ℕ
  pub stands : bytes ≡ 39 ∷ (inside ++ 39 ∷ [])
  pub quotes : Quotes inside name

-- The bytes spell a token of this kind. The first argument says whether a `-` may begin an integer here.
abbrev pub Spells : Bool → Kind → List ℕ → Type 0
Spells minus Name bytes = IsSpelledWith is_ascii_lowercase goes_on bytes × (bytes ≢ codes "mod")
Spells minus Quoted bytes = (name : List ℕ) × IsQuoted bytes name
Spells minus Mod bytes = bytes ≡ codes "mod"
Spells minus Link bytes = IsSpelledWith begins_link goes_on bytes
Spells minus Int bytes = IsIntegerSpelling minus bytes
Spells minus Context bytes = IsWordBehind 36 begins_context bytes
Spells minus RuleCtx bytes = IsWordBehind 64 begins_context bytes
Spells minus End bytes = ⊥
Spells minus LParen bytes = bytes ≡ codes "("
Spells minus RParen bytes = bytes ≡ codes ")"
Spells minus LBracket bytes = bytes ≡ codes "["
Spells minus RBracket bytes = bytes ≡ codes "]"
Spells minus LBrace bytes = bytes ≡ codes "{"
Spells minus RBrace bytes = bytes ≡ codes "}"
Spells minus Comma bytes = bytes ≡ codes ","
Spells minus Dot bytes = bytes ≡ codes "."
Spells minus Arrow bytes = bytes ≡ codes ":-"
Spells minus AtAt bytes = bytes ≡ codes "@@"
Spells minus Bar bytes = bytes ≡ codes "|"
Spells minus Backslash bytes = bytes ≡ codes "\\"
Spells minus Equal bytes = bytes ≡ codes "="
Spells minus Less bytes = bytes ≡ codes "<"
Spells minus LessEq bytes = bytes ≡ codes "=<"
Spells minus Greater bytes = bytes ≡ codes ">"
Spells minus GreaterEq bytes = bytes ≡ codes ">="
Spells minus NumEq bytes = bytes ≡ codes "=:="
Spells minus NumNe bytes = bytes ≡ codes "=\\="
Spells minus Differ bytes = bytes ≡ codes "\\="
Spells minus Plus bytes = bytes ≡ codes "+"
Spells minus Minus bytes = bytes ≡ codes "-"
Spells minus Star bytes = bytes ≡ codes "*"
Spells minus Slash bytes = bytes ≡ codes "/"

-- a name that is written without quotes: a small letter, and letters, digits and `_` after it
abbrev pub is_bare_name : List ℕ → Bool
is_bare_name [] = false
is_bare_name (b ∷ bs) = is_ascii_lowercase b && list_all goes_on bs

-- ---- parts of these, as laws and contracts of private functions tell them

-- a first byte that passes the test, and letters, digits and `_` behind it
abbrev pub IsWord : (ℕ → Bool) → List ℕ → Type 0
IsWord first bytes = IsSpelledWith first goes_on bytes

-- one digit or more
abbrev pub IsDigits : List ℕ → Type 0
IsDigits bytes = IsSpelledWith is_ascii_digit is_ascii_digit bytes
