-- Why a text is refused before its tokens are read, and where.
use Rattle.std.specs.Prelude.{◌≡◌, ◌≢◌, ℕ, ◌+◌, ◌-◌, ◌*◌, ◌<◌, ◌≤◌, ◌^◌, ◌==◌, Bool, true, false, ◌||◌, ◌⊎◌, List, [], ◌∷◌, ◌++◌, length, codes, fold}
use Rattle.std.specs.List.{list_any}
use Rattle.std.specs.Char.{is_ascii_digit, is_ascii_whitespace}
use Rattle.lmn_base.specs.Limits.{longest_name}
use Rattle.lmn_base.specs.declared.refusal.Refusal.{Refusal}
use Rattle.lmn_lexer.specs.declared.token.Kind.{Kind}
use Rattle.lmn_lexer.specs.declared.token.Kind.TheVariants.{Name, Quoted, Link, Int, Context, RuleCtx}
use Rattle.lmn_lexer.specs.Spelling.{Spells, IsQuoted, Quotes, is_quotable}
use Rattle.lmn_lexer.specs.Gaps.{OccursIn, EndsLine}
use Rattle.lmn_lexer.specs.Cutting.{Cutting, BeginsToken, Reaches, minus_behind, place}

-- the number that digits write, behind a number that digits before them write
abbrev pub value_behind : ℕ → List ℕ → ℕ
value_behind n digits = fold (λ value d. value * 10 + (d - 48)) n digits

-- the integer that is spelled is -2^63 to 2^63 - 1
abbrev pub SpelledInRange : List ℕ → Type 0
SpelledInRange [] = ⊥
SpelledInRange (b ∷ bs) = ((b ≡ 45) × (value_behind 0 bs ≤ 2 ^ 63)) ⊎ ((b ≢ 45) × (value_behind 0 (b ∷ bs) ≤ 2 ^ 63 - 1))

-- a `.` and a digit stand first
abbrev pub BeginsFraction : List ℕ → Type 0
BeginsFraction after = (d : ℕ) × (more : List ℕ) × (after ≡ codes "." ++ d ∷ more) × (is_ascii_digit d ≡ true)

-- The token's name has more bytes than a name may have. The sign of a context isn't counted, nor are quotes, and a quote
-- inside that is written twice counts once.
abbrev pub TooLong : Kind → List ℕ → Type 0
TooLong Name bytes = longest_name < length bytes
TooLong Link bytes = longest_name < length bytes
TooLong Context bytes = 1 + longest_name < length bytes
TooLong RuleCtx bytes = 1 + longest_name < length bytes
TooLong Quoted bytes = (name : List ℕ) × IsQuoted bytes name × (longest_name < length name)
TooLong _ bytes = ⊥

-- What is wrong with a token that has these bytes and this text behind it: the number of the code.
pub data TokenFault (kind : Kind) (bytes after : List ℕ) : ℕ → Type 0 where
  integer_out_of_range : kind ≡ Int → ¬ (BeginsFraction after) → ¬ (SpelledInRange bytes) → TokenFault kind bytes after 4
  long_name : TooLong kind bytes → TokenFault kind bytes after 5
  floating_point : kind ≡ Int → BeginsFraction after → TokenFault kind bytes after 6

-- The byte has a row of its own though no token begins at it: it is a separator, or begins a comment, a name in quotes,
-- a string or a hyperlink.
abbrev pub has_its_own : ℕ → Bool
has_its_own b = is_ascii_whitespace b || list_any (λ sign. b == sign) (codes "%'\"!")

-- What is wrong at the front of a text: the number of the code, and the bytes of the text that stand before the place to
-- which the code points.
pub data Wrong (minus : Bool) (text : List ℕ) : ℕ → List ℕ → Type 0 where
  -- a byte at which no token begins, and that has no row of its own
  bad_byte : (b : ℕ) (after : List ℕ) → text ≡ b ∷ after → has_its_own b ≡ false
      → ((kind : Kind) (bytes rest : List ℕ) → Spells minus kind bytes → text ≡ bytes ++ rest → ⊥) → Wrong minus text 2 []
  -- a name in quotes holds a byte that may not stand there
  bad_quoted_byte : (b : ℕ) (inside name after : List ℕ) → text ≡ codes "'" ++ (inside ++ b ∷ after) → Quotes inside name
      → is_quotable b ≡ false → b ≢ 39 → ¬ (EndsLine (b ∷ after)) → Wrong minus text 2 (codes "'" ++ inside)
  -- a name in quotes meets a line feed or the end
  open_quote : (inside name after : List ℕ) → text ≡ codes "'" ++ (inside ++ after) → Quotes inside name → EndsLine after → Wrong minus text 3 []
  -- a comment meets the end
  open_comment : (inside : List ℕ) → text ≡ codes "/*" ++ inside → ¬ (OccursIn (codes "*/") inside) → Wrong minus text 3 []
  -- a token that is wrong
  wrong_token : (kind : Kind) (bytes after : List ℕ) (code : ℕ) → BeginsToken minus kind bytes after text → TokenFault kind bytes after code
      → Wrong minus text code []
  -- what a token of the language can't begin with
  string : (after : List ℕ) → text ≡ codes "\"" ++ after → Wrong minus text 7 []
  inline_code : (after : List ℕ) → text ≡ codes "[:" ++ after → Wrong minus text 8 []
  hyperlink : (after : List ℕ) → text ≡ codes "!" ++ after → Wrong minus text 9 []

-- the first that is wrong in a text, and its place
pub record IsLexicalFault (text : List ℕ) (refusal : Refusal) : Type 0 where
  pub cutting : Cutting
  pub skipped : List ℕ
  pub reached : Reaches text cutting
  pub wrong : Wrong (minus_behind cutting.tokens) cutting.rest refusal.code skipped
  pub placed : refusal.pos ≡ place (cutting.before ++ skipped)
  pub first : (c : Cutting) (code : ℕ) (before : List ℕ) → Reaches text c → length c.before < length cutting.before
      → Wrong (minus_behind c.tokens) c.rest code before → ⊥

-- nothing is wrong in a text
abbrev pub NothingWrong : List ℕ → Type 0
NothingWrong text = (c : Cutting) (code : ℕ) (skipped : List ℕ) → Reaches text c → Wrong (minus_behind c.tokens) c.rest code skipped → ⊥

-- ---- parts of these, as laws and contracts of private functions tell them

-- no token begins a text
abbrev pub BeginsNoToken : Bool → List ℕ → Type 0
BeginsNoToken minus text = (kind : Kind) (bytes after : List ℕ) → Spells minus kind bytes → text ≡ bytes ++ after → ⊥

-- something is wrong where a text is cut up to a place
abbrev pub WrongAt : Cutting → ℕ → List ℕ → Type 0
WrongAt c code skipped = Wrong (minus_behind c.tokens) c.rest code skipped

-- nothing is wrong at a cutting with fewer bytes before it than n
abbrev pub NothingWrongBefore : List ℕ → ℕ → Type 0
NothingWrongBefore text n = (c : Cutting) (code : ℕ) (skipped : List ℕ) → Reaches text c → length c.before < n → WrongAt c code skipped → ⊥

-- the byte is one of the signs
abbrev pub is_one_of : List ℕ → ℕ → Bool
is_one_of signs b = list_any (λ sign. b == sign) signs
