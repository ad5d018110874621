-- Texts that are laid out: words with separators between them, each word told from what stands behind it.
use Rattle.std.specs.Prelude.{◌≡◌, ℕ, ◌==◌, Bool, true, false, not, ⊤, List, [], ◌∷◌, ◌++◌, map}
use Rattle.std.specs.Char.{is_ascii_digit, is_ascii_whitespace}
use Rattle.lmn_lexer.specs.declared.token.Kind.{Kind}
use Rattle.lmn_lexer.specs.declared.token.Kind.TheVariants.{Name, Quoted, Mod, Link, Int, Context, RuleCtx, End, LParen, RParen, LBracket, RBracket, LBrace, RBrace, Comma, Dot, Arrow, Bar, Equal, Less, LessEq, Greater, GreaterEq, NumEq, NumNe, Differ, Plus, Minus, Star, Slash}
use Rattle.lmn_lexer.specs.declared.token.Token.{Token}
use Rattle.lmn_lexer.specs.Spelling.{Spells, goes_on}
use Rattle.lmn_lexer.specs.Cutting.{is_operand}
use Rattle.lmn_lexer.specs.Faults.{BeginsFraction, SpelledInRange, TooLong}
use Rattle.lmn_lexer.specs.Values.{bytes_of}

-- a token without its place: its kind and its bytes
pub record Word : Type 0 where
  pub kind : Kind
  pub bytes : List ℕ

-- the words of tokens in their text
abbrev pub words_of : List ℕ → List Token → List Word
words_of text = map (λ t. record { kind = t.kind; bytes = bytes_of text t })

-- the last word of each text
abbrev pub last_word : Word
last_word = record { kind = End; bytes = [] }

-- no byte that passes the test stands first
abbrev pub NoneStandsFirst : (ℕ → Bool) → List ℕ → Type 0
NoneStandsFirst test [] = ⊤
NoneStandsFirst test (b ∷ bs) = test b ≡ false

-- nothing, or a separator first
abbrev pub Separated : List ℕ → Type 0
Separated after = NoneStandsFirst (λ b. not (is_ascii_whitespace b)) after

-- What may stand directly behind a word of this kind. Behind operators a separator stands. Words of other kinds aren't
-- laid out.
abbrev pub MayFollow : Kind → List ℕ → Type 0
MayFollow Name after = NoneStandsFirst goes_on after
MayFollow Mod after = NoneStandsFirst goes_on after
MayFollow Quoted after = NoneStandsFirst (λ b. b == 39) after
MayFollow Int after = NoneStandsFirst is_ascii_digit after × ¬ (BeginsFraction after)
MayFollow LParen after = ⊤
MayFollow RParen after = ⊤
MayFollow Comma after = ⊤
MayFollow Dot after = ⊤
MayFollow Arrow after = ⊤
MayFollow Link after = NoneStandsFirst goes_on after
MayFollow Context after = NoneStandsFirst goes_on after
MayFollow RuleCtx after = NoneStandsFirst goes_on after
MayFollow LBracket after = NoneStandsFirst (λ b. b == 58) after
MayFollow RBracket after = ⊤
MayFollow LBrace after = ⊤
MayFollow RBrace after = ⊤
MayFollow Bar after = ⊤
MayFollow Equal after = Separated after
MayFollow Less after = Separated after
MayFollow LessEq after = Separated after
MayFollow Greater after = Separated after
MayFollow GreaterEq after = Separated after
MayFollow NumEq after = Separated after
MayFollow NumNe after = Separated after
MayFollow Differ after = Separated after
MayFollow Plus after = Separated after
MayFollow Minus after = Separated after
MayFollow Star after = Separated after
MayFollow Slash after = Separated after
MayFollow _ after = ⊥

-- The text is laid out as these words. The first argument says whether a `-` may begin an integer at its front.
pub data Laid : Bool → List ℕ → List Word → Type 0 where
  all_laid : {minus : Bool} → Laid minus [] []
  separator : {minus : Bool} {b : ℕ} {rest : List ℕ} {words : List Word} → is_ascii_whitespace b ≡ true → Laid minus rest words
      → Laid minus (b ∷ rest) words
  word : {minus : Bool} {kind : Kind} {bytes rest text : List ℕ} {words : List Word} → text ≡ bytes ++ rest → Spells minus kind bytes → MayFollow kind rest
      → Laid (not (is_operand kind)) rest words → Laid minus text (record { kind = kind; bytes = bytes } ∷ words)

-- an integer is in range, and a name isn't too long
abbrev pub IsRight : Word → Type 0
IsRight w = (w.kind ≡ Int → SpelledInRange w.bytes) × ¬ (TooLong w.kind w.bytes)

-- the word of a token in its text, as laws and contracts of private functions tell it
abbrev pub word_of : List ℕ → Token → Word
word_of text t = record { kind = t.kind; bytes = bytes_of text t }
