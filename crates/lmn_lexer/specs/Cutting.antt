-- How a text is cut into separators, comments and tokens.
use Rattle.std.specs.Prelude.{◌≡◌, ℕ, ◌+◌, ◌≤◌, ◌==◌, Bool, true, false, not, if◌then◌else◌, List, [], ◌∷◌, ◌++◌, length, codes, count_by, fold}
use Rattle.lmn_base.specs.declared.refusal.Pos.{Pos}
use Rattle.lmn_lexer.specs.declared.token.Kind.{Kind}
use Rattle.lmn_lexer.specs.declared.token.Kind.TheVariants.{Name, Quoted, Link, Int, Context, RParen, RBracket, End}
use Rattle.lmn_lexer.specs.declared.token.Token.{Token}
use Rattle.lmn_lexer.specs.Spelling.{Spells}
use Rattle.lmn_lexer.specs.Gaps.{Gap}
use Rattle.lmn_base.specs.Lists.{Begins}

-- the column behind bytes, where the column before them is given
abbrev pub column_behind : ℕ → List ℕ → ℕ
column_behind column [] = column
column_behind column (b ∷ bs) = if b == 10 then column_behind 1 bs else column_behind (column + 1) bs

-- The place behind these bytes of a text: lines are counted from 1 by line feeds, columns from 1 in bytes.
abbrev pub place : List ℕ → Pos
place before = record { line = 1 + count_by (λ b. b == 10) before; column = column_behind 1 before }

-- the token of a kind that stands behind these bytes
abbrev pub token_at : Kind → List ℕ → List ℕ → Token
token_at kind before bytes = record { kind = kind; start = length before; end = length before + length bytes; pos = place before }

-- Behind these kinds a `-` is a sign of its own.
abbrev pub is_operand : Kind → Bool
is_operand Name = true
is_operand Quoted = true
is_operand Link = true
is_operand Int = true
is_operand Context = true
is_operand RParen = true
is_operand RBracket = true
is_operand _ = false

-- whether a `-` before a digit begins an integer behind these tokens: so the last of them decides
abbrev pub minus_behind : List Token → Bool
minus_behind tokens = fold (λ minus t. not (is_operand t.kind)) true tokens

-- A text that is cut up to a place: the bytes before it, their tokens, and the bytes that are left.
pub record Cutting : Type 0 where
  pub before : List ℕ
  pub tokens : List Token
  pub rest : List ℕ

-- The text begins with a token: no longer bytes at its front spell one, neither a comment nor `[:` begins, and a name in
-- quotes doesn't end with a quote that another one follows.
pub record BeginsToken (minus : Bool) (kind : Kind) (bytes after text : List ℕ) : Type 0 where
  pub stands : text ≡ bytes ++ after
  pub spells : Spells minus kind bytes
  pub longest : (other : Kind) (longer behind : List ℕ) → Spells minus other longer → text ≡ longer ++ behind → length longer ≤ length bytes
  pub closed : kind ≡ Quoted → ¬ (Begins (codes "'") after)
  pub no_line_comment : ¬ (Begins (codes "//") text)
  pub no_block_comment : ¬ (Begins (codes "/*") text)
  pub no_inline_code : ¬ (Begins (codes "[:") text)

-- one separator, comment or token more
pub data CutsOff : Cutting → Cutting → Type 0 where
  gap : {before bytes after rest : List ℕ} {tokens : List Token} → rest ≡ bytes ++ after → Gap bytes after
      → CutsOff (record { before = before; tokens = tokens; rest = rest }) (record { before = before ++ bytes; tokens = tokens; rest = after })
  token : {kind : Kind} {before bytes after rest : List ℕ} {tokens : List Token} → BeginsToken (minus_behind tokens) kind bytes after rest
      → CutsOff (record { before = before; tokens = tokens; rest = rest }) (record { before = before ++ bytes; tokens = tokens ++ token_at kind before bytes ∷ []; rest = after })

-- the cuttings that a text reaches
pub data Reaches (text : List ℕ) : Cutting → Type 0 where
  start : Reaches text (record { before = []; tokens = []; rest = text })
  onward : {c d : Cutting} → Reaches text c → CutsOff c d → Reaches text d

-- the text is cut into these tokens, the last of which is its end
pub record Cuts (text : List ℕ) (tokens : List Token) : Type 0 where
  pub but_end : List Token
  pub cut : Reaches text (record { before = text; tokens = but_end; rest = [] })
  pub with_end : tokens ≡ but_end ++ token_at End text [] ∷ []
