-- No public contract cites these words: the tokens scanned from the left, for the next one that passes a limit.
use Rattle.std.specs.Prelude.{ℕ, ◌+◌, Bool, true, false, List, [], ◌∷◌, length, nat_le, nat_lt, ◌&&◌, ◌||◌, Option, Some, None, if◌then◌else◌}
use Rattle.lmn_parser_grammar.specs.Limits.{is_opener, may_be_operator, continues_side, most_brackets, most_operators, most_arguments, most_term_arguments}
use Rattle.lmn_lexer.specs.declared.token.Kind.{Kind}
use Rattle.lmn_lexer.specs.declared.token.Kind.TheVariants.{Name, Quoted, Mod, Int, Context, LParen, RParen, LBracket, RBracket, LBrace, RBrace, Comma, Equal}

-- An open bracket: an argument list, how many arguments it may have and how many are begun, where an empty list
-- counts as one; a '[' list; any other bracket.
pub data Opened : Type 0 where
  Arguments : ℕ → ℕ → Opened
  Terms : Opened
  Group : Opened

-- The last token: '='; a name or a number with the limit of an argument list that opens behind it, the latter
-- an operand too; the ')' of an argument list with its number of arguments; another operand, which is a context
-- or ')'; something else, or nothing.
pub data Last : Type 0 where
  Equals : Last
  Word : ℕ → Last
  Digits : ℕ → Last
  Closed : ℕ → Last
  Operand : Last
  Other : Last

-- the last token is '='
abbrev pub is_equals_last : Last → Bool
is_equals_last Equals = true
is_equals_last _ = false

-- what is open, the innermost first; the number of operators of this side so far; the last token
pub record Scan : Type 0 where
  pub opened : List Opened
  pub operators : ℕ
  pub last : Last

abbrev pub scan_at_start : Scan
scan_at_start = record { opened = []; operators = 0; last = Other }

-- whether the last token ends an operand
abbrev pub was_operand : Last → Bool
was_operand (Digits l) = true
was_operand (Closed n) = true
was_operand Operand = true
was_operand _ = false

-- an operator stands directly behind an operand
abbrev pub is_operator : Scan → Kind → Bool
is_operator s k = may_be_operator k && was_operand s.last

-- An atom that stands directly in an argument list or a '[' list, or directly behind '=', is a term: its own link
-- is one more argument.
abbrev pub limit_in : List Opened → ℕ
limit_in [] = most_arguments
limit_in (Arguments l n ∷ o) = most_term_arguments
limit_in (Terms ∷ o) = most_term_arguments
limit_in (Group ∷ o) = most_arguments

abbrev pub limit_behind : Last → List Opened → ℕ
limit_behind Equals o = most_term_arguments
limit_behind _ o = limit_in o

abbrev pub limit_here : Scan → ℕ
limit_here s = limit_behind s.last s.opened

-- '(' directly behind a name or a number opens an argument list
abbrev pub round_behind : Last → Opened
round_behind (Word l) = Arguments l 1
round_behind (Digits l) = Arguments l 1
round_behind _ = Group

abbrev pub one_more_begun : List Opened → List Opened
one_more_begun [] = []
one_more_begun (Arguments l n ∷ o) = Arguments l (n + 1) ∷ o
one_more_begun (Terms ∷ o) = Terms ∷ o
one_more_begun (Group ∷ o) = Group ∷ o

abbrev pub without_first : List Opened → List Opened
without_first [] = []
without_first (x ∷ o) = o

abbrev pub opened_after : Scan → Kind → List Opened
opened_after s LParen = round_behind s.last ∷ s.opened
opened_after s LBracket = Terms ∷ s.opened
opened_after s LBrace = Group ∷ s.opened
opened_after s RParen = without_first s.opened
opened_after s RBracket = without_first s.opened
opened_after s RBrace = without_first s.opened
opened_after s Comma = one_more_begun s.opened
opened_after s _ = s.opened

abbrev pub operators_after : Scan → Kind → ℕ
operators_after s k = if is_operator s k then s.operators + 1 else if continues_side k then s.operators else 0

abbrev pub closed_by_round : List Opened → Last
closed_by_round [] = Operand
closed_by_round (Arguments l n ∷ o) = Closed n
closed_by_round (Terms ∷ o) = Operand
closed_by_round (Group ∷ o) = Operand

abbrev pub last_after : Scan → Kind → Last
last_after s Equal = Equals
last_after s Name = Word (limit_here s)
last_after s Quoted = Word (limit_here s)
last_after s Mod = if was_operand s.last then Other else Word (limit_here s)
last_after s Int = Digits (limit_here s)
last_after s Context = Operand
last_after s RParen = closed_by_round s.opened
last_after s _ = Other

abbrev pub scan_after : Scan → Kind → Scan
scan_after s k = record { opened = opened_after s k; operators = operators_after s k; last = last_after s k }

abbrev pub scan_from : Scan → List Kind → Scan
scan_from s [] = s
scan_from s (k ∷ u) = scan_from (scan_after s k) u

-- what is known behind the tokens
abbrev pub scan : List Kind → Scan
scan u = scan_from scan_at_start u

-- a bracket inside the most that may be open, or one operator more than a side may have
abbrev pub is_too_deep : Scan → Kind → Bool
is_too_deep s k = (is_opener k && nat_le most_brackets (length s.opened)) || (is_operator s k && nat_le most_operators s.operators)

-- more arguments are begun than the list may have
abbrev pub has_too_many : List Opened → Bool
has_too_many [] = false
has_too_many (Arguments l n ∷ o) = nat_lt l n
has_too_many (Terms ∷ o) = false
has_too_many (Group ∷ o) = false

-- an item's argument list that has all the arguments that it may have, so that none is left for the link of '='
abbrev pub is_full : Last → Bool
is_full (Closed n) = nat_le most_arguments n
is_full _ = false

abbrev pub is_equal : Kind → Bool
is_equal Equal = true
is_equal _ = false

-- The code by which the token behind these is refused, where these and it begin a program.
abbrev pub passes : Scan → Kind → Option ℕ
passes s k =
    if is_too_deep s k then Some 11
    else if has_too_many s.opened || (is_equal k && is_full s.last) then Some 12
    else None
