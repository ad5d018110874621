-- What the search for a token that passes a limit knows. No public contract cites these words.
use Rattle.std.specs.Prelude.{◌≡◌, List, [], ◌∷◌, map, reverse, take, slice_get, Option, Some, None}
use Rattle.lmn_parser_grammar.specs.Limits.{Passes}
use Rattle.lmn_parser_grammar.specs.Scan.{Opened, Arguments, Terms, Group, Last, Equals, Word, Digits, Closed, Operand, Other, Scan}
use Rattle.lmn_parser_grammar.specs.Refusing.{IsWithin}
use Rattle.lmn_lexer.specs.declared.token.Kind.{Kind}
use Rattle.lmn_parser.specs.declared.limits.Opened as opened
use Rattle.lmn_parser.specs.declared.limits.Opened.TheVariants as bracket
use Rattle.lmn_parser.specs.declared.limits.Last as last
use Rattle.lmn_parser.specs.declared.limits.Last.TheVariants as token
use Rattle.lmn_parser.specs.declared.limits.Scan as state
use Rattle.lmn_parser.specs.declared.limits.Passing.{Passing}

abbrev pub opened_of : opened.Opened → Opened
opened_of (bracket.Arguments most begun) = Arguments most begun
opened_of bracket.Terms = Terms
opened_of bracket.Group = Group

abbrev pub last_of : last.Last → Last
last_of token.Equals = Equals
last_of (token.Word most) = Word most
last_of (token.Digits most) = Digits most
last_of (token.Closed begun) = Closed begun
last_of token.Operand = Operand
last_of token.Other = Other

-- the open brackets, the innermost first
abbrev pub stack_of : List opened.Opened → List Opened
stack_of xs = map opened_of (reverse xs)

abbrev pub scan_of : state.Scan → Scan
scan_of s = record { opened = stack_of s.opened; operators = s.operators; last = last_of s.last }

abbrev pub innermost_of : List Opened → Opened
innermost_of [] = Group
innermost_of (x ∷ xs) = x

-- the first token that passes a limit, or there is none
abbrev pub IsFirstPassing : List Kind → Option Passing → Type 0
IsFirstPassing kinds None = IsWithin kinds
IsFirstPassing kinds (Some p) = (token : Kind) × (slice_get kinds p.at ≡ Some token) × IsWithin (take p.at kinds) × Passes p.code (take p.at kinds) token
