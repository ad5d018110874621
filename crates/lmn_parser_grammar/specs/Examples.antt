-- Small texts, as lists of kinds: which are programs, which token refuses them, and which passes a limit.
use Rattle.std.specs.Prelude.{ℕ, zero, suc, List, [], ◌∷◌, ◌++◌}
use Rattle.lmn_parser_grammar.specs.Grammar.{Derives, program}
use Rattle.lmn_parser_grammar.specs.Refusing.{IsRefused}
use Rattle.lmn_parser_grammar.specs.Limits.{Passes, PassesNone}
use Rattle.lmn_lexer.specs.declared.token.Kind.{Kind}
use Rattle.lmn_lexer.specs.declared.token.Kind.TheVariants.{Name, Link, Int, Context, End, LParen, RParen, LBrace, RBrace, LBracket, RBracket, Comma, Dot, Arrow, AtAt, Bar, Backslash, Equal, Less, Mod, Plus, Minus, Star, Slash}

-- 'x @@ a(X) \ {$p} :- $y < 1 + 2 | b, X = [c|Y].' is a program.
abbrev pub WholeText : Type 0
WholeText = Derives program (Name ∷ AtAt ∷ Name ∷ LParen ∷ Link ∷ RParen ∷ Backslash ∷ LBrace ∷ Context ∷ RBrace ∷ Arrow ∷ Context ∷ Less ∷ Int ∷ Plus ∷ Int ∷ Bar
    ∷ Name ∷ Comma ∷ Link ∷ Equal ∷ LBracket ∷ Name ∷ Bar ∷ Link ∷ RBracket ∷ Dot ∷ End ∷ [])

-- 'a :- b, {c} | d' is refused at the bar, since what stands before it is no guard.
abbrev pub NoGuard : Type 0
NoGuard = IsRefused (Derives program) (Name ∷ Arrow ∷ Name ∷ Comma ∷ LBrace ∷ Name ∷ RBrace ∷ Bar ∷ Name ∷ End ∷ []) 7 10

-- 'a :- $x < 1, b.' is refused at the full stop, since a comparison stands in no list.
abbrev pub NoList : Type 0
NoList = IsRefused (Derives program) (Name ∷ Arrow ∷ Context ∷ Less ∷ Int ∷ Comma ∷ Name ∷ Dot ∷ End ∷ []) 7 10

-- '()' is refused at ')', '{.}' at '.', 'X, a' at the comma, since '=' is owed there, and '$p[a]' at 'a'.
abbrev pub NotExpected : Type 0
NotExpected = IsRefused (Derives program) (LParen ∷ RParen ∷ End ∷ []) 1 10
    × IsRefused (Derives program) (LBrace ∷ Dot ∷ RBrace ∷ End ∷ []) 1 10
    × IsRefused (Derives program) (Link ∷ Comma ∷ Name ∷ End ∷ []) 1 10
    × IsRefused (Derives program) (Context ∷ LBracket ∷ Name ∷ RBracket ∷ End ∷ []) 2 10

-- '{$p[]}, $q[X] :- a' is a program.
abbrev pub ContextsText : Type 0
ContextsText = Derives program (LBrace ∷ Context ∷ LBracket ∷ RBracket ∷ RBrace ∷ Comma ∷ Context ∷ LBracket ∷ Link ∷ RBracket ∷ Arrow ∷ Name ∷ End ∷ [])

-- these kinds, n times
abbrev pub repeated : ℕ → List Kind → List Kind
repeated zero w = []
repeated (suc n) w = w ++ repeated n w

-- A bracket may stand inside 199 open ones, and not inside 200.
abbrev pub Brackets : Type 0
Brackets = PassesNone (repeated 199 (LParen ∷ [])) LBrace × Passes 11 (repeated 200 (LParen ∷ [])) LBrace

-- '$x < ..' with n operators, each in front of an operand
abbrev pub side : ℕ → List Kind → List Kind
side n more = Context ∷ Less ∷ Context ∷ repeated n more

-- A side has 255 operators: '$x < $x + $x + ..', '$x < $x mod $x mod ..', '$x < $x * ($x) * ($x) ..', and
-- '$x < $x + ($x + $x + ..': a side goes on in parentheses.
abbrev pub Operators : Type 0
Operators = PassesNone (side 254 (Plus ∷ Context ∷ [])) Plus × Passes 11 (side 255 (Plus ∷ Context ∷ [])) Plus
    × PassesNone (side 254 (Mod ∷ Int ∷ [])) Mod × Passes 11 (side 255 (Mod ∷ Int ∷ [])) Mod
    × PassesNone (side 254 (Star ∷ LParen ∷ Context ∷ RParen ∷ [])) Star × Passes 11 (side 255 (Star ∷ LParen ∷ Context ∷ RParen ∷ [])) Star
    × PassesNone (side 1 (Minus ∷ LParen ∷ Int ∷ repeated 253 (Slash ∷ Int ∷ []))) Slash × Passes 11 (side 1 (Minus ∷ LParen ∷ Int ∷ repeated 254 (Slash ∷ Int ∷ []))) Slash

-- '$x < $x + .. , $x + .. < $x + ..': each side counts apart.
abbrev pub Sides : Type 0
Sides = PassesNone (side 200 (Plus ∷ Context ∷ []) ++ Comma ∷ Context ∷ repeated 200 (Plus ∷ Context ∷ [])) Plus
    × PassesNone (Context ∷ (repeated 200 (Plus ∷ Context ∷ []) ++ Less ∷ Context ∷ repeated 200 (Plus ∷ Context ∷ []))) Plus

-- 'a(X, X, ..'
abbrev pub first_arguments : ℕ → List Kind
first_arguments n = Name ∷ LParen ∷ repeated n (Link ∷ Comma ∷ [])

-- An item atom has 255 arguments. A term has one fewer: behind '=', in an argument list, and in a '[' list.
abbrev pub Arguments : Type 0
Arguments = PassesNone (first_arguments 254) Link × Passes 12 (first_arguments 255) Link
    × PassesNone (Link ∷ Equal ∷ first_arguments 253) Link × Passes 12 (Link ∷ Equal ∷ first_arguments 254) Link
    × PassesNone (Name ∷ LParen ∷ first_arguments 253) Link × Passes 12 (Name ∷ LParen ∷ first_arguments 254) Link
    × PassesNone (LBracket ∷ first_arguments 253) Link × Passes 12 (LBracket ∷ first_arguments 254) Link

-- 'a :- a($x, $x, ..': a condition has 255 contexts.
abbrev pub Contexts : Type 0
Contexts = PassesNone (Name ∷ Arrow ∷ Name ∷ LParen ∷ repeated 254 (Context ∷ Comma ∷ [])) Context
    × Passes 12 (Name ∷ Arrow ∷ Name ∷ LParen ∷ repeated 255 (Context ∷ Comma ∷ [])) Context

-- 'a(X, .., X) =': the '=' takes one argument.
abbrev pub LeftSide : Type 0
LeftSide = PassesNone (first_arguments 253 ++ Link ∷ RParen ∷ []) Equal × Passes 12 (first_arguments 254 ++ Link ∷ RParen ∷ []) Equal

-- A bracket inside 200 open ones in an argument too many is refused as the bracket.
abbrev pub BothLimits : Type 0
BothLimits = Passes 11 (repeated 199 (LBrace ∷ []) ++ first_arguments 255) LBrace
