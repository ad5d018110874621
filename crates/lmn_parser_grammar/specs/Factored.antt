-- No public contract cites these words: parts of the grammar as a reader comes to them, one choice at a token.
use Rattle.lmn_parser_grammar.specs.Grammar.{Exp, Tok, Opt, Within, Ref, ◌·◌, ◌∣◌, Round, Square, TermPart, ClausesPart, some_of, name, list, body, guard}
use Rattle.lmn_lexer.specs.declared.token.Kind.TheVariants.{Int, Context, Link, Dot, Arrow, Bar, Backslash, Equal, Star, Slash, Mod, Plus, Minus}

-- what an atom begins with
abbrev pub atom_name : Exp
atom_name = name ∣ Tok Int

-- behind the left side of an infix '='
abbrev pub right_side : Exp
right_side = Tok Equal · Ref TermPart

-- behind a context that is an item or begins one
abbrev pub context_tail : Exp
context_tail = Opt (Within Square (Opt (Tok Link)) ∣ right_side)

-- behind the name of a condition
abbrev pub contexts : Exp
contexts = Within Round (some_of (Tok Context))

abbrev pub product_sign : Exp
product_sign = Tok Star ∣ Tok Slash ∣ Tok Mod

abbrev pub plus : Exp
plus = Tok Plus ∣ Tok Minus

abbrev pub guard_bar : Exp
guard_bar = guard · Tok Bar

abbrev pub arrow : Exp
arrow = Tok Arrow · body

-- behind the first list of a rule, or where it would stand
abbrev pub rule_tail : Exp
rule_tail = Opt (Tok Backslash · Opt list) · arrow

-- behind a clause
abbrev pub more_clauses : Exp
more_clauses = Opt (Tok Dot · Ref ClausesPart)
