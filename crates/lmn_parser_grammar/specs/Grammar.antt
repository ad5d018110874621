-- The grammar: expressions over kinds of tokens, a table of them, and which lists of kinds an expression derives.
use Rattle.std.specs.Prelude.{◌≡◌, List, [], ◌∷◌, ◌++◌}
use Rattle.lmn_lexer.specs.declared.token.Kind.{Kind}
use Rattle.lmn_lexer.specs.declared.token.Kind.TheVariants.{Name, Quoted, Mod, Link, Int, Context, RuleCtx, End, LParen, RParen, LBracket, RBracket, LBrace, RBrace, Comma, Dot, Arrow, AtAt, Bar, Backslash, Equal, Less, LessEq, Greater, GreaterEq, NumEq, NumNe, Differ, Plus, Minus, Star, Slash}

-- the three pairs of brackets
pub data Bracket : Type 0 where
  Round : Bracket
  Square : Bracket
  Curly : Bracket

-- the tokens that open and close a bracket
abbrev pub opener : Bracket → Kind
opener Round = LParen
opener Square = LBracket
opener Curly = LBrace

abbrev pub closer : Bracket → Kind
closer Round = RParen
closer Square = RBracket
closer Curly = RBrace

-- the parts that lead back to themselves
pub data Part : Type 0 where
  TermPart : Part
  SumPart : Part
  ClausePart : Part
  ClausesPart : Part

-- A token, one thing after the other, one of two things, a thing or nothing, a thing any number of times,
-- a thing within brackets, a part by its name.
pub data Exp : Type 0 where
  Tok : Kind → Exp
  Seq : Exp → Exp → Exp
  Alt : Exp → Exp → Exp
  Opt : Exp → Exp
  Many : Exp → Exp
  Within : Bracket → Exp → Exp
  Ref : Part → Exp

-- The table is written with a dot between things that follow each other and a bar between alternatives.
infixr 50 ◌·◌
abbrev pub ◌·◌ : Exp → Exp → Exp
a · b = Seq a b

infixr 40 ◌∣◌
abbrev pub ◌∣◌ : Exp → Exp → Exp
a ∣ b = Alt a b

-- more of a thing, each after a comma
abbrev pub more_of : Exp → Exp
more_of e = Many (Tok Comma · e)

-- a thing, then more of it after commas
abbrev pub some_of : Exp → Exp
some_of e = e · more_of e

abbrev pub name : Exp
name = Tok Name ∣ Tok Quoted ∣ Tok Mod

abbrev pub arguments : Exp
arguments = Within Round (Opt (some_of (Ref TermPart)))

abbrev pub atom : Exp
atom = (name ∣ Tok Int) · Opt arguments

abbrev pub membrane : Exp
membrane = Within Curly (Ref ClausesPart)

abbrev pub tlist : Exp
tlist = Within Square (Opt (some_of (Ref TermPart) · Opt (Tok Bar · Ref TermPart)))

abbrev pub term : Exp
term = Tok Link ∣ atom ∣ Tok Context ∣ membrane ∣ tlist

abbrev pub equation : Exp
equation = Ref TermPart · Tok Equal · Ref TermPart

abbrev pub item : Exp
item = atom ∣ membrane ∣ Tok Context ∣ Tok Context · Within Square (Opt (Tok Link)) ∣ Tok RuleCtx
    ∣ Tok Plus · Tok Link ∣ Within Round (Ref ClausePart) ∣ equation

abbrev pub list : Exp
list = some_of item

abbrev pub fact : Exp
fact = Tok Int ∣ Tok Context ∣ Within Round (Ref SumPart)

abbrev pub product : Exp
product = fact · Many ((Tok Star ∣ Tok Slash ∣ Tok Mod) · fact)

abbrev pub sum : Exp
sum = product · Many ((Tok Plus ∣ Tok Minus) · product)

abbrev pub cmp : Exp
cmp = Tok Less ∣ Tok LessEq ∣ Tok Greater ∣ Tok GreaterEq ∣ Tok NumEq ∣ Tok NumNe

abbrev pub cond : Exp
cond = name · Opt (Within Round (some_of (Tok Context)))
    ∣ Ref SumPart · cmp · Ref SumPart ∣ Tok Context · Tok Equal · Ref SumPart ∣ Tok Context · Tok Differ · Tok Context

abbrev pub guard : Exp
guard = some_of cond

-- what stands behind ':-'
abbrev pub body : Exp
body = Opt (Opt guard · Tok Bar) · Opt list

abbrev pub heads : Exp
heads = Opt list · Opt (Tok Backslash · Opt list)

abbrev pub rule : Exp
rule = heads · Tok Arrow · body

abbrev pub clause : Exp
clause = Opt (name · Tok AtAt) · rule ∣ list

abbrev pub clauses : Exp
clauses = Opt (Ref ClausePart · Many (Tok Dot · Ref ClausePart) · Opt (Tok Dot))

abbrev pub program : Exp
program = Ref ClausesPart · Tok End

-- the expression for which the name of a part stands
abbrev pub part_expression : Part → Exp
part_expression TermPart = term
part_expression SumPart = sum
part_expression ClausePart = clause
part_expression ClausesPart = clauses

-- the kinds are spelled by the expression
pub data Derives : Exp → List Kind → Type 0 where
  here : (k : Kind) → Derives (Tok k) (k ∷ [])
  both : (a b : Exp) (u v w : List Kind) → w ≡ u ++ v → Derives a u → Derives b v → Derives (Seq a b) w
  left : (a b : Exp) (w : List Kind) → Derives a w → Derives (Alt a b) w
  right : (a b : Exp) (w : List Kind) → Derives b w → Derives (Alt a b) w
  without : (a : Exp) → Derives (Opt a) []
  with : (a : Exp) (w : List Kind) → Derives a w → Derives (Opt a) w
  no_more : (a : Exp) → Derives (Many a) []
  one_more : (a : Exp) (u v w : List Kind) → w ≡ u ++ v → Derives a u → Derives (Many a) v → Derives (Many a) w
  inside : (b : Bracket) (a : Exp) (u w : List Kind) → w ≡ opener b ∷ (u ++ closer b ∷ []) → Derives a u → Derives (Within b a) w
  by : (n : Part) (w : List Kind) → Derives (part_expression n) w → Derives (Ref n) w
