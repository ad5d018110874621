-- No public contract cites these words: reading tokens from the left, what is owed after each, in every way in which the tokens so far can be read.
use Rattle.std.specs.Prelude.{◌≡◌, ℕ, zero, suc, Bool, true, false, List, [], ◌∷◌, ◌++◌, nat_eq, ◌&&◌, ◌||◌, Option, Some, None, if◌then◌else◌, drop}
use Rattle.lmn_parser_grammar.specs.Grammar.{Exp, Tok, Seq, Alt, Opt, Many, Within, Ref, Part, TermPart, SumPart, ClausePart, ClausesPart, part_expression, list, opener, closer}
use Rattle.lmn_lexer.specs.declared.token.Kind.{Kind}
use Rattle.lmn_lexer.specs.declared.token.Kind.TheVariants.{Name, Quoted, Mod, Link, Int, Context, RuleCtx, End, LParen, RParen, LBracket, RBracket, LBrace, RBrace, Comma, Dot, Arrow, AtAt, Bar, Backslash, Equal, Less, LessEq, Greater, GreaterEq, NumEq, NumNe, Differ, Plus, Minus, Star, Slash}

-- Expressions that are still owed, the first one first.
abbrev pub Owed : Type 0
Owed = List Exp

-- the number of a kind
abbrev pub kind_number : Kind → ℕ
kind_number Name = 0
kind_number Quoted = 1
kind_number Mod = 2
kind_number Link = 3
kind_number Int = 4
kind_number Context = 5
kind_number RuleCtx = 6
kind_number End = 7
kind_number LParen = 8
kind_number RParen = 9
kind_number LBracket = 10
kind_number RBracket = 11
kind_number LBrace = 12
kind_number RBrace = 13
kind_number Comma = 14
kind_number Dot = 15
kind_number Arrow = 16
kind_number AtAt = 17
kind_number Bar = 18
kind_number Backslash = 19
kind_number Equal = 20
kind_number Less = 21
kind_number LessEq = 22
kind_number Greater = 23
kind_number GreaterEq = 24
kind_number NumEq = 25
kind_number NumNe = 26
kind_number Differ = 27
kind_number Plus = 28
kind_number Minus = 29
kind_number Star = 30
kind_number Slash = 31

abbrev pub is_kind : Kind → Kind → Bool
is_kind k t = nat_eq (kind_number k) (kind_number t)

abbrev pub empty_part : Part → Bool
empty_part TermPart = false
empty_part SumPart = false
empty_part ClausePart = false
empty_part ClausesPart = true

-- the expression may be spelled by nothing
abbrev pub may_be_empty : Exp → Bool
may_be_empty (Tok k) = false
may_be_empty (Seq a b) = may_be_empty a && may_be_empty b
may_be_empty (Alt a b) = may_be_empty a || may_be_empty b
may_be_empty (Opt a) = true
may_be_empty (Many a) = true
may_be_empty (Within b a) = false
may_be_empty (Ref n) = empty_part n

-- What may be owed after the token t, taken inside the expression behind which κ is owed.
-- The number bounds how many parts are looked up by name.
abbrev pub owed_after : ℕ → Exp → Owed → Kind → List Owed
owed_after f (Tok k) κ t = if is_kind k t then κ ∷ [] else []
owed_after f (Seq a b) κ t = owed_after f a (b ∷ κ) t ++ elim (may_be_empty a) [ true ↦ owed_after f b κ t | false ↦ [] ]
owed_after f (Alt a b) κ t = owed_after f a κ t ++ owed_after f b κ t
owed_after f (Opt a) κ t = owed_after f a κ t
owed_after f (Many a) κ t = owed_after f a (Many a ∷ κ) t
owed_after f (Within b a) κ t = if is_kind (opener b) t then (a ∷ Tok (closer b) ∷ κ) ∷ [] else []
owed_after zero (Ref n) κ t = []
owed_after (suc f) (Ref n) κ t = owed_after f (part_expression n) κ t

-- three look-ups are enough: of clauses, of a clause, of a term
abbrev pub next : Owed → Kind → List Owed
next [] t = []
next (e ∷ κ) t = owed_after 3 e κ t ++ elim (may_be_empty e) [ true ↦ next κ t | false ↦ [] ]

abbrev pub nexts : List Owed → Kind → List Owed
nexts [] t = []
nexts (κ ∷ s) t = next κ t ++ nexts s t

-- the rest, unless nothing may be owed
abbrev pub unless_dead : ℕ → List Owed → ℕ → ℕ
unless_dead p [] rest = p
unless_dead p (κ ∷ s) rest = rest

-- The number of the first of the tokens w that no reading takes, where the first of w is number p and each of s
-- may be owed; and the number behind the last, where all are taken.
unfoldable pub stop : ℕ → List Owed → List Kind → ℕ
stop p s [] = p
stop p s (t ∷ w) = unless_dead p (nexts s t) (stop (suc p) (nexts s t) w)

-- of the tokens from p on
abbrev pub stop_at : List Kind → ℕ → List Owed → ℕ
stop_at ts p s = stop p s (drop p ts)

-- The part e from p on is read up to q, and then κ is owed.
abbrev pub ReadsTo : List Kind → ℕ → Exp → ℕ → Owed → Type 0
ReadsTo ts p e q κ = stop_at ts p ((e ∷ κ) ∷ []) ≡ stop_at ts q (κ ∷ [])

-- The part e from p on, behind which κ is owed, is read no further than to r, which no reading takes.
abbrev pub StopsAt : List Kind → ℕ → Exp → Owed → ℕ → Type 0
StopsAt ts p e κ r = stop_at ts p ((e ∷ κ) ∷ []) ≡ r

abbrev pub some_owed : List Owed → Bool
some_owed [] = false
some_owed (κ ∷ s) = true

-- the expression may begin with the token that stands there
abbrev pub begins : Exp → Option Kind → Bool
begins e None = false
begins e (Some t) = some_owed (owed_after 3 e [] t)

-- What may not follow a part, since the part would take it: an atom or a term.
abbrev pub NoArgs : Owed → Type 0
NoArgs κ = next κ LParen ≡ []

-- terms with commas between them
abbrev pub NoMore : Owed → Type 0
NoMore κ = (next κ LParen ≡ []) × (next κ Comma ≡ [])

-- an item
abbrev pub EndsItem : Owed → Type 0
EndsItem κ = (next κ LParen ≡ []) × (next κ LBracket ≡ []) × (next κ Equal ≡ [])

-- a list
abbrev pub EndsList : Owed → Type 0
EndsList κ = (next κ LParen ≡ []) × (next κ LBracket ≡ []) × (next κ Equal ≡ []) × (next κ Comma ≡ [])

-- a list or nothing
abbrev pub EndsOptList : Owed → Type 0
EndsOptList κ = EndsList κ × ((t : Kind) → begins list (Some t) ≡ true → next κ t ≡ [])

-- a product
abbrev pub EndsProduct : Owed → Type 0
EndsProduct κ = (next κ Star ≡ []) × (next κ Slash ≡ []) × (next κ Mod ≡ [])

-- a sum
abbrev pub EndsSum : Owed → Type 0
EndsSum κ = (next κ Star ≡ []) × (next κ Slash ≡ []) × (next κ Mod ≡ []) × (next κ Plus ≡ []) × (next κ Minus ≡ [])

-- a condition
abbrev pub EndsCond : Owed → Type 0
EndsCond κ = (next κ LParen ≡ []) × EndsSum κ

-- a token that may stand directly behind a clause
abbrev pub may_follow_clause : Kind → Bool
may_follow_clause RParen = true
may_follow_clause RBrace = true
may_follow_clause Dot = true
may_follow_clause End = true
may_follow_clause _ = false

abbrev pub is_end : Kind → Bool
is_end RBrace = true
is_end End = true
is_end _ = false

-- what follows takes only what ends a clause
abbrev pub OnlyClosers : Owed → Type 0
OnlyClosers κ = (t : Kind) → may_follow_clause t ≡ false → next κ t ≡ []

-- what follows takes only what ends a membrane or the text
abbrev pub OnlyEnds : Owed → Type 0
OnlyEnds κ = (t : Kind) → is_end t ≡ false → next κ t ≡ []
