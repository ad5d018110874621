-- Which tree tokens are. `IsTerm ts t p q` says: from the token with number p up to the one with number q, that one
-- left out, the tokens are the term t by the grammar; and so with the other parts, each under its line of the grammar.
-- Nothing here knows a limit.
use Rattle.std.specs.Prelude.{◌≡◌, ℕ, ◌+◌, List, [], ◌∷◌, slice_get, option_map, length, Some, ◌⊎◌}
use Rattle.lmn_base.specs.declared.guard.Arith.{Arith}
use Rattle.lmn_base.specs.declared.guard.Arith.TheVariants as arith
use Rattle.lmn_base.specs.declared.guard.Cmp.{Cmp}
use Rattle.lmn_base.specs.declared.guard.Cmp.TheVariants as cmp
use Rattle.lmn_base.specs.declared.refusal.Pos.{Pos}
use Rattle.lmn_lexer.specs.declared.token.Kind.{Kind}
use Rattle.lmn_lexer.specs.declared.token.Kind.TheVariants.{Name, Quoted, Mod, Link, Int, Context, RuleCtx, End, LParen, RParen, LBracket, RBracket, LBrace, RBrace, Comma, Dot, Arrow, AtAt, Bar, Backslash, Equal, Less, LessEq, Greater, GreaterEq, NumEq, NumNe, Differ, Plus, Minus, Star, Slash}
use Rattle.lmn_lexer.specs.declared.token.Token.{Token}
use Rattle.lmn_parser.specs.Parsing.{kinds_of}
use Rattle.lmn_parser.specs.Syntax.{Expr, integer, value, operation, WrittenCondition, called, compared, equal, different, Term, link, atom, list, list_onto, context, membrane, Terms, no_term, term_and, Item, atom_item, membrane_item, context_item, closed_item, bracketed, rule_context, plus_link, group, equation, Items, no_item, item_and, Clause, process, rule, Clauses, no_clause, clause_and}

-- the token with this number has this kind
abbrev pub At : List Token → ℕ → Kind → Type 0
At ts p k = slice_get (kinds_of ts) p ≡ Some k

-- NAME
abbrev pub NameAt : List Token → ℕ → Type 0
NameAt ts p = At ts p Name ⊎ At ts p Quoted ⊎ At ts p Mod

-- the token with this number stands at this place of the text
abbrev pub StandsAt : List Token → ℕ → Pos → Type 0
StandsAt ts p place = option_map (λ t. t.pos) (slice_get ts p) ≡ Some place

-- Expressions of guards. Operators of one level associate to the left, and parentheses leave no node.

-- "*" | "/" | "mod"
abbrev pub TimesAt : List Token → ℕ → Arith → Type 0
TimesAt ts p arith.Mul = At ts p Star
TimesAt ts p arith.Div = At ts p Slash
TimesAt ts p arith.Mod = At ts p Mod
TimesAt ts p op = ⊥

-- "+" | "-"
abbrev pub PlusAt : List Token → ℕ → Arith → Type 0
PlusAt ts p arith.Add = At ts p Plus
PlusAt ts p arith.Sub = At ts p Minus
PlusAt ts p op = ⊥

-- cmp = "<" | "=<" | ">" | ">=" | "=:=" | "=\="
abbrev pub CmpAt : List Token → ℕ → Cmp → Type 0
CmpAt ts p cmp.Lt = At ts p Less
CmpAt ts p cmp.Le = At ts p LessEq
CmpAt ts p cmp.Gt = At ts p Greater
CmpAt ts p cmp.Ge = At ts p GreaterEq
CmpAt ts p cmp.Eq = At ts p NumEq
CmpAt ts p cmp.Ne = At ts p NumNe

mutual
  -- expr = prod { ( "+" | "-" ) prod }
  pub data IsSum (ts : List Token) : Expr → ℕ → ℕ → Type 0 where
    one_product : {e : Expr} {p q : ℕ} → IsProduct ts e p q → IsSum ts e p q
    plus : {l r : Expr} {p m q : ℕ} (op : Arith) → IsSum ts l p m → PlusAt ts m op → IsProduct ts r (m + 1) q → IsSum ts (operation op l r) p q

  -- prod = fact { ( "*" | "/" | "mod" ) fact }
  pub data IsProduct (ts : List Token) : Expr → ℕ → ℕ → Type 0 where
    one_factor : {e : Expr} {p q : ℕ} → IsFactor ts e p q → IsProduct ts e p q
    times : {l r : Expr} {p m q : ℕ} (op : Arith) → IsProduct ts l p m → TimesAt ts m op → IsFactor ts r (m + 1) q → IsProduct ts (operation op l r) p q

  -- fact = INT | CONTEXT | "(" expr ")"
  pub data IsFactor (ts : List Token) : Expr → ℕ → ℕ → Type 0 where
    is_integer : {p : ℕ} → At ts p Int → IsFactor ts (integer p) p (p + 1)
    is_value : {p : ℕ} → At ts p Context → IsFactor ts (value p) p (p + 1)
    in_parentheses : {e : Expr} {p q : ℕ} → At ts p LParen → IsSum ts e (p + 1) q → At ts q RParen → IsFactor ts e p (q + 1)

-- CONTEXT { "," CONTEXT }
pub data IsContexts (ts : List Token) : List ℕ → ℕ → ℕ → Type 0 where
  last_context : {p : ℕ} → At ts p Context → IsContexts ts (p ∷ []) p (p + 1)
  more_contexts : {xs : List ℕ} {p q : ℕ} → At ts p Context → At ts (p + 1) Comma → IsContexts ts xs (p + 2) q → IsContexts ts (p ∷ xs) p q

-- [ "(" CONTEXT { "," CONTEXT } ")" ]
pub data IsContextArguments (ts : List Token) : List ℕ → ℕ → ℕ → Type 0 where
  no_contexts : {p : ℕ} → IsContextArguments ts [] p p
  some_contexts : {xs : List ℕ} {p q : ℕ} → At ts p LParen → IsContexts ts xs (p + 1) q → At ts q RParen → IsContextArguments ts xs p (q + 1)

-- cond = NAME [ "(" CONTEXT { "," CONTEXT } ")" ] | expr cmp expr | CONTEXT "=" expr | CONTEXT "\=" CONTEXT
pub data IsCondition (ts : List Token) : WrittenCondition → ℕ → ℕ → Type 0 where
  is_called : {xs : List ℕ} {p q : ℕ} → NameAt ts p → IsContextArguments ts xs (p + 1) q → IsCondition ts (called p xs) p q
  is_compared : {l r : Expr} {p m q : ℕ} (op : Cmp) → IsSum ts l p m → CmpAt ts m op → IsSum ts r (m + 1) q → IsCondition ts (compared op l r m) p q
  is_equal : {e : Expr} {p q : ℕ} → At ts p Context → At ts (p + 1) Equal → IsSum ts e (p + 2) q → IsCondition ts (equal p e (p + 1)) p q
  is_different : {p : ℕ} → At ts p Context → At ts (p + 1) Differ → At ts (p + 2) Context → IsCondition ts (different p (p + 2) (p + 1)) p (p + 3)

-- guard = cond { "," cond }
pub data IsWrittenGuard (ts : List Token) : List WrittenCondition → ℕ → ℕ → Type 0 where
  last_condition : {c : WrittenCondition} {p q : ℕ} → IsCondition ts c p q → IsWrittenGuard ts (c ∷ []) p q
  more_conditions : {c : WrittenCondition} {cs : List WrittenCondition} {p m q : ℕ} → IsCondition ts c p m → At ts m Comma → IsWrittenGuard ts cs (m + 1) q → IsWrittenGuard ts (c ∷ cs) p q

mutual
  -- clauses = [ clause { "." clause } [ "." ] ], which is [ clause [ "." clauses ] ]
  pub data IsClauses (ts : List Token) : Clauses → ℕ → ℕ → Type 0 where
    no_clauses : {p : ℕ} → IsClauses ts no_clause p p
    last_clause : {c : Clause} {p q : ℕ} → IsClause ts c p q → IsClauses ts (clause_and c no_clause) p q
    more_clauses : {c : Clause} {cs : Clauses} {p m q : ℕ} → IsClause ts c p m → At ts m Dot → IsClauses ts cs (m + 1) q → IsClauses ts (clause_and c cs) p q

  -- clause = [ NAME "@@" ] rule | list
  pub data IsClause (ts : List Token) : Clause → ℕ → ℕ → Type 0 where
    named_rule : {r : Clause} {p q : ℕ} → NameAt ts p → At ts (p + 1) AtAt → IsWrittenRule ts p r (p + 2) q → IsClause ts r p q
    unnamed_rule : {r : Clause} {p q : ℕ} → IsWrittenRule ts p r p q → IsClause ts r p q
    is_process : {xs : Items} {p q : ℕ} → IsList ts xs p q → IsClause ts (process xs) p q

  -- rule = heads ":-" body; its place is that of the token with number s, with which the clause begins
  pub data IsWrittenRule (ts : List Token) : ℕ → Clause → ℕ → ℕ → Type 0 where
    is_rule : {kept taken body : Items} {guard : List WrittenCondition} {pos : Pos} {s p m q : ℕ} → StandsAt ts s pos →
        IsHeads ts kept taken p m → At ts m Arrow → IsBody ts guard body (m + 1) q → IsWrittenRule ts s (rule kept taken guard body pos) p q

  -- heads = [ list ] [ "\" [ list ] ]
  pub data IsHeads (ts : List Token) : Items → Items → ℕ → ℕ → Type 0 where
    all_taken : {xs : Items} {p q : ℕ} → IsOptList ts xs p q → IsHeads ts no_item xs p q
    some_kept : {xs ys : Items} {p m q : ℕ} → IsOptList ts xs p m → At ts m Backslash → IsOptList ts ys (m + 1) q → IsHeads ts xs ys p q

  -- body = [ [ guard ] "|" ] [ list ]
  pub data IsBody (ts : List Token) : List WrittenCondition → Items → ℕ → ℕ → Type 0 where
    no_guard : {xs : Items} {p q : ℕ} → IsOptList ts xs p q → IsBody ts [] xs p q
    empty_guard : {xs : Items} {p q : ℕ} → At ts p Bar → IsOptList ts xs (p + 1) q → IsBody ts [] xs p q
    guarded : {cs : List WrittenCondition} {xs : Items} {p m q : ℕ} → IsWrittenGuard ts cs p m → At ts m Bar → IsOptList ts xs (m + 1) q → IsBody ts cs xs p q

  -- [ list ]
  pub data IsOptList (ts : List Token) : Items → ℕ → ℕ → Type 0 where
    no_list : {p : ℕ} → IsOptList ts no_item p p
    some_list : {xs : Items} {p q : ℕ} → IsList ts xs p q → IsOptList ts xs p q

  -- list = item { "," item }
  pub data IsList (ts : List Token) : Items → ℕ → ℕ → Type 0 where
    last_item : {x : Item} {p q : ℕ} → IsItem ts x p q → IsList ts (item_and x no_item) p q
    more_items : {x : Item} {xs : Items} {p m q : ℕ} → IsItem ts x p m → At ts m Comma → IsList ts xs (m + 1) q → IsList ts (item_and x xs) p q

  -- item = atom | membrane | CONTEXT | CONTEXT "[" [ LINK ] "]" | RULECTX | "+" LINK | "(" clause ")" | term "=" term
  pub data IsItem (ts : List Token) : Item → ℕ → ℕ → Type 0 where
    is_atom_item : {xs : Terms} {n p q : ℕ} → IsWrittenAtom ts n xs p q → IsItem ts (atom_item n xs) p q
    is_membrane_item : {cs : Clauses} {p q : ℕ} → IsMembrane ts cs p q → IsItem ts (membrane_item cs) p q
    is_context_item : {p : ℕ} → At ts p Context → IsItem ts (context_item p) p (p + 1)
    is_closed : {p : ℕ} → At ts p Context → At ts (p + 1) LBracket → At ts (p + 2) RBracket → IsItem ts (closed_item p) p (p + 3)
    is_bracketed : {p : ℕ} → At ts p Context → At ts (p + 1) LBracket → At ts (p + 2) Link → At ts (p + 3) RBracket → IsItem ts (bracketed p (p + 2)) p (p + 4)
    is_rule_context : {p : ℕ} → At ts p RuleCtx → IsItem ts (rule_context p) p (p + 1)
    is_plus_link : {p : ℕ} → At ts p Plus → At ts (p + 1) Link → IsItem ts (plus_link p) p (p + 2)
    is_group : {c : Clause} {p q : ℕ} → At ts p LParen → IsClause ts c (p + 1) q → At ts q RParen → IsItem ts (group c) p (q + 1)
    is_equation : {l r : Term} {p m q : ℕ} → IsTerm ts l p m → At ts m Equal → IsTerm ts r (m + 1) q → IsItem ts (equation l m r) p q

  -- membrane = "{" clauses "}"
  pub data IsMembrane (ts : List Token) : Clauses → ℕ → ℕ → Type 0 where
    in_braces : {cs : Clauses} {p q : ℕ} → At ts p LBrace → IsClauses ts cs (p + 1) q → At ts q RBrace → IsMembrane ts cs p (q + 1)

  -- atom = ( NAME | INT ) [ "(" [ term { "," term } ] ")" ]
  pub data IsWrittenAtom (ts : List Token) : ℕ → Terms → ℕ → ℕ → Type 0 where
    with_name : {xs : Terms} {p q : ℕ} → NameAt ts p → IsArguments ts xs (p + 1) q → IsWrittenAtom ts p xs p q
    with_integer : {xs : Terms} {p q : ℕ} → At ts p Int → IsArguments ts xs (p + 1) q → IsWrittenAtom ts p xs p q

  -- [ "(" [ term { "," term } ] ")" ]
  pub data IsArguments (ts : List Token) : Terms → ℕ → ℕ → Type 0 where
    no_parentheses : {p : ℕ} → IsArguments ts no_term p p
    no_arguments : {p : ℕ} → At ts p LParen → At ts (p + 1) RParen → IsArguments ts no_term p (p + 2)
    some_arguments : {xs : Terms} {p q : ℕ} → At ts p LParen → IsTerms ts xs (p + 1) q → At ts q RParen → IsArguments ts xs p (q + 1)

  -- term { "," term }
  pub data IsTerms (ts : List Token) : Terms → ℕ → ℕ → Type 0 where
    last_term : {t : Term} {p q : ℕ} → IsTerm ts t p q → IsTerms ts (term_and t no_term) p q
    more_terms : {t : Term} {xs : Terms} {p m q : ℕ} → IsTerm ts t p m → At ts m Comma → IsTerms ts xs (m + 1) q → IsTerms ts (term_and t xs) p q

  -- term = LINK | atom | CONTEXT | membrane | tlist
  pub data IsTerm (ts : List Token) : Term → ℕ → ℕ → Type 0 where
    is_link : {p : ℕ} → At ts p Link → IsTerm ts (link p) p (p + 1)
    is_atom : {xs : Terms} {n p q : ℕ} → IsWrittenAtom ts n xs p q → IsTerm ts (atom n xs) p q
    is_context : {p : ℕ} → At ts p Context → IsTerm ts (context p) p (p + 1)
    is_membrane : {cs : Clauses} {p q : ℕ} → IsMembrane ts cs p q → IsTerm ts (membrane cs) p q
    is_list : {t : Term} {p q : ℕ} → IsTermList ts t p q → IsTerm ts t p q

  -- tlist = "[" "]" | "[" term { "," term } [ "|" term ] "]"
  pub data IsTermList (ts : List Token) : Term → ℕ → ℕ → Type 0 where
    empty_list : {p : ℕ} → At ts p LBracket → At ts (p + 1) RBracket → IsTermList ts (list no_term) p (p + 2)
    closed_list : {xs : Terms} {p q : ℕ} → At ts p LBracket → IsTerms ts xs (p + 1) q → At ts q RBracket → IsTermList ts (list xs) p (q + 1)
    open_list : {xs : Terms} {t : Term} {p m q : ℕ} → At ts p LBracket → IsTerms ts xs (p + 1) m → At ts m Bar → IsTerm ts t (m + 1) q →
        At ts q RBracket → IsTermList ts (list_onto xs t) p (q + 1)

-- program = clauses End, and no token is left
abbrev pub IsProgram : List Token → Clauses → Type 0
IsProgram ts tree = (q : ℕ) × IsClauses ts tree 0 q × At ts q End × (q + 1 ≡ length ts)
