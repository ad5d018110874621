-- Trees of which no atom has more links than an arity holds, the own link of a term included, and no side of a condition more
-- operators than it may have.
use Rattle.std.specs.Prelude.{ℕ, suc, ◌+◌, ◌≤◌, length}
use Rattle.std.specs.List.{AllByRecursion}
use Rattle.lmn_parser_grammar.specs.Limits.{most_operators, most_arguments, most_term_arguments}
use Rattle.lmn_parser.specs.Syntax.{Expr, integer, value, operation, WrittenCondition, called, compared, equal, different, Term, link, atom, list, list_onto, context, membrane, Terms, no_term, term_and, Item, atom_item, membrane_item, context_item, closed_item, bracketed, rule_context, plus_link, group, equation, Items, no_item, item_and, Clause, process, rule, Clauses, no_clause, clause_and}

abbrev pub number_of_terms : Terms → ℕ
number_of_terms no_term = 0
number_of_terms (term_and t ts) = suc (number_of_terms ts)

-- the operators of a side
abbrev pub operators_of : Expr → ℕ
operators_of (integer p) = 0
operators_of (value p) = 0
operators_of (operation op l r) = operators_of l + operators_of r + 1

-- a condition that is called by a name has no more contexts than an atom may have arguments, and no side of another has too many operators
abbrev pub FitsCondition : WrittenCondition → Type 0
FitsCondition (called name contexts) = length contexts ≤ most_arguments
FitsCondition (compared op l r sign) = (operators_of l ≤ most_operators) × (operators_of r ≤ most_operators)
FitsCondition (equal p e sign) = operators_of e ≤ most_operators
FitsCondition (different p q sign) = Unit {0}

-- an atom that is a term has at most one argument fewer than an atom that is an item may have
abbrev mutual
  pub FitsTerm : Term → Type 0
  FitsTerm (link p) = Unit {0}
  FitsTerm (atom name ts) = (number_of_terms ts ≤ most_term_arguments) × FitsTerms ts
  FitsTerm (list ts) = FitsTerms ts
  FitsTerm (list_onto ts t) = FitsTerms ts × FitsTerm t
  FitsTerm (context p) = Unit {0}
  FitsTerm (membrane cs) = FitsClauses cs

  pub FitsTerms : Terms → Type 0
  FitsTerms no_term = Unit {0}
  FitsTerms (term_and t ts) = FitsTerm t × FitsTerms ts

  pub FitsItem : Item → Type 0
  FitsItem (atom_item name ts) = (number_of_terms ts ≤ most_arguments) × FitsTerms ts
  FitsItem (membrane_item cs) = FitsClauses cs
  FitsItem (context_item p) = Unit {0}
  FitsItem (closed_item p) = Unit {0}
  FitsItem (bracketed p q) = Unit {0}
  FitsItem (rule_context p) = Unit {0}
  FitsItem (plus_link p) = Unit {0}
  FitsItem (group c) = FitsClause c
  FitsItem (equation l sign r) = FitsTerm l × FitsTerm r

  pub FitsItems : Items → Type 0
  FitsItems no_item = Unit {0}
  FitsItems (item_and x xs) = FitsItem x × FitsItems xs

  pub FitsClause : Clause → Type 0
  FitsClause (process xs) = FitsItems xs
  FitsClause (rule kept taken guard body place) = FitsItems kept × FitsItems taken × AllByRecursion FitsCondition guard × FitsItems body

  pub FitsClauses : Clauses → Type 0
  FitsClauses no_clause = Unit {0}
  FitsClauses (clause_and c cs) = FitsClause c × FitsClauses cs
