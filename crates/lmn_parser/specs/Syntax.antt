-- Trees without the addresses of their boxes.
use Rattle.std.specs.Prelude.{ℕ, List, [], ◌∷◌, map, Some, None}
use Rattle.lmn_base.specs.declared.guard.Arith.{Arith}
use Rattle.lmn_base.specs.declared.guard.Cmp.{Cmp}
use Rattle.lmn_base.specs.declared.refusal.Pos.{Pos}
use Rattle.lmn_parser.specs.declared.tree.Tree.{Tree}
use Rattle.lmn_parser.specs.declared.tree.CondNode.{CondNode}
use Rattle.lmn_parser.specs.declared.tree.CondNode.TheVariants as condition
use Rattle.lmn_parser.specs.declared.tree.ExprNode.{ExprNode}
use Rattle.lmn_parser.specs.declared.tree.ExprNode.TheOpen as expr
use Rattle.lmn_parser.specs.declared.tree.ExprNode.TheFolds.{fold-ExprNode}
use Rattle.lmn_parser.specs.declared.tree.Clause.{Clause as ClauseNode}
use Rattle.lmn_parser.specs.declared.tree.Item.{Item as ItemNode}
use Rattle.lmn_parser.specs.declared.tree.Term.{Term as TermNode}
use Rattle.lmn_parser.specs.declared.tree.RuleNode.{RuleNode}
use Rattle.lmn_parser.specs.declared.tree.Clause.TheOpen as node
use Rattle.lmn_parser.specs.declared.tree.Clause.TheFolds.{fold-Clause, fold-Item, fold-Term, fold-RuleNode}

-- an integer expression of a guard; the numbers in all of these are numbers of tokens
pub data Expr : Type 0 where
  integer : ℕ → Expr
  value : ℕ → Expr
  operation : Arith → Expr → Expr → Expr

-- a condition of a guard: what is called by a name; a comparison, an equation, a difference, each with its sign last
pub data WrittenCondition : Type 0 where
  called : ℕ → List ℕ → WrittenCondition
  compared : Cmp → Expr → Expr → ℕ → WrittenCondition
  equal : ℕ → Expr → ℕ → WrittenCondition
  different : ℕ → ℕ → ℕ → WrittenCondition

mutual
  pub data Term : Type 0 where
    link : ℕ → Term
    atom : ℕ → Terms → Term
    list : Terms → Term
    list_onto : Terms → Term → Term
    context : ℕ → Term
    membrane : Clauses → Term

  pub data Terms : Type 0 where
    no_term : Terms
    term_and : Term → Terms → Terms

  pub data Item : Type 0 where
    atom_item : ℕ → Terms → Item
    membrane_item : Clauses → Item
    context_item : ℕ → Item
    closed_item : ℕ → Item
    bracketed : ℕ → ℕ → Item
    rule_context : ℕ → Item
    plus_link : ℕ → Item
    group : Clause → Item
    equation : Term → ℕ → Term → Item

  pub data Items : Type 0 where
    no_item : Items
    item_and : Item → Items → Items

  -- a process; a rule with what its head keeps, what its head takes, its guard, its body, and its place
  pub data Clause : Type 0 where
    process : Items → Clause
    rule : Items → Items → List WrittenCondition → Items → Pos → Clause

  pub data Clauses : Type 0 where
    no_clause : Clauses
    clause_and : Clause → Clauses → Clauses

-- What the nodes of the parser's trees are.

abbrev pub expr_step : expr.ExprNode-F Expr → Expr
expr_step (expr.Int p) = integer p
expr_step (expr.Ctx p) = value p
expr_step (expr.Op op l r) = operation op l.value r.value

abbrev pub expr_of : ExprNode → Expr
expr_of = fold-ExprNode Expr expr_step

abbrev pub condition_of_node : CondNode → WrittenCondition
condition_of_node (condition.Kind name args) = called name args
condition_of_node (condition.Compare op l r sign) = compared op (expr_of l) (expr_of r) sign
condition_of_node (condition.Equal p e sign) = equal p (expr_of e) sign
condition_of_node (condition.Differ p q sign) = different p q sign

abbrev pub as_terms : List Term → Terms
as_terms [] = no_term
as_terms (t ∷ ts) = term_and t (as_terms ts)

abbrev pub as_items : List Item → Items
as_items [] = no_item
as_items (x ∷ xs) = item_and x (as_items xs)

abbrev pub as_clauses : List Clause → Clauses
as_clauses [] = no_clause
as_clauses (c ∷ cs) = clause_and c (as_clauses cs)

abbrev pub clause_step : node.Clause-F Clause Item Term (ℕ × Terms) Clause → Clause
clause_step (node.Process xs) = process (as_items xs)
clause_step (node.Rule r) = r.value

abbrev pub item_step : node.Item-F Clause Item Term (ℕ × Terms) Clause → Item
item_step (node.Item::Atom n) = atom_item n.0 n.1
item_step (node.Item::Membrane cs) = membrane_item (as_clauses cs)
item_step (node.Item::Context p) = context_item p
item_step (node.Closed p) = closed_item p
item_step (node.Bracketed p q) = bracketed p q
item_step (node.RuleContext p) = rule_context p
item_step (node.Plus p) = plus_link p
item_step (node.Group c) = group c.value
item_step (node.Equal l p r) = equation l.value p r.value

abbrev pub term_step : node.Term-F Clause Item Term (ℕ × Terms) Clause → Term
term_step (node.Link p) = link p
term_step (node.Term::Atom n) = atom n.0 n.1
term_step (node.List ts None) = list (as_terms ts)
term_step (node.List ts (Some t)) = list_onto (as_terms ts) t.value
term_step (node.Term::Context p) = context p
term_step (node.Term::Membrane cs) = membrane (as_clauses cs)

abbrev pub atom_step : node.AtomNode-F Clause Item Term (ℕ × Terms) Clause → ℕ × Terms
atom_step n = (n.token, as_terms n.args)

abbrev pub rule_step : node.RuleNode-F Clause Item Term (ℕ × Terms) Clause → Clause
rule_step r = rule (as_items r.kept) (as_items r.taken) (map condition_of_node r.guard) (as_items r.body) r.pos

abbrev pub term_of : TermNode → Term
term_of = fold-Term Clause Item Term (ℕ × Terms) Clause clause_step item_step term_step atom_step rule_step

abbrev pub item_of : ItemNode → Item
item_of = fold-Item Clause Item Term (ℕ × Terms) Clause clause_step item_step term_step atom_step rule_step

abbrev pub clause_of : ClauseNode → Clause
clause_of = fold-Clause Clause Item Term (ℕ × Terms) Clause clause_step item_step term_step atom_step rule_step

abbrev pub clause_of_rule : RuleNode → Clause
clause_of_rule = fold-RuleNode Clause Item Term (ℕ × Terms) Clause clause_step item_step term_step atom_step rule_step

abbrev pub terms_of : List TermNode → Terms
terms_of ts = as_terms (map term_of ts)

abbrev pub items_of_nodes : List ItemNode → Items
items_of_nodes xs = as_items (map item_of xs)

abbrev pub clauses_of : List ClauseNode → Clauses
clauses_of cs = as_clauses (map clause_of cs)

abbrev pub conditions_of : List CondNode → List WrittenCondition
conditions_of cs = map condition_of_node cs

-- the clauses of a tree
abbrev pub clauses_of_tree : Tree → Clauses
clauses_of_tree tree = clauses_of tree.clauses
