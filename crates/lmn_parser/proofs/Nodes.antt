-- What the nodes of the parser's trees are as trees.
use Rattle.std.proofs.Common.{Box, Global, ◌≡◌, ℕ, List, map, Some, None, sym, ap, ◌∙◌}
use Rattle.lmn_parser.specs.declared.tree.Clause.{Clause as ClauseNode}
use Rattle.lmn_parser.specs.declared.tree.Item.{Item as ItemNode}
use Rattle.lmn_parser.specs.declared.tree.Term.{Term as TermNode}
use Rattle.lmn_parser.specs.declared.tree.AtomNode.{AtomNode}
use Rattle.lmn_parser.specs.declared.tree.RuleNode.{RuleNode}
use Rattle.lmn_parser.specs.declared.tree.Clause.TheOpen as node
use Rattle.lmn_parser.specs.declared.tree.ExprNode.TheOpen as expr
use Rattle.lmn_parser.specs.declared.tree.ExprNode.TheVariants as expr_variant
use Rattle.lmn_parser.specs.declared.tree.ExprNode.TheFolds.{fold-roll-ExprNode}
use Rattle.lmn_parser.specs.declared.tree.Clause.TheViews as view
use Rattle.lmn_parser.specs.declared.tree.Clause.TheVariants as clause_variant
use Rattle.lmn_parser.specs.declared.tree.Item.TheVariants as item_variant
use Rattle.lmn_parser.specs.declared.tree.Term.TheVariants as term_variant
use Rattle.lmn_parser.specs.declared.tree.Clause.TheFolds.{fold-AtomNode, fold-roll-Clause, fold-roll-Item, fold-roll-Term, fold-roll-AtomNode, fold-roll-RuleNode}
use Rattle.lmn_parser.specs.Syntax.{Expr, integer, value, expr_of, expr_step, Term, Item, Clause, Terms, terms_of, items_of_nodes, clauses_of, condition_of_node, term_of, item_of, clause_of, clause_of_rule, clause_step, item_step, term_step, atom_step, rule_step, process, rule, atom_item, membrane_item, context_item, closed_item, bracketed, rule_context, plus_link, group, equation, link, atom, list, list_onto, context, membrane}

atom_parts : (n : AtomNode) → fold-AtomNode Clause Item Term (ℕ × Terms) Clause clause_step item_step term_step atom_step rule_step n ≡ (n.token, terms_of n.args)
atom_parts n = fold-roll-AtomNode Clause Item Term (ℕ × Terms) Clause clause_step item_step term_step atom_step rule_step (record { token = n.token; args = n.args })

-- a rule has the parts of its node
pub rule_parts : (r : RuleNode) → clause_of_rule r
    ≡ rule (items_of_nodes r.kept) (items_of_nodes r.taken) (map condition_of_node r.guard) (items_of_nodes r.body) r.pos
rule_parts r = fold-roll-RuleNode Clause Item Term (ℕ × Terms) Clause clause_step item_step term_step atom_step rule_step (record { kept = r.kept; taken = r.taken; guard = r.guard; body = r.body; pos = r.pos })

-- clauses

-- a parsed process is that clause
pub clause_process : (xs : List ItemNode) → clause_of (view.Process xs) ≡ process (items_of_nodes xs)
clause_process xs = ap clause_of (sym (clause_variant.rolls-Process xs)) ∙ fold-roll-Clause Clause Item Term (ℕ × Terms) Clause clause_step item_step term_step atom_step rule_step (node.Process xs)

-- and a parsed rule that one
pub clause_rule : (r : Box RuleNode Global) → clause_of (view.Rule r) ≡ clause_of_rule r.value
clause_rule r = ap clause_of (sym (clause_variant.rolls-Rule r)) ∙ fold-roll-Clause Clause Item Term (ℕ × Terms) Clause clause_step item_step term_step atom_step rule_step (node.Rule r)

-- items

-- a parsed atom is that item
pub item_atom : (n : AtomNode) → item_of (view.Item::Atom n) ≡ atom_item n.token (terms_of n.args)
item_atom n = ap item_of (sym (item_variant.rolls-Atom n)) ∙ fold-roll-Item Clause Item Term (ℕ × Terms) Clause clause_step item_step term_step atom_step rule_step (node.Item::Atom n) ∙ ap (λ a. atom_item a.0 a.1) (atom_parts n)

-- and so a membrane
pub item_membrane : (cs : List ClauseNode) → item_of (view.Item::Membrane cs) ≡ membrane_item (clauses_of cs)
item_membrane cs = ap item_of (sym (item_variant.rolls-Membrane cs)) ∙ fold-roll-Item Clause Item Term (ℕ × Terms) Clause clause_step item_step term_step atom_step rule_step (node.Item::Membrane cs)

-- and a context
pub item_context : (p : ℕ) → item_of (item_variant.Context p) ≡ context_item p
item_context p = ap item_of (sym (item_variant.rolls-Context p)) ∙ fold-roll-Item Clause Item Term (ℕ × Terms) Clause clause_step item_step term_step atom_step rule_step (node.Item::Context p)

-- and one whose brackets are empty
pub item_closed : (p : ℕ) → item_of (item_variant.Closed p) ≡ closed_item p
item_closed p = ap item_of (sym (item_variant.rolls-Closed p)) ∙ fold-roll-Item Clause Item Term (ℕ × Terms) Clause clause_step item_step term_step atom_step rule_step (node.Closed p)

-- and a context with its link
pub item_bracketed : (p q : ℕ) → item_of (item_variant.Bracketed p q) ≡ bracketed p q
item_bracketed p q = ap item_of (sym (item_variant.rolls-Bracketed p q)) ∙ fold-roll-Item Clause Item Term (ℕ × Terms) Clause clause_step item_step term_step atom_step rule_step (node.Bracketed p q)

-- and a rule context
pub item_rule_context : (p : ℕ) → item_of (item_variant.RuleContext p) ≡ rule_context p
item_rule_context p = ap item_of (sym (item_variant.rolls-RuleContext p)) ∙ fold-roll-Item Clause Item Term (ℕ × Terms) Clause clause_step item_step term_step atom_step rule_step (node.RuleContext p)

-- and `+` with its link
pub item_plus : (p : ℕ) → item_of (item_variant.Plus p) ≡ plus_link p
item_plus p = ap item_of (sym (item_variant.rolls-Plus p)) ∙ fold-roll-Item Clause Item Term (ℕ × Terms) Clause clause_step item_step term_step atom_step rule_step (node.Plus p)

-- a parsed clause in parentheses is that item
pub item_group : (c : Box ClauseNode Global) → item_of (view.Group c) ≡ group (clause_of c.value)
item_group c = ap item_of (sym (item_variant.rolls-Group c)) ∙ fold-roll-Item Clause Item Term (ℕ × Terms) Clause clause_step item_step term_step atom_step rule_step (node.Group c)

-- a parsed equation is that item
pub item_equal : (l : Box TermNode Global) (p : ℕ) (r : Box TermNode Global) → item_of (view.Equal l p r) ≡ equation (term_of l.value) p (term_of r.value)
item_equal l p r = ap item_of (sym (item_variant.rolls-Equal l p r)) ∙ fold-roll-Item Clause Item Term (ℕ × Terms) Clause clause_step item_step term_step atom_step rule_step (node.Equal l p r)

-- terms

-- a parsed link is that term
pub term_link : (p : ℕ) → term_of (term_variant.Link p) ≡ link p
term_link p = ap term_of (sym (term_variant.rolls-Link p)) ∙ fold-roll-Term Clause Item Term (ℕ × Terms) Clause clause_step item_step term_step atom_step rule_step (node.Link p)

-- and so an atom
pub term_atom : (n : AtomNode) → term_of (view.Term::Atom n) ≡ atom n.token (terms_of n.args)
term_atom n = ap term_of (sym (term_variant.rolls-Atom n)) ∙ fold-roll-Term Clause Item Term (ℕ × Terms) Clause clause_step item_step term_step atom_step rule_step (node.Term::Atom n) ∙ ap (λ a. atom a.0 a.1) (atom_parts n)

-- and a context
pub term_context : (p : ℕ) → term_of (term_variant.Context p) ≡ context p
term_context p = ap term_of (sym (term_variant.rolls-Context p)) ∙ fold-roll-Term Clause Item Term (ℕ × Terms) Clause clause_step item_step term_step atom_step rule_step (node.Term::Context p)

-- and a membrane
pub term_membrane : (cs : List ClauseNode) → term_of (view.Term::Membrane cs) ≡ membrane (clauses_of cs)
term_membrane cs = ap term_of (sym (term_variant.rolls-Membrane cs)) ∙ fold-roll-Term Clause Item Term (ℕ × Terms) Clause clause_step item_step term_step atom_step rule_step (node.Term::Membrane cs)

-- and a list of terms
pub term_list : (ts : List TermNode) → term_of (view.List ts None) ≡ list (terms_of ts)
term_list ts = ap term_of (sym (term_variant.rolls-List ts None)) ∙ fold-roll-Term Clause Item Term (ℕ × Terms) Clause clause_step item_step term_step atom_step rule_step (node.List ts None)

-- and a list of terms before another
pub term_list_onto : (ts : List TermNode) (t : Box TermNode Global) → term_of (view.List ts (Some t)) ≡ list_onto (terms_of ts) (term_of t.value)
term_list_onto ts t = ap term_of (sym (term_variant.rolls-List ts (Some t))) ∙ fold-roll-Term Clause Item Term (ℕ × Terms) Clause clause_step item_step term_step atom_step rule_step (node.List ts (Some t))

-- expressions

-- a parsed integer is that operand
pub expr_int : (p : ℕ) → expr_of (expr_variant.Int p) ≡ integer p
expr_int p = ap expr_of (sym (expr_variant.rolls-Int p)) ∙ fold-roll-ExprNode Expr expr_step (expr.Int p)

-- and a parsed context that value
pub expr_ctx : (p : ℕ) → expr_of (expr_variant.Ctx p) ≡ value p
expr_ctx p = ap expr_of (sym (expr_variant.rolls-Ctx p)) ∙ fold-roll-ExprNode Expr expr_step (expr.Ctx p)
