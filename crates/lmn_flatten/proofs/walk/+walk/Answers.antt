use Rattle.std.proofs.Common.{refl, sym, ap, ◌∙◌, ◌≡◌, List, [], ◌∷◌, ◌++◌, ℕ, length, codes, subst, arith}
use Rattle.std.specs.Prelude.{option_to_list}
use Rattle.std.proofs.lemmas.Result.{IfOk-weaker, on_ok_weaker}
use Rattle.lmn_congruence.specs.Rules.{named}
use Rattle.lmn_parser.specs.Syntax.{group, clause_of, clauses_of, item_of, items_of_nodes, term_of, terms_of, conditions_of, list, list_onto, membrane, clause_of_rule}
use Rattle.lmn_parser.specs.declared.tree.Clause.TheViews as view
use Rattle.lmn_parser.specs.declared.tree.Term.{Term as TermNode}
use Rattle.lmn_parser.proofs.Nodes as nodes
use Rattle.lmn_parser.proofs.Nodes.{clause_process, clause_rule, item_atom, item_membrane, item_context, item_closed, item_bracketed, item_rule_context, item_plus, item_group, item_equal, term_link, term_atom, term_list, term_list_onto, term_context, term_membrane}
use Rattle.lmn_flatten_plain.specs.Expanded.{atom_leaf}
use Rattle.lmn_flatten_plain.specs.Expansion as expansion
use Rattle.lmn_flatten_plain.specs.Keys.{IsLinkIn, IsKey}
use Rattle.lmn_flatten_plain.specs.Links.{Link, Use, made}
use Rattle.lmn_flatten_plain.specs.Parts.{nothing, one_leaf}
use Rattle.lmn_flatten.specs.Built.{IsUse}
use Rattle.lmn_flatten.specs.Growing.{GrowsPart, MayGrow, Within}
use Rattle.lmn_flatten.specs.Scopes.{IsScope, Meets, Under}
use Rattle.lmn_flatten.proofs.GrowingLemmas.{grows_leaf, grows_nothing}
use Rattle.lmn_flatten.proofs.WalkLemmas.{all_cells_left, atom_grows, cells_done, empty_list_grows, equation_grows, list_grows, membrane_grows, open_list_grows, so_far_none}
use Rattle.lmn_flatten.proofs.RuleLemmas.{reads_as, room_for_rule, rule_below, rule_grows, rule_parts, rule_read}
use Rattle.lmn_flatten.proofs.WalkSteps.{all_grown, arguments_as, atom_alone, leaf_inside, membrane_alone, nothing_inside, same_read, terms_as, cells_more, clauses_more, grows_is, items_more, no_terms, nothing_left, some_terms, terms_more}
use Rattle.lmn_flatten.proofs.walk.+walk.Goals as goal

pub add_clauses-loop-clause-init : goal.add_clauses-loop-clause-init
add_clauses-loop-clause-init t c = λ r way keys ready. so_far_none r Under way keys c.args.glossary.now c.args.part.now c.args.table.now c.args.scope.now ready

pub add_clauses-loop-clause-preserved : goal.add_clauses-loop-clause-preserved
add_clauses-loop-clause-preserved t c = λ r way keys ready.
    clauses_more r way keys c.args.clauses.now c.loop-clause.clause-index _ c.clause-item.result c.args.glossary.now c.args.part.now c.args.table.now c.loop-clause.part
    c.loop-clause.table c.loop-clause.scope c.add_clause.new.part c.add_clause.new.table c.add_clause.new.scope c.loop-clause-test.true c.clause-item.is ready.glossary
    (c.loop-clause.invariant r way keys ready) (λ w ks k. c.in_ok-add_clause.ensures r w ks k)

pub add_clauses-returns : goal.add_clauses-returns
add_clauses-returns t c = λ r way keys ready.
    all_grown r Under way keys (λ xs. expansion.expanded_clauses r.words r.places way (clauses_of xs)) c.args.clauses.now c.loop-clause.clause-index c.args.part.now c.args.table.now
    c.loop-clause.part c.loop-clause.table c.loop-clause.scope c.loop-clause-test.false (c.loop-clause.invariant r way keys ready)

pub add_items-loop-item-init : goal.add_items-loop-item-init
add_items-loop-item-init t c = λ r way keys ready. so_far_none r Under way keys c.args.glossary.now c.args.part.now c.args.table.now c.args.scope.now ready

pub add_items-loop-item-preserved : goal.add_items-loop-item-preserved
add_items-loop-item-preserved t c = λ r way keys ready.
    items_more r way keys c.args.items.now c.loop-item.item-index _ c.item-item.result c.args.glossary.now c.args.part.now c.args.table.now c.loop-item.part
    c.loop-item.table c.loop-item.scope c.add_item.new.part c.add_item.new.table c.add_item.new.scope c.loop-item-test.true c.item-item.is ready.glossary
    (c.loop-item.invariant r way keys ready) (λ w ks k. c.in_ok-add_item.ensures r w ks k)

pub add_items-returns : goal.add_items-returns
add_items-returns t c = λ r way keys ready.
    all_grown r Under way keys (λ xs. expansion.expanded_items r.words r.places way (items_of_nodes xs)) c.args.items.now c.loop-item.item-index c.args.part.now c.args.table.now
    c.loop-item.part c.loop-item.table c.loop-item.scope c.loop-item-test.false (c.loop-item.invariant r way keys ready)

pub add_terms-loop-i-init : goal.add_terms-loop-i-init
add_terms-loop-i-init t c = λ r way keys ready uses. so_far_none r Within way keys c.args.glossary.now c.args.part.now c.args.table.now c.args.scope.now ready

pub add_terms-loop-i-preserved : goal.add_terms-loop-i-preserved
add_terms-loop-i-preserved t c = λ r way keys ready uses.
    terms_more r way keys c.args.pos c.args.terms.now c.loop-i.i _ c.index-terms-i.result c.args.links.now c.in_ok-own.own c.args.glossary.now c.args.part.now c.args.table.now c.loop-i.part
    c.loop-i.table c.loop-i.scope c.add_term.new.part c.add_term.new.table c.add_term.new.scope c.loop-i-test.true c.index-terms-i.is c.in_ok-own.ensures ready.glossary uses
    (c.loop-i.invariant r way keys ready uses) (λ w ks y k l. c.in_ok-add_term.ensures r w ks y k l)

pub add_terms-returns : goal.add_terms-returns
add_terms-returns t c = λ r way keys ready uses.
    all_grown r Within way keys (λ xs. expansion.expanded_terms r.words r.places c.args.pos way (terms_of xs)) c.args.terms.now c.loop-i.i c.args.part.now c.args.table.now
    c.loop-i.part c.loop-i.table c.loop-i.scope c.loop-i-test.false (c.loop-i.invariant r way keys ready uses)

pub add_cells-loop-i-init : goal.add_cells-loop-i-init
add_cells-loop-i-init t c = λ r way keys x last ready key ends.
    all_cells_left r way keys x last c.args.pos (terms_of c.args.elements.now) c.args.glossary.now c.args.end c.args.own c.args.part.now c.args.table.now c.args.scope.now ready key ends

pub add_cells-loop-i-preserved : goal.add_cells-loop-i-preserved
add_cells-loop-i-preserved t c = λ r way keys x last ready key ends.
    cells_more r way keys x last c.args.pos c.args.elements.now c.loop-i.i _ c.index-elements-i.result c.args.end c.loop-i.own c.args.glossary.now c.args.part.now c.args.table.now
    c.loop-i.part c.loop-i.table c.loop-i.scope c.argument.new.self c.rest.new.scope c.add_term.new.scope c.in_ok-element.element c.in_ok-rest.rest c.add_cell.new.part
    c.add_term.new.part c.add_term.new.table c.loop-i-test.true c.index-elements-i.is ready.glossary (c.loop-i.invariant r way keys x last ready key ends)
    (λ ks w is i j. c.in_ok-element.ensures r ks w is i j) (λ ks w l i j k. c.in_ok-rest.ensures r ks w l i j k)
    (λ ks a b d i j k. c.in_ok-add_cell.ensures r ks a b d ready.glossary i j k) (λ w ks y k l.
    let P : TermNode → Type 0 = λ z. GrowsPart r (Under w) ks (expansion.expanded_term r.words r.places c.args.pos w y (term_of z)) c.add_cell.new.part c.loop-i.table c.add_term.new.part c.add_term.new.table c.add_term.new.scope in
    subst P (same_read c.args.elements.now c.loop-i.i _ _ c.index-elements-i-in-loop-i.result c.index-elements-i.result c.loop-i-test.true c.index-elements-i-in-loop-i.is c.index-elements-i.is)
    (c.in_ok-add_term.ensures r w ks y k l))

pub add_cells-returns : goal.add_cells-returns
add_cells-returns t c = λ r way keys x last ready key ends.
    cells_done r way keys x last c.args.pos (terms_of c.args.elements.now) _ c.loop-i.i c.args.end c.loop-i.own c.args.part.now c.args.table.now c.loop-i.part c.loop-i.table c.loop-i.scope
    (nothing_left c.args.elements.now c.loop-i.i c.loop-i-test.false) (c.loop-i.invariant r way keys x last ready key ends)

pub add_clause-returns-in-Process : goal.add_clause-returns-in-Process
add_clause-returns-in-Process t c = on_ok_weaker c.add_items.result
    (λ grown r way keys ready.
    grows_is r (Under way) keys (expansion.expanded_clause r.words r.places way) _ _ c.args.part.now c.args.table.now c.add_items.new.part c.add_items.new.table c.add_items.new.scope
    (ap clause_of c.in-Process.is ∙ clause_process c.in-Process.items)
    (grows_is r (Under way) keys (λ xs. expansion.expanded_items r.words r.places way (items_of_nodes xs)) _ _ c.args.part.now c.args.table.now c.add_items.new.part c.add_items.new.table c.add_items.new.scope
    (sym c.as_slice.ensures) (grown r way keys ready)))
    c.add_items.ensures

pub add_clause-returns-in-Rule : goal.add_clause-returns-in-Rule
add_clause-returns-in-Rule t c = on_ok_weaker c.add_rule.result
    (λ grown r way keys ready.
    grows_is r (Under way) keys (expansion.expanded_clause r.words r.places way) _ _ c.args.part.now c.args.table.now c.add_rule.new.part c.add_rule.new.table c.args.scope.now
    (ap clause_of c.in-Rule.is ∙ clause_rule c.in-Rule.node ∙ ap clause_of_rule (sym c.deref.ensures)) (grown r way keys c.args.scope.now ready))
    c.add_rule.ensures

pub add_atom-returns : goal.add_atom-returns
add_atom-returns t c = on_ok_weaker c.add_terms.result
    (λ grown r way keys own ready owns.
    atom_grows r way keys c.args.node.now.token (terms_of c.args.node.now.args) own c.args.glossary.now c.args.part.now c.args.table.now c.args.scope.now c.in_ok-links.links c.in_ok-all.all
    c.args.own c.in_ok-pos.pos c.arguments.new.scope c.add_atom.new.self c.add_terms.new.part c.add_terms.new.table c.add_terms.new.scope ready owns
    (c.in_ok-pos.ensures r ready.glossary) (c.in_ok-all.ensures ∙ ap (λ ls. ls ++ option_to_list c.args.own) c.as_slice-2.ensures)
    (λ w ks k. arguments_as r w ks c.in_ok-pos.pos c.as_slice.result.now c.args.node.now.args c.in_ok-links.links c.arguments.new.scope c.as_slice.ensures (c.in_ok-links.ensures.links r w ks k))
    (λ ks us uses. c.in_ok-add_atom.ensures r.names ks _ us (c.in_ok-label.ensures r ready.glossary) uses)
    (λ w ks k uses. terms_as r w ks c.in_ok-pos.pos c.as_slice-4.result.now c.args.node.now.args c.as_slice-3.result.now c.in_ok-links.links c.add_atom.new.self c.args.table.now
    c.add_terms.new.part c.add_terms.new.table c.add_terms.new.scope c.as_slice-4.ensures c.as_slice-3.ensures (λ us. grown r w ks k us) uses))
    c.add_terms.ensures

pub add_item-returns-in-Atom : goal.add_item-returns-in-Atom
add_item-returns-in-Atom t c = on_ok_weaker c.add_atom.result
    (λ grown r way keys ready.
    grows_is r (Under way) keys (expansion.expanded_item r.words r.places way) _ _ c.args.part.now c.args.table.now c.add_atom.new.part c.add_atom.new.table c.add_atom.new.scope
    (ap item_of c.in-Atom.is ∙ item_atom c.in-Atom.node)
    (atom_alone r (Under way) keys way c.in-Atom.node.token (terms_of c.in-Atom.node.args) c.args.part.now c.args.table.now c.add_atom.new.part c.add_atom.new.table c.add_atom.new.scope
    (grown r way keys [] ready tt)))
    c.add_atom.ensures

pub add_item-returns-in-Membrane : goal.add_item-returns-in-Membrane
add_item-returns-in-Membrane t c = on_ok_weaker c.add_membrane.result
    (λ grown r way keys ready.
    grows_is r (Under way) keys (expansion.expanded_item r.words r.places way) _ _ c.args.part.now c.args.table.now c.add_membrane.new.part c.add_membrane.new.table c.add_membrane.new.scope
    (ap item_of c.in-Membrane.is ∙ item_membrane c.in-Membrane.clauses)
    (membrane_alone r way keys c.as_slice.result.now c.in-Membrane.clauses c.args.part.now c.args.table.now c.add_membrane.new.part c.add_membrane.new.table c.add_membrane.new.scope c.as_slice.ensures
    (grown r way keys nothing ready (nothing_inside r (IsKey keys) c.new-inside.result c.new-inside.ensures) (λ k. refl))))
    c.add_membrane.ensures

pub add_item-returns-in-Context : goal.add_item-returns-in-Context
add_item-returns-in-Context t c = on_ok_weaker c.add_context.result
    (λ grown r way keys ready.
    grows_is r (Under way) keys (expansion.expanded_item r.words r.places way) _ _ c.args.part.now c.args.table.now c.add_context.new.part c.args.table.now c.args.scope.now
    (ap item_of c.in-Context.is ∙ item_context c.in-Context.token) (grown r way keys c.args.table.now c.args.scope.now ready))
    c.add_context.ensures

pub add_item-returns-in-Closed : goal.add_item-returns-in-Closed
add_item-returns-in-Closed t c = on_ok_weaker c.add_context-in-Closed.result
    (λ grown r way keys ready.
    grows_is r (Under way) keys (expansion.expanded_item r.words r.places way) _ _ c.args.part.now c.args.table.now c.add_context-in-Closed.new.part c.args.table.now c.args.scope.now
    (ap item_of c.in-Closed.is ∙ item_closed c.in-Closed.token) (grown r way keys c.args.table.now c.args.scope.now ready))
    c.add_context-in-Closed.ensures

pub add_item-returns-in-Bracketed : goal.add_item-returns-in-Bracketed
add_item-returns-in-Bracketed t c = on_ok_weaker c.add_bracketed.result
    (λ grown r way keys ready.
    grows_is r (Under way) keys (expansion.expanded_item r.words r.places way) _ _ c.args.part.now c.args.table.now c.add_bracketed.new.part c.args.table.now c.add_bracketed.new.scope
    (ap item_of c.in-Bracketed.is ∙ item_bracketed c.in-Bracketed.token c.in-Bracketed.link) (grown r way keys c.args.table.now ready))
    c.add_bracketed.ensures

pub add_item-returns-in-RuleContext : goal.add_item-returns-in-RuleContext
add_item-returns-in-RuleContext t c = on_ok_weaker c.add_rule_context.result
    (λ grown r way keys ready.
    grows_is r (Under way) keys (expansion.expanded_item r.words r.places way) _ _ c.args.part.now c.args.table.now c.add_rule_context.new.part c.args.table.now c.args.scope.now
    (ap item_of c.in-RuleContext.is ∙ item_rule_context c.in-RuleContext.token) (grown r way keys c.args.table.now c.args.scope.now ready))
    c.add_rule_context.ensures

pub add_item-returns-in-Plus : goal.add_item-returns-in-Plus
add_item-returns-in-Plus t c = on_ok_weaker c.add_plus.result
    (λ grown r way keys ready.
    grows_is r (Under way) keys (expansion.expanded_item r.words r.places way) _ _ c.args.part.now c.args.table.now c.add_plus.new.part c.args.table.now c.add_plus.new.scope
    (ap item_of c.in-Plus.is ∙ item_plus c.in-Plus.token) (grown r way keys c.args.table.now ready))
    c.add_plus.ensures

pub add_item-returns-in-Group : goal.add_item-returns-in-Group
add_item-returns-in-Group t c = on_ok_weaker c.add_clause.result
    (λ grown r way keys ready.
    grows_is r (Under way) keys (expansion.expanded_item r.words r.places way) _ _ c.args.part.now c.args.table.now c.add_clause.new.part c.add_clause.new.table c.add_clause.new.scope
    (ap item_of c.in-Group.is ∙ item_group c.in-Group.clause ∙ ap (λ d. group (clause_of d)) (sym c.deref.ensures)) (grown r way keys ready))
    c.add_clause.ensures

pub add_item-returns-in_ok-add_term-in-Equal : goal.add_item-returns-in_ok-add_term-in-Equal
add_item-returns-in_ok-add_term-in-Equal t c = on_ok_weaker c.add_term-in-Equal.result
    (λ grown r way keys ready.
    let l = c.in-Equal.left.value in
    let q = c.in-Equal.right.value in
    let A : TermNode → Type 0 = λ z. (ks : List Link) (w : List ℕ) → IsScope r ks c.args.scope.now → (IsLinkIn (made w) ks → ⊥)
    → (m : Meets r (λ v. v ≡ w) ks c.argument.new.self) × IsUse r.names (IsKey (ks ++ m.more)) (expansion.argument r.words r.places c.in_ok-pos-in-Equal.pos w (term_of z)) c.in_ok-one-in-Equal.one in
    let B : TermNode → Type 0 = λ z. (ks : List Link) (w : List ℕ) → IsScope r ks c.argument.new.self → (IsLinkIn (made w) ks → ⊥)
    → (m : Meets r (λ v. v ≡ w) ks c.argument-in-Equal.new.self) × IsUse r.names (IsKey (ks ++ m.more)) (expansion.argument r.words r.places c.in_ok-pos-in-Equal.pos w (term_of z)) c.in_ok-other-in-Equal.other in
    let C : TermNode → Type 0 = λ z. (w : List ℕ) (ks : List Link) (x : Link) → MayGrow r (Under w) ks c.args.glossary.now c.argument-in-Equal.new.self → IsKey ks x c.in_ok-one-in-Equal.one.link
    → GrowsPart r (Under w) ks (expansion.expanded_term r.words r.places c.in_ok-pos-in-Equal.pos w x (term_of z)) c.add_connector.new.part c.args.table.now c.add_term.new.part c.add_term.new.table c.add_term.new.scope in
    let D : TermNode → Type 0 = λ z. (w : List ℕ) (ks : List Link) (x : Link) → MayGrow r (Under w) ks c.args.glossary.now c.add_term.new.scope → IsKey ks x c.in_ok-other-in-Equal.other.link
    → GrowsPart r (Under w) ks (expansion.expanded_term r.words r.places c.in_ok-pos-in-Equal.pos w x (term_of z)) c.add_term.new.part c.add_term.new.table c.add_term-in-Equal.new.part c.add_term-in-Equal.new.table c.add_term-in-Equal.new.scope in
    grows_is r (Under way) keys (expansion.expanded_item r.words r.places way) _ _ c.args.part.now c.args.table.now c.add_term-in-Equal.new.part c.add_term-in-Equal.new.table c.add_term-in-Equal.new.scope
    (ap item_of c.in-Equal.is ∙ item_equal c.in-Equal.left c.in-Equal.token c.in-Equal.right)
    (equation_grows r way keys c.in-Equal.token (term_of l) (term_of q) c.args.glossary.now c.args.part.now c.args.table.now c.args.scope.now c.argument.new.self
    c.argument-in-Equal.new.self c.add_term.new.scope c.add_term-in-Equal.new.scope c.in_ok-one-in-Equal.one c.in_ok-other-in-Equal.other c.in_ok-pos-in-Equal.pos c.add_connector.new.part
    c.add_term.new.part c.add_term-in-Equal.new.part c.add_term.new.table c.add_term-in-Equal.new.table ready (c.in_ok-pos-in-Equal.ensures r ready.glossary)
    (subst A c.deref-in-Equal.ensures (λ ks w i j. c.in_ok-one-in-Equal.ensures r ks w ready.glossary i j)) (subst B c.deref-in-Equal-2.ensures (λ ks w i j. c.in_ok-other-in-Equal.ensures r ks w ready.glossary i j))
    (λ ks a b i j. c.in_ok-add_connector-in-Equal.ensures r ks a b ready.glossary i j) (subst C c.deref-in-Equal-3.ensures (λ w ks x k i. c.in_ok-add_term-in-Equal.ensures r w ks x k i)) (subst D c.deref-in-Equal-4.ensures (λ w ks x k i. grown r w ks x k i))))
    c.add_term-in-Equal.ensures

pub add_list-returns-then-elements-eq0 : goal.add_list-returns-then-elements-eq0
add_list-returns-then-elements-eq0 t c = on_ok_weaker c.add_unary.result
    (λ adds r way keys x ready key. let g = ready.glossary in
    empty_list_grows r way keys x c.args.pos (terms_of c.args.elements.now) c.args.glossary.now c.args.part.now c.args.table.now c.args.scope.now c.add_unary.new.part
    (no_terms c.args.elements.now (omega (arith, c.if-elements-eq0.true))) ready (adds r keys (codes "[]") _ g g.empty (key, refl)))
    c.add_unary.ensures

pub add_list-returns : goal.add_list-returns
add_list-returns t c = on_ok_weaker c.add_unary-2.result
    (λ adds r way keys x ready key. let g = ready.glossary in
    list_grows r way keys x c.args.pos (terms_of c.args.elements.now) c.args.glossary.now c.args.part.now c.args.table.now c.args.scope.now c.unwritten.new.self c.add_cells.new.scope
    c.in_ok-end.end c.args.own c.add_cells.new.part c.add_unary-2.new.part c.add_cells.new.table (some_terms c.args.elements.now (λ z. omega (arith, z, c.if-elements-eq0.false))) ready key
    (λ ks w i j. c.in_ok-end.ensures r ks w i j) (λ w ks y l k i j. c.in_ok-add_cells.ensures r w ks y l k i j) (λ ks u i. adds r ks (codes "[]") u g g.empty i))
    c.add_unary-2.ensures

pub add_membrane-returns : goal.add_membrane-returns
add_membrane-returns t c = on_ok_weaker c.push.result
    (λ grown r way keys f ready is none.
    membrane_grows r way keys f (clauses_of c.args.clauses.now) c.args.glossary.now c.args.part.now c.args.table.now c.args.scope.now c.args.inside c.add_clauses.new.part _ c.add_clauses.new.table
    c.add_clauses.new.scope c.into_level.result is none (c.in_ok-add_clauses.ensures r way keys ready) (λ ks p h. c.into_level.ensures r.names ks p h) refl grown refl refl refl)
    c.push.ensures.ok

pub add_rule-set-requires : goal.add_rule-set-requires
add_rule-set-requires t c = let r = c.requires.known.0 in
    room_for_rule r [] _ _ _ _ _ c.args.table.now c.push.new.self c.rule.new.table _ c.in_ok-rule.rule c.len-place.result c.len-place.ensures c.in_ok-push.ensures.ok
    (c.in_ok-rule.ensures r [] c.requires.known.1)

pub add_rule-returns : goal.add_rule-returns
add_rule-returns t c = on_ok_weaker c.push-2.result
    (λ grown r way keys scope ready.
    grows_is r (Under way) keys (expansion.expanded_clause r.words r.places way) _ _ c.args.part.now c.args.table.now _ c.set.new.self scope
    (nodes.rule_parts c.args.node.now)
    (rule_grows r (Under way) way keys (items_of_nodes c.args.node.now.kept) (items_of_nodes c.args.node.now.taken) (conditions_of c.args.node.now.guard) (items_of_nodes c.args.node.now.body) c.args.node.now.pos
    c.args.part.now c.args.table.now c.push.new.self c.rule.new.table c.set.new.self scope _ c.in_ok-rule.rule c.len-place.result c.in_ok-number.number c.push-2.new.self ready.scope
    c.len-place.ensures c.in_ok-number.ensures c.in_ok-push.ensures.ok (c.in_ok-rule.ensures r way ready.glossary) c.set.ensures grown))
    c.push-2.ensures.ok

pub add_term-returns-in-Link : goal.add_term-returns-in-Link
add_term-returns-in-Link t c = λ r way keys x ready key.
    grows_is r (Under way) keys (expansion.expanded_term r.words r.places c.args.pos way x) _ _ c.args.part.now c.args.table.now c.args.part.now c.args.table.now c.args.scope.now
    (ap term_of c.in-Link.is ∙ term_link _) (grows_nothing r (Under way) keys c.args.part.now c.args.table.now c.args.scope.now ready.scope)

pub add_term-returns-in-Atom : goal.add_term-returns-in-Atom
add_term-returns-in-Atom t c = on_ok_weaker c.add_atom.result
    (λ grown r way keys x ready key.
    grows_is r (Under way) keys (expansion.expanded_term r.words r.places c.args.pos way x) _ _ c.args.part.now c.args.table.now c.add_atom.new.part c.add_atom.new.table c.add_atom.new.scope
    (ap term_of c.in-Atom.is ∙ term_atom c.in-Atom.node) (grown r way keys (record { link = x; pos = c.args.pos } ∷ []) ready ((key, refl), tt)))
    c.add_atom.ensures

pub add_term-returns-in_ok-add_cells-in-Some : goal.add_term-returns-in_ok-add_cells-in-Some
add_term-returns-in_ok-add_cells-in-Some t c = on_ok_weaker c.add_term.result
    (λ grown r way keys x ready key.
    grows_is r (Under way) keys (expansion.expanded_term r.words r.places c.args.pos way x) _ _ c.args.part.now c.args.table.now c.add_term.new.part c.add_term.new.table c.add_term.new.scope
    (ap term_of c.in-List.is ∙ ap (λ o. term_of (view.List c.in-List.elements o)) c.in-Some.is ∙ term_list_onto c.in-List.elements c.in-Some.behind
    ∙ ap (λ ts. list_onto (terms_of ts) (term_of c.in-Some.behind.value)) (sym c.as_slice.ensures) ∙ ap (λ t. list_onto (terms_of c.as_slice.result.now) (term_of t)) (sym c.deref.ensures))
    (open_list_grows r way keys x c.args.pos (terms_of c.as_slice.result.now) (term_of c.deref.result.now) c.args.glossary.now c.args.part.now c.args.table.now c.args.scope.now c.argument.new.self
    c.add_cells.new.scope c.add_term.new.scope c.in_ok-end-in-Some.end c.args.own c.add_cells.new.part c.add_term.new.part c.add_cells.new.table c.add_term.new.table ready key
    (λ ks w i j. c.in_ok-end-in-Some.ensures r ks w ready.glossary i j) (λ w ks y l k i j. c.in_ok-add_cells-in-Some.ensures r w ks y l k i j)
    (λ w ks y k i. let P : TermNode → Type 0 = λ z. GrowsPart r (Under w) ks (expansion.expanded_term r.words r.places c.args.pos w y (term_of z)) c.add_cells.new.part c.add_cells.new.table c.add_term.new.part c.add_term.new.table c.add_term.new.scope in
    subst P (c.deref-in-Some.ensures ∙ sym c.deref.ensures) (grown r w ks y k i))))
    c.add_term.ensures

pub add_term-returns-in-None : goal.add_term-returns-in-None
add_term-returns-in-None t c = on_ok_weaker c.add_list.result
    (λ grown r way keys x ready key.
    grows_is r (Under way) keys (expansion.expanded_term r.words r.places c.args.pos way x) _ _ c.args.part.now c.args.table.now c.add_list.new.part c.add_list.new.table c.add_list.new.scope
    (ap term_of c.in-List.is ∙ ap (λ o. term_of (view.List c.in-List.elements o)) c.in-None.is ∙ term_list c.in-List.elements ∙ ap (λ ts. list (terms_of ts)) (sym c.as_slice-in-None.ensures))
    (grown r way keys x ready key))
    c.add_list.ensures

pub add_term-returns-in-Context : goal.add_term-returns-in-Context
add_term-returns-in-Context t c = on_ok_weaker c.add_typed.result
    (λ adds r way keys x ready key.
    grows_is r (Under way) keys (expansion.expanded_term r.words r.places c.args.pos way x) _ _ c.args.part.now c.args.table.now c.add_typed.new.part c.args.table.now c.args.scope.now
    (ap term_of c.in-Context.is ∙ term_context c.in-Context.token)
    (grows_leaf r (Under way) keys _ c.args.part.now c.args.table.now c.add_typed.new.part c.args.scope.now ready.scope (adds r keys (record { link = x; pos = c.args.pos }) ready.glossary (key, refl))))
    c.add_typed.ensures

pub add_term-returns-in_ok-add_unary-in-Membrane : goal.add_term-returns-in_ok-add_unary-in-Membrane
add_term-returns-in_ok-add_unary-in-Membrane t c = on_ok_weaker c.add_membrane.result
    (λ grown r way keys x ready key. let g = ready.glossary in let u : Use = record { link = x; pos = c.args.pos } in
    grows_is r (Under way) keys (expansion.expanded_term r.words r.places c.args.pos way x) _ _ c.args.part.now c.args.table.now c.add_membrane.new.part c.add_membrane.new.table c.add_membrane.new.scope
    (ap term_of c.in-Membrane.is ∙ term_membrane c.in-Membrane.clauses ∙ ap (λ cs. membrane (clauses_of cs)) (sym c.as_slice-in-Membrane.ensures))
    (grown r way keys (one_leaf (atom_leaf (named (codes "+")) (u ∷ []) c.args.pos)) ready
    (leaf_inside r keys _ c.new-inside.result c.add_unary.new.part (length c.args.table.now) c.new-inside.ensures (c.in_ok-add_unary-in-Membrane.ensures r keys (codes "+") u g g.plus (key, refl)))
    (λ k. refl)))
    c.add_membrane.ensures

pub rule-numbered-requires : goal.rule-numbered-requires
rule-numbered-requires t c = let r = c.requires.known.0 in let is = c.requires.known.1 in let way : List ℕ = [] in
    rule_below r way _ _ _ c.into_level-head.result c.into_level-body.result c.args.table.now c.add_items-3.new.table c.add_items-3.new.scope
    (rule_parts r way (items_of_nodes c.as_slice.result.now) (items_of_nodes c.as_slice-2.result.now) (items_of_nodes c.as_slice-3.result.now) c.args.glossary.now c.new-head.result c.add_items.new.part
    c.add_items-2.new.part c.in_ok-body.body c.add_items-3.new.part c.args.table.now c.add_items.new.table c.add_items-2.new.table c.add_items-3.new.table c.new-scope.result c.add_items.new.scope
    c.copied.new.scope c.add_items-2.new.scope c.add_items-3.new.scope c.into_level-head.result c.into_level-body.result is (c.new-scope.ensures r) c.new-head.ensures
    (λ w ks k. c.in_ok-add_items.ensures r w ks k) (λ ks p i j k. c.in_ok-body.ensures r ks p i j k) (λ w ks k. c.in_ok-add_items-2.ensures r w ks k) (λ w ks k. c.in_ok-add_items-3.ensures r w ks k)
    (λ ks p h. c.into_level-head.ensures r.names ks p h) (λ ks p h. c.into_level-body.ensures r.names ks p h))

pub rule-returns : goal.rule-returns
rule-returns t c = IfOk-weaker c.numbered.result _ _
    (λ rule h r way is.
    reads_as r way c.as_slice.result.now _ c.as_slice-2.result.now _ c.as_slice-3.result.now _ c.args.node.now.guard _ c.args.node.now.pos c.args.table.now rule c.add_items-3.new.table
    c.as_slice.ensures c.as_slice-2.ensures c.as_slice-3.ensures refl
    (rule_read r way (items_of_nodes c.as_slice.result.now) (items_of_nodes c.as_slice-2.result.now) (items_of_nodes c.as_slice-3.result.now) (conditions_of c.args.node.now.guard) c.args.node.now.pos
    c.into_level-head.result c.into_level-body.result rule c.args.table.now c.add_items-3.new.table c.add_items-3.new.scope
    (rule_parts r way (items_of_nodes c.as_slice.result.now) (items_of_nodes c.as_slice-2.result.now) (items_of_nodes c.as_slice-3.result.now) c.args.glossary.now c.new-head.result c.add_items.new.part
    c.add_items-2.new.part c.in_ok-body.body c.add_items-3.new.part c.args.table.now c.add_items.new.table c.add_items-2.new.table c.add_items-3.new.table c.new-scope.result c.add_items.new.scope
    c.copied.new.scope c.add_items-2.new.scope c.add_items-3.new.scope c.into_level-head.result c.into_level-body.result is (c.new-scope.ensures r) c.new-head.ensures
    (λ w ks k. c.in_ok-add_items.ensures r w ks k) (λ ks p i j k. c.in_ok-body.ensures r ks p i j k) (λ w ks k. c.in_ok-add_items-2.ensures r w ks k) (λ w ks k. c.in_ok-add_items-3.ensures r w ks k)
    (λ ks p h. c.into_level-head.ensures r.names ks p h) (λ ks p h. c.into_level-body.ensures r.names ks p h)) h.0 h.1 (h.2 r is)))
    c.numbered.ensures
