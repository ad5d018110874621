use Rattle.std.proofs.Common.{rules, arith, ◌+◌, ◌≤◌, ◌<◌, length, [], ◌∷◌, refl, sym, ◌∙◌, ap, max}
use Rattle.lmn_parser_grammar.specs.Grammar.{Tok, Opt, Ref, Square, Curly, TermPart, ClausesPart, ◌·◌, some_of, more_of, item, rule, body}
use Rattle.lmn_parser_grammar.specs.Factored.{right_side, arrow, rule_tail, more_clauses}
use Rattle.lmn_lexer.specs.declared.token.Kind.TheVariants.{Link, RParen, RBracket, RBrace, Bar, Arrow, Equal}
use Rattle.lmn_parser_grammar.proofs.Stops.{advance, dead_here, within_taken}
use Rattle.lmn_parser_grammar.proofs.SameLanguage.{seq}
use Rattle.lmn_parser_grammar.proofs.Choices.{opt_some, opt_before, opt_sign_taken, opt_sign_none, sign_taken, more_taken, more_done}
use Rattle.lmn_parser_grammar.proofs.Items.{atom_taken, item_atom, item_membrane, item_context, item_rule_context, item_plus, item_group, item_link, item_tlist}
use Rattle.lmn_parser_grammar.proofs.Terms.{term_link, term_atom, term_context, term_membrane, term_tlist, arguments_some, arguments_none, tlist_terms, context_bracket, brackets_link, brackets_empty, context_equal, context_alone}
use Rattle.lmn_parser_grammar.proofs.Clauses.{closers_opt_list, arrow_opt_list, tail_opt_list, closers_opt_tail, ends_item, ends_left, ends_term, closers_round, ends_curly, closers_more, opt_list_none, opt_list_some, list_parts, tail_backslash, tail_arrow, rule_parts, clause_named, clause_list, clause_tail, list_or_rule, list_ends, clauses_some, clauses_none, more_stop, more_none}
use Rattle.lmn_parser_grammar.proofs.Bodies.{body_bar, body_guarded, body_stops, body_beyond, body_listed}
use Rattle.lmn_parser.specs.Parsing.{kinds_of}
use Rattle.lmn_parser.specs.Outcomes.{reach}
use Rattle.lmn_parser.proofs.Onward.{onward, refused, guard_stops, list_stops, stop_inside, max_inside}
use Rattle.std.proofs.lemmas.Result.{IfOk-weaker}
use Rattle.lmn_parser.specs.Trees.{is_list, some_list, named_rule, unnamed_rule, some_kept}
use Rattle.lmn_parser.proofs.Names.{name_at, atom_at}
use Rattle.lmn_parser.proofs.BuiltTerms.{atom_read, arguments_missing, arguments_empty, arguments_closed, terms_first, terms_next, link_read, context_read, atom_term_read, membrane_term_read, list_empty, list_closed, list_open, rule_context_read, plus_read, group_read, context_item_read, closed_read, bracketed_read, atom_item_read, membrane_item_read, equation_read, items_first, items_next, no_item_there}
use Rattle.lmn_parser.proofs.BuiltClauses.{stands_there, clauses_first, clauses_next, clauses_stopped, clauses_ended, no_clause_there, membrane_closed, process_read, all_heads_taken, rule_read, body_alone, body_behind_bar, body_behind_guard}
use Rattle.lmn_parser.proofs.Decisions.{two_behind, three_behind, term_other, item_other}
use Rattle.lmn_parser.proofs.reader.+reader.Goals as goal

pub term-returns-then-is_at-clause-reads : goal.term-returns-then-is_at-clause-reads
term-returns-then-is_at-clause-reads t c κ h = term_link (kinds_of c.args.tokens.now) c.args.at κ (search rules)

pub term-returns-then-is_at-clause-tree : goal.term-returns-then-is_at-clause-tree
term-returns-then-is_at-clause-tree t c = link_read c.args.tokens.now c.args.at (search rules)

pub term-returns-then-is_at-2-clause-reads : goal.term-returns-then-is_at-2-clause-reads
term-returns-then-is_at-2-clause-reads t c κ h = term_context (kinds_of c.args.tokens.now) c.args.at κ (search rules)

pub term-returns-then-is_at-2-clause-tree : goal.term-returns-then-is_at-2-clause-tree
term-returns-then-is_at-2-clause-tree t c = context_read c.args.tokens.now c.args.at (search rules)

pub term-returns-in_err-clauses-clause-reads : goal.term-returns-in_err-clauses-clause-reads
term-returns-in_err-clauses-clause-reads t c κ h = refused _ _ _ _ κ _ _ _ (term_membrane (kinds_of c.args.tokens.now) c.args.at κ (search rules)) (c.in_err-clauses.ensures.reads κ) c.from_residual.ensures.1

pub term-returns-then-is_at-3-clause-reads : goal.term-returns-then-is_at-3-clause-reads
term-returns-then-is_at-3-clause-reads t c κ h = term_membrane (kinds_of c.args.tokens.now) c.args.at κ (search rules) ∙ c.in_ok-clauses.ensures.reads κ

pub term-returns-then-is_at-3-clause-tree : goal.term-returns-then-is_at-3-clause-tree
term-returns-then-is_at-3-clause-tree t c = membrane_term_read _ _ _ _ c.in_ok-clauses.ensures.tree

pub term-returns-then-is_at-4-clause-reads : goal.term-returns-then-is_at-4-clause-reads
term-returns-then-is_at-4-clause-reads t c κ h = onward _ _ _ _ _ κ c.term_list.result (term_tlist (kinds_of c.args.tokens.now) c.args.at κ (search rules)) (c.term_list.ensures.reads κ)

pub term-returns-then-is_at-4-clause-tree : goal.term-returns-then-is_at-4-clause-tree
term-returns-then-is_at-4-clause-tree t c = IfOk-weaker c.term_list.result _ _ (λ x h. is_list h) c.term_list.ensures.tree

pub term-returns-then-not-begins_atom-clause-reads : goal.term-returns-then-not-begins_atom-clause-reads
term-returns-then-not-begins_atom-clause-reads t c κ h = (term_other (kinds_of c.args.tokens.now) c.args.at κ (search rules) (search rules) (search rules) (search rules) (search rules), c.requires.place)

pub term-returns-in_err-args-clause-reads : goal.term-returns-in_err-args-clause-reads
term-returns-in_err-args-clause-reads t c κ h = refused _ _ _ _ κ _ _ _ (term_atom (kinds_of c.args.tokens.now) c.args.at κ (search rules) ∙ atom_taken (kinds_of c.args.tokens.now) c.args.at κ (search rules)) (c.in_err-args.ensures.reads κ h) c.from_residual-in_err-args.ensures.1

pub term-returns-clause-reads : goal.term-returns-clause-reads
term-returns-clause-reads t c κ h = term_atom (kinds_of c.args.tokens.now) c.args.at κ (search rules) ∙ atom_taken (kinds_of c.args.tokens.now) c.args.at κ (search rules) ∙ c.in_ok-args.ensures.reads κ h

pub term-returns-clause-tree : goal.term-returns-clause-tree
term-returns-clause-tree t c = atom_term_read _ _ _ _ (atom_read _ _ _ _ (atom_at c.args.tokens.now c.args.at (search rules)) c.in_ok-args.ensures.tree)

pub term_list-returns-then-is_at-clause-reads : goal.term_list-returns-then-is_at-clause-reads
term_list-returns-then-is_at-clause-reads t c κ = within_taken (kinds_of c.args.tokens.now) c.args.at Square (Opt (some_of (Ref TermPart) · Opt (Tok Bar · Ref TermPart))) κ c.requires.open ∙ advance (kinds_of c.args.tokens.now) (c.args.at + 1) _ RBracket κ [] (search rules) refl ∙ two_behind (kinds_of c.args.tokens.now) c.args.at (κ ∷ [])

pub term_list-returns-then-is_at-clause-tree : goal.term_list-returns-then-is_at-clause-tree
term_list-returns-then-is_at-clause-tree t c = list_empty _ _ _ c.new.ensures c.requires.open (search rules)

pub term_list-returns-in_err-terms-clause-reads : goal.term_list-returns-in_err-terms-clause-reads
term_list-returns-in_err-terms-clause-reads t c κ = refused _ _ _ _ κ _ _ _ (within_taken (kinds_of c.args.tokens.now) c.args.at Square (Opt (some_of (Ref TermPart) · Opt (Tok Bar · Ref TermPart))) κ c.requires.open ∙ tlist_terms (kinds_of c.args.tokens.now) (c.args.at + 1) κ (search rules)) (c.in_err-terms.ensures.reads (Opt (Tok Bar · Ref TermPart) ∷ Tok RBracket ∷ κ) (refl, refl)) c.from_residual.ensures.1

pub term_list-returns-in_err-rest-clause-reads : goal.term_list-returns-in_err-rest-clause-reads
term_list-returns-in_err-rest-clause-reads t c κ = refused _ _ _ _ κ _ _ _ (within_taken (kinds_of c.args.tokens.now) c.args.at Square (Opt (some_of (Ref TermPart) · Opt (Tok Bar · Ref TermPart))) κ c.requires.open ∙ tlist_terms (kinds_of c.args.tokens.now) (c.args.at + 1) κ (search rules) ∙ c.in_ok-terms.ensures.reads (Opt (Tok Bar · Ref TermPart) ∷ Tok RBracket ∷ κ) (refl, refl) ∙ opt_sign_taken (kinds_of c.args.tokens.now) c.in_ok-terms.end Bar (Ref TermPart) (Tok RBracket ∷ κ) (search rules) refl) (c.in_err-rest.ensures.reads (Tok RBracket ∷ κ) refl) c.from_residual-in_err-rest.ensures.1

pub term_list-returns-in_err-after-clause-reads : goal.term_list-returns-in_err-after-clause-reads
term_list-returns-in_err-after-clause-reads t c κ = refused _ _ _ _ κ _ _ _ (within_taken (kinds_of c.args.tokens.now) c.args.at Square (Opt (some_of (Ref TermPart) · Opt (Tok Bar · Ref TermPart))) κ c.requires.open ∙ tlist_terms (kinds_of c.args.tokens.now) (c.args.at + 1) κ (search rules) ∙ c.in_ok-terms.ensures.reads (Opt (Tok Bar · Ref TermPart) ∷ Tok RBracket ∷ κ) (refl, refl) ∙ opt_sign_taken (kinds_of c.args.tokens.now) c.in_ok-terms.end Bar (Ref TermPart) (Tok RBracket ∷ κ) (search rules) refl ∙ c.in_ok-rest.ensures.reads (Tok RBracket ∷ κ) refl) (c.in_err-after.ensures.reads κ) c.from_residual-in_err-after.ensures.1

pub term_list-returns-then-is_at-2-clause-reads : goal.term_list-returns-then-is_at-2-clause-reads
term_list-returns-then-is_at-2-clause-reads t c κ = within_taken (kinds_of c.args.tokens.now) c.args.at Square (Opt (some_of (Ref TermPart) · Opt (Tok Bar · Ref TermPart))) κ c.requires.open ∙ tlist_terms (kinds_of c.args.tokens.now) (c.args.at + 1) κ (search rules) ∙ c.in_ok-terms.ensures.reads (Opt (Tok Bar · Ref TermPart) ∷ Tok RBracket ∷ κ) (refl, refl) ∙ opt_sign_taken (kinds_of c.args.tokens.now) c.in_ok-terms.end Bar (Ref TermPart) (Tok RBracket ∷ κ) (search rules) refl ∙ c.in_ok-rest.ensures.reads (Tok RBracket ∷ κ) refl ∙ c.in_ok-after.ensures.reads κ

pub term_list-returns-then-is_at-2-clause-tree : goal.term_list-returns-then-is_at-2-clause-tree
term_list-returns-then-is_at-2-clause-tree t c = list_open _ _ _ _ _ _ _ _ c.in_ok-rest-2.ensures.ok c.requires.open c.in_ok-terms.ensures.tree (search rules) c.in_ok-rest.ensures.tree c.in_ok-after.ensures.found

pub term_list-returns-in_err-after-2-clause-reads : goal.term_list-returns-in_err-after-2-clause-reads
term_list-returns-in_err-after-2-clause-reads t c κ = refused _ _ _ _ κ _ _ _ (within_taken (kinds_of c.args.tokens.now) c.args.at Square (Opt (some_of (Ref TermPart) · Opt (Tok Bar · Ref TermPart))) κ c.requires.open ∙ tlist_terms (kinds_of c.args.tokens.now) (c.args.at + 1) κ (search rules) ∙ c.in_ok-terms.ensures.reads (Opt (Tok Bar · Ref TermPart) ∷ Tok RBracket ∷ κ) (refl, refl) ∙ opt_sign_none (kinds_of c.args.tokens.now) c.in_ok-terms.end Bar (Ref TermPart) (Tok RBracket ∷ κ) (search rules)) (c.in_err-after-2.ensures.reads κ) c.from_residual-in_err-after-2.ensures.1

pub term_list-returns-clause-reads : goal.term_list-returns-clause-reads
term_list-returns-clause-reads t c κ = within_taken (kinds_of c.args.tokens.now) c.args.at Square (Opt (some_of (Ref TermPart) · Opt (Tok Bar · Ref TermPart))) κ c.requires.open ∙ tlist_terms (kinds_of c.args.tokens.now) (c.args.at + 1) κ (search rules) ∙ c.in_ok-terms.ensures.reads (Opt (Tok Bar · Ref TermPart) ∷ Tok RBracket ∷ κ) (refl, refl) ∙ opt_sign_none (kinds_of c.args.tokens.now) c.in_ok-terms.end Bar (Ref TermPart) (Tok RBracket ∷ κ) (search rules) ∙ c.in_ok-after-2.ensures.reads κ

pub term_list-returns-clause-tree : goal.term_list-returns-clause-tree
term_list-returns-clause-tree t c = list_closed _ _ _ _ _ c.requires.open c.in_ok-terms.ensures.tree c.in_ok-after-2.ensures.found

pub arguments-returns-then-not-is_at-clause-reads : goal.arguments-returns-then-not-is_at-clause-reads
arguments-returns-then-not-is_at-clause-reads t c κ h = arguments_none (kinds_of c.args.tokens.now) c.args.at κ (search rules)

pub arguments-returns-then-not-is_at-clause-tree : goal.arguments-returns-then-not-is_at-clause-tree
arguments-returns-then-not-is_at-clause-tree t c = arguments_missing _ _ _ c.new.ensures

pub arguments-returns-then-is_at-clause-reads : goal.arguments-returns-then-is_at-clause-reads
arguments-returns-then-is_at-clause-reads t c κ h = arguments_some (kinds_of c.args.tokens.now) c.args.at κ h (search rules) ∙ advance (kinds_of c.args.tokens.now) (c.args.at + 1) _ RParen κ [] (search rules) refl ∙ two_behind (kinds_of c.args.tokens.now) c.args.at (κ ∷ [])

pub arguments-returns-then-is_at-clause-tree : goal.arguments-returns-then-is_at-clause-tree
arguments-returns-then-is_at-clause-tree t c = arguments_empty _ _ _ c.new-then-is_at.ensures (search rules) (search rules)

pub arguments-returns-in_err-args-clause-reads : goal.arguments-returns-in_err-args-clause-reads
arguments-returns-in_err-args-clause-reads t c κ h = refused _ _ _ _ κ _ _ _ (arguments_some (kinds_of c.args.tokens.now) c.args.at κ h (search rules) ∙ opt_before (kinds_of c.args.tokens.now) (c.args.at + 1) (some_of (Ref TermPart)) RParen κ (search rules)) (c.in_err-args.ensures.reads (Tok RParen ∷ κ) (refl, refl)) c.from_residual.ensures.1

pub arguments-returns-in_err-after-clause-reads : goal.arguments-returns-in_err-after-clause-reads
arguments-returns-in_err-after-clause-reads t c κ h = refused _ _ _ _ κ _ _ _ (arguments_some (kinds_of c.args.tokens.now) c.args.at κ h (search rules) ∙ opt_before (kinds_of c.args.tokens.now) (c.args.at + 1) (some_of (Ref TermPart)) RParen κ (search rules) ∙ c.in_ok-args.ensures.reads (Tok RParen ∷ κ) (refl, refl)) (c.in_err-after.ensures.reads κ) c.from_residual-in_err-after.ensures.1

pub arguments-returns-clause-reads : goal.arguments-returns-clause-reads
arguments-returns-clause-reads t c κ h = arguments_some (kinds_of c.args.tokens.now) c.args.at κ h (search rules) ∙ opt_before (kinds_of c.args.tokens.now) (c.args.at + 1) (some_of (Ref TermPart)) RParen κ (search rules) ∙ c.in_ok-args.ensures.reads (Tok RParen ∷ κ) (refl, refl) ∙ c.in_ok-after.ensures.reads κ

pub arguments-returns-clause-tree : goal.arguments-returns-clause-tree
arguments-returns-clause-tree t c = arguments_closed _ _ _ _ _ (search rules) c.in_ok-args.ensures.tree c.in_ok-after.ensures.found

pub terms-returns-in_err-first-clause-reads : goal.terms-returns-in_err-first-clause-reads
terms-returns-in_err-first-clause-reads t c κ h = refused _ _ _ _ κ _ _ _ (seq (kinds_of c.args.tokens.now) c.args.at (Ref TermPart) (more_of (Ref TermPart)) κ) (c.in_err-first.ensures.reads (more_of (Ref TermPart) ∷ κ) (ends_term κ h)) c.from_residual.ensures.1

pub terms-more-init : goal.terms-more-init
terms-more-init t c = record { reads = λ κ h. seq (kinds_of c.args.tokens.now) c.args.at (Ref TermPart) (more_of (Ref TermPart)) κ ∙ c.in_ok-first.ensures.reads (more_of (Ref TermPart) ∷ κ) (ends_term κ h); forth = c.in_ok-first.ensures.forth; tree = terms_first _ _ _ _ _ _ c.new-terms.ensures c.in_ok-push.ensures.ok c.in_ok-first.ensures.tree }

pub terms-returns-in_err-next-clause-reads : goal.terms-returns-in_err-next-clause-reads
terms-returns-in_err-next-clause-reads t c κ h = refused _ _ _ _ κ _ _ _ (c.more.invariant.reads κ h ∙ more_taken (kinds_of c.args.tokens.now) c.more.end (Ref TermPart) κ (search rules) h.1) (c.in_err-next.ensures.reads (more_of (Ref TermPart) ∷ κ) (ends_term κ h)) c.from_residual-in_err-next.ensures.1

pub terms-more-preserved : goal.terms-more-preserved
terms-more-preserved t c = record { reads = λ κ h. c.more.invariant.reads κ h ∙ more_taken (kinds_of c.args.tokens.now) c.more.end (Ref TermPart) κ (search rules) h.1 ∙ c.in_ok-next.ensures.reads (more_of (Ref TermPart) ∷ κ) (ends_term κ h); forth = (omega (arith, c.more.invariant.forth.0, c.in_ok-next.ensures.forth.0), c.in_ok-next.ensures.forth.1); tree = terms_next _ _ _ _ _ _ _ c.more.invariant.tree (search rules) c.in_ok-next.ensures.tree c.in_ok-push-2.ensures.ok }

pub terms-returns-clause-reads : goal.terms-returns-clause-reads
terms-returns-clause-reads t c κ h = c.more.invariant.reads κ h ∙ more_done (kinds_of c.args.tokens.now) c.more.end (Ref TermPart) κ (search rules)

pub list-returns-in_err-first-clause-reads : goal.list-returns-in_err-first-clause-reads
list-returns-in_err-first-clause-reads t c κ h = refused _ _ _ _ κ _ _ _ (list_parts (kinds_of c.args.tokens.now) c.args.at κ) (c.in_err-first.ensures.reads (more_of item ∷ κ) (ends_item κ h)) c.from_residual.ensures.1

pub list-more-init : goal.list-more-init
list-more-init t c = record { reads = λ κ h. list_parts (kinds_of c.args.tokens.now) c.args.at κ ∙ c.in_ok-first.ensures.reads (more_of item ∷ κ) (ends_item κ h); forth = c.in_ok-first.ensures.forth; tree = items_first _ _ _ _ _ _ c.new-items.ensures c.in_ok-push.ensures.ok c.in_ok-first.ensures.tree }

pub list-returns-in_err-next-clause-reads : goal.list-returns-in_err-next-clause-reads
list-returns-in_err-next-clause-reads t c κ h = refused _ _ _ _ κ _ _ _ (c.more.invariant.reads κ h ∙ more_taken (kinds_of c.args.tokens.now) c.more.end item κ (search rules) h.3) (c.in_err-next.ensures.reads (more_of item ∷ κ) (ends_item κ h)) c.from_residual-in_err-next.ensures.1

pub list-more-preserved : goal.list-more-preserved
list-more-preserved t c = record { reads = λ κ h. c.more.invariant.reads κ h ∙ more_taken (kinds_of c.args.tokens.now) c.more.end item κ (search rules) h.3 ∙ c.in_ok-next.ensures.reads (more_of item ∷ κ) (ends_item κ h); forth = (omega (arith, c.more.invariant.forth.0, c.in_ok-next.ensures.forth.0), c.in_ok-next.ensures.forth.1); tree = items_next _ _ _ _ _ _ _ c.more.invariant.tree (search rules) c.in_ok-next.ensures.tree c.in_ok-push-2.ensures.ok }

pub list-returns-clause-reads : goal.list-returns-clause-reads
list-returns-clause-reads t c κ h = c.more.invariant.reads κ h ∙ more_done (kinds_of c.args.tokens.now) c.more.end item κ (search rules)

pub item-returns-then-is_at-clause-reads : goal.item-returns-then-is_at-clause-reads
item-returns-then-is_at-clause-reads t c κ h = item_rule_context (kinds_of c.args.tokens.now) c.args.at κ (search rules)

pub item-returns-then-is_at-clause-tree : goal.item-returns-then-is_at-clause-tree
item-returns-then-is_at-clause-tree t c = rule_context_read c.args.tokens.now c.args.at (search rules)

pub item-returns-in_err-end-clause-reads : goal.item-returns-in_err-end-clause-reads
item-returns-in_err-end-clause-reads t c κ h = refused _ _ _ _ κ _ _ _ (item_plus (kinds_of c.args.tokens.now) c.args.at κ (search rules)) (c.in_err-end.ensures.reads κ) c.from_residual.ensures.1

pub item-returns-then-is_at-2-clause-reads : goal.item-returns-then-is_at-2-clause-reads
item-returns-then-is_at-2-clause-reads t c κ h = item_plus (kinds_of c.args.tokens.now) c.args.at κ (search rules) ∙ c.in_ok-end.ensures.reads κ

pub item-returns-then-is_at-2-clause-tree : goal.item-returns-then-is_at-2-clause-tree
item-returns-then-is_at-2-clause-tree t c = plus_read _ _ _ (search rules) c.in_ok-end.ensures.found

pub item-returns-in_err-clause-clause-reads : goal.item-returns-in_err-clause-clause-reads
item-returns-in_err-clause-clause-reads t c κ h = refused _ _ _ _ κ _ _ _ (item_group (kinds_of c.args.tokens.now) c.args.at κ (search rules)) (c.in_err-clause.ensures.reads (Tok RParen ∷ κ) (closers_round κ)) c.from_residual-in_err-clause.ensures.1

pub item-returns-in_err-after-clause-reads : goal.item-returns-in_err-after-clause-reads
item-returns-in_err-after-clause-reads t c κ h = refused _ _ _ _ κ _ _ _ (item_group (kinds_of c.args.tokens.now) c.args.at κ (search rules) ∙ c.in_ok-clause.ensures.reads (Tok RParen ∷ κ) (closers_round κ)) (c.in_err-after.ensures.reads κ) c.from_residual-in_err-after.ensures.1

pub item-returns-then-is_at-3-clause-reads : goal.item-returns-then-is_at-3-clause-reads
item-returns-then-is_at-3-clause-reads t c κ h = item_group (kinds_of c.args.tokens.now) c.args.at κ (search rules) ∙ c.in_ok-clause.ensures.reads (Tok RParen ∷ κ) (closers_round κ) ∙ c.in_ok-after.ensures.reads κ

pub item-returns-then-is_at-3-clause-tree : goal.item-returns-then-is_at-3-clause-tree
item-returns-then-is_at-3-clause-tree t c = group_read _ _ _ _ _ _ c.in_ok-clause-2.ensures.ok (search rules) c.in_ok-clause.ensures.tree c.in_ok-after.ensures.found

pub context-returns-in_err-end-clause-reads : goal.context-returns-in_err-end-clause-reads
context-returns-in_err-end-clause-reads t c κ h = refused _ _ _ _ κ _ _ _ (item_context (kinds_of c.args.tokens.now) c.args.at κ c.requires.context ∙ context_bracket (kinds_of c.args.tokens.now) (c.args.at + 1) κ h (search rules) ∙ two_behind (kinds_of c.args.tokens.now) c.args.at ((Opt (Tok Link) ∷ Tok RBracket ∷ κ) ∷ []) ∙ brackets_link (kinds_of c.args.tokens.now) (c.args.at + 2) κ (search rules)) (c.in_err-end.ensures.reads (Tok RBracket ∷ κ)) c.from_residual.ensures.1

pub context-returns-in_err-after-clause-reads : goal.context-returns-in_err-after-clause-reads
context-returns-in_err-after-clause-reads t c κ h = refused _ _ _ _ κ _ _ _ (item_context (kinds_of c.args.tokens.now) c.args.at κ c.requires.context ∙ context_bracket (kinds_of c.args.tokens.now) (c.args.at + 1) κ h (search rules) ∙ two_behind (kinds_of c.args.tokens.now) c.args.at ((Opt (Tok Link) ∷ Tok RBracket ∷ κ) ∷ []) ∙ brackets_link (kinds_of c.args.tokens.now) (c.args.at + 2) κ (search rules) ∙ c.in_ok-end.ensures.reads (Tok RBracket ∷ κ)) (c.in_err-after.ensures.reads κ) c.from_residual-in_err-after.ensures.1

pub context-returns-then-is_at-clause-reads : goal.context-returns-then-is_at-clause-reads
context-returns-then-is_at-clause-reads t c κ h = item_context (kinds_of c.args.tokens.now) c.args.at κ c.requires.context ∙ context_bracket (kinds_of c.args.tokens.now) (c.args.at + 1) κ h (search rules) ∙ two_behind (kinds_of c.args.tokens.now) c.args.at ((Opt (Tok Link) ∷ Tok RBracket ∷ κ) ∷ []) ∙ brackets_link (kinds_of c.args.tokens.now) (c.args.at + 2) κ (search rules) ∙ c.in_ok-end.ensures.reads (Tok RBracket ∷ κ) ∙ c.in_ok-after.ensures.reads κ

pub context-returns-then-is_at-clause-tree : goal.context-returns-then-is_at-clause-tree
context-returns-then-is_at-clause-tree t c = bracketed_read _ _ _ _ c.requires.context (search rules) c.in_ok-end.ensures.found c.in_ok-after.ensures.found

pub context-returns-then-is_at-2-clause-reads : goal.context-returns-then-is_at-2-clause-reads
context-returns-then-is_at-2-clause-reads t c κ h = item_context (kinds_of c.args.tokens.now) c.args.at κ c.requires.context ∙ context_bracket (kinds_of c.args.tokens.now) (c.args.at + 1) κ h (search rules) ∙ two_behind (kinds_of c.args.tokens.now) c.args.at ((Opt (Tok Link) ∷ Tok RBracket ∷ κ) ∷ []) ∙ brackets_empty (kinds_of c.args.tokens.now) (c.args.at + 2) κ (search rules) ∙ three_behind (kinds_of c.args.tokens.now) c.args.at (κ ∷ [])

pub context-returns-then-is_at-2-clause-tree : goal.context-returns-then-is_at-2-clause-tree
context-returns-then-is_at-2-clause-tree t c = closed_read c.args.tokens.now c.args.at c.requires.context (search rules) (search rules)

pub context-returns-then-is_at-3-clause-reads : goal.context-returns-then-is_at-3-clause-reads
context-returns-then-is_at-3-clause-reads t c κ h = onward _ _ _ _ _ κ c.equation.result (item_context (kinds_of c.args.tokens.now) c.args.at κ c.requires.context ∙ context_equal (kinds_of c.args.tokens.now) (c.args.at + 1) κ h (search rules) ∙ sym (sign_taken (kinds_of c.args.tokens.now) (c.args.at + 1) Equal (Ref TermPart) κ (search rules))) (c.equation.ensures.reads κ h.0)

pub context-returns-then-is_at-3-clause-tree : goal.context-returns-then-is_at-3-clause-tree
context-returns-then-is_at-3-clause-tree t c = c.equation.ensures.tree c.args.at (context_read c.args.tokens.now c.args.at c.requires.context)

pub context-returns-clause-reads : goal.context-returns-clause-reads
context-returns-clause-reads t c κ h = item_context (kinds_of c.args.tokens.now) c.args.at κ c.requires.context ∙ context_alone (kinds_of c.args.tokens.now) (c.args.at + 1) κ (search rules) (search rules)

pub context-returns-clause-tree : goal.context-returns-clause-tree
context-returns-clause-tree t c = context_item_read c.args.tokens.now c.args.at c.requires.context

pub relation-returns-in_err-args-clause-reads : goal.relation-returns-in_err-args-clause-reads
relation-returns-in_err-args-clause-reads t c κ h = refused _ _ _ _ κ _ _ _ (item_atom (kinds_of c.args.tokens.now) c.args.at κ (search rules) ∙ atom_taken (kinds_of c.args.tokens.now) c.args.at (Opt right_side ∷ κ) (search rules)) (c.in_err-args.ensures.reads (Opt right_side ∷ κ) (ends_left κ h)) c.from_residual.ensures.1

pub relation-returns-then-is_at-clause-reads : goal.relation-returns-then-is_at-clause-reads
relation-returns-then-is_at-clause-reads t c κ h = onward _ _ _ _ _ κ c.equation.result (item_atom (kinds_of c.args.tokens.now) c.args.at κ (search rules) ∙ atom_taken (kinds_of c.args.tokens.now) c.args.at (Opt right_side ∷ κ) (search rules) ∙ c.in_ok-args.ensures.reads (Opt right_side ∷ κ) (ends_left κ h) ∙ opt_some (kinds_of c.args.tokens.now) c.in_ok-args.end right_side κ (dead_here (kinds_of c.args.tokens.now) c.in_ok-args.end κ Equal (search rules) h.2)) (c.equation.ensures.reads κ h.0)

pub relation-returns-then-is_at-clause-tree : goal.relation-returns-then-is_at-clause-tree
relation-returns-then-is_at-clause-tree t c = c.equation.ensures.tree c.args.at (atom_term_read _ _ _ _ (atom_read _ _ _ _ (atom_at c.args.tokens.now c.args.at (search rules)) c.in_ok-args.ensures.tree))

pub relation-returns-then-begins_atom-clause-reads : goal.relation-returns-then-begins_atom-clause-reads
relation-returns-then-begins_atom-clause-reads t c κ h = item_atom (kinds_of c.args.tokens.now) c.args.at κ (search rules) ∙ atom_taken (kinds_of c.args.tokens.now) c.args.at (Opt right_side ∷ κ) (search rules) ∙ c.in_ok-args.ensures.reads (Opt right_side ∷ κ) (ends_left κ h) ∙ opt_sign_none (kinds_of c.args.tokens.now) c.in_ok-args.end Equal (Ref TermPart) κ (search rules)

pub relation-returns-then-begins_atom-clause-tree : goal.relation-returns-then-begins_atom-clause-tree
relation-returns-then-begins_atom-clause-tree t c = atom_item_read _ _ _ _ (atom_read _ _ _ _ (atom_at c.args.tokens.now c.args.at (search rules)) c.in_ok-args.ensures.tree)

pub relation-returns-in_err-clauses-clause-reads : goal.relation-returns-in_err-clauses-clause-reads
relation-returns-in_err-clauses-clause-reads t c κ h = refused _ _ _ _ κ _ _ _ (item_membrane (kinds_of c.args.tokens.now) c.args.at κ (search rules)) (c.in_err-clauses.ensures.reads (Opt right_side ∷ κ)) c.from_residual-in_err-clauses.ensures.1

pub relation-returns-then-is_at-3-clause-reads : goal.relation-returns-then-is_at-3-clause-reads
relation-returns-then-is_at-3-clause-reads t c κ h = onward _ _ _ _ _ κ c.equation-then-is_at-3.result (item_membrane (kinds_of c.args.tokens.now) c.args.at κ (search rules) ∙ c.in_ok-clauses.ensures.reads (Opt right_side ∷ κ) ∙ opt_some (kinds_of c.args.tokens.now) c.in_ok-clauses.end right_side κ (dead_here (kinds_of c.args.tokens.now) c.in_ok-clauses.end κ Equal (search rules) h.2)) (c.equation-then-is_at-3.ensures.reads κ h.0)

pub relation-returns-then-is_at-3-clause-tree : goal.relation-returns-then-is_at-3-clause-tree
relation-returns-then-is_at-3-clause-tree t c = c.equation-then-is_at-3.ensures.tree c.args.at (membrane_term_read _ _ _ _ c.in_ok-clauses.ensures.tree)

pub relation-returns-then-is_at-2-clause-reads : goal.relation-returns-then-is_at-2-clause-reads
relation-returns-then-is_at-2-clause-reads t c κ h = item_membrane (kinds_of c.args.tokens.now) c.args.at κ (search rules) ∙ c.in_ok-clauses.ensures.reads (Opt right_side ∷ κ) ∙ opt_sign_none (kinds_of c.args.tokens.now) c.in_ok-clauses.end Equal (Ref TermPart) κ (search rules)

pub relation-returns-then-is_at-2-clause-tree : goal.relation-returns-then-is_at-2-clause-tree
relation-returns-then-is_at-2-clause-tree t c = membrane_item_read _ _ _ _ c.in_ok-clauses.ensures.tree

pub relation-returns-then-is_at-4-clause-reads : goal.relation-returns-then-is_at-4-clause-reads
relation-returns-then-is_at-4-clause-reads t c κ h = onward _ _ _ _ _ κ c.equation-then-is_at-4.result (item_link (kinds_of c.args.tokens.now) c.args.at κ (search rules)) (c.equation-then-is_at-4.ensures.reads κ h.0)

pub relation-returns-then-is_at-4-clause-tree : goal.relation-returns-then-is_at-4-clause-tree
relation-returns-then-is_at-4-clause-tree t c = c.equation-then-is_at-4.ensures.tree c.args.at (link_read c.args.tokens.now c.args.at (search rules))

pub relation-returns-then-not-is_at-clause-reads : goal.relation-returns-then-not-is_at-clause-reads
relation-returns-then-not-is_at-clause-reads t c κ h = (item_other (kinds_of c.args.tokens.now) c.args.at κ c.requires.rule_context c.requires.plus c.requires.group c.requires.context (search rules) (search rules) (search rules) (search rules), c.requires.place)

pub relation-returns-in_err-list-clause-reads : goal.relation-returns-in_err-list-clause-reads
relation-returns-in_err-list-clause-reads t c κ h = refused _ _ _ _ κ _ _ _ (item_tlist (kinds_of c.args.tokens.now) c.args.at κ (search rules)) (c.in_err-list.ensures.reads (right_side ∷ κ)) c.from_residual-in_err-list.ensures.1

pub relation-returns-clause-reads : goal.relation-returns-clause-reads
relation-returns-clause-reads t c κ h = onward _ _ _ _ _ κ c.equation-2.result (item_tlist (kinds_of c.args.tokens.now) c.args.at κ (search rules) ∙ c.in_ok-list.ensures.reads (right_side ∷ κ)) (c.equation-2.ensures.reads κ h.0)

pub relation-returns-clause-tree : goal.relation-returns-clause-tree
relation-returns-clause-tree t c = c.equation-2.ensures.tree c.args.at (is_list c.in_ok-list.ensures.tree)

pub equation-returns-in_err-start-clause-reads : goal.equation-returns-in_err-start-clause-reads
equation-returns-in_err-start-clause-reads t c κ h = refused _ _ _ _ κ _ _ _ (seq (kinds_of c.args.tokens.now) c.args.sign (Tok Equal) (Ref TermPart) κ) (c.in_err-start.ensures.reads (Ref TermPart ∷ κ)) c.from_residual-in_err-start.ensures.1

pub equation-returns-in_err-right-clause-reads : goal.equation-returns-in_err-right-clause-reads
equation-returns-in_err-right-clause-reads t c κ h = refused _ _ _ _ κ _ _ _ (seq (kinds_of c.args.tokens.now) c.args.sign (Tok Equal) (Ref TermPart) κ ∙ c.in_ok-start.ensures.reads (Ref TermPart ∷ κ)) (c.in_err-right.ensures.reads κ h) c.from_residual-in_err-right.ensures.1

pub equation-returns-clause-reads : goal.equation-returns-clause-reads
equation-returns-clause-reads t c κ h = seq (kinds_of c.args.tokens.now) c.args.sign (Tok Equal) (Ref TermPart) κ ∙ c.in_ok-start.ensures.reads (Ref TermPart ∷ κ) ∙ c.in_ok-right.ensures.reads κ h

pub equation-returns-clause-tree : goal.equation-returns-clause-tree
equation-returns-clause-tree t c = λ start left. equation_read _ _ _ _ _ _ _ _ _ c.in_ok-left.ensures.ok c.in_ok-right-2.ensures.ok left c.in_ok-start.ensures.found c.in_ok-right.ensures.tree

pub items-returns-then-not-begins_list-clause-reads : goal.items-returns-then-not-begins_list-clause-reads
items-returns-then-not-begins_list-clause-reads t c κ h = opt_list_none (kinds_of c.args.tokens.now) c.args.at κ (search rules)

pub items-returns-then-not-begins_list-clause-tree : goal.items-returns-then-not-begins_list-clause-tree
items-returns-then-not-begins_list-clause-tree t c = no_item_there _ _ _ c.new.ensures

pub items-returns-clause-reads : goal.items-returns-clause-reads
items-returns-clause-reads t c κ h = onward _ _ _ _ _ κ c.list.result (opt_list_some (kinds_of c.args.tokens.now) c.args.at κ h (search rules)) (c.list.ensures.reads κ h.0)

pub items-returns-clause-tree : goal.items-returns-clause-tree
items-returns-clause-tree t c = IfOk-weaker c.list.result _ _ (λ x h. some_list h) c.list.ensures.tree

pub clause-returns-in_err-first-clause-reads : goal.clause-returns-in_err-first-clause-reads
clause-returns-in_err-first-clause-reads t c κ h = refused _ _ _ _ κ _ _ _ (clause_named (kinds_of c.args.tokens.now) c.args.at κ h (search rules) (search rules) ∙ two_behind (kinds_of c.args.tokens.now) c.args.at ((rule ∷ κ) ∷ []) ∙ rule_parts (kinds_of c.args.tokens.now) (c.args.at + 2) κ) (c.in_err-first.ensures.reads (rule_tail ∷ κ) (tail_opt_list κ)) c.from_residual.ensures.1

pub clause-returns-then-is_label_at-clause-reads : goal.clause-returns-then-is_label_at-clause-reads
clause-returns-then-is_label_at-clause-reads t c κ h = onward _ _ _ _ _ κ c.rule.result (clause_named (kinds_of c.args.tokens.now) c.args.at κ h (search rules) (search rules) ∙ two_behind (kinds_of c.args.tokens.now) c.args.at ((rule ∷ κ) ∷ []) ∙ rule_parts (kinds_of c.args.tokens.now) (c.args.at + 2) κ ∙ c.in_ok-first.ensures.reads (rule_tail ∷ κ) (tail_opt_list κ)) (c.rule.ensures.reads κ h)

pub clause-returns-then-is_label_at-clause-tree : goal.clause-returns-then-is_label_at-clause-tree
clause-returns-then-is_label_at-clause-tree t c = IfOk-weaker c.rule.result _ _ (λ x h. named_rule (name_at c.args.tokens.now c.args.at (search rules)) (search rules) h) (c.rule.ensures.tree (c.args.at + 2) c.in_ok-first.ensures.tree)

pub clause-returns-then-not-begins_list-clause-reads : goal.clause-returns-then-not-begins_list-clause-reads
clause-returns-then-not-begins_list-clause-reads t c κ h = onward _ _ _ _ _ κ c.rule-then-not-begins_list.result (clause_tail (kinds_of c.args.tokens.now) c.args.at κ (search rules)) (c.rule-then-not-begins_list.ensures.reads κ h)

pub clause-returns-then-not-begins_list-clause-tree : goal.clause-returns-then-not-begins_list-clause-tree
clause-returns-then-not-begins_list-clause-tree t c = IfOk-weaker c.rule-then-not-begins_list.result _ _ (λ x h. unnamed_rule h) (c.rule-then-not-begins_list.ensures.tree c.args.at (no_item_there _ _ _ c.new.ensures))

pub clause-returns-in_err-first-2-clause-reads : goal.clause-returns-in_err-first-2-clause-reads
clause-returns-in_err-first-2-clause-reads t c κ h = refused _ _ _ _ κ _ _ _ (clause_list (kinds_of c.args.tokens.now) c.args.at κ (search rules) (search rules)) (c.in_err-first-2.ensures.reads (Opt rule_tail ∷ κ) (closers_opt_tail κ h)) c.from_residual-in_err-first-2.ensures.1

pub clause-returns-then-begins_rule_tail-clause-reads : goal.clause-returns-then-begins_rule_tail-clause-reads
clause-returns-then-begins_rule_tail-clause-reads t c κ h = onward _ _ _ _ _ κ c.rule-then-begins_rule_tail.result (clause_list (kinds_of c.args.tokens.now) c.args.at κ (search rules) (search rules) ∙ c.in_ok-first-2.ensures.reads (Opt rule_tail ∷ κ) (closers_opt_tail κ h) ∙ list_or_rule (kinds_of c.args.tokens.now) c.in_ok-first-2.end κ h (search rules)) (c.rule-then-begins_rule_tail.ensures.reads κ h)

pub clause-returns-then-begins_rule_tail-clause-tree : goal.clause-returns-then-begins_rule_tail-clause-tree
clause-returns-then-begins_rule_tail-clause-tree t c = IfOk-weaker c.rule-then-begins_rule_tail.result _ _ (λ x h. unnamed_rule h) (c.rule-then-begins_rule_tail.ensures.tree c.args.at (some_list c.in_ok-first-2.ensures.tree))

pub clause-returns-clause-reads : goal.clause-returns-clause-reads
clause-returns-clause-reads t c κ h = clause_list (kinds_of c.args.tokens.now) c.args.at κ (search rules) (search rules) ∙ c.in_ok-first-2.ensures.reads (Opt rule_tail ∷ κ) (closers_opt_tail κ h) ∙ list_ends (kinds_of c.args.tokens.now) c.in_ok-first-2.end κ (search rules)

pub clause-returns-clause-tree : goal.clause-returns-clause-tree
clause-returns-clause-tree t c = process_read _ _ _ _ c.in_ok-first-2.ensures.tree

pub rule-returns-in_err-taken-clause-reads : goal.rule-returns-in_err-taken-clause-reads
rule-returns-in_err-taken-clause-reads t c κ h = refused _ _ _ _ κ _ _ _ (tail_backslash (kinds_of c.args.tokens.now) c.args.at κ (search rules)) (c.in_err-taken.ensures.reads (arrow ∷ κ) (arrow_opt_list κ)) c.from_residual.ensures.1

pub rule-returns-then-is_at-clause-reads : goal.rule-returns-then-is_at-clause-reads
rule-returns-then-is_at-clause-reads t c κ h = onward _ _ _ _ _ κ c.headed_rule.result (tail_backslash (kinds_of c.args.tokens.now) c.args.at κ (search rules) ∙ c.in_ok-taken.ensures.reads (arrow ∷ κ) (arrow_opt_list κ)) (c.headed_rule.ensures.reads κ h)

pub rule-returns-then-is_at-clause-tree : goal.rule-returns-then-is_at-clause-tree
rule-returns-then-is_at-clause-tree t c = λ heads first. c.headed_rule.ensures.tree heads (some_kept first (search rules) c.in_ok-taken.ensures.tree)

pub rule-returns-clause-reads : goal.rule-returns-clause-reads
rule-returns-clause-reads t c κ h = onward _ _ _ _ _ κ c.headed_rule-2.result (tail_arrow (kinds_of c.args.tokens.now) c.args.at κ (search rules)) (c.headed_rule-2.ensures.reads κ h)

pub rule-returns-clause-tree : goal.rule-returns-clause-tree
rule-returns-clause-tree t c = λ heads first. c.headed_rule-2.ensures.tree heads (all_heads_taken _ _ _ _ _ c.new-kept.ensures first)

pub headed_rule-returns-in_err-body_at-clause-reads : goal.headed_rule-returns-in_err-body_at-clause-reads
headed_rule-returns-in_err-body_at-clause-reads t c κ h = refused _ _ _ _ κ _ _ _ (seq (kinds_of c.args.tokens.now) c.args.at (Tok Arrow) body κ) (c.in_err-body_at.ensures.reads (body ∷ κ)) c.from_residual.ensures.1

pub headed_rule-returns-in_err-guard-clause-reads : goal.headed_rule-returns-in_err-guard-clause-reads
headed_rule-returns-in_err-guard-clause-reads t c κ h = refused _ _ _ _ κ _ _ _ (seq (kinds_of c.args.tokens.now) c.args.at (Tok Arrow) body κ ∙ c.in_ok-body_at.ensures.reads (body ∷ κ)) (c.in_err-guard.ensures.reads κ h) c.from_residual-in_err-guard.ensures.1

pub headed_rule-returns-clause-reads : goal.headed_rule-returns-clause-reads
headed_rule-returns-clause-reads t c κ h = seq (kinds_of c.args.tokens.now) c.args.at (Tok Arrow) body κ ∙ c.in_ok-body_at.ensures.reads (body ∷ κ) ∙ c.in_ok-guard.ensures.reads κ h

pub headed_rule-returns-clause-tree : goal.headed_rule-returns-clause-tree
headed_rule-returns-clause-tree t c = let there : c.args.start < length c.args.tokens.now = omega (arith, c.requires.start, c.in_ok-body_at.ensures.forth) in λ heads head. rule_read _ _ _ _ _ _ _ _ _ c.in_ok-node.ensures.ok (stands_there c.args.tokens.now c.args.start c.index-tokens-start.result there) (c.pos-pos.ensures ∙ ap (λ t. t.pos) c.index-tokens-start.is) head c.in_ok-body_at.ensures.found c.in_ok-guard.ensures.tree

pub membrane-returns-in_err-clauses-clause-reads : goal.membrane-returns-in_err-clauses-clause-reads
membrane-returns-in_err-clauses-clause-reads t c κ = refused _ _ _ _ κ _ _ _ (within_taken (kinds_of c.args.tokens.now) c.args.at Curly (Ref ClausesPart) κ c.requires.open) (c.in_err-clauses.ensures.reads (Tok RBrace ∷ κ) (ends_curly κ)) c.from_residual.ensures.1

pub membrane-returns-in_err-after-clause-reads : goal.membrane-returns-in_err-after-clause-reads
membrane-returns-in_err-after-clause-reads t c κ = refused _ _ _ _ κ _ _ _ (within_taken (kinds_of c.args.tokens.now) c.args.at Curly (Ref ClausesPart) κ c.requires.open ∙ c.in_ok-clauses.ensures.reads (Tok RBrace ∷ κ) (ends_curly κ)) (c.in_err-after.ensures.reads κ) c.from_residual-in_err-after.ensures.1

pub membrane-returns-clause-reads : goal.membrane-returns-clause-reads
membrane-returns-clause-reads t c κ = within_taken (kinds_of c.args.tokens.now) c.args.at Curly (Ref ClausesPart) κ c.requires.open ∙ c.in_ok-clauses.ensures.reads (Tok RBrace ∷ κ) (ends_curly κ) ∙ c.in_ok-after.ensures.reads κ

pub membrane-returns-clause-tree : goal.membrane-returns-clause-tree
membrane-returns-clause-tree t c = membrane_closed _ _ _ _ _ c.requires.open c.in_ok-clauses.ensures.tree c.in_ok-after.ensures.found

pub clauses-returns-then-not-begins_clause-clause-reads : goal.clauses-returns-then-not-begins_clause-clause-reads
clauses-returns-then-not-begins_clause-clause-reads t c κ h = clauses_none (kinds_of c.args.tokens.now) c.args.at κ (search rules)

pub clauses-returns-then-not-begins_clause-clause-tree : goal.clauses-returns-then-not-begins_clause-clause-tree
clauses-returns-then-not-begins_clause-clause-tree t c = no_clause_there _ _ _ c.new-clauses.ensures

pub clauses-returns-in_err-first-clause-reads : goal.clauses-returns-in_err-first-clause-reads
clauses-returns-in_err-first-clause-reads t c κ h = refused _ _ _ _ κ _ _ _ (clauses_some (kinds_of c.args.tokens.now) c.args.at κ h (search rules)) (c.in_err-first.ensures.reads (more_clauses ∷ κ) (closers_more κ h)) c.from_residual.ensures.1

pub clauses-more-init : goal.clauses-more-init
clauses-more-init t c = record { reads = λ κ h. clauses_some (kinds_of c.args.tokens.now) c.args.at κ h (search rules) ∙ c.in_ok-first.ensures.reads (more_clauses ∷ κ) (closers_more κ h); forth = (omega (arith, c.in_ok-first.ensures.forth.0), c.in_ok-first.ensures.forth.1); tree = clauses_first _ _ _ _ _ _ c.new-clauses.ensures c.in_ok-push.ensures.ok c.in_ok-first.ensures.tree }

pub clauses-returns-then-not-begins_clause-2-clause-reads : goal.clauses-returns-then-not-begins_clause-2-clause-reads
clauses-returns-then-not-begins_clause-2-clause-reads t c κ h = c.more.invariant.reads κ h ∙ more_stop (kinds_of c.args.tokens.now) c.more.end κ h (search rules) ∙ clauses_none (kinds_of c.args.tokens.now) (c.more.end + 1) κ (search rules)

pub clauses-returns-then-not-begins_clause-2-clause-tree : goal.clauses-returns-then-not-begins_clause-2-clause-tree
clauses-returns-then-not-begins_clause-2-clause-tree t c = clauses_stopped _ _ _ _ c.more.invariant.tree (search rules)

pub clauses-returns-in_err-next-clause-reads : goal.clauses-returns-in_err-next-clause-reads
clauses-returns-in_err-next-clause-reads t c κ h = refused _ _ _ _ κ _ _ _ (c.more.invariant.reads κ h ∙ more_stop (kinds_of c.args.tokens.now) c.more.end κ h (search rules) ∙ clauses_some (kinds_of c.args.tokens.now) (c.more.end + 1) κ h (search rules)) (c.in_err-next.ensures.reads (more_clauses ∷ κ) (closers_more κ h)) c.from_residual-in_err-next.ensures.1

pub clauses-more-preserved : goal.clauses-more-preserved
clauses-more-preserved t c = record { reads = λ κ h. c.more.invariant.reads κ h ∙ more_stop (kinds_of c.args.tokens.now) c.more.end κ h (search rules) ∙ clauses_some (kinds_of c.args.tokens.now) (c.more.end + 1) κ h (search rules) ∙ c.in_ok-next.ensures.reads (more_clauses ∷ κ) (closers_more κ h); forth = (omega (arith, c.more.invariant.forth.0, c.in_ok-next.ensures.forth.0), c.in_ok-next.ensures.forth.1); tree = clauses_next _ _ _ _ _ _ _ c.more.invariant.tree (search rules) c.in_ok-next.ensures.tree c.in_ok-push-2.ensures.ok }

pub clauses-returns-clause-reads : goal.clauses-returns-clause-reads
clauses-returns-clause-reads t c κ h = c.more.invariant.reads κ h ∙ more_none (kinds_of c.args.tokens.now) c.more.end κ (search rules)

pub clauses-returns-clause-tree : goal.clauses-returns-clause-tree
clauses-returns-clause-tree t c = clauses_ended _ _ _ _ c.more.invariant.tree

pub guarded_body-returns-in_err-body-clause-reads : goal.guarded_body-returns-in_err-body-clause-reads
guarded_body-returns-in_err-body-clause-reads t c κ h = refused _ _ _ _ κ _ _ _ (body_bar (kinds_of c.args.tokens.now) c.args.at κ h (search rules)) (c.in_err-body.ensures.reads κ (closers_opt_list κ h)) c.from_residual.ensures.1

pub guarded_body-returns-then-is_at-clause-reads : goal.guarded_body-returns-then-is_at-clause-reads
guarded_body-returns-then-is_at-clause-reads t c κ h = body_bar (kinds_of c.args.tokens.now) c.args.at κ h (search rules) ∙ c.in_ok-body.ensures.reads κ (closers_opt_list κ h)

pub guarded_body-returns-then-is_at-clause-tree : goal.guarded_body-returns-then-is_at-clause-tree
guarded_body-returns-then-is_at-clause-tree t c = body_behind_bar _ _ _ _ _ c.new.ensures (search rules) c.in_ok-body.ensures.tree

pub guarded_body-returns-in_err-body-in-Ok-clause-reads : goal.guarded_body-returns-in_err-body-in-Ok-clause-reads
guarded_body-returns-in_err-body-in-Ok-clause-reads t c κ h = refused _ _ _ _ κ _ _ _ (body_guarded (kinds_of c.args.tokens.now) c.args.at c.in-Ok.start κ h (search rules) c.in-Ok.ensures.reads) (c.in_err-body-in-Ok.ensures.reads κ (closers_opt_list κ h)) c.from_residual-in_err-body-in-Ok.ensures.1

pub guarded_body-returns-in_ok-body-in-Ok-clause-reads : goal.guarded_body-returns-in_ok-body-in-Ok-clause-reads
guarded_body-returns-in_ok-body-in-Ok-clause-reads t c κ h = body_guarded (kinds_of c.args.tokens.now) c.args.at c.in-Ok.start κ h (search rules) c.in-Ok.ensures.reads ∙ c.in_ok-body-in-Ok.ensures.reads κ (closers_opt_list κ h)

pub guarded_body-returns-in_ok-body-in-Ok-clause-tree : goal.guarded_body-returns-in_ok-body-in-Ok-clause-tree
guarded_body-returns-in_ok-body-in-Ok-clause-tree t c = body_behind_guard _ _ _ _ _ _ c.in-Ok.ensures.tree c.in_ok-body-in-Ok.ensures.tree

pub guarded_body-returns-then-end-guard_stop-clause-reads : goal.guarded_body-returns-then-end-guard_stop-clause-reads
guarded_body-returns-then-end-guard_stop-clause-reads t c κ h = (body_beyond (kinds_of c.args.tokens.now) c.args.at c.in-Err-At.guard_stop c.in-Ok-items.end κ h (search rules) (guard_stops (kinds_of c.args.tokens.now) c.args.at c.in-Err-At.guard_stop c.in-Err-At.field-0 c.in-Err-At.field-0-is (λ k. c.in-Err-At.ensures.reads k)) c.in-Ok-items.ensures.reads c.if-end-guard_stop.true, stop_inside (kinds_of c.args.tokens.now) c.args.at c.in-Err-At.guard_stop _ c.in-Err-At.field-0 c.in-Err-At.field-0-is (c.in-Err-At.ensures.reads []))

pub guarded_body-returns-else-end-guard_stop-clause-reads : goal.guarded_body-returns-else-end-guard_stop-clause-reads
guarded_body-returns-else-end-guard_stop-clause-reads t c κ h = body_listed (kinds_of c.args.tokens.now) c.args.at c.in-Err-At.guard_stop c.in-Ok-items.end κ h (search rules) (guard_stops (kinds_of c.args.tokens.now) c.args.at c.in-Err-At.guard_stop c.in-Err-At.field-0 c.in-Err-At.field-0-is (λ k. c.in-Err-At.ensures.reads k)) c.in-Ok-items.ensures.reads c.if-end-guard_stop.false

pub guarded_body-returns-else-end-guard_stop-clause-tree : goal.guarded_body-returns-else-end-guard_stop-clause-tree
guarded_body-returns-else-end-guard_stop-clause-tree t c = body_alone _ _ _ _ _ c.new-in-Ok-items.ensures c.in-Ok-items.ensures.tree

pub guarded_body-returns-in-Err-At-items-clause-reads : goal.guarded_body-returns-in-Err-At-items-clause-reads
guarded_body-returns-in-Err-At-items-clause-reads t c κ h = let e = ap (max c.in-Err-At.guard_stop) (sym c.in-Err-At-items.body_stop-is) ∙ sym c.max.ensures in let le : max c.in-Err-At.guard_stop c.in-Err-At-items.body_stop ≤ reach (kinds_of c.args.tokens.now) = max_inside _ _ _ (stop_inside (kinds_of c.args.tokens.now) c.args.at c.in-Err-At.guard_stop _ c.in-Err-At.field-0 c.in-Err-At.field-0-is (c.in-Err-At.ensures.reads [])) (stop_inside (kinds_of c.args.tokens.now) c.args.at c.in-Err-At-items.body_stop _ c.in-Err-At-items.field-0 c.in-Err-At-items.field-0-is (c.in-Err-At-items.ensures.reads κ (closers_opt_list κ h))) in (body_stops (kinds_of c.args.tokens.now) c.args.at c.in-Err-At.guard_stop c.in-Err-At-items.body_stop κ h (search rules) (guard_stops (kinds_of c.args.tokens.now) c.args.at c.in-Err-At.guard_stop c.in-Err-At.field-0 c.in-Err-At.field-0-is (λ k. c.in-Err-At.ensures.reads k)) (list_stops (kinds_of c.args.tokens.now) c.args.at c.in-Err-At-items.body_stop c.in-Err-At-items.field-0 c.in-Err-At-items.field-0-is (λ k n. c.in-Err-At-items.ensures.reads k n)) ∙ e, rw (sym e) le)
