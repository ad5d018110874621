use Rattle.std.proofs.Common.{rules, arith, ◌+◌, ◌∷◌, refl, ◌∙◌}
use Rattle.lmn_parser_grammar.specs.Grammar.{Tok, more_of}
use Rattle.lmn_lexer.specs.declared.token.Kind.TheVariants.{Context, RParen}
use Rattle.lmn_parser_grammar.proofs.SameLanguage.{seq}
use Rattle.lmn_parser_grammar.proofs.Choices.{more_taken, more_done}
use Rattle.lmn_parser_grammar.proofs.Terms.{contexts_some, contexts_none}
use Rattle.lmn_parser.specs.Parsing.{kinds_of}
use Rattle.lmn_parser.proofs.BuiltGuards.{contexts_first, contexts_next, no_context, contexts_closed}
use Rattle.lmn_parser.proofs.Onward.{refused}
use Rattle.lmn_parser.proofs.Places.{context_not_end}
use Rattle.lmn_parser.proofs.guard.contexts.Goals as goal

pub returns-then-not-is_at-clause-reads : goal.returns-then-not-is_at-clause-reads
returns-then-not-is_at-clause-reads c κ h = contexts_none (kinds_of c.args.tokens.now) c.args.at κ (search rules)

pub returns-in_err-after-clause-reads : goal.returns-in_err-after-clause-reads
returns-in_err-after-clause-reads c κ h = refused _ _ _ _ κ _ _ _ (contexts_some (kinds_of c.args.tokens.now) c.args.at κ h (search rules) ∙ seq (kinds_of c.args.tokens.now) (c.args.at + 1) (Tok Context) (more_of (Tok Context)) (Tok RParen ∷ κ)) (c.in_err-after.ensures.reads (more_of (Tok Context) ∷ Tok RParen ∷ κ)) c.from_residual.ensures.1

pub more-init : goal.more-init
more-init c = record { reads = λ κ h. contexts_some (kinds_of c.args.tokens.now) c.args.at κ h (search rules) ∙ seq (kinds_of c.args.tokens.now) (c.args.at + 1) (Tok Context) (more_of (Tok Context)) (Tok RParen ∷ κ) ∙ c.in_ok-after.ensures.reads (more_of (Tok Context) ∷ Tok RParen ∷ κ); forth = (omega (arith, c.in_ok-after.ensures.forth.0), c.in_ok-after.ensures.inside context_not_end); tree = contexts_first _ _ _ _ _ c.new-found.ensures c.in_ok-push.ensures.ok c.in_ok-after.ensures.found }

pub returns-in_err-after-2-clause-reads : goal.returns-in_err-after-2-clause-reads
returns-in_err-after-2-clause-reads c κ h = refused _ _ _ _ κ _ _ _ (c.more.invariant.reads κ h ∙ more_taken (kinds_of c.args.tokens.now) c.more.end (Tok Context) (Tok RParen ∷ κ) (search rules) refl) (c.in_err-after-2.ensures.reads (more_of (Tok Context) ∷ Tok RParen ∷ κ)) c.from_residual-in_err-after-2.ensures.1

pub more-preserved : goal.more-preserved
more-preserved c = record { reads = λ κ h. c.more.invariant.reads κ h ∙ more_taken (kinds_of c.args.tokens.now) c.more.end (Tok Context) (Tok RParen ∷ κ) (search rules) refl ∙ c.in_ok-after-2.ensures.reads (more_of (Tok Context) ∷ Tok RParen ∷ κ); forth = (omega (arith, c.more.invariant.forth.0, c.in_ok-after-2.ensures.forth.0), c.in_ok-after-2.ensures.inside context_not_end); tree = contexts_next _ _ _ _ _ _ c.more.invariant.tree (search rules) c.in_ok-after-2.ensures.found c.in_ok-push-2.ensures.ok }

pub returns-in_err-after-3-clause-reads : goal.returns-in_err-after-3-clause-reads
returns-in_err-after-3-clause-reads c κ h = refused _ _ _ _ κ _ _ _ (c.more.invariant.reads κ h ∙ more_done (kinds_of c.args.tokens.now) c.more.end (Tok Context) (Tok RParen ∷ κ) (search rules)) (c.in_err-after-3.ensures.reads κ) c.from_residual-in_err-after-3.ensures.1

pub returns-clause-reads : goal.returns-clause-reads
returns-clause-reads c κ h = c.more.invariant.reads κ h ∙ more_done (kinds_of c.args.tokens.now) c.more.end (Tok Context) (Tok RParen ∷ κ) (search rules) ∙ c.in_ok-after-3.ensures.reads κ

pub returns-then-not-is_at-clause-tree : goal.returns-then-not-is_at-clause-tree
returns-then-not-is_at-clause-tree c = no_context _ _ _ c.new-found.ensures

pub returns-clause-tree : goal.returns-clause-tree
returns-clause-tree c = contexts_closed _ _ _ _ _ (search rules) c.more.invariant.tree c.in_ok-after-3.ensures.found
