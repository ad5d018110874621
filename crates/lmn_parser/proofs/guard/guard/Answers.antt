use Rattle.std.proofs.Common.{rules, arith, ◌∷◌, refl, ◌∙◌}
use Rattle.lmn_parser_grammar.specs.Grammar.{Tok, more_of, cond}
use Rattle.lmn_lexer.specs.declared.token.Kind.TheVariants.{Bar}
use Rattle.lmn_parser_grammar.proofs.Choices.{more_taken, more_done}
use Rattle.lmn_parser_grammar.proofs.Terms.{guard_parts, ends_cond}
use Rattle.lmn_parser.specs.Parsing.{kinds_of}
use Rattle.lmn_parser.proofs.BuiltGuards.{guard_first, guard_next}
use Rattle.lmn_parser.proofs.Onward.{refused}
use Rattle.lmn_parser.proofs.guard.guard.Goals as goal

pub returns-in_err-first-clause-reads : goal.returns-in_err-first-clause-reads
returns-in_err-first-clause-reads c κ = refused _ _ _ _ κ _ _ _ (guard_parts (kinds_of c.args.tokens.now) c.args.at κ) (c.in_err-first.ensures.reads (more_of cond ∷ Tok Bar ∷ κ) (ends_cond κ)) c.from_residual.ensures.1

pub more-init : goal.more-init
more-init c = record { reads = λ κ. guard_parts (kinds_of c.args.tokens.now) c.args.at κ ∙ c.in_ok-first.ensures.reads (more_of cond ∷ Tok Bar ∷ κ) (ends_cond κ); forth = c.in_ok-first.ensures.forth; tree = guard_first _ _ _ _ _ _ c.new-conditions.ensures c.in_ok-push.ensures.ok c.in_ok-first.ensures.tree }

pub returns-in_err-next-clause-reads : goal.returns-in_err-next-clause-reads
returns-in_err-next-clause-reads c κ = refused _ _ _ _ κ _ _ _ (c.more.invariant.reads κ ∙ more_taken (kinds_of c.args.tokens.now) c.more.end cond (Tok Bar ∷ κ) (search rules) refl) (c.in_err-next.ensures.reads (more_of cond ∷ Tok Bar ∷ κ) (ends_cond κ)) c.from_residual-in_err-next.ensures.1

pub more-preserved : goal.more-preserved
more-preserved c = record { reads = λ κ. c.more.invariant.reads κ ∙ more_taken (kinds_of c.args.tokens.now) c.more.end cond (Tok Bar ∷ κ) (search rules) refl ∙ c.in_ok-next.ensures.reads (more_of cond ∷ Tok Bar ∷ κ) (ends_cond κ); forth = (omega (arith, c.more.invariant.forth.0, c.in_ok-next.ensures.forth.0), c.in_ok-next.ensures.forth.1); tree = guard_next _ _ _ _ _ _ _ c.more.invariant.tree (search rules) c.in_ok-next.ensures.tree c.in_ok-push-2.ensures.ok }

pub returns-in_err-start-clause-reads : goal.returns-in_err-start-clause-reads
returns-in_err-start-clause-reads c κ = refused _ _ _ _ κ _ _ _ (c.more.invariant.reads κ ∙ more_done (kinds_of c.args.tokens.now) c.more.end cond (Tok Bar ∷ κ) (search rules)) (c.in_err-start.ensures.reads κ) c.from_residual-in_err-start.ensures.1

pub returns-clause-reads : goal.returns-clause-reads
returns-clause-reads c κ = c.more.invariant.reads κ ∙ more_done (kinds_of c.args.tokens.now) c.more.end cond (Tok Bar ∷ κ) (search rules) ∙ c.in_ok-start.ensures.reads κ
