use Rattle.std.proofs.Common.{[], ◌∷◌, refl, sym, ◌∙◌}
use Rattle.lmn_parser_grammar.specs.Grammar.{Tok, Ref, SumPart, cmp}
use Rattle.lmn_lexer.specs.declared.token.Kind.TheVariants.{Context}
use Rattle.lmn_parser_grammar.proofs.SameLanguage.{seq3}
use Rattle.lmn_parser_grammar.proofs.Terms.{cond_name, cond_binding, cond_differ, cond_comparison}
use Rattle.lmn_parser.specs.Parsing.{kinds_of}
use Rattle.lmn_parser.specs.Trees.{is_called, is_equal}
use Rattle.lmn_parser.proofs.BuiltGuards.{condition_differ}
use Rattle.lmn_parser.proofs.Names.{name_at}
use Rattle.lmn_parser.proofs.Onward.{onward, refused}
use Rattle.lmn_parser.proofs.Decisions.{two_behind}
use Rattle.lmn_parser.proofs.guard.condition.Goals as goal

pub returns-in_err-args-clause-reads : goal.returns-in_err-args-clause-reads
returns-in_err-args-clause-reads c κ h = refused _ _ _ _ κ _ _ _ (cond_name (kinds_of c.args.tokens.now) c.args.at κ (sym c.if-is_name_at.ensures.kind)) (c.in_err-args.ensures.reads κ h.0) c.from_residual.ensures.1

pub returns-then-is_name_at-clause-reads : goal.returns-then-is_name_at-clause-reads
returns-then-is_name_at-clause-reads c κ h = cond_name (kinds_of c.args.tokens.now) c.args.at κ (sym c.if-is_name_at.ensures.kind) ∙ c.in_ok-args.ensures.reads κ h.0

pub returns-in_err-right-clause-reads : goal.returns-in_err-right-clause-reads
returns-in_err-right-clause-reads c κ h = refused _ _ _ _ κ _ _ _ (cond_binding (kinds_of c.args.tokens.now) c.args.at κ (c.if-is_pair_at.ensures.first refl) (c.if-is_pair_at.ensures.second refl) ∙ two_behind (kinds_of c.args.tokens.now) c.args.at ((Ref SumPart ∷ κ) ∷ [])) (c.in_err-right.ensures.reads κ h.1) c.from_residual-in_err-right.ensures.1

pub returns-then-is_pair_at-clause-reads : goal.returns-then-is_pair_at-clause-reads
returns-then-is_pair_at-clause-reads c κ h = cond_binding (kinds_of c.args.tokens.now) c.args.at κ (c.if-is_pair_at.ensures.first refl) (c.if-is_pair_at.ensures.second refl) ∙ two_behind (kinds_of c.args.tokens.now) c.args.at ((Ref SumPart ∷ κ) ∷ []) ∙ c.in_ok-right.ensures.reads κ h.1

pub returns-in_err-end-clause-reads : goal.returns-in_err-end-clause-reads
returns-in_err-end-clause-reads c κ h = refused _ _ _ _ κ _ _ _ (cond_differ (kinds_of c.args.tokens.now) c.args.at κ (c.if-is_pair_at-2.ensures.first refl) (c.if-is_pair_at-2.ensures.second refl) ∙ two_behind (kinds_of c.args.tokens.now) c.args.at ((Tok Context ∷ κ) ∷ [])) (c.in_err-end.ensures.reads κ) c.from_residual-in_err-end.ensures.1

pub returns-then-is_pair_at-2-clause-reads : goal.returns-then-is_pair_at-2-clause-reads
returns-then-is_pair_at-2-clause-reads c κ h = cond_differ (kinds_of c.args.tokens.now) c.args.at κ (c.if-is_pair_at-2.ensures.first refl) (c.if-is_pair_at-2.ensures.second refl) ∙ two_behind (kinds_of c.args.tokens.now) c.args.at ((Tok Context ∷ κ) ∷ []) ∙ c.in_ok-end.ensures.reads κ

pub returns-clause-reads : goal.returns-clause-reads
returns-clause-reads c κ h = onward _ _ _ _ _ κ c.comparison.result (cond_comparison (kinds_of c.args.tokens.now) c.args.at κ (sym c.if-is_name_at.ensures.kind) (c.if-is_pair_at.ensures.other refl) (c.if-is_pair_at-2.ensures.other refl) ∙ sym (seq3 (kinds_of c.args.tokens.now) c.args.at (Ref SumPart) cmp (Ref SumPart) κ)) (c.comparison.ensures.reads κ h.1)

pub returns-then-is_name_at-clause-tree : goal.returns-then-is_name_at-clause-tree
returns-then-is_name_at-clause-tree c = is_called (name_at c.args.tokens.now c.args.at (sym c.if-is_name_at.ensures.kind)) c.in_ok-args.ensures.tree

pub returns-then-is_pair_at-clause-tree : goal.returns-then-is_pair_at-clause-tree
returns-then-is_pair_at-clause-tree c = is_equal (c.if-is_pair_at.ensures.first refl) (c.if-is_pair_at.ensures.second refl) c.in_ok-right.ensures.tree

pub returns-then-is_pair_at-2-clause-tree : goal.returns-then-is_pair_at-2-clause-tree
returns-then-is_pair_at-2-clause-tree c = condition_differ c.args.tokens.now c.args.at _ (c.if-is_pair_at-2.ensures.first refl) (c.if-is_pair_at-2.ensures.second refl) c.in_ok-end.ensures.found
