use Rattle.std.proofs.Common.{rules, ◌∷◌, refl, ◌∙◌}
use Rattle.lmn_parser_grammar.specs.Grammar.{Ref, SumPart, cmp}
use Rattle.lmn_parser_grammar.proofs.SameLanguage.{seq3}
use Rattle.lmn_parser_grammar.proofs.Terms.{cmp_taken, cmp_none}
use Rattle.lmn_parser.specs.Parsing.{kinds_of}
use Rattle.lmn_parser.specs.Trees.{is_compared}
use Rattle.lmn_parser.proofs.Onward.{refused}
use Rattle.lmn_parser.proofs.guard.comparison.Goals as goal

pub returns-in_err-left-clause-reads : goal.returns-in_err-left-clause-reads
returns-in_err-left-clause-reads c κ h = refused _ _ _ _ κ _ _ _ (seq3 (kinds_of c.args.tokens.now) c.args.at (Ref SumPart) cmp (Ref SumPart) κ) (c.in_err-left.ensures.reads (cmp ∷ Ref SumPart ∷ κ) (refl, refl, refl, refl, refl)) c.from_residual.ensures.1

pub returns-in_default-clause-reads : goal.returns-in_default-clause-reads
returns-in_default-clause-reads c κ h = (seq3 (kinds_of c.args.tokens.now) c.args.at (Ref SumPart) cmp (Ref SumPart) κ ∙ c.in_ok-left.ensures.reads (cmp ∷ Ref SumPart ∷ κ) (refl, refl, refl, refl, refl) ∙ cmp_none (kinds_of c.args.tokens.now) c.in_ok-left.sign (Ref SumPart ∷ κ) (search rules), c.in_ok-left.ensures.forth.1)

pub returns-in_err-right-clause-reads : goal.returns-in_err-right-clause-reads
returns-in_err-right-clause-reads c κ h = refused _ _ _ _ κ _ _ _ (seq3 (kinds_of c.args.tokens.now) c.args.at (Ref SumPart) cmp (Ref SumPart) κ ∙ c.in_ok-left.ensures.reads (cmp ∷ Ref SumPart ∷ κ) (refl, refl, refl, refl, refl) ∙ cmp_taken (kinds_of c.args.tokens.now) c.in_ok-left.sign (Ref SumPart ∷ κ) (search rules)) (c.in_err-right.ensures.reads κ h) c.from_residual-in_err-right.ensures.1

pub returns-clause-reads : goal.returns-clause-reads
returns-clause-reads c κ h = seq3 (kinds_of c.args.tokens.now) c.args.at (Ref SumPart) cmp (Ref SumPart) κ ∙ c.in_ok-left.ensures.reads (cmp ∷ Ref SumPart ∷ κ) (refl, refl, refl, refl, refl) ∙ cmp_taken (kinds_of c.args.tokens.now) c.in_ok-left.sign (Ref SumPart ∷ κ) (search rules) ∙ c.in_ok-right.ensures.reads κ h

pub returns-clause-tree : goal.returns-clause-tree
returns-clause-tree c = is_compared c.in-Some.op c.in_ok-left.ensures.tree c.in-Some.ensures.operator c.in_ok-right.ensures.tree
