use Rattle.std.proofs.Common.{rules, arith, ◌∷◌, refl, ◌∙◌}
use Rattle.lmn_parser_grammar.specs.Grammar.{Tok, Many, Ref, SumPart, ◌·◌, fact, product}
use Rattle.lmn_parser_grammar.specs.Factored.{plus, product_sign}
use Rattle.lmn_lexer.specs.declared.token.Kind.TheVariants.{RParen}
use Rattle.lmn_parser_grammar.proofs.Terms.{fact_int, fact_context, times_more, times_done, plus_more, plus_done, sum_ref, product_parts, ends_product}
use Rattle.lmn_parser.specs.Parsing.{kinds_of}
use Rattle.lmn_parser.specs.Trees.{one_product, one_factor}
use Rattle.lmn_parser.proofs.BuiltExpressions.{factor_integer, factor_value, factor_round, product_times, sum_plus}
use Rattle.lmn_parser.proofs.Onward.{refused}
use Rattle.lmn_parser.proofs.Decisions.{fact_round}
use Rattle.lmn_parser.proofs.expression.+expressions.Goals as goal

pub factor-returns-then-is_at-clause-reads : goal.factor-returns-then-is_at-clause-reads
factor-returns-then-is_at-clause-reads t c κ = fact_int (kinds_of c.args.tokens.now) c.args.at κ (search rules)

pub factor-returns-then-is_at-2-clause-reads : goal.factor-returns-then-is_at-2-clause-reads
factor-returns-then-is_at-2-clause-reads t c κ = fact_context (kinds_of c.args.tokens.now) c.args.at κ (search rules)

pub factor-returns-in_err-start-clause-reads : goal.factor-returns-in_err-start-clause-reads
factor-returns-in_err-start-clause-reads t c κ = refused _ _ _ _ κ _ _ _ (fact_round (kinds_of c.args.tokens.now) c.args.at κ (search rules) (search rules)) (c.in_err-start.ensures.reads (Ref SumPart ∷ Tok RParen ∷ κ)) c.from_residual.ensures.1

pub factor-returns-in_err-inner-clause-reads : goal.factor-returns-in_err-inner-clause-reads
factor-returns-in_err-inner-clause-reads t c κ = refused _ _ _ _ κ _ _ _ (fact_round (kinds_of c.args.tokens.now) c.args.at κ (search rules) (search rules) ∙ c.in_ok-start.ensures.reads (Ref SumPart ∷ Tok RParen ∷ κ)) (c.in_err-inner.ensures.reads (Tok RParen ∷ κ) (refl, refl, refl, refl, refl)) c.from_residual-in_err-inner.ensures.1

pub factor-returns-in_err-after-clause-reads : goal.factor-returns-in_err-after-clause-reads
factor-returns-in_err-after-clause-reads t c κ = refused _ _ _ _ κ _ _ _ (fact_round (kinds_of c.args.tokens.now) c.args.at κ (search rules) (search rules) ∙ c.in_ok-start.ensures.reads (Ref SumPart ∷ Tok RParen ∷ κ) ∙ c.in_ok-inner.ensures.reads (Tok RParen ∷ κ) (refl, refl, refl, refl, refl)) (c.in_err-after.ensures.reads κ) c.from_residual-in_err-after.ensures.1

pub factor-returns-clause-reads : goal.factor-returns-clause-reads
factor-returns-clause-reads t c κ = fact_round (kinds_of c.args.tokens.now) c.args.at κ (search rules) (search rules) ∙ c.in_ok-start.ensures.reads (Ref SumPart ∷ Tok RParen ∷ κ) ∙ c.in_ok-inner.ensures.reads (Tok RParen ∷ κ) (refl, refl, refl, refl, refl) ∙ c.in_ok-after.ensures.reads κ

pub product-returns-in_err-first-clause-reads : goal.product-returns-in_err-first-clause-reads
product-returns-in_err-first-clause-reads t c κ h = refused _ _ _ _ κ _ _ _ (product_parts (kinds_of c.args.tokens.now) c.args.at κ) (c.in_err-first.ensures.reads (Many (product_sign · fact) ∷ κ)) c.from_residual.ensures.1

pub product-more-init : goal.product-more-init
product-more-init t c = record { reads = λ κ h. product_parts (kinds_of c.args.tokens.now) c.args.at κ ∙ c.in_ok-first.ensures.reads (Many (product_sign · fact) ∷ κ); forth = c.in_ok-first.ensures.forth; tree = one_factor c.in_ok-first.ensures.tree }

pub product-returns-in_err-right-clause-reads : goal.product-returns-in_err-right-clause-reads
product-returns-in_err-right-clause-reads t c κ h = refused _ _ _ _ κ _ _ _ (c.more.invariant.reads κ h ∙ times_more (kinds_of c.args.tokens.now) c.more.end κ h (search rules)) (c.in_err-right.ensures.reads (Many (product_sign · fact) ∷ κ)) c.from_residual-in_err-right.ensures.1

pub product-more-preserved : goal.product-more-preserved
product-more-preserved t c = record { reads = λ κ h. c.more.invariant.reads κ h ∙ times_more (kinds_of c.args.tokens.now) c.more.end κ h (search rules) ∙ c.in_ok-right.ensures.reads (Many (product_sign · fact) ∷ κ); forth = (omega (arith, c.more.invariant.forth.0, c.in_ok-right.ensures.forth.0), c.in_ok-right.ensures.forth.1); tree = product_times _ _ _ _ _ _ _ _ c.more.invariant.tree c.in-Some.ensures.operator c.in_ok-right.ensures.tree c.in_ok-left.ensures }

pub product-returns-clause-reads : goal.product-returns-clause-reads
product-returns-clause-reads t c κ h = c.more.invariant.reads κ h ∙ times_done (kinds_of c.args.tokens.now) c.more.end κ (search rules)

pub sum-returns-in_err-first-clause-reads : goal.sum-returns-in_err-first-clause-reads
sum-returns-in_err-first-clause-reads t c κ h = refused _ _ _ _ κ _ _ _ (sum_ref (kinds_of c.args.tokens.now) c.args.at κ) (c.in_err-first.ensures.reads (Many (plus · product) ∷ κ) (ends_product κ h)) c.from_residual.ensures.1

pub sum-more-init : goal.sum-more-init
sum-more-init t c = record { reads = λ κ h. sum_ref (kinds_of c.args.tokens.now) c.args.at κ ∙ c.in_ok-first.ensures.reads (Many (plus · product) ∷ κ) (ends_product κ h); forth = c.in_ok-first.ensures.forth; tree = one_product c.in_ok-first.ensures.tree }

pub sum-returns-in_err-right-clause-reads : goal.sum-returns-in_err-right-clause-reads
sum-returns-in_err-right-clause-reads t c κ h = refused _ _ _ _ κ _ _ _ (c.more.invariant.reads κ h ∙ plus_more (kinds_of c.args.tokens.now) c.more.end κ h (search rules)) (c.in_err-right.ensures.reads (Many (plus · product) ∷ κ) (ends_product κ h)) c.from_residual-in_err-right.ensures.1

pub sum-more-preserved : goal.sum-more-preserved
sum-more-preserved t c = record { reads = λ κ h. c.more.invariant.reads κ h ∙ plus_more (kinds_of c.args.tokens.now) c.more.end κ h (search rules) ∙ c.in_ok-right.ensures.reads (Many (plus · product) ∷ κ) (ends_product κ h); forth = (omega (arith, c.more.invariant.forth.0, c.in_ok-right.ensures.forth.0), c.in_ok-right.ensures.forth.1); tree = sum_plus _ _ _ _ _ _ _ _ c.more.invariant.tree c.in-Some.ensures.operator c.in_ok-right.ensures.tree c.in_ok-left.ensures }

pub sum-returns-clause-reads : goal.sum-returns-clause-reads
sum-returns-clause-reads t c κ h = c.more.invariant.reads κ h ∙ plus_done (kinds_of c.args.tokens.now) c.more.end κ (search rules)

pub factor-returns-then-is_at-clause-tree : goal.factor-returns-then-is_at-clause-tree
factor-returns-then-is_at-clause-tree t c = factor_integer c.args.tokens.now c.args.at (search rules)

pub factor-returns-then-is_at-2-clause-tree : goal.factor-returns-then-is_at-2-clause-tree
factor-returns-then-is_at-2-clause-tree t c = factor_value c.args.tokens.now c.args.at (search rules)

pub factor-returns-clause-tree : goal.factor-returns-clause-tree
factor-returns-clause-tree t c = factor_round _ _ _ _ _ _ c.in_ok-start.ensures.found c.in_ok-inner.ensures.tree c.in_ok-after.ensures.found
