use Rattle.std.proofs.Common.{◌≡◌, ◌+◌, ◌-◌, ◌*◌, ◌≤◌, ◌<◌, length}
use Rattle.std.proofs.Common.{[], ◌∷◌}
use Rattle.lmn_parser_grammar.specs.Grammar.{Ref, Many, ◌·◌, SumPart, fact, product}
use Rattle.lmn_parser_grammar.specs.Factored.{plus, product_sign}
use Rattle.lmn_parser_grammar.specs.Reading.{Owed, stop_at, EndsSum, EndsProduct}
use Rattle.lmn_parser.specs.Parsing.{kinds_of}
use Rattle.lmn_parser.specs.Outcomes.{reach}
use Rattle.lmn_parser.specs.Syntax.{expr_of}
use Rattle.lmn_parser.specs.Trees.{IsSum, IsProduct}
use Rattle.lmn_parser.proofs.expression.+expressions.Given as goal

abbrev pub decreases-factor : goal.decreases-factor
decreases-factor l = 10 * (length l.tokens.now - l.at) + 0

abbrev pub decreases-product : goal.decreases-product
decreases-product l = 10 * (length l.tokens.now - l.at) + 1

abbrev pub decreases-sum : goal.decreases-sum
decreases-sum l = 10 * (length l.tokens.now - l.at) + 2

abbrev pub decreases-sum-more : goal.decreases-sum-more
decreases-sum-more l = length l.tokens - l.end

abbrev pub invariant-sum-more : goal.invariant-sum-more
invariant-sum-more l = record {
  reads : (κ : Owed) → EndsSum κ → stop_at (kinds_of l.tokens) l.at ((Ref SumPart ∷ κ) ∷ []) ≡ stop_at (kinds_of l.tokens) l.end ((Many (plus · product) ∷ κ) ∷ []);
  forth : (l.at < l.end) × (l.end ≤ reach (kinds_of l.tokens));
  tree : IsSum l.tokens (expr_of l.left) l.at l.end;
}

abbrev pub decreases-product-more : goal.decreases-product-more
decreases-product-more l = length l.tokens - l.end

abbrev pub invariant-product-more : goal.invariant-product-more
invariant-product-more l = record {
  reads : (κ : Owed) → EndsProduct κ → stop_at (kinds_of l.tokens) l.at ((product ∷ κ) ∷ []) ≡ stop_at (kinds_of l.tokens) l.end ((Many (product_sign · fact) ∷ κ) ∷ []);
  forth : (l.at < l.end) × (l.end ≤ reach (kinds_of l.tokens));
  tree : IsProduct l.tokens (expr_of l.left) l.at l.end;
}
