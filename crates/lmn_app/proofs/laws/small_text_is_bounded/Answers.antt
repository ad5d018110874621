use Rattle.std.proofs.Common.{◌≡◌, arith}
use Rattle.lmn_app.specs.BoundExamples.{SmallTextIsBounded, small_weights}
use Rattle.lmn_app.specs.TextExamples.{small_text}
use Rattle.lmn_app.proofs.SmallBounds.{small_text_is_bounded, small_text_is_not_lowered}
use Rattle.lmn_app.proofs.laws.small_text_is_bounded.Goals as goal

pub returns : goal.returns
returns c =
    let bounded : SmallTextIsBounded = small_text_is_bounded c.accepted_texts.ensures c.weights_bound_commits.ensures in
    let one = c.weights_bound_or_are_refused.ensures.one in
    record {
      bounded = bounded;
      only = λ two. (let same : 1 ≡ 2 = one small_text small_weights 1 2 bounded two in omega (arith, same));
      not_lowered = small_text_is_not_lowered c.accepted_texts.ensures;
    }
