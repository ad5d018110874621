use Rattle.lmn_weight.proofs.LineExamples.{one_fewer_does_not, one_more_stands_behind, others_are_alike, these_are_not}
use Rattle.lmn_weight.proofs.some_weights_are_alike.Goals as goal

pub returns : goal.returns
returns c = record { behind = one_more_stands_behind; not_behind = one_fewer_does_not; alike = others_are_alike; apart = these_are_not }
