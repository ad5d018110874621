use Rattle.lmn_weight.specs.Plains as plains
use Rattle.lmn_weight.proofs.BoundLemmas.{contexts_inside}
use Rattle.lmn_weight.proofs.bounding.+all_closed_once.Goals as goal

pub loop-inner-init : goal.loop-inner-init
loop-inner-init t c = contexts_inside (plains.closed_once c.args.body.now) c.args.level.now c.as_slice.result.now c.as_slice-inner-items.result.now c.own_closed_once.result c.own_closed_once.ensures c.as_slice.ensures c.if-not-own_closed_once.false c.as_slice-inner-items.ensures
