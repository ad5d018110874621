use Rattle.std.proofs.Common.{◌≡◌, drop}
use Rattle.std.specs.List.{list_all}
use Rattle.lmn_weight.specs.Plains as plains
use Rattle.lmn_weight.proofs.bounding.own_closed_once.Given as goal

abbrev pub invariant-loop-context : goal.invariant-loop-context
invariant-loop-context l = list_all (plains.closed_once l.body) (drop l.context-index l.contexts) ≡ list_all (plains.closed_once l.body) l.contexts
