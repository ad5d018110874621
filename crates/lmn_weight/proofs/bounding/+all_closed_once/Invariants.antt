use Rattle.std.proofs.Common.{◌≡◌, drop}
use Rattle.std.specs.List.{list_all}
use Rattle.lmn_base.specs.Levels.{contexts_of}
use Rattle.lmn_weight.specs.Plains as plains
use Rattle.lmn_weight.proofs.bounding.+all_closed_once.Given as goal

abbrev pub invariant-loop-inner : goal.invariant-loop-inner
invariant-loop-inner l = list_all (plains.closed_once l.body) (contexts_of l.level) ≡ list_all (λ m. list_all (plains.closed_once l.body) (contexts_of m)) (drop l.inner-index l.inner-items)
