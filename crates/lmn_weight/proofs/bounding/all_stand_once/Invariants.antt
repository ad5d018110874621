use Rattle.std.proofs.Common.{◌≡◌, drop}
use Rattle.std.specs.List.{list_all}
use Rattle.lmn_weight.specs.Plains as plains
use Rattle.lmn_weight.proofs.bounding.all_stand_once.Given as goal

abbrev pub invariant-loop-typed : goal.invariant-loop-typed
invariant-loop-typed l = list_all (plains.stands_once l.body) (drop l.typed-index l.kinds) ≡ list_all (plains.stands_once l.body) l.kinds
