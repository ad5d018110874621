use Rattle.std.proofs.Common.{◌≡◌, drop}
use Rattle.std.specs.List.{list_any}
use Rattle.lmn_weight.specs.Plains as plains
use Rattle.lmn_weight.proofs.bounding.has_int_use.Given as goal

abbrev pub invariant-loop-typed : goal.invariant-loop-typed
invariant-loop-typed l = list_any (plains.is_int_use l.name) (drop l.typed-index l.kinds) ≡ list_any (plains.is_int_use l.name) l.kinds
