use Rattle.std.proofs.Common.{◌≡◌, ◌==◌, drop}
use Rattle.std.specs.List.{list_any}
use Rattle.lmn_weight.proofs.bounding.is_among.Given as goal

abbrev pub invariant-loop-other : goal.invariant-loop-other
invariant-loop-other l = list_any (λ m. m == l.name) (drop l.other-index l.names) ≡ list_any (λ m. m == l.name) l.names
