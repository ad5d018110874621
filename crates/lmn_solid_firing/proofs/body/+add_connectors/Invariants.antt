use Rattle.std.proofs.Common.{◌≡◌, ◌++◌, drop, map}
use Rattle.std.specs.List.{flat_map}
use Rattle.lmn_solid_firing.specs.Making.{level_pairs}
use Rattle.lmn_solid_firing.proofs.body.+add_connectors.Given as goal

abbrev pub decreases-add_connectors : goal.decreases-add_connectors
decreases-add_connectors l = goal.size-add_connectors l

abbrev pub invariant-loop-inner : goal.invariant-loop-inner
invariant-loop-inner l = l.connectors ++ flat_map (λ inner. inner) (map (level_pairs l.taken) (drop l.inner-index l.inner-items)) ≡ l.fn.connectors ++ level_pairs l.taken l.level
