use Rattle.std.proofs.Common.{◌≡◌, ◌++◌, map, drop}
use Rattle.lmn_base.specs.declared.solid.Region.TheViews.{out-Region}
use Rattle.lmn_solid_tables.specs.Building.{entered}
use Rattle.lmn_solid_tables.proofs.building.push_inner.Given as goal

-- the membranes from one on are on the stack
abbrev pub invariant-loop-i : goal.invariant-loop-i
invariant-loop-i l =
    map (λ e. (e.0.now, e.1)) l.waiting.items ≡ map (λ e. (e.0.now, e.1)) l.fn.waiting.items ++ entered l.number (drop l.i (out-Region l.region).membranes)
