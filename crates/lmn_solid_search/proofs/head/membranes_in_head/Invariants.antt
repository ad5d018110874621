use Rattle.std.proofs.Common.{◌≡◌, ◌++◌, drop, map}
use Rattle.lmn_solid_heads.specs.Heads.{membranes_of}
use Rattle.lmn_solid_search.specs.Taking.{kept_membrane}
use Rattle.lmn_solid_search.proofs.head.membranes_in_head.Given as goal

abbrev pub invariant-loop-item : goal.invariant-loop-item
invariant-loop-item l = l.membranes ++ map kept_membrane (membranes_of (drop l.item-index l.items)) ≡ map kept_membrane (membranes_of l.items)
