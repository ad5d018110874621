use Rattle.std.proofs.Common.{◌≤◌, ◌↔◌}
use Rattle.lmn_solid_tables.specs.Flats.{IsWithin, heap_of}
use Rattle.lmn_solid_tables.proofs.flat.Flat.is_within.Given as goal

-- whether the membrane stands in the other one is whether what has been reached does
abbrev pub invariant-loop-at : goal.invariant-loop-at
invariant-loop-at l = record {
  at_most : l.at ≤ l.membrane;
  same : IsWithin (heap_of l.self) l.membrane l.outer ↔ IsWithin (heap_of l.self) l.at l.outer;
}

abbrev pub decreases-loop-at : goal.decreases-loop-at
decreases-loop-at l = l.at
