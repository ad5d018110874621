use Rattle.std.proofs.Common.{◌+◌, ◌++◌, List, drop}
use Rattle.lmn_solid_firing.specs.declared.match_.Part.{Part}
use Rattle.lmn_solid_tables.specs.Flats.{heap_of}
use Rattle.lmn_solid_search.specs.Finding.{port_at}
use Rattle.lmn_solid_firing.specs.Pieces.{AreParts, Before}
use Rattle.lmn_solid_firing.proofs.parts.parts_named.Given as goal

-- what is left of the parts gives the whole
abbrev pub invariant-loop-number : goal.invariant-loop-number
invariant-loop-number l = record {
  before : Before (heap_of l.flat) (l.number + 1) l.marks.items;
  parts : (rest : List Part) → AreParts l.flat (port_at l.ports) l.number (drop l.number l.names) rest → AreParts l.flat (port_at l.ports) 0 l.names (l.parts ++ rest);
}
