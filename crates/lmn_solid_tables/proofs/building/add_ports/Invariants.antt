use Rattle.std.proofs.Common.{◌≡◌, drop}
use Rattle.lmn_solid_tables.specs.Building.{ports_added, GoesOn}
use Rattle.lmn_solid_tables.proofs.building.add_ports.Given as goal

-- what is left gives the same ports, and its links go on with the next numbers
abbrev pub invariant-loop-index : goal.invariant-loop-index
invariant-loop-index l = record {
  rest : ports_added l.ports.items l.atom l.index (drop l.index l.links) ≡ ports_added l.fn.ports.items l.atom 0 l.links;
  goes_on : GoesOn l.ports.items (drop l.index l.links);
}
