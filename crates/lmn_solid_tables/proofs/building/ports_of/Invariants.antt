use Rattle.std.proofs.Common.{◌≡◌, [], drop}
use Rattle.lmn_solid_tables.specs.Building.{all_ports_added, links_of_atoms, GoesOn}
use Rattle.lmn_solid_tables.proofs.building.ports_of.Given as goal

-- what is left gives the same ports, and its links go on with the next numbers
abbrev pub invariant-loop-number : goal.invariant-loop-number
invariant-loop-number l = record {
  rest : all_ports_added l.ports.items l.number (drop l.number l.atoms) ≡ all_ports_added [] 0 l.atoms;
  goes_on : GoesOn l.ports.items (links_of_atoms (drop l.number l.atoms));
}
