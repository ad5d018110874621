use Rattle.std.proofs.Common.{◌≡◌, ◌++◌, take, map, length}
use Rattle.std.specs.List.{range_with_len}
use Rattle.lmn_solid_tables.specs.Building.{at_home}
use Rattle.lmn_solid_tables.proofs.building.Listing.add.Given as goal

-- the atoms so far, and their numbers
abbrev pub invariant-loop-atom : goal.invariant-loop-atom
invariant-loop-atom l = record {
  atoms : l.self.atoms.items ≡ l.fn.self.atoms.items ++ map (at_home l.home) (take l.atom-index l.atom-items);
  numbers : l.atoms ≡ range_with_len (length l.fn.self.atoms.items) l.atom-index;
  same : l.self.membranes.items ≡ l.fn.self.membranes.items;
}
