use Rattle.std.proofs.Common.{◌≡◌, map}
use Rattle.lmn_solid_tables.specs.Building.{no_tables, none, trees_of, visited, visited_waiting, waiting_size}
use Rattle.lmn_solid_tables.proofs.building.Listing.of.Given as goal

-- what waits gives the rest of the tables
abbrev pub invariant-loop-region : goal.invariant-loop-region
invariant-loop-region l =
    visited_waiting (map (λ e. (e.0.now, e.1)) l.waiting.items) (record { atoms = l.listing.atoms.items; membranes = l.listing.membranes.items }) ≡ visited (trees_of l.root none) 0 no_tables

abbrev pub decreases-loop-region : goal.decreases-loop-region
decreases-loop-region l = waiting_size (map (λ e. (e.0.now, e.1)) l.waiting.items)
