use Rattle.std.proofs.Common.{ℕ, List, [], ◌∷◌}
use Rattle.std.specs.List.{AllByRecursion}
use Rattle.lmn_store_heap.specs.Heap.{arity_of}
use Rattle.lmn_ground_parts.specs.Walks.{port_range}
use Rattle.lmn_solid_tables.specs.Flats.{heap_of, port_by}
use Rattle.lmn_solid_firing.specs.Pieces.{IsPort, Tells, WalkIn, stacked}
use Rattle.lmn_solid_firing.proofs.walk.in_depth.Given as goal

-- what is left of the walk gives the whole
abbrev pub invariant-loop : goal.invariant-loop
invariant-loop l = record {
  tells : Tells (heap_of l.flat) l.round l.marks l.atoms;
  there : AllByRecursion (IsPort (heap_of l.flat)) l.waiting.items;
  walk : (all : List ℕ) → WalkIn (heap_of l.flat) (port_by l.root) l.atoms (stacked l.waiting.items) all →
      WalkIn (heap_of l.flat) (port_by l.root) (l.root.atom ∷ []) (port_range l.root.atom 0 (arity_of (heap_of l.flat) l.root.atom)) all;
}
