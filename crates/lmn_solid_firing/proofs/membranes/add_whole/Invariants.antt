use Rattle.std.proofs.Common.{ℕ, List, ◌≡◌, ◌++◌, length}
use Rattle.std.specs.List.{AllByRecursion}
use Rattle.lmn_store_heap.specs.Heap.{IsMem}
use Rattle.lmn_store_heap.specs.Sound.{Forest, Forms}
use Rattle.lmn_solid_settle.specs.Raw.{RawRegion, laid_in}
use Rattle.lmn_solid_tables.specs.Flats.{heap_of}
use Rattle.lmn_solid_firing.specs.Making.{Stand, pending, raws_at}
use Rattle.lmn_solid_firing.proofs.Wholes.{IsWhole}
use Rattle.lmn_solid_firing.proofs.membranes.add_whole.Given as goal

-- what waits gives the rest of the table
abbrev pub invariant-loop : goal.invariant-loop
invariant-loop l = record {
  there : AllByRecursion (λ e. IsMem (heap_of l.flat) e.0) l.waiting.items;
  gives : (forest : Forest) → Forms (heap_of l.flat) forest l.fn.membranes →
      (ws : List (RawRegion × ℕ)) × Stand (IsWhole l.flat l.writing) l.waiting.items ws
      × (l.rows.items ++ pending ws (length l.rows.items) ≡ l.fn.rows.items ++ laid_in l.fn.around (length l.fn.rows.items) (raws_at l.flat l.writing forest));
}
