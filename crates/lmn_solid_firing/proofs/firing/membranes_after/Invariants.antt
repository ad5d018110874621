use Rattle.std.proofs.Common.{ℕ}
use Rattle.std.specs.List.{AllByRecursion}
use Rattle.lmn_store_heap.specs.Heap.{IsMem, mems_in}
use Rattle.lmn_store_heap.specs.Sound.{Forest, Forms}
use Rattle.lmn_solid_settle.specs.Raw.{laid}
use Rattle.lmn_solid_tables.specs.Flats.{heap_of}
use Rattle.lmn_solid_firing.specs.Making.{Ends, LeftForms, WaitsFor, fired_region, home_region, level_made}
use Rattle.lmn_solid_firing.proofs.firing.membranes_after.Given as goal

-- what waits gives the rest of the table
abbrev pub invariant-loop : goal.invariant-loop
invariant-loop l = record {
  there : AllByRecursion (λ e. IsMem (heap_of l.flat) e.0) l.waiting.items;
  ends : (left : ℕ → Forest) → Ends l.flat l.taken left l.body l.start l.end;
  gives : (left : ℕ → Forest) → LeftForms l.flat l.taken left → (inner : Forest) → Forms (heap_of l.flat) inner (mems_in (heap_of l.flat) 0) →
      let made = home_region l.flat l.taken left (level_made l.flat l.taken left l.body) l.start in
      WaitsFor l.flat l.taken.home made l.rows.items l.waiting.items (laid 0 0 (fired_region l.flat l.taken.home made 0 inner));
}
