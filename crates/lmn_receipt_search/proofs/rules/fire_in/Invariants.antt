use Rattle.std.proofs.Common.{take}
use Rattle.lmn_solid_tables.specs.Flats.{heap_of}
use Rattle.lmn_solid_search.specs.Holding.{HasRoom}
use Rattle.lmn_solid_next.specs.Choosing.{NoneOf}
use Rattle.lmn_receipt_search.proofs.rules.fire_in.Given as goal

abbrev pub invariant-loop-place : goal.invariant-loop-place
invariant-loop-place l = record {
  room : HasRoom (heap_of l.flat) l.room;
  none : NoneOf l.plain.rules l.plans (heap_of l.flat) l.membrane (take l.place l.rules);
}
