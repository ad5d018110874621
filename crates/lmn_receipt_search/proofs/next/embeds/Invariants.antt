use Rattle.lmn_solid_tables.specs.Flats.{heap_of}
use Rattle.lmn_solid_search.specs.Holding.{HasRoom}
use Rattle.lmn_receipt_search.specs.Turns.{NoneBefore}
use Rattle.lmn_receipt_search.proofs.next.embeds.Given as goal

abbrev pub invariant-loop-membrane : goal.invariant-loop-membrane
invariant-loop-membrane l = record {
  room : HasRoom (heap_of l.flat) l.room;
  none : NoneBefore l.plain.rules l.plans (heap_of l.flat) 0 l.count l.membrane;
}
