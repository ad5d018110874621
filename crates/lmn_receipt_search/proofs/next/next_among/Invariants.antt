use Rattle.lmn_solid_tables.specs.Flats.{heap_of}
use Rattle.lmn_solid_search.specs.Holding.{HasRoom}
use Rattle.lmn_receipt_search.specs.Turns.{NoneBefore}
use Rattle.lmn_receipt_search.proofs.next.next_among.Given as goal

abbrev pub invariant-loop-turn : goal.invariant-loop-turn
invariant-loop-turn l = record {
  room : HasRoom (heap_of l.flat) l.room;
  none : NoneBefore l.plain.rules l.plans (heap_of l.flat) l.start l.count l.turn;
}
