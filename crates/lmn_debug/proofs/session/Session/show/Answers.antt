use Rattle.std.proofs.Common.{false, ◌∙◌, ap, subst, sym}
use Rattle.lmn_store_heap.specs.Heap.{Unmarked}
use Rattle.lmn_store_heap.specs.Sound.{Valid}
use Rattle.lmn_io.specs.Writing.{Writes}
use Rattle.lmn_print.specs.Lines.{IsHeapLine}
use Rattle.lmn_debug.proofs.session.Session.show.Goals as goal

pub print-requires-clause-valid : goal.print-requires-clause-valid
print-requires-clause-valid g c = subst (λ s. Valid (g.S.LinkStore.heap s)) (sym c.store.ensures.value) c.requires.run.turn.valid

pub print-requires-clause-unmarked : goal.print-requires-clause-unmarked
print-requires-clause-unmarked g c = subst (λ s. Unmarked (g.S.LinkStore.heap s)) (sym c.store.ensures.value) c.requires.run.turn.unmarked

pub returns-clause-writes : goal.returns-clause-writes
returns-clause-writes g c =
    subst (λ s. Writes (IsHeapLine false c.args.names.now c.args.plain.now.rules (g.S.LinkStore.heap s)) c.print.result (g.O.Sink.told c.args.out.now) (g.O.Sink.faults c.args.out.now) (g.O.Sink.told c.print.new.sink) (g.O.Sink.faults c.print.new.sink))
    c.store.ensures.value c.print.ensures.writes

pub returns-clause-kept : goal.returns-clause-kept
returns-clause-kept g c = c.print.ensures.kept ∙ ap g.S.LinkStore.heap c.store.ensures.value
