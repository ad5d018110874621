use Rattle.std.proofs.Common.{Bool, sym, subst}
use Rattle.lmn_io.specs.Writing.{Writes}
use Rattle.lmn_print.specs.Lines.{IsHeapLine}
use Rattle.lmn_print.proofs.printing.print.Goals as goal

pub returns-else-folded-clause-writes : goal.returns-else-folded-clause-writes
returns-else-folded-clause-writes g c =
    subst (λ (b : Bool). Writes (IsHeapLine b c.args.names.now c.args.plain.now.rules (g.S.LinkStore.heap c.args.store.now)) c.print.result (g.O.Sink.told c.args.sink.now) (g.O.Sink.faults c.args.sink.now)
    (g.O.Sink.told c.print.new.sink) (g.O.Sink.faults c.print.new.sink)) (sym c.if-folded.false) c.print.ensures.writes
