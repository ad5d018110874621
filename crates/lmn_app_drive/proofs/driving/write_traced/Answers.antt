use Rattle.lmn_app_drive.proofs.Writings.{line_traced, nothing_traced}
use Rattle.lmn_app_drive.proofs.driving.write_traced.Goals as goal

pub returns-then-trace-clause-writes : goal.returns-then-trace-clause-writes
returns-then-trace-clause-writes g c =
    line_traced c.args.folded c.args.names.now c.args.plain.now.rules (g.S.LinkStore.heap c.args.engine.now.machine.store) c.args.trace c.write_process.result (g.O.Sink.told c.args.out.now) (g.O.Sink.faults c.args.out.now)
    (g.O.Sink.told c.write_process.new.out) (g.O.Sink.faults c.write_process.new.out) c.if-trace.true c.write_process.ensures.writes

pub returns-else-trace-clause-writes : goal.returns-else-trace-clause-writes
returns-else-trace-clause-writes g c =
    nothing_traced c.args.folded c.args.names.now c.args.plain.now.rules (g.S.LinkStore.heap c.args.engine.now.machine.store) c.args.trace _ (g.O.Sink.told c.args.out.now) (g.O.Sink.faults c.args.out.now) c.if-trace.false
