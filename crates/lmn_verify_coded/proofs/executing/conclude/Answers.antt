use Rattle.std.proofs.Common.{subst, sym}
use Rattle.lmn_verify_coded.specs.Steps.{EndIsWritten}
use Rattle.lmn_verify_coded.proofs.Endings.{broken_off, concluded}
use Rattle.lmn_verify_coded.proofs.executing.conclude.Goals as goal

pub returns-in-Ok-clause-wrote : goal.returns-in-Ok-clause-wrote
returns-in-Ok-clause-wrote g c =
    let names = c.args.names.now in
    let table = c.args.plain.now.rules in
    let h = g.S.LinkStore.heap c.args.coded.now.machine.store in
    let n = c.args.coded.now.commits in
    let old = g.O.Sink.told c.args.out.now in
    let new = g.O.Sink.told c.write_last.new.out in
    subst (λ end. EndIsWritten names table h c.args.why n end old new) (sym c.from.ensures)
    (concluded names table h c.heaps_have_one_line.ensures.some c.requires.run.turn.valid c.args.why n old new (g.O.Sink.faults c.args.out.now) (g.O.Sink.faults c.write_last.new.out) _ c.in-Ok.ensures.writes)

pub returns-in-Err-clause-wrote : goal.returns-in-Err-clause-wrote
returns-in-Err-clause-wrote g c =
    broken_off c.args.names.now c.args.plain.now.rules (g.S.LinkStore.heap c.args.coded.now.machine.store) c.heaps_have_one_line.ensures.some c.requires.run.turn.valid c.args.why c.args.coded.now.commits
    (g.O.Sink.told c.args.out.now) (g.O.Sink.told c.write_last.new.out) (g.O.Sink.faults c.args.out.now) (g.O.Sink.faults c.write_last.new.out) _ c.in-Err.ensures.writes
