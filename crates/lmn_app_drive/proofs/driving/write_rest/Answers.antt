use Rattle.std.proofs.Common.{◌≡◌, ◌∙◌, subst}
use Rattle.lmn_io.specs.Writing.{WritesText}
use Rattle.lmn_app_runs.specs.Runs.{end_line, word_of_stop}
use Rattle.lmn_app_drive.proofs.Writings.{rest_broke, rest_written}
use Rattle.lmn_app_drive.proofs.driving.write_rest.Goals as goal

pub returns-in_err-write_traced-clause-writes : goal.returns-in_err-write_traced-clause-writes
returns-in_err-write_traced-clause-writes g c =
    rest_broke c.args.options.now.folded c.args.names.now c.args.plain.now.rules (g.S.LinkStore.heap c.args.engine.now.machine.store) c.args.options.now.trace (word_of_stop c.args.stop) c.args.engine.now.commits _ _ c.from_residual.result
    (g.O.Sink.told c.args.out.now) (g.O.Sink.faults c.args.out.now) (g.O.Sink.told c.write_traced.new.out) (g.O.Sink.faults c.write_traced.new.out) c.from_residual.ensures.1 c.in_err-write_traced.ensures.writes

pub returns-clause-writes : goal.returns-clause-writes
returns-clause-writes g c =
    let word = word_of_stop c.args.stop in
    let commits : c.commits.result ≡ c.args.engine.now.commits = c.commits.ensures ∙ (λ i. (c.write_traced.ensures.keeps i).commits) in
    let mid = g.O.Sink.told c.write_traced.new.out in
    let new = g.O.Sink.told c.write_end.new.out in
    rest_written c.args.options.now.folded c.args.names.now c.args.plain.now.rules (g.S.LinkStore.heap c.args.engine.now.machine.store) c.args.options.now.trace word c.args.engine.now.commits _ c.write_end.result
    (g.O.Sink.told c.args.out.now) mid new (g.O.Sink.faults c.args.out.now) (g.O.Sink.faults c.write_traced.new.out) (g.O.Sink.faults c.write_end.new.out) c.in_ok-write_traced.ensures.writes
    (subst (λ n. WritesText (end_line word n) c.write_end.result mid (g.O.Sink.faults c.write_traced.new.out) new (g.O.Sink.faults c.write_end.new.out)) commits c.write_end.ensures)
