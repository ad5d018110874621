use Rattle.std.proofs.Common.{subst}
use Rattle.lmn_io.specs.Writing.{Writes, WritesText}
use Rattle.lmn_app_runs.specs.Runs.{end_line, word_of_stop}
use Rattle.lmn_verify_coded.specs.Steps.{IsLastText}
use Rattle.lmn_verify_coded.proofs.Endings.{last_written, line_failed}
use Rattle.lmn_verify_coded.proofs.executing.write_last.Goals as goal

pub returns-in_err-print-clause-writes : goal.returns-in_err-print-clause-writes
returns-in_err-print-clause-writes g c =
    let names = c.args.names.now in
    let table = c.args.plain.now.rules in
    let word = word_of_stop c.args.why in
    let n = c.args.coded.now.commits in
    let old = g.O.Sink.told c.args.out.now in
    let count = g.O.Sink.faults c.args.out.now in
    let new = g.O.Sink.told c.print.new.sink in
    let after = g.O.Sink.faults c.print.new.sink in
    subst (λ s. Writes (IsLastText names table (g.S.LinkStore.heap s) word n) c.from_residual.result old count new after) c.store.ensures.value
    (line_failed names table (g.S.LinkStore.heap c.store.result.now) word n _ _ c.from_residual.result old count new after c.from_residual.ensures.1 c.in_err-print.ensures.writes)

pub returns-clause-writes : goal.returns-clause-writes
returns-clause-writes g c =
    let names = c.args.names.now in
    let table = c.args.plain.now.rules in
    let word = word_of_stop c.args.why in
    let n = c.args.coded.now.commits in
    let old = g.O.Sink.told c.args.out.now in
    let count = g.O.Sink.faults c.args.out.now in
    let mid = g.O.Sink.told c.print.new.sink in
    let between = g.O.Sink.faults c.print.new.sink in
    let new = g.O.Sink.told c.write_end.new.out in
    let after = g.O.Sink.faults c.write_end.new.out in
    subst (λ s. Writes (IsLastText names table (g.S.LinkStore.heap s) word n) c.write_end.result old count new after) c.store.ensures.value
    (last_written names table (g.S.LinkStore.heap c.store.result.now) word n _ c.write_end.result old mid new count between after c.in_ok-print.ensures.writes
    (subst (λ k. WritesText (end_line word k) c.write_end.result mid between new after) c.commits.ensures c.write_end.ensures))
