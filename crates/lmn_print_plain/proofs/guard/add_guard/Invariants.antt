use Rattle.std.specs.Prelude.{codes, false}
use Rattle.lmn_io.specs.Gathering.{output}
use Rattle.lmn_print_plain.specs.Parts.{condition_text}
use Rattle.lmn_print_plain.proofs.RowLemmas.{InRow}
use Rattle.lmn_print_plain.proofs.guard.add_guard.Given as goal

abbrev pub invariant-loop-condition : goal.invariant-loop-condition
invariant-loop-condition g l =
    InRow (codes ", ") false (condition_text l.names) l.guard l.condition-index l.any (output l.initial.buffer (g.O.Sink.told l.initial.out) (g.O.Sink.faults l.initial.out)) (output l.buffer (g.O.Sink.told l.out) (g.O.Sink.faults l.out))
