use Rattle.std.specs.Prelude.{codes}
use Rattle.lmn_io.specs.Gathering.{output}
use Rattle.lmn_print_plain.specs.Parts.{context_text}
use Rattle.lmn_print_plain.proofs.RowLemmas.{InRow}
use Rattle.lmn_print_plain.proofs.leaves.add_contexts.Given as goal

abbrev pub invariant-loop-use_ : goal.invariant-loop-use_
invariant-loop-use_ g l =
    InRow (codes ", ") l.before (context_text l.names l.sign) l.uses l.use_-index l.any (output l.initial.buffer (g.O.Sink.told l.initial.out) (g.O.Sink.faults l.initial.out)) (output l.buffer (g.O.Sink.told l.out) (g.O.Sink.faults l.out))
