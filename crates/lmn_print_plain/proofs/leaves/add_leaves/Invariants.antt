use Rattle.std.specs.Prelude.{codes, false}
use Rattle.lmn_io.specs.Gathering.{output}
use Rattle.lmn_print_plain.specs.Parts.{leaf_text}
use Rattle.lmn_print_plain.proofs.RowLemmas.{InRow}
use Rattle.lmn_print_plain.proofs.leaves.add_leaves.Given as goal

abbrev pub invariant-loop-leaf : goal.invariant-loop-leaf
invariant-loop-leaf g l =
    InRow (codes ", ") false (leaf_text l.names) l.leaves l.leaf-index l.any (output l.initial.buffer (g.O.Sink.told l.initial.out) (g.O.Sink.faults l.initial.out)) (output l.buffer (g.O.Sink.told l.out) (g.O.Sink.faults l.out))
