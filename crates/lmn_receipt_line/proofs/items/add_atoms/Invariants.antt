use Rattle.std.specs.Prelude.{false}
use Rattle.lmn_io.specs.Gathering.{output}
use Rattle.lmn_print_plain.specs.Stored.{solid_atom_text}
use Rattle.lmn_print_plain.proofs.RowLemmas.{InRow}
use Rattle.lmn_receipt_line.proofs.items.add_atoms.Given as goal

-- the atoms so far
abbrev pub invariant-loop-atom : goal.invariant-loop-atom
invariant-loop-atom g l =
    InRow l.between false (solid_atom_text l.names) l.atoms l.atom-index l.any (output l.initial.buffer (g.O.Sink.told l.initial.out) (g.O.Sink.faults l.initial.out)) (output l.buffer (g.O.Sink.told l.out) (g.O.Sink.faults l.out))
