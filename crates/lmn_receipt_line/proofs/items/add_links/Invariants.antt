use Rattle.std.specs.Prelude.{codes, false}
use Rattle.lmn_io.specs.Gathering.{output}
use Rattle.lmn_flatten_plain.specs.Words.{link_name}
use Rattle.lmn_print_plain.proofs.RowLemmas.{InRow}
use Rattle.lmn_receipt_line.proofs.items.add_links.Given as goal

-- the links so far
abbrev pub invariant-loop-link : goal.invariant-loop-link
invariant-loop-link g l =
    InRow (codes ", ") false link_name l.links l.link-index l.any (output l.initial.buffer (g.O.Sink.told l.initial.out) (g.O.Sink.faults l.initial.out)) (output l.buffer (g.O.Sink.told l.out) (g.O.Sink.faults l.out))
