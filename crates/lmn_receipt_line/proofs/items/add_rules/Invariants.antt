use Rattle.lmn_io.specs.Gathering.{output}
use Rattle.lmn_print_plain.proofs.RowLemmas.{InRow}
use Rattle.lmn_receipt_line.specs.Walking.{rule_text}
use Rattle.lmn_receipt_line.proofs.items.add_rules.Given as goal

-- the rules so far
abbrev pub invariant-loop-rule : goal.invariant-loop-rule
invariant-loop-rule g l =
    InRow l.between l.before (rule_text l.names l.table) l.rules l.rule-index l.any (output l.initial.buffer (g.O.Sink.told l.initial.out) (g.O.Sink.faults l.initial.out)) (output l.buffer (g.O.Sink.told l.out) (g.O.Sink.faults l.out))
