use Rattle.std.proofs.Common.{◌+◌}
use Rattle.std.specs.Prelude.{codes}
use Rattle.lmn_io.specs.Gathering.{output}
use Rattle.lmn_print_plain.specs.Parts.{level_in, rule_text}
use Rattle.lmn_print_plain.proofs.RowLemmas.{InRow}
use Rattle.lmn_print_plain.proofs.RuleLemmas.{levels_behind, membrane_text}
use Rattle.lmn_print_plain.proofs.rules.+rules.Given as goal
use Rattle.lmn_base.proofs.Common.{levels_in}

abbrev pub decreases-add_level : goal.decreases-add_level
decreases-add_level g l = levels_behind l.first l.table.now + levels_in l.level.now

abbrev pub decreases-add_rule_from : goal.decreases-add_rule_from
decreases-add_rule_from g l = levels_behind l.first l.table.now

abbrev pub invariant-add_level-loop-inner : goal.invariant-add_level-loop-inner
invariant-add_level-loop-inner g l =
    InRow (codes ", ") l.initial.any (λ x. membrane_text (level_in l.names l.first l.table x)) l.inner-items l.inner-index l.any (output l.initial.buffer (g.O.Sink.told l.initial.out) (g.O.Sink.faults l.initial.out)) (output l.buffer (g.O.Sink.told l.out) (g.O.Sink.faults l.out))

abbrev pub invariant-add_level-loop-rule : goal.invariant-add_level-loop-rule
invariant-add_level-loop-rule g l =
    InRow (codes ", ") l.before (rule_text l.names l.first l.table) l.rule-items l.rule-index l.any (output l.initial.buffer (g.O.Sink.told l.initial.out) (g.O.Sink.faults l.initial.out)) (output l.buffer (g.O.Sink.told l.out) (g.O.Sink.faults l.out))
