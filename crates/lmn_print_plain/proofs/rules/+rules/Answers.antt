use Rattle.std.proofs.Common.{rules, sym}
use Rattle.std.specs.Prelude.{codes}
use Rattle.lmn_base.specs.declared.level.Level.{Level}
use Rattle.lmn_print_plain.specs.Parts.{level_in, rule_text}
use Rattle.lmn_print_plain.proofs.RowLemmas.{row_first, row_next, row_at, row_all}
use Rattle.lmn_print_plain.proofs.RuleLemmas.{level_written, membrane_written, rule_written, no_rule_written, membrane_text, level_falls, head_falls, body_falls}
use Rattle.lmn_print_plain.proofs.rules.+rules.Goals as goal

pub add_level-loop-inner-init : goal.add_level-loop-inner-init
add_level-loop-inner-init g t c = row_first (codes ", ") c.add_leaves-any.result (λ (x : Level). membrane_text (level_in c.args.names.now c.args.first c.args.table.now x)) c.as_slice-inner-items.result.now _

pub add_level-loop-inner-preserved : goal.add_level-loop-inner-preserved
add_level-loop-inner-preserved g t c =
    row_next (codes ", ") c.add_leaves-any.result (λ (x : Level). membrane_text (level_in c.args.names.now c.args.first c.args.table.now x)) c.as_slice-inner-items.result.now c.loop-inner.inner-index c.inner-item.result c.inner-item.result c.loop-inner.any _ _ _ _
    c.loop-inner-test.true c.inner-item.is c.loop-inner.invariant c.add_between.ensures
    (membrane_written (level_in c.args.names.now c.args.first c.args.table.now c.inner-item.result) _ _ _ _ c.add.ensures c.add_level.ensures c.add-in-loop-inner.ensures)

pub add_level-loop-rule-init : goal.add_level-loop-rule-init
add_level-loop-rule-init g t c = row_first (codes ", ") c.add_contexts-before.result (rule_text c.args.names.now c.args.first c.args.table.now) c.as_slice-rule-items.result.now _

pub add_level-loop-rule-preserved : goal.add_level-loop-rule-preserved
add_level-loop-rule-preserved g t c =
    row_at (codes ", ") c.add_contexts-before.result (rule_text c.args.names.now c.args.first c.args.table.now) c.as_slice-rule-items.result.now c.loop-rule.rule-index _ c.loop-rule.any _ _ _ _
    c.loop-rule-test.true c.loop-rule.invariant c.add_between-in-loop-rule.ensures c.add_rule_from.ensures

pub add_level-add_level-requires : goal.add_level-add_level-requires
add_level-add_level-requires g t c κs within =
    (level_falls c.args.first c.args.table.now c.args.level.now t c.loop-inner.inner-index c.as_slice-inner-items.result.now c.inner-item.result c.loop-inner-test.true c.inner-item.is c.as_slice-inner-items.ensures c.decreases, search rules)

pub add_rule_from-add_level-requires : goal.add_rule_from-add_level-requires
add_rule_from-add_level-requires g t c κs within =
    (head_falls c.args.first c.args.number c.at_least-number.result t c.args.table.now c.in-Some.rule.now c.at_least-number.ensures (sym c.in-Some.ensures) c.decreases, search rules)

pub add_rule_from-add_level-requires-in-Some : goal.add_rule_from-add_level-requires-in-Some
add_rule_from-add_level-requires-in-Some g t c κs within =
    (body_falls c.args.first c.args.number c.at_least-number.result t c.args.table.now c.in-Some.rule.now c.at_least-number.ensures (sym c.in-Some.ensures) c.decreases, search rules)

pub add_level-returns : goal.add_level-returns
add_level-returns g t c =
    let f = λ (x : Level). membrane_text (level_in c.args.names.now c.args.first c.args.table.now x) in
    let inner = row_all (codes ", ") c.add_leaves-any.result f c.as_slice-inner-items.result.now c.loop-inner.inner-index c.loop-inner.any _ _ c.loop-inner-test.false c.loop-inner.invariant in
    let rule = row_all (codes ", ") c.add_contexts-before.result (rule_text c.args.names.now c.args.first c.args.table.now) c.as_slice-rule-items.result.now c.loop-rule.rule-index c.loop-rule.any _ _ c.loop-rule-test.false c.loop-rule.invariant in
    level_written c.args.names.now c.args.first c.args.table.now c.args.level.now c.as_slice.result.now c.as_slice-inner-items.result.now c.as_slice-2.result.now c.as_slice-3.result.now c.as_slice-rule-items.result.now
    c.add_leaves-any.result c.loop-inner.any c.add_untyped-contexts.result c.add_contexts-before.result _ _ _ _ _ _
    c.as_slice.ensures c.as_slice-inner-items.ensures c.as_slice-2.ensures c.as_slice-3.ensures c.as_slice-rule-items.ensures
    c.add_leaves-any.ensures.any inner.1 c.add_untyped-contexts.ensures.any c.add_contexts-before.ensures.any
    c.add_leaves-any.ensures.text inner.0 c.add_untyped-contexts.ensures.text c.add_contexts-before.ensures.text rule.0

pub add_rule_from-returns-in-Some : goal.add_rule_from-returns-in-Some
add_rule_from-returns-in-Some g t c =
    rule_written c.args.names.now c.args.first c.args.number c.at_least-number.result c.args.table.now c.in-Some.rule.now c.as_slice.result.now _ _ _ _ _ _ _ c.at_least-number.ensures (sym c.in-Some.ensures) c.as_slice.ensures
    c.add.ensures c.add_level.ensures c.add-in-Some.ensures c.add_guard.ensures c.add_level-in-Some.ensures c.add-in-Some-2.ensures

pub add_rule_from-returns-in-None : goal.add_rule_from-returns-in-None
add_rule_from-returns-in-None g t c =
    no_rule_written c.args.names.now c.args.first c.args.number c.at_least-number.result c.args.table.now _ _ c.at_least-number.ensures (sym c.in-None.ensures) c.add-in-None.ensures
