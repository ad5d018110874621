use Rattle.lmn_print_plain.proofs.RowLemmas.{row_first, row_at, row_all}
use Rattle.lmn_receipt_line.specs.Walking.{rule_text}
use Rattle.lmn_receipt_line.proofs.items.add_rules.Goals as goal

pub loop-rule-init : goal.loop-rule-init
loop-rule-init g c = row_first c.args.between.now c.args.before (rule_text c.args.names.now c.args.table.now) c.args.rules.now _

pub loop-rule-preserved : goal.loop-rule-preserved
loop-rule-preserved g c =
    row_at c.args.between.now c.args.before (rule_text c.args.names.now c.args.table.now) c.args.rules.now c.loop-rule.rule-index _ c.loop-rule.any _ _ _ _ c.loop-rule-test.true c.loop-rule.invariant c.add_between.ensures c.add_rule.ensures

pub returns : goal.returns
returns g c = (row_all c.args.between.now c.args.before (rule_text c.args.names.now c.args.table.now) c.args.rules.now _ c.loop-rule.any _ _ c.loop-rule-test.false c.loop-rule.invariant).0
