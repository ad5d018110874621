use Rattle.std.proofs.lemmas.Grind.{common_steps}
use Rattle.std.proofs.Common.{arith}
use Rattle.lmn_io.proofs.TakingLemmas.{adds_as, adds_more}
use Rattle.lmn_print_plain.specs.Rows.{in_row}
use Rattle.lmn_print_plain.proofs.LeafLemmas.{guard_all}
use Rattle.std.specs.Prelude.{codes, false, map}
use Rattle.lmn_print_plain.specs.Parts.{condition_text}
use Rattle.lmn_print_plain.proofs.RowLemmas.{row_first, row_next, row_all}
use Rattle.lmn_print_plain.proofs.guard.add_guard.Goals as goal

pub loop-condition-init : goal.loop-condition-init
loop-condition-init g c = row_first (codes ", ") false (condition_text c.args.names.now) c.args.guard.now _

pub loop-condition-preserved : goal.loop-condition-preserved
loop-condition-preserved g c =
    row_next (codes ", ") false (condition_text c.args.names.now) c.args.guard.now c.loop-condition.condition-index c.condition-item.result c.condition-item.result c.loop-condition.any _ _ _ _ c.loop-condition-test.true c.condition-item.is c.loop-condition.invariant c.add_between.ensures c.add_condition.ensures

pub returns : goal.returns
returns g c =
    adds_as (guard_all c.args.names.now c.args.guard.now (grind (arith, common_steps, c.is_empty.ensures, c.if-is_empty.false)))
    (adds_more (in_row (codes ", ") false (map (condition_text c.args.names.now) c.args.guard.now)) (codes " | ") _ _ _
    (row_all (codes ", ") false (condition_text c.args.names.now) c.args.guard.now _ c.loop-condition.any _ _ c.loop-condition-test.false c.loop-condition.invariant).0 c.add.ensures)
