use Rattle.lmn_receipt_line.proofs.WalkLemmas.{leave_done}
use Rattle.lmn_receipt_line.proofs.walk.Walk.leave.Goals as goal

pub returns : goal.returns
returns g c =
    leave_done c.args.names.now c.args.table.now c.args.self.now.open.items c.args.place c.args.next c.args.self.now.entered c.between.result.now c.end.result.now c.any_before.result c.as_slice.result.now c.as_slice-2.result.now _ _ _
    c.requires.left c.requires.none c.between.ensures c.as_slice.ensures c.any_before.ensures c.as_slice-2.ensures c.end.ensures c.add_rules.ensures c.add.ensures
