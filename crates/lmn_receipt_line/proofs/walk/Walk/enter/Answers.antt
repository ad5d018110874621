use Rattle.std.proofs.Common.{refl, ap, length, arith}
use Rattle.lmn_receipt_line.proofs.WalkLemmas.{enter_done}
use Rattle.lmn_receipt_line.proofs.walk.Walk.enter.Goals as goal

pub overflow_add-next : goal.overflow_add-next
overflow_add-next g c =
    let fits = c.as_slice-membranes.type_inv.0 in
    let same = ap length c.as_slice-membranes.ensures in
    omega (arith, c.requires.there, fits, same)

pub returns : goal.returns
returns g c = λ names table.
    enter_done names table c.args.self.now.open.items c.push.new.self.items c.push-2.new.self.items c.args.place _ c.args.next c.args.self.now.entered c.saturating_add-self.result
    c.between.result.now c.any_before.result c.as_slice.result.now c.as_slice-membranes.result.now _ _ _ c.requires.left refl refl c.requires.there c.as_slice-membranes.ensures c.index-membranes-next.is c.between.ensures c.as_slice.ensures c.any_before.ensures
    c.in_ok-push.ensures.items c.in_ok-push-2.ensures.items (omega (arith, c.saturating_add-self.ensures)) c.add_between.ensures c.add.ensures
