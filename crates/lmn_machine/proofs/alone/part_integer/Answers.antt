use Rattle.std.proofs.Common.{arith, ◌∙◌}
use Rattle.lmn_machine.proofs.Calling.{read_at}
use Rattle.lmn_machine.proofs.Standing.{if_some, part_told}
use Rattle.lmn_machine.proofs.alone.part_integer.Goals as goal

pub returns-then-port-register : goal.returns-then-port-register
returns-then-port-register g c = if_some _ c.integer_behind.result (λ z e n s here u. part_told (g.S.LinkStore.heap c.args.store.now) n s c.args.code.now c.args.at c.loop-i.i _ _ c.args.part c.args.register (g.S.LinkStore.atom_id c.args.a) _ c.integer_behind.result c.loop-i.auto.i
    (read_at c.args.code.now c.loop-i.i _ _ c.at.ensures c.in-IsInt.is) (omega arith) (omega arith) c.integer_behind.ensures here u ∙ e)
