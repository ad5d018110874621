use Rattle.std.proofs.Common.{◌≡◌, Some, arith, drop, subst}
use Rattle.std.specs.Prelude.{IfSome}
use Rattle.lmn_instr_code.specs.Running.{AllHold, HeadRegisters, HeadSize}
use Rattle.lmn_solid_heads.specs.Guards.{integer_at}
use Rattle.lmn_machine.proofs.Calling.{read_at}
use Rattle.lmn_machine.proofs.Standing.{if_some, gotten, constant}
use Rattle.lmn_machine.proofs.alone.value.Goals as goal

pub returns-then-set-integer : goal.returns-then-set-integer
returns-then-set-integer g c = if_some _ c.constant.result (λ z e n s here u. constant (g.S.LinkStore.heap c.args.store.now) n s c.args.code.now c.args.at c.loop-i.i c.in-Const.set c.args.integer _ z c.constant.result c.loop-i.auto.i
    (read_at c.args.code.now c.loop-i.i _ _ c.at.ensures c.in-Const.is) (omega arith) c.constant.ensures e u)

pub returns-then-given-integer : goal.returns-then-given-integer
returns-then-given-integer g c = if_some _ c.part_integer.result (λ z e n s here u. gotten (g.S.LinkStore.heap c.args.store.now) n s c.args.code.now c.args.at c.loop-i.i c.in-GetInt.given c.in-GetInt.part c.args.integer z c.loop-i.auto.i
    (read_at c.args.code.now c.loop-i.i _ _ c.at.ensures c.in-GetInt.is) (omega arith)
    (subst (λ o. IfSome o (λ x. (k : HeadSize) (t : HeadRegisters) → t.images.atom c.args.register ≡ g.S.LinkStore.atom_id c.args.a → AllHold (g.S.LinkStore.heap c.args.store.now) k t (drop c.args.at c.args.code.now) → integer_at (g.S.LinkStore.heap c.args.store.now) (t.images.part c.in-GetInt.part) ≡ Some x)) e c.part_integer.ensures n s here u) u)
