use Rattle.std.proofs.Common.{◌≡◌, length, ap, subst, arith, Some, ◌∙◌}
use Rattle.std.specs.Prelude.{slice_get}
use Rattle.lmn_instr_pool.proofs.Picking.{picked_length, picked_at, there_at}
use Rattle.lmn_instr_pool.proofs.instrs.Instrs.at.Goals as goal

pub number_at-requires : goal.number_at-requires
number_at-requires c =
    let e = picked_length c.self.inside.pool.now c.self.inside.numbers.now c.self.invariant.0 ∙ ap length c.self.view_is in
    let r = c.requires in
    omega (arith, e, r)

pub instr_at-requires : goal.instr_at-requires
instr_at-requires c = there_at c.self.inside.pool.now c.self.inside.numbers.now c.args.i c.number_at.result c.self.invariant.0 c.number_at.ensures

pub returns : goal.returns
returns c = subst (λ xs. slice_get xs c.args.i ≡ Some c.instr_at.result.now) c.self.view_is
    (picked_at c.self.inside.pool.now c.self.inside.numbers.now c.args.i c.number_at.result c.instr_at.result.now c.self.invariant.0 c.number_at.ensures c.instr_at.ensures)
