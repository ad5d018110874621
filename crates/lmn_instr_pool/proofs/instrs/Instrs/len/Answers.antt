use Rattle.std.proofs.Common.{length, ap, ◌∙◌}
use Rattle.lmn_instr_pool.proofs.Picking.{picked_length}
use Rattle.lmn_instr_pool.proofs.instrs.Instrs.len.Goals as goal

pub returns-clause-len : goal.returns-clause-len
returns-clause-len c = picked_length c.self.inside.pool.now c.self.inside.numbers.now c.self.invariant.0 ∙ ap length c.self.view_is
