use Rattle.std.proofs.Common.{length, ap, ◌∙◌}
use Rattle.lmn_instr_pool.proofs.Picking.{stored_length}
use Rattle.lmn_instr_pool.proofs.codes.Codes.len.Goals as goal

pub returns : goal.returns
returns c = c.len.ensures ∙ stored_length c.self.inside.pool c.self.inside.codes ∙ ap length c.self.view_is
