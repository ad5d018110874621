use Rattle.std.proofs.Common.{◌∙◌}
use Rattle.lmn_solid_tables.proofs.Partners.{arity_read}
use Rattle.lmn_solid_tables.proofs.flat.Flat.arity.Goals as goal

pub returns : goal.returns
returns c = c.len.ensures ∙ arity_read c.args.self.now c.args.atom c.index.result.now c.requires c.index.ensures
