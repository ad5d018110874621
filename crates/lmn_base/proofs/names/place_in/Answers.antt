use Rattle.lmn_base.proofs.HeldNames.{found, not_found}
use Rattle.lmn_base.proofs.names.place_in.Goals as goal

pub returns-clause-held : goal.returns-clause-held
returns-clause-held c = found (λ v. v.items) c.args.name.now c.args.names.now.keys c.get_index_of.result c.get_index_of.ensures.index

pub returns-clause-new : goal.returns-clause-new
returns-clause-new c = not_found (λ v. v.items) c.args.name.now c.args.names.now.keys c.get_index_of.result c.get_index_of.ensures.found
