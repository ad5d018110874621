use Rattle.lmn_verify_solids.proofs.Fired.{fired}
use Rattle.lmn_verify_solids.proofs.flat_rules_fire.Goals as goal

pub returns : goal.returns
returns c = λ head body code is h t v u r placed f. fired head body code is h t v u r placed f
