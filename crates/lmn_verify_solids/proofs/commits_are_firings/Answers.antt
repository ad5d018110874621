use Rattle.lmn_verify_solids.proofs.FiredBack.{flat_fired}
use Rattle.lmn_verify_solids.proofs.commits_are_firings.Goals as goal

pub returns : goal.returns
returns c = λ head body code is ties h t v u r parts are f. flat_fired head body code is ties h t v u r parts are f
