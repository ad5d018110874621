use Rattle.lmn_solid_firing.proofs.Shown.{across, images_alone}
use Rattle.lmn_solid_firing.proofs.examples.across_is_matched.Goals as goal

pub returns-clause-matched : goal.returns-clause-matched
returns-clause-matched c = across

pub returns-clause-part : goal.returns-clause-part
returns-clause-part c = images_alone
