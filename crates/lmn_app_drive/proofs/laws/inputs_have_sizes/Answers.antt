use Rattle.lmn_app_drive.proofs.ExampleRuns.{inputs_have_sizes}
use Rattle.lmn_app_drive.proofs.laws.inputs_have_sizes.Goals as goal

pub returns : goal.returns
returns c = inputs_have_sizes
