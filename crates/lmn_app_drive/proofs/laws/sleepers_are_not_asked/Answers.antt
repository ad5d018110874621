use Rattle.lmn_app_drive.proofs.ExampleRuns.{sleepers_are_not_asked}
use Rattle.lmn_app_drive.proofs.laws.sleepers_are_not_asked.Goals as goal

pub returns : goal.returns
returns c = sleepers_are_not_asked
