use Rattle.lmn_app_drive.proofs.OneText.{texts_are_one}
use Rattle.lmn_app_drive.proofs.laws.texts_are_one.Goals as goal

pub returns : goal.returns
returns c = texts_are_one
