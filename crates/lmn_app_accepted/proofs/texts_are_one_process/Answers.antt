use Rattle.lmn_app_accepted.proofs.OneProcess.{one_process, one_process_of_readings}
use Rattle.lmn_app_accepted.proofs.texts_are_one_process.Goals as goal

pub returns-clause-held : goal.returns-clause-held
returns-clause-held c = one_process

pub returns-clause-read : goal.returns-clause-read
returns-clause-read c = one_process_of_readings
