use Rattle.lmn_verify_compiled.proofs.Listable.{accepted_names_are_few}
use Rattle.lmn_verify_compiled.proofs.accepted_names_are_few.Goals as goal

pub returns : goal.returns
returns c = accepted_names_are_few
