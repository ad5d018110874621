use Rattle.lmn_print_folding.proofs.ToldExampleProofs.{one_membrane_is_not_enough}
use Rattle.lmn_print_folding.proofs.items_examples.one_membrane_is_not_enough.Goals as goal

pub returns : goal.returns
returns c = one_membrane_is_not_enough
