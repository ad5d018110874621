use Rattle.lmn_print_folded_laws.proofs.WholeForms.{folded_forms_are_whole}
use Rattle.lmn_print_folded_laws.proofs.same_laws.folded_forms_are_whole.Goals as goal

pub returns : goal.returns
returns c = folded_forms_are_whole
