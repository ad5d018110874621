use Rattle.lmn_base.proofs.CodeLemmas.{codes_are_numbered, numbers_are_of_codes}
use Rattle.lmn_base.proofs.laws.codes_have_numbers.Goals as goal

pub returns-clause-code : goal.returns-clause-code
returns-clause-code c = codes_are_numbered

pub returns-clause-number : goal.returns-clause-number
returns-clause-number c = numbers_are_of_codes
