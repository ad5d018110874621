use Rattle.lmn_print_folded_laws.proofs.ExampleLines.{its_line, not_its_line}
use Rattle.lmn_print_folded_laws.proofs.same_laws.small_examples.Goals as goal

pub returns-clause-its_line : goal.returns-clause-its_line
returns-clause-its_line c = its_line

pub returns-clause-not_its_line : goal.returns-clause-not_its_line
returns-clause-not_its_line c = not_its_line
