use Rattle.lmn_print_folded.proofs.ExampleLines as line
use Rattle.lmn_print_folded.proofs.laws.small_lists.Goals as goal

pub returns-clause-two_lists : goal.returns-clause-two_lists
returns-clause-two_lists c = line.two_lists

pub returns-clause-an_answer : goal.returns-clause-an_answer
returns-clause-an_answer c = line.an_answer

pub returns-clause-shared_rest : goal.returns-clause-shared_rest
returns-clause-shared_rest c = line.shared_rest

pub returns-clause-other_rest : goal.returns-clause-other_rest
returns-clause-other_rest c = line.other_rest

pub returns-clause-no_lists : goal.returns-clause-no_lists
returns-clause-no_lists c = line.no_lists

pub returns-clause-cell_as_item : goal.returns-clause-cell_as_item
returns-clause-cell_as_item c = line.cell_as_item
