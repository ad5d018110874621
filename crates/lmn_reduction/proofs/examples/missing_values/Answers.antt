use Rattle.lmn_reduction.proofs.ExampleSteps as steps
use Rattle.lmn_reduction.proofs.examples.missing_values.Goals as goal

pub returns-clause-least : goal.returns-clause-least
returns-clause-least c = steps.least_by_minus_one

pub returns-clause-zero : goal.returns-clause-zero
returns-clause-zero c = steps.nothing_by_zero
