use Rattle.lmn_guards.proofs.WorkedGuards.{unknown, wrong_operands, unbound, bound_before, bound_operands, narrowest}
use Rattle.lmn_guards.proofs.laws.conditions_that_offend.Goals as goal

pub returns-clause-unknown : goal.returns-clause-unknown
returns-clause-unknown c = unknown

pub returns-clause-operands : goal.returns-clause-operands
returns-clause-operands c = wrong_operands

pub returns-clause-unbound : goal.returns-clause-unbound
returns-clause-unbound c = unbound

pub returns-clause-before : goal.returns-clause-before
returns-clause-before c = bound_before

pub returns-clause-bound : goal.returns-clause-bound
returns-clause-bound c = bound_operands

pub returns-clause-types : goal.returns-clause-types
returns-clause-types c = narrowest
