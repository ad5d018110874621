use Rattle.lmn_debug_script.proofs.Worked as small
use Rattle.lmn_debug_script.proofs.laws.small_scripts.Goals as goal

pub returns-clause-orders : goal.returns-clause-orders
returns-clause-orders c = small.small_orders

pub returns-clause-others : goal.returns-clause-others
returns-clause-others c = small.not_other_orders

pub returns-clause-none : goal.returns-clause-none
returns-clause-none c = small.none_is_wrong

pub returns-clause-second : goal.returns-clause-second
returns-clause-second c = small.second_is_wrong

pub returns-clause-first : goal.returns-clause-first
returns-clause-first c = small.first_is_not_wrong
