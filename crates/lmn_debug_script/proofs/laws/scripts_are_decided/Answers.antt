use Rattle.lmn_debug_script.proofs.ScriptLaws as laws
use Rattle.lmn_debug_script.proofs.laws.scripts_are_decided.Goals as goal

pub returns-clause-some : goal.returns-clause-some
returns-clause-some c = laws.some_orders_or_wrong

pub returns-clause-either : goal.returns-clause-either
returns-clause-either c = laws.ordered_is_not_wrong

pub returns-clause-one : goal.returns-clause-one
returns-clause-one c = laws.one_is_first_wrong
