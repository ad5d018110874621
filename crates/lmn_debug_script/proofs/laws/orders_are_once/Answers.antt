use Rattle.lmn_debug_script.proofs.ScriptLaws as laws
use Rattle.lmn_debug_script.proofs.laws.orders_are_once.Goals as goal

pub returns-clause-once : goal.returns-clause-once
returns-clause-once c = laws.orders_are_once

pub returns-clause-stay : goal.returns-clause-stay
returns-clause-stay c = laws.orders_stay
