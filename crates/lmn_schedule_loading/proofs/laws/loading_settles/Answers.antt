use Rattle.lmn_schedule_loading.proofs.Items as items
use Rattle.lmn_schedule_loading.proofs.RuleNumbers.{loaded_rules}
use Rattle.lmn_schedule_loading.proofs.laws.loading_settles.Goals as goal

pub returns-clause-settles : goal.returns-clause-settles
returns-clause-settles c = items.loading_settles

pub returns-clause-empty : goal.returns-clause-empty
returns-clause-empty c = items.empty_stores

pub returns-clause-rules : goal.returns-clause-rules
returns-clause-rules c = loaded_rules
