use Rattle.lmn_contexts.proofs.WorkedRows.{largest_head, largest_body, nothing_offends, closed_stands}
use Rattle.lmn_contexts.proofs.laws.rules_within_limits.Goals as goal

pub returns-clause-head : goal.returns-clause-head
returns-clause-head c = largest_head

pub returns-clause-body : goal.returns-clause-body
returns-clause-body c = largest_body

pub returns-clause-whole : goal.returns-clause-whole
returns-clause-whole c = nothing_offends

pub returns-clause-closed : goal.returns-clause-closed
returns-clause-closed c = closed_stands
