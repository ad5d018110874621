use Rattle.lmn_contexts.proofs.WorkedRows.{empty_head, rule_in_head, connector_in_head, context_at_top, rule_context_at_top, two_in_membrane, outer_pair_first, twice_in_head}
use Rattle.lmn_contexts.proofs.laws.heads_that_offend.Goals as goal

pub returns-clause-empty : goal.returns-clause-empty
returns-clause-empty c = empty_head

pub returns-clause-rule : goal.returns-clause-rule
returns-clause-rule c = rule_in_head

pub returns-clause-connector : goal.returns-clause-connector
returns-clause-connector c = connector_in_head

pub returns-clause-context : goal.returns-clause-context
returns-clause-context c = context_at_top

pub returns-clause-rule_context : goal.returns-clause-rule_context
returns-clause-rule_context c = rule_context_at_top

pub returns-clause-two : goal.returns-clause-two
returns-clause-two c = two_in_membrane

pub returns-clause-outer : goal.returns-clause-outer
returns-clause-outer c = outer_pair_first

pub returns-clause-twice : goal.returns-clause-twice
returns-clause-twice c = twice_in_head
