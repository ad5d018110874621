use Rattle.lmn_contexts.proofs.WorkedRows.{twice_in_two_forms, not_in_body, twice_in_body, not_in_head, rule_context_not_in_head, in_two_forms}
use Rattle.lmn_contexts.proofs.laws.uses_that_offend.Goals as goal

pub returns-clause-forms : goal.returns-clause-forms
returns-clause-forms c = twice_in_two_forms

pub returns-clause-missing : goal.returns-clause-missing
returns-clause-missing c = not_in_body

pub returns-clause-again : goal.returns-clause-again
returns-clause-again c = twice_in_body

pub returns-clause-nowhere : goal.returns-clause-nowhere
returns-clause-nowhere c = not_in_head

pub returns-clause-no_rules : goal.returns-clause-no_rules
returns-clause-no_rules c = rule_context_not_in_head

pub returns-clause-two_forms : goal.returns-clause-two_forms
returns-clause-two_forms c = in_two_forms
