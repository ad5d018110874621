use Rattle.lmn_solid_next.proofs.SearchExamples as examples
use Rattle.lmn_solid_next.proofs.examples.plan_of_no_rule.Goals as goal

pub returns : goal.returns
returns c = examples.plan_of_no_rule
