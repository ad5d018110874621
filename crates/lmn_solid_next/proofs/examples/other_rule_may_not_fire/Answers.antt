use Rattle.lmn_solid_next.proofs.SearchExamples as examples
use Rattle.lmn_solid_next.proofs.examples.other_rule_may_not_fire.Goals as goal

pub returns : goal.returns
returns c = examples.other_rule_may_not_fire
