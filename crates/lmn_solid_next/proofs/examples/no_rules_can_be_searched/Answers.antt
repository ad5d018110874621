use Rattle.lmn_solid_next.proofs.SearchExamples as examples
use Rattle.lmn_solid_next.proofs.examples.no_rules_can_be_searched.Goals as goal

pub returns : goal.returns
returns c = examples.no_rules_can_be_searched
