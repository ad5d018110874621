use Rattle.lmn_solid_next.proofs.SearchExamples as examples
use Rattle.lmn_solid_next.proofs.examples.rule_of_no_plain.Goals as goal

pub returns : goal.returns
returns c = examples.rule_of_no_plain
