use Rattle.lmn_solid_next.proofs.SearchExamples as examples
use Rattle.lmn_solid_next.proofs.examples.integer_of_no_name.Goals as goal

pub returns : goal.returns
returns c = examples.integer_of_no_name
