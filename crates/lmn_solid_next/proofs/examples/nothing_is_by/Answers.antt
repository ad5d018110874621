use Rattle.lmn_solid_next.proofs.SearchExamples as examples
use Rattle.lmn_solid_next.proofs.examples.nothing_is_by.Goals as goal

pub returns : goal.returns
returns c = examples.nothing_is_by
