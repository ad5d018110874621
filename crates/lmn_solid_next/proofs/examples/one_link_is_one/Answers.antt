use Rattle.lmn_solid_next.proofs.SearchExamples as examples
use Rattle.lmn_solid_next.proofs.examples.one_link_is_one.Goals as goal

pub returns : goal.returns
returns c = examples.one_link_is_one
