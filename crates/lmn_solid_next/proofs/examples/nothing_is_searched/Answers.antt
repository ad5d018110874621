use Rattle.lmn_solid_next.proofs.SearchExamples as examples
use Rattle.lmn_solid_next.proofs.examples.nothing_is_searched.Goals as goal

pub returns : goal.returns
returns c = examples.nothing_is_searched
