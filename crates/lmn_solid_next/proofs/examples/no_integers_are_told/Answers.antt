use Rattle.lmn_solid_next.proofs.SearchExamples as examples
use Rattle.lmn_solid_next.proofs.examples.no_integers_are_told.Goals as goal

pub returns : goal.returns
returns c = examples.no_integers_are_told
