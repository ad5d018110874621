use Rattle.lmn_solid_next.proofs.SearchExamples as examples
use Rattle.lmn_solid_next.proofs.examples.no_links_are_no_match.Goals as goal

pub returns : goal.returns
returns c = examples.no_links_are_no_match
