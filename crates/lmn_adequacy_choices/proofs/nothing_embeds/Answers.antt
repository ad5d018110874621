use Rattle.lmn_adequacy_choices.proofs.Ends as ends
use Rattle.lmn_adequacy_choices.proofs.nothing_embeds.Goals as goal

pub returns : goal.returns
returns c = ends.nothing_embeds c.turns_end_exactly.ensures.steps c.turns_end_exactly.ensures.irreducible c.matching_is_exact.ensures.steps
