use Rattle.lmn_adequacy_heaps.proofs.WholeRules.{embeds_alike}
use Rattle.lmn_adequacy_heaps.proofs.rules_embed_alike.Goals as goal

pub returns : goal.returns
returns c = embeds_alike
