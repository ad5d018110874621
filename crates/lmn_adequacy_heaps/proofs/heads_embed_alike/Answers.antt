use Rattle.lmn_adequacy_heaps.proofs.Results.{heads_alike}
use Rattle.lmn_adequacy_heaps.proofs.heads_embed_alike.Goals as goal

pub returns : goal.returns
returns c = heads_alike
