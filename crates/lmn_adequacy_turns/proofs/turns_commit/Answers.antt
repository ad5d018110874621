use Rattle.lmn_adequacy_turns.proofs.Turned.{turns_commit}
use Rattle.lmn_adequacy_turns.proofs.turns_commit.Goals as goal

pub returns : goal.returns
returns c = turns_commit c.turns_are_next.ensures c.accepted_heads.ensures c.accepted_least.ensures c.bound_names_have_values.ensures c.rules_embed_alike.ensures c.least_embeddings_are_alike.ensures c.firings_commit.ensures
