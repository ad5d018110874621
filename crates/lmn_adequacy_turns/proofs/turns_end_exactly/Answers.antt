use Rattle.lmn_adequacy_turns.proofs.Steps.{steps_by_code, irreducible_by_code}
use Rattle.lmn_adequacy_turns.proofs.turns_end_exactly.Goals as goal

pub returns : goal.returns
returns c = record {
  steps = steps_by_code c.accepted_heads.ensures c.code_means_embedding.ensures c.steps_are_exact.ensures.steps;
  irreducible = irreducible_by_code c.accepted_heads.ensures c.code_means_embedding.ensures c.steps_are_exact.ensures.irreducible;
}
