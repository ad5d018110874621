use Rattle.lmn_solid_next.proofs.Matches as law
use Rattle.lmn_solid_next.proofs.firing.matches_are_of_embeddings.Goals as goal

pub returns : goal.returns
returns c = law.matches_are_of_embeddings c.accepted_heads.ensures c.accepted_bodies.ensures.nested c.heads_leave.ensures c.parts_stand.ensures
