use Rattle.lmn_solid_bodies.proofs.HeadItems.{flattened_heads, flattened_are_linked}
use Rattle.lmn_solid_bodies.proofs.FlatRules.{flattened_rules}
use Rattle.lmn_solid_bodies.proofs.Numbered.{contexts_of_heads}
use Rattle.lmn_solid_bodies.proofs.flattened_rules.Goals as goal

pub returns-clause-heads : goal.returns-clause-heads
returns-clause-heads c = flattened_heads

pub returns-clause-linked : goal.returns-clause-linked
returns-clause-linked c = flattened_are_linked

pub returns-clause-nested : goal.returns-clause-nested
returns-clause-nested c = flattened_rules

pub returns-clause-contexts : goal.returns-clause-contexts
returns-clause-contexts c = contexts_of_heads
