use Rattle.lmn_solid_next.proofs.Settled as law
use Rattle.lmn_solid_next.proofs.firings_settle.Goals as goal

pub returns : goal.returns
returns c = law.firings_settle c.firings_are_spelled.ensures c.settled_solids_keep.ensures c.spelled_levels_settle.ensures
