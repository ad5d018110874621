use Rattle.lmn_solid_next.proofs.Spelling as spelling
use Rattle.lmn_solid_next.proofs.spelled_levels_settle.Goals as goal

pub returns : goal.returns
returns c = spelling.spelled_levels_settle
