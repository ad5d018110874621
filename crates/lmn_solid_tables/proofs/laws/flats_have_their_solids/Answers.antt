use Rattle.lmn_solid_tables.proofs.Whole.{flats_have_their_solids}
use Rattle.lmn_solid_tables.proofs.laws.flats_have_their_solids.Goals as goal

pub returns : goal.returns
returns c = flats_have_their_solids
