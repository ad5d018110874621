use Rattle.lmn_solid_tables.proofs.Known.{flats_are_read}
use Rattle.lmn_solid_tables.proofs.laws.flats_are_read.Goals as goal

pub returns : goal.returns
returns c = flats_are_read
