use Rattle.lmn_app_reading.proofs.NamedPlains.{plains_are_named}
use Rattle.lmn_app_reading.proofs.laws.plains_are_named.Goals as goal

pub returns : goal.returns
returns c = plains_are_named
