use Rattle.std.proofs.Common.{refl}
use Rattle.lmn_flatten.proofs.walk.plain.Goals as goal

pub returns : goal.returns
returns c = (c.in_ok-links.ensures, refl)
