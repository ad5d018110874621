use Rattle.std.proofs.Common.{refl}
use Rattle.lmn_app_single.specs.Singles.{concluded, handed_on}
use Rattle.lmn_app_single.proofs.single.answer_single.Goals as goal

pub returns-in-Ended : goal.returns-in-Ended
returns-in-Ended g c = concluded c.in-Ended.ending c.in-Ended.ensures c.conclude.ensures

pub returns-in-Pair : goal.returns-in-Pair
returns-in-Pair g c = let acted = c.in-Pair.ensures in handed_on _ acted.0 refl acted.1 acted.2 refl
