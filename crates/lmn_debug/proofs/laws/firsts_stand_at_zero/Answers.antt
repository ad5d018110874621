use Rattle.lmn_debug.proofs.Turns.{stands_first}
use Rattle.lmn_debug.proofs.laws.firsts_stand_at_zero.Goals as goal

pub returns : goal.returns
returns c names table g h held = stands_first names table g h held
