use Rattle.std.proofs.Common.{ap, ◌∙◌}
use Rattle.lmn_machine.proofs.enough.holds_enough_at.Goals as goal

pub returns-in-Some : goal.returns-in-Some
returns-in-Some g c = λ e k s p u. c.holds_enough_of.ensures e k s (ap s.images.membrane c.in-Some.ensures ∙ p) u
