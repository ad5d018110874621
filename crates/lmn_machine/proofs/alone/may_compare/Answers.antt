use Rattle.lmn_machine.proofs.Standing.{not_stands}
use Rattle.lmn_machine.proofs.alone.may_compare.Goals as goal

pub returns-in-Some : goal.returns-in-Some
returns-in-Some g c = λ e n s here u holds. not_stands c.args.comparison c.in-Some.v.left c.in-Some.v.right (s.integer c.args.left) (s.integer c.args.right) c.stands.result c.stands.ensures e (c.in-Some.ensures n s here u) holds
