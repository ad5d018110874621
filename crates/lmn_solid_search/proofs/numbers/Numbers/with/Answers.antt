use Rattle.std.proofs.Common.{bit_or, subst, sym}
use Rattle.lmn_solid_search.specs.Reasoning.{Within}
use Rattle.lmn_solid_search.specs.declared.numbers.Numbers.TheVariants.{These}
use Rattle.lmn_base.proofs.Bits.{or_again, or_again_behind}
use Rattle.lmn_solid_search.proofs.numbers.Numbers.with.Goals as goal

pub returns-in-These-other-clause-these : goal.returns-in-These-other-clause-these
returns-in-These-other-clause-these c = subst (λ e. Within e (These (bit_or c.in-These.mine c.in-These-other.others))) (sym c.in-These.is) (or_again c.in-These.mine c.in-These-other.others)

pub returns-in-These-other-clause-those : goal.returns-in-These-other-clause-those
returns-in-These-other-clause-those c = subst (λ e. Within e (These (bit_or c.in-These.mine c.in-These-other.others))) (sym c.in-These-other.is) (or_again_behind c.in-These.mine c.in-These-other.others)
