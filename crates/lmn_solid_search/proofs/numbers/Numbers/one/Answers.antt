use Rattle.std.proofs.Common.{◌≡◌, sym, subst}
use Rattle.std.specs.Int.Bits.{bit_or, or_self}
use Rattle.lmn_solid_search.specs.Reasoning.{bit}
use Rattle.lmn_solid_search.proofs.numbers.Numbers.one.Goals as goal

pub returns : goal.returns
returns c = subst (λ z. bit_or (bit c.args.number) z ≡ z) (sym c.bit_of.ensures) (or_self (bit c.args.number))
