use Rattle.std.proofs.Common.{◌≡◌, ◌∙◌, sym, subst}
use Rattle.lmn_base.specs.declared.guard.Arith.TheVariants.{Mod}
use Rattle.lmn_guards.specs.Values.{result_of}
use Rattle.lmn_guards.proofs.ValueLemmas.{uncast, difference_is, product_is, quotient_is}
use Rattle.lmn_guards.proofs.evaluation.operation.Goals as goal

pub returns-in-Sub : goal.returns-in-Sub
returns-in-Sub c = subst (λ o. c.checked_sub.result ≡ result_of o c.args.left c.args.right) (sym c.in-Sub.is) (difference_is c.checked_sub.result c.args.left c.args.right c.ranges.left c.ranges.right c.checked_sub.ensures)

pub returns-in-Mul : goal.returns-in-Mul
returns-in-Mul c = subst (λ o. c.checked_mul.result ≡ result_of o c.args.left c.args.right) (sym c.in-Mul.is) (product_is c.checked_mul.result c.args.left c.args.right c.ranges.left c.ranges.right c.checked_mul.ensures)

pub returns-in-Div : goal.returns-in-Div
returns-in-Div c = subst (λ o. c.checked_div.result ≡ result_of o c.args.left c.args.right) (sym c.in-Div.is) (quotient_is c.checked_div.result c.args.left c.args.right c.ranges.left c.ranges.right c.checked_div.ensures)

pub returns-in-Mod : goal.returns-in-Mod
returns-in-Mod c = subst (λ o. c.remainder.result ≡ result_of o c.args.left c.args.right) (sym c.in-Mod.is) (c.remainder.ensures ∙ uncast (result_of Mod) c.args.left c.args.right c.ranges.left c.ranges.right)
