use Rattle.std.proofs.Common.{◌-◌, arith, refl, false}
use Rattle.lmn_solid_search.proofs.OutsideLemmas.{inside_there}
use Rattle.lmn_solid_search.proofs.outside.inside_of.Goals as goal

pub returns : goal.returns
returns c = inside_there c.args.membranes.now c.args.membrane (c.args.membrane - 1) (record { inside = 0; has_context = false; has_closed_context = false; has_rule_context = false }) c.if-membrane-eq0.false refl
    (let l = c.if-place-membranes.false in omega (arith, l))
