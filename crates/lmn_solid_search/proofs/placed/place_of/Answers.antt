use Rattle.std.proofs.Common.{◌∙◌, Some, ap}
use Rattle.lmn_base.proofs.Lists.{get_index}
use Rattle.lmn_solid_search.proofs.WholeLemmas.{in_whole, not_so_far}
use Rattle.lmn_solid_search.proofs.placed.place_of.Goals as goal

pub returns-then-list-place-clause-some : goal.returns-then-list-place-clause-some
returns-then-list-place-clause-some c =
    get_index c.args.list.now c.loop-place.place c.loop-place-test.true ∙ ap Some c.if-list-place.true

pub loop-place-preserved : goal.loop-place-preserved
loop-place-preserved c =
    not_so_far c.args.number c.args.list.now c.loop-place.place c.loop-place-test.true c.if-list-place.false c.loop-place.invariant

pub returns-clause-none : goal.returns-clause-none
returns-clause-none c =
    λ e i. c.loop-place.invariant (in_whole c.args.number c.args.list.now c.loop-place.place c.loop-place-test.false i)
