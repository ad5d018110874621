use Rattle.std.proofs.Common.{◌≡◌, Some, refl, slice_get, subst}
use Rattle.lmn_base.proofs.Lists.{holds_of_item}
use Rattle.lmn_solid_tables.specs.Flats.{heap_of}
use Rattle.lmn_solid_search.proofs.AheadLemmas.{lacks_functor, placed_already}
use Rattle.lmn_solid_search.proofs.PairingLemmas.{port_differs}
use Rattle.lmn_solid_search.proofs.SearchLemmas.{apart_in}
use Rattle.lmn_solid_search.proofs.search.place_membrane.Goals as goal

pub returns-then-not-holds_functors-clause-some : goal.returns-then-not-holds_functors-clause-some
returns-then-not-holds_functors-clause-some c =
    (refl, lacks_functor (heap_of c.args.flat.now) c.args.rest.now c.args.placed.now c.args.membrane c.len-number.result c.one.result c.len-number.ensures c.one.ensures (port_differs c.holds_functors.ensures.1 c.if-not-holds_functors.true))

pub returns-in-Some-clause-some : goal.returns-in-Some-clause-some
returns-in-Some-clause-some c = (
  refl,
  placed_already (heap_of c.args.flat.now) c.args.rest.now c.args.placed.now c.args.membrane c.len-number.result c.in-Some.other c.two.result c.len-number.ensures
      (subst (λ xs. slice_get xs c.in-Some.other ≡ Some c.args.membrane) c.as_slice.ensures (holds_of_item _ c.place_of-before.result c.in-Some.other c.in-Some.is c.place_of-before.ensures.some)) c.two.ensures.one c.two.ensures.other,
)

pub returns-clause-none : goal.returns-clause-none
returns-clause-none c = λ e. ((λ i. record c.args.placed.now { membranes = c.in_ok-push.ensures.ok i }), apart_in c.args.membrane c.args.placed.now.membranes c.as_slice.result.now c.as_slice.ensures (c.place_of-before.ensures.none c.in-None.is))
