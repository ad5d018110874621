use Rattle.std.proofs.Common.{◌∙◌, refl, length}
use Rattle.lmn_base.proofs.Lists.{holds_of_item}
use Rattle.lmn_solid_tables.specs.Flats.{heap_of}
use Rattle.lmn_solid_search.proofs.PairingLemmas.{port_differs}
use Rattle.lmn_solid_search.proofs.SearchLemmas.{allowed_by, apart_in, atoms_more, before_last, long_enough, longer_by, other_functor, popped, refused_as}
use Rattle.lmn_solid_search.proofs.search.place_atom.Goals as goal

pub returns-then-not-is_same_functor-clause-some : goal.returns-then-not-is_same_functor-clause-some
returns-then-not-is_same_functor-clause-some c =
    (refl, other_functor (heap_of c.args.flat.now) c.args.head.now c.args.guard.now c.args.functor c.functor.result c.args.placed.now c.args.atom c.len-number.result c.one.result c.functor.ensures (port_differs c.is_same_functor.ensures.1 c.if-not-is_same_functor.true) c.len-number.ensures c.one.ensures)

pub refusal-requires-clause-images : goal.refusal-requires-clause-images
refusal-requires-clause-images c =
    atoms_more (heap_of c.args.flat.now) c.args.placed.now.atoms c.push.new.self c.as_slice-2.result.now c.args.atom c.as_slice-2.ensures c.in_ok-push.ensures.ok c.requires.atoms c.requires.atom

pub refusal-requires-clause-few : goal.refusal-requires-clause-few
refusal-requires-clause-few c =
    long_enough c.args.placed.now.atoms c.as_slice-2.result.now c.args.atom (length c.args.head.now.atoms) (c.as_slice-2.ensures ∙ c.in_ok-push.ensures.ok) c.requires.few

pub refusal-requires-clause-number : goal.refusal-requires-clause-number
refusal-requires-clause-number c =
    longer_by c.args.placed.now.atoms c.as_slice-2.result.now c.args.atom c.len-number.result (c.as_slice-2.ensures ∙ c.in_ok-push.ensures.ok) c.len-number.ensures

pub refusal-requires-clause-before : goal.refusal-requires-clause-before
refusal-requires-clause-before c =
    before_last c.args.placed.now.atoms c.as_slice.result.now c.as_slice-2.result.now c.args.atom c.len-number.result c.place_of-before.result c.as_slice.ensures (c.as_slice-2.ensures ∙ c.in_ok-push.ensures.ok) c.len-number.ensures c.place_of-before.ensures.some

pub returns-in-Some-clause-some : goal.returns-in-Some-clause-some
returns-in-Some-clause-some c =
    let refused = holds_of_item _ c.in_ok-numbers.field-0 c.in-Some.numbers c.in-Some.is c.in_ok-numbers.ensures.some in (
      (λ i. record c.args.placed.now { atoms = popped c.pop.result c.push.new.self c.pop.new.self c.args.placed.now.atoms c.args.atom c.in_ok-push.ensures.ok c.pop.ensures i }),
      refused_as (heap_of c.args.flat.now) c.args.head.now c.args.guard.now c.args.functor c.args.placed.now c.args.atom c.len-number.result c.as_slice-2.result.now c.in-Some.numbers c.len-number.ensures (c.as_slice-2.ensures ∙ c.in_ok-push.ensures.ok) (refused c.args.functor),
    )

pub returns-in-None-clause-none : goal.returns-in-None-clause-none
returns-in-None-clause-none c =
    λ e. (
      (λ i. record c.args.placed.now { atoms = c.in_ok-push.ensures.ok i }),
      allowed_by (heap_of c.args.flat.now) c.args.head.now c.args.placed.now c.args.functor c.functor.result c.args.atom c.len-number.result c.as_slice-2.result.now c.functor.ensures (c.is_same_functor.ensures.0 c.if-not-is_same_functor.false)
          (apart_in c.args.atom c.args.placed.now.atoms c.as_slice.result.now c.as_slice.ensures (c.place_of-before.ensures.none (c.in_ok-numbers.ensures.new c.in-None.is))) (c.as_slice-2.ensures ∙ c.in_ok-push.ensures.ok) c.len-number.ensures (c.in_ok-numbers.ensures.fits c.in-None.is),
    )
