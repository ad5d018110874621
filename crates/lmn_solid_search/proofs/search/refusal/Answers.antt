use Rattle.std.proofs.Common.{List, arith, subst, sym}
use Rattle.std.proofs.lemmas.Result.{IfOk-weaker}
use Rattle.lmn_base.proofs.Lists.{holds_of_item, weaker}
use Rattle.lmn_solid_tables.specs.Flats.{heap_of}
use Rattle.lmn_solid_search.specs.Taking.{LinksFit, LinksFitTo}
use Rattle.lmn_solid_search.specs.declared.head.AtomItem.{AtomItem}
use Rattle.lmn_solid_search.proofs.SearchLemmas.{by_conditions, leads_elsewhere, placed_before}
use Rattle.lmn_solid_search.proofs.search.refusal.Goals as goal

pub returns-in-Some-clause-some : goal.returns-in-Some-clause-some
returns-in-Some-clause-some c =
    by_conditions (heap_of c.args.flat.now) c.args.head.now c.args.guard.now c.args.number c.args.images.now c.in-Some.numbers (holds_of_item _ c.in_ok-numbers.field-0 c.in-Some.numbers c.in-Some.is c.in_ok-numbers.ensures)

pub returns-in-Some-before-clause-some : goal.returns-in-Some-before-clause-some
returns-in-Some-before-clause-some c =
    let before = holds_of_item _ c.args.before c.in-Some-before.other c.in-Some-before.is c.requires.before in
    placed_before (heap_of c.args.flat.now) c.args.head.now c.args.guard.now c.args.number c.args.images.now c.two.result c.requires.number c.two.ensures.one c.in-Some-before.other c.two.ensures.other before.0 before.1

pub misfit-requires-clause-number : goal.misfit-requires-clause-number
misfit-requires-clause-number c =
    let l = c.requires.number in omega (arith, l)

pub returns-in-Some-misfit-clause-some : goal.returns-in-Some-misfit-clause-some
returns-in-Some-misfit-clause-some c =
    leads_elsewhere (heap_of c.args.flat.now) c.args.head.now c.args.guard.now c.args.number c.args.images.now c.two-in-Some-misfit.result c.requires.number c.two-in-Some-misfit.ensures.one c.in-Some-misfit.other c.two-in-Some-misfit.ensures.other c.in-Some-misfit.ensures.some.0
    (λ f. c.in-Some-misfit.ensures.some.1 (subst (λ (xs : List AtomItem). LinksFitTo (heap_of c.args.flat.now) xs c.args.images.now c.args.number c.in-Some-misfit.other) (sym c.as_slice.ensures) f))

pub returns-clause-some : goal.returns-clause-some
returns-clause-some c =
    IfOk-weaker c.refusal-2.result _ _ (λ o w. weaker o _ _ (λ e r. by_conditions (heap_of c.args.flat.now) c.args.head.now c.args.guard.now c.args.number c.args.images.now e r) w) c.refusal-2.ensures

pub returns-clause-new : goal.returns-clause-new
returns-clause-new c =
    IfOk-weaker c.refusal-2.result _ _ (λ o w e. c.in-None-before.is) c.refusal-2.ensures

pub returns-clause-fits : goal.returns-clause-fits
returns-clause-fits c =
    IfOk-weaker c.refusal-2.result _ _ (λ o w e. subst (λ (xs : List AtomItem). LinksFit (heap_of c.args.flat.now) xs c.args.images.now c.args.number) c.as_slice.ensures (c.misfit.ensures.none c.in-None-misfit.is)) c.refusal-2.ensures
