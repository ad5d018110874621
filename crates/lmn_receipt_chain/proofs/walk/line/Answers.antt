use Rattle.std.proofs.Common.{arith, subst, sym}
use Rattle.lmn_base.proofs.Lists.{holds_of_item}
use Rattle.lmn_receipt_chain.specs.Found.{AreLeftOut, IsNextFound}
use Rattle.lmn_receipt_chain.proofs.WalkLemmas.{all_tried, next_continues, next_fits, next_tried, nothing_fits}
use Rattle.lmn_receipt_chain.proofs.walk.line.Goals as goal

pub try_hint-requires-clause-asked : goal.try_hint-requires-clause-asked
try_hint-requires-clause-asked g c = (c.args.solid.now, c.requires.fits, c.in_ok-tables.ensures, c.in_ok-count.ensures)

pub left_out-requires-clause-asked : goal.left_out-requires-clause-asked
left_out-requires-clause-asked g c = (c.args.solid.now, c.requires.fits, c.in_ok-found.ensures.tables c.args.solid.now c.requires.fits c.in_ok-tables.ensures)

pub next_from-requires-clause-asked : goal.next_from-requires-clause-asked
next_from-requires-clause-asked g c =
    let count = c.in_ok-count.ensures in
    let inside = c.loop-from-test.true in
    let few = c.asked_of-asked.ensures.few in
    (c.args.solid.now, c.requires.fits, c.loop-from.invariant.tables, omega (arith, count, inside, few))

pub fitting-requires : goal.fitting-requires
fitting-requires g c =
    let fits = g.N.NextSolids.fits c.args.solids.now in
    let region = g.N.NextSolids.region c.args.solids.now in
    record {
      fits = next_fits fits region (region c.args.solid.now) c.loop-from.from c.args.rest.now c.in-Some-2.next
          (holds_of_item (IsNextFound fits region (region c.args.solid.now) c.loop-from.from c.args.rest.now) c.in_ok-next.field-0 c.in-Some-2.next c.in-Some-2.is (c.in_ok-next.ensures.found c.args.solid.now c.requires.fits c.loop-from.invariant.tables
          (subst (AreLeftOut (region c.args.solid.now) c.args.rest.now) (sym c.as_slice.ensures.value)
          (c.in_ok-left_out.ensures c.args.solid.now c.requires.fits (c.in_ok-found.ensures.tables c.args.solid.now c.requires.fits c.in_ok-tables.ensures) c.requires.own))));
    }

pub loop-from-init : goal.loop-from-init
loop-from-init g c = record { tables = c.in_ok-found.ensures.tables c.args.solid.now c.requires.fits c.in_ok-tables.ensures; tried = λ k l. absurd (omega (arith, l)) }

pub loop-from-preserved : goal.loop-from-preserved
loop-from-preserved g c =
    let fits = g.N.NextSolids.fits c.args.solids.now in
    let region = g.N.NextSolids.region c.args.solids.now in
    let found = holds_of_item (IsNextFound fits region (region c.args.solid.now) c.loop-from.from c.args.rest.now) c.in_ok-next.field-0 c.in-Some-2.next c.in-Some-2.is (c.in_ok-next.ensures.found c.args.solid.now c.requires.fits c.loop-from.invariant.tables
    (subst (AreLeftOut (region c.args.solid.now) c.args.rest.now) (sym c.as_slice.ensures.value)
    (c.in_ok-left_out.ensures c.args.solid.now c.requires.fits (c.in_ok-found.ensures.tables c.args.solid.now c.requires.fits c.in_ok-tables.ensures) c.requires.own))) in
    record {
      tables = c.in_ok-next.ensures.tables c.args.solid.now c.requires.fits c.loop-from.invariant.tables;
      tried = next_tried fits region (region c.args.solid.now) c.loop-from.from c.args.rest.now c.in-Some-2.next found c.requires.sound c.loop-from.invariant.tried (c.in_ok-found-2.ensures.none c.in_default-3.is);
    }

pub returns : goal.returns
returns g c = λ commits. (
  c.requires.there,
  all_tried (g.N.NextSolids.region c.args.solids.now c.args.solid.now) c.args.own.now c.args.rest.now c.loop-from.from c.in_ok-count.count c.asked_of-asked.result c.in_ok-opened.opened c.in_ok-count.ensures c.requires.own
      c.in_ok-opened.ensures c.asked_of-asked.ensures.others (let out = c.loop-from-test.false in omega (arith, out)) c.loop-from.invariant.tried,
)

pub returns-in-Some : goal.returns-in-Some
returns-in-Some g c = λ commits. rw c.in-Some.is at (c.in_ok-found.ensures.found c.args.solid.now commits c.requires.fits c.in_ok-tables.ensures)

pub returns-in_default-2 : goal.returns-in_default-2
returns-in_default-2 g c = λ commits. (
  c.requires.there,
  nothing_fits (g.N.NextSolids.region c.args.solids.now c.args.solid.now) c.args.rest.now (c.in_ok-next.ensures.none c.args.solid.now c.requires.fits c.loop-from.invariant.tables c.in_default-2.is),
)

pub returns-in-Some-3 : goal.returns-in-Some-3
returns-in-Some-3 g c = λ commits.
    let fits = g.N.NextSolids.fits c.args.solids.now in
    let region = g.N.NextSolids.region c.args.solids.now in
    let found = holds_of_item (IsNextFound fits region (region c.args.solid.now) c.loop-from.from c.args.rest.now) c.in_ok-next.field-0 c.in-Some-2.next c.in-Some-2.is (c.in_ok-next.ensures.found c.args.solid.now c.requires.fits c.loop-from.invariant.tables
    (subst (AreLeftOut (region c.args.solid.now) c.args.rest.now) (sym c.as_slice.ensures.value)
    (c.in_ok-left_out.ensures c.args.solid.now c.requires.fits (c.in_ok-found.ensures.tables c.args.solid.now c.requires.fits c.in_ok-tables.ensures) c.requires.own))) in
    rw c.in-Some-3.is at (c.in_ok-found-2.ensures.some (region c.args.solid.now) commits (next_continues fits region (region c.args.solid.now) c.loop-from.from c.args.rest.now c.in-Some-2.next found))
