use Rattle.lmn_base.proofs.Lists.{holds_of_item}
use Rattle.lmn_receipt_search.specs.Turns.{IsFoundWithin}
use Rattle.lmn_receipt_search.proofs.Found.{made_is}
use Rattle.lmn_receipt_search.proofs.Planned.{by_made_slice}
use Rattle.lmn_receipt_search.proofs.next.next_of.Goals as goal

pub of-requires : goal.of-requires
of-requires c = let by = c.requires.3 in by.solid

pub next_from-requires : goal.next_from-requires
next_from-requires c =
    let q = c.requires in
    (q.0, c.args.solid.now, by_made_slice q.0 c.args.plain.now q.1 c.as_slice.result.now c.in_ok-plans.plans c.as_slice-2.result.now c.as_slice.ensures c.as_slice-2.ensures q.2 c.in_ok-plans.ensures, q.3, c.in_ok-tables.ensures, q.4)

pub returns-in-Some-clause-by : goal.returns-in-Some-clause-by
returns-in-Some-clause-by c names plans can by =
    let made = by_made_slice names c.args.plain.now plans c.as_slice.result.now c.in_ok-plans.plans c.as_slice-2.result.now c.as_slice.ensures c.as_slice-2.ensures can c.in_ok-plans.ensures in
    let found = holds_of_item (IsFoundWithin names c.args.plain.now c.args.solid.now c.args.from _ _) c.in_ok-next.next c.in-Some.found c.in-Some.is (c.in_ok-next.ensures.found names c.args.solid.now made by c.in_ok-tables.ensures) in
    (made_is names c.args.plain.now c.args.solid.now c.args.from _ _ c.in-Some.found found c.in_ok-made-in-Some.made c.in_ok-made-in-Some.ensures).0

pub returns-in-Some-clause-next : goal.returns-in-Some-clause-next
returns-in-Some-clause-next c names plans can by =
    let made = by_made_slice names c.args.plain.now plans c.as_slice.result.now c.in_ok-plans.plans c.as_slice-2.result.now c.as_slice.ensures c.as_slice-2.ensures can c.in_ok-plans.ensures in
    let found = holds_of_item (IsFoundWithin names c.args.plain.now c.args.solid.now c.args.from _ _) c.in_ok-next.next c.in-Some.found c.in-Some.is (c.in_ok-next.ensures.found names c.args.solid.now made by c.in_ok-tables.ensures) in
    (made_is names c.args.plain.now c.args.solid.now c.args.from _ _ c.in-Some.found found c.in_ok-made-in-Some.made c.in_ok-made-in-Some.ensures).1

pub returns-clause-none : goal.returns-clause-none
returns-clause-none c names plans can by e =
    let made = by_made_slice names c.args.plain.now plans c.as_slice.result.now c.in_ok-plans.plans c.as_slice-2.result.now c.as_slice.ensures c.as_slice-2.ensures can c.in_ok-plans.ensures in
    c.in_ok-next.ensures.none names c.args.solid.now made by c.in_ok-tables.ensures c.in-None.is
