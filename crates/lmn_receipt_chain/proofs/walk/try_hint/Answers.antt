use Rattle.std.proofs.Common.{arith}
use Rattle.lmn_base.proofs.Lists.{holds_of_item}
use Rattle.lmn_receipt_chain.specs.Found.{IsNextFound}
use Rattle.lmn_receipt_chain.proofs.LeftOutLemmas.{none_left_out}
use Rattle.lmn_receipt_chain.proofs.WalkLemmas.{next_continues, next_fits}
use Rattle.lmn_receipt_chain.proofs.walk.try_hint.Goals as goal

pub next_from-requires-clause-asked : goal.next_from-requires-clause-asked
next_from-requires-clause-asked g c =
    let q = c.requires.asked in
    let few = q.3 in
    let below = c.if-hint-count.false in
    (q.0, q.1, q.2, omega (arith, few, below))

pub fitting-requires : goal.fitting-requires
fitting-requires g c =
    let q = c.requires.asked in
    let fits = g.N.NextSolids.fits c.args.solids.now in
    let region = g.N.NextSolids.region c.args.solids.now in
    record {
      fits = next_fits fits region (region q.0) c.args.hint c.args.rest.now c.in-Some.next
          (holds_of_item (IsNextFound fits region (region q.0) c.args.hint c.args.rest.now) c.in_ok-next_from.field-0 c.in-Some.next c.in-Some.is (c.in_ok-next_from.ensures.found q.0 q.1 q.2 (none_left_out (region q.0) c.args.rest.now)));
    }

pub returns-then-hint-count-clause-tables : goal.returns-then-hint-count-clause-tables
returns-then-hint-count-clause-tables g c s fits are = are

pub returns-in_err-next_from-clause-tables : goal.returns-in_err-next_from-clause-tables
returns-in_err-next_from-clause-tables g c s fits are = c.next_from.ensures.tables s fits are

pub returns-in-Some-clause-tables : goal.returns-in-Some-clause-tables
returns-in-Some-clause-tables g c s fits are = c.next_from.ensures.tables s fits are

pub returns-in-None-clause-tables : goal.returns-in-None-clause-tables
returns-in-None-clause-tables g c s fits are = c.next_from.ensures.tables s fits are

pub returns-in-Some-clause-found : goal.returns-in-Some-clause-found
returns-in-Some-clause-found g c s commits holds are =
    let fits = g.N.NextSolids.fits c.args.solids.now in
    let region = g.N.NextSolids.region c.args.solids.now in
    c.fitting.ensures.some (region s) commits
    (next_continues fits region (region s) c.args.hint c.args.rest.now c.in-Some.next
    (holds_of_item (IsNextFound fits region (region s) c.args.hint c.args.rest.now) c.in_ok-next_from.field-0 c.in-Some.next c.in-Some.is (c.in_ok-next_from.ensures.found s holds are (none_left_out (region s) c.args.rest.now))))
