use Rattle.lmn_solid_tables.specs.Flats.{heap_of}
use Rattle.lmn_base.proofs.Lists.{holds_of_item}
use Rattle.lmn_receipt_search.specs.Turns.{FiresInWithin}
use Rattle.lmn_receipt_search.proofs.Found.{found_within, one_of_count}
use Rattle.lmn_receipt_search.proofs.Rounds.{all_before, before_more}
use Rattle.lmn_receipt_search.proofs.next.next_among.Goals as goal

pub asked_at-membrane-requires-clause-from : goal.asked_at-membrane-requires-clause-from
asked_at-membrane-requires-clause-from c =
    let q = c.requires.searched in
    one_of_count c.firings_are_next.ensures q.0 c.args.plain.now c.args.plans.now q.1 c.args.flat.now q.2 c.membrane_count-count.result c.membrane_count-count.ensures.count c.args.from q.3

pub fire_in-requires-clause-searched : goal.fire_in-requires-clause-searched
fire_in-requires-clause-searched c = let q = c.requires.searched in (q.0, q.1, q.2)

pub fire_in-requires-clause-there : goal.fire_in-requires-clause-there
fire_in-requires-clause-there c = (c.membrane_count-count.ensures.count c.asked_at-membrane.result).1 c.asked_at-membrane.ensures.0

pub reach_of-reach-requires-clause-from : goal.reach_of-reach-requires-clause-from
reach_of-reach-requires-clause-from c =
    let q = c.requires.searched in
    one_of_count c.firings_are_next.ensures q.0 c.args.plain.now c.args.plans.now q.1 c.args.flat.now q.2 c.membrane_count-count.result c.membrane_count-count.ensures.count c.args.from q.3

pub returns-in-Some-clause-found : goal.returns-in-Some-clause-found
returns-in-Some-clause-found c names s w =
    let q = c.requires.searched in
    let from = one_of_count c.firings_are_next.ensures q.0 c.args.plain.now c.args.plans.now q.1 c.args.flat.now q.2 c.membrane_count-count.result c.membrane_count-count.ensures.count c.args.from q.3 in
    let fires = holds_of_item (λ firing. FiresInWithin names c.args.plain.now c.args.plans.now s c.args.flat.now c.asked_at-membrane.result c.limit_in-most.result firing.solid) c.in_ok-fired.fired c.in-Some.firing c.in-Some.is (c.in_ok-fired.ensures.some names s w) in
    found_within c.firings_are_next.ensures names c.args.plain.now c.args.plans.now s c.args.flat.now w c.membrane_count-count.result c.membrane_count-count.ensures.count
    c.args.from c.loop-turn.turn c.asked_at-membrane.result c.reach_of-reach.result from c.loop-turn-test.true c.asked_at-membrane.ensures c.loop-turn.invariant.none c.args.limit c.limit_in-most.result c.args.left_out.now c.limit_in-most.ensures c.in-Some.firing.solid fires c.reach_of-reach.ensures.0 c.reach_of-reach.ensures.1 c.reach_of-reach.ensures.2

pub loop-turn-preserved : goal.loop-turn-preserved
loop-turn-preserved c = record {
  room = c.in_ok-fired.ensures.room;
  none = before_more c.args.plain.now.rules c.args.plans.now (heap_of c.args.flat.now) c.args.from c.membrane_count-count.result c.loop-turn.turn c.asked_at-membrane.result c.asked_at-membrane.ensures c.loop-turn.invariant.none (c.in_ok-fired.ensures.none c.in_default.is);
}

pub returns-clause-none : goal.returns-clause-none
returns-clause-none c names s w e =
    let q = c.requires.searched in
    let from = one_of_count c.firings_are_next.ensures q.0 c.args.plain.now c.args.plans.now q.1 c.args.flat.now q.2 c.membrane_count-count.result c.membrane_count-count.ensures.count c.args.from q.3 in
    c.firings_are_next.ensures.none names c.args.plain.now c.args.plans.now s c.args.flat.now w c.membrane_count-count.result c.membrane_count-count.ensures.count c.args.from from
    (all_before c.args.plain.now.rules c.args.plans.now (heap_of c.args.flat.now) c.args.from c.membrane_count-count.result c.loop-turn.turn c.loop-turn-test.false c.loop-turn.invariant.none)
