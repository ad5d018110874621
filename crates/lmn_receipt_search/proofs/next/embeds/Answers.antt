use Rattle.std.proofs.Common.{inl, arith}
use Rattle.lmn_congruence.specs.Translation.{region_of}
use Rattle.lmn_solid_tables.specs.Flats.{heap_of}
use Rattle.lmn_receipt_chain.proofs.ChainLemmas.{some_membrane}
use Rattle.lmn_receipt_search.proofs.Found.{one_of_count, searched}
use Rattle.lmn_receipt_search.proofs.Rounds.{all_before, before_more}
use Rattle.lmn_receipt_search.proofs.next.embeds.Goals as goal

pub of-requires : goal.of-requires
of-requires c = c.requires.2.solid

pub embeds_in-requires-clause-searched : goal.embeds_in-requires-clause-searched
embeds_in-requires-clause-searched c =
    let q = c.requires in
    (q.0, c.args.solid.now, searched q.0 c.args.plain.now c.args.plans.now c.args.solid.now c.in_ok-flat.flat q.1 q.2 c.in_ok-flat.ensures)

pub embeds_in-requires-clause-there : goal.embeds_in-requires-clause-there
embeds_in-requires-clause-there c = (c.membrane_count-count.ensures.count c.loop-membrane.membrane).1 c.loop-membrane-test.true

pub returns-then-branch-clause-some : goal.returns-then-branch-clause-some
returns-then-branch-clause-some c names can by is =
    let w = searched names c.args.plain.now c.args.plans.now c.args.solid.now c.in_ok-flat.flat can by c.in_ok-flat.ensures in
    c.firings_are_next.ensures.embeds names c.args.plain.now c.args.plans.now c.args.solid.now c.in_ok-flat.flat w c.membrane_count-count.result c.membrane_count-count.ensures.count c.loop-membrane.membrane c.loop-membrane-test.true c.loop-membrane.invariant.none
    (c.in_ok-embeds_in.ensures.some names c.args.solid.now w c.if-branch.true)

pub loop-membrane-preserved : goal.loop-membrane-preserved
loop-membrane-preserved c = record {
  room = c.in_ok-embeds_in.ensures.room;
  none = before_more c.args.plain.now.rules c.args.plans.now (heap_of c.in_ok-flat.flat) 0 c.membrane_count-count.result c.loop-membrane.membrane c.loop-membrane.membrane (c.loop-membrane-test.true, inl (omega arith)) c.loop-membrane.invariant.none (c.in_ok-embeds_in.ensures.none c.if-branch.false);
}

pub returns-clause-none : goal.returns-clause-none
returns-clause-none c names can by is =
    let w = searched names c.args.plain.now c.args.plans.now c.args.solid.now c.in_ok-flat.flat can by c.in_ok-flat.ensures in
    let root = one_of_count c.firings_are_next.ensures names c.args.plain.now c.args.plans.now c.args.solid.now c.in_ok-flat.flat w c.membrane_count-count.result c.membrane_count-count.ensures.count 0
    (some_membrane (region_of names c.args.plain.now.rules c.args.solid.now)) in
    c.firings_are_next.ensures.none names c.args.plain.now c.args.plans.now c.args.solid.now c.in_ok-flat.flat w c.membrane_count-count.result c.membrane_count-count.ensures.count 0 root
    (all_before c.args.plain.now.rules c.args.plans.now (heap_of c.in_ok-flat.flat) 0 c.membrane_count-count.result c.loop-membrane.membrane c.loop-membrane-test.false c.loop-membrane.invariant.none)
