use Rattle.std.proofs.Common.{◌∙◌, arith}
use Rattle.lmn_solid_tables.specs.Flats.{heap_of}
use Rattle.lmn_store_heap.proofs.Common.{in_at}
use Rattle.lmn_solid_search.proofs.WalkingLemmas.{cleared_length}
use Rattle.lmn_solid_search.proofs.BelowLemmas.{descending_first, descending_next, descended, below_there, inner_fit}
use Rattle.lmn_solid_search.proofs.below.below.Goals as goal

pub note_all-requires : goal.note_all-requires
note_all-requires c = λ p i. (let l = c.requires.places p (c.requires.starts p i) in let e = cleared_length c.args.seen.now c.clear.new.self c.clear.ensures in omega (arith, l, e))

pub loop-next-init : goal.loop-next-init
loop-next-init c = record {
  long = c.in_ok-note_all.ensures.length ∙ cleared_length c.args.seen.now c.clear.new.self c.clear.ensures;
  walks = descending_first (heap_of c.args.flat.now) c.args.starts.now c.args.seen.now c.clear.new.self c.note_all.new.seen c.new-list.result c.note_all.new.list c.clear.ensures c.new-list.ensures c.in_ok-note_all.ensures.noted;
}

pub membranes-requires : goal.membranes-requires
membranes-requires c = below_there (heap_of c.args.flat.now) c.requires.valid c.args.starts.now c.at-membrane.result.now c.requires.starts (c.loop-next.invariant.walks.right c.at-membrane.result.now (in_at c.loop-next.list c.loop-next.next c.at-membrane.result.now c.at-membrane.ensures))

pub note_all-requires-in-loop-next : goal.note_all-requires-in-loop-next
note_all-requires-in-loop-next c = inner_fit (heap_of c.args.flat.now) c.requires.valid c.args.seen.now c.loop-next.seen c.at-membrane.result.now c.membranes.result.now c.requires.places c.loop-next.invariant.long c.membranes.ensures

pub loop-next-preserved : goal.loop-next-preserved
loop-next-preserved c = record {
  long = c.in_ok-note_all-2.ensures.length ∙ c.loop-next.invariant.long;
  walks = descending_next (heap_of c.args.flat.now) c.requires.valid c.args.starts.now c.membranes.result.now c.loop-next.seen c.note_all-in-loop-next.new.seen c.loop-next.list c.note_all-in-loop-next.new.list c.loop-next.next c.at-membrane.result.now
      c.at-membrane.ensures c.membranes.ensures c.in_ok-note_all-2.ensures.noted c.loop-next.invariant.walks;
}

pub returns-clause-all : goal.returns-clause-all
returns-clause-all c = descended (heap_of c.args.flat.now) c.requires.valid c.args.starts.now c.loop-next.seen c.loop-next.list c.loop-next.next (let e = c.len.ensures in let l = c.loop-next-test.false in omega (arith, e, l)) c.loop-next.invariant.walks
