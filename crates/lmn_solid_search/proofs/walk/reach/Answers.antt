use Rattle.lmn_solid_tables.specs.Flats.{heap_of, port_by}
use Rattle.std.proofs.Common.{◌∙◌, arith}
use Rattle.lmn_store_heap.proofs.Common.{in_at}
use Rattle.lmn_solid_search.proofs.WalkingLemmas.{part_begun, reached_atom, gathered, cleared_length}
use Rattle.lmn_solid_search.proofs.walk.reach.Goals as goal

pub loop-next-init : goal.loop-next-init
loop-next-init c = record {
  long = c.in_ok-note.ensures.length ∙ cleared_length c.args.seen.now c.clear.new.self c.clear.ensures;
  walks = part_begun (heap_of c.args.flat.now) (port_by c.args.entry) c.args.seen.now c.clear.new.self c.note.new.seen c.new-list.result c.note.new.list c.clear.ensures c.new-list.ensures c.in_ok-note.ensures.noted;
}

pub follow_all-requires-clause-atom : goal.follow_all-requires-clause-atom
follow_all-requires-clause-atom c = reached_atom (heap_of c.args.flat.now) (port_by c.args.entry) c.at-atom.result.now c.requires.valid c.requires.entry
    (c.loop-next.invariant.walks.right c.at-atom.result.now (in_at c.loop-next.list c.loop-next.next c.at-atom.result.now c.at-atom.ensures))

pub returns-clause-all : goal.returns-clause-all
returns-clause-all c = gathered (heap_of c.args.flat.now) (port_by c.args.entry) c.loop-next.seen c.loop-next.list c.loop-next.next (let e = c.len.ensures in let l = c.loop-next-test.false in omega (arith, e, l)) c.loop-next.invariant.walks
