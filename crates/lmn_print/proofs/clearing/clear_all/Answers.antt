use Rattle.std.specs.Option.{option_map}
use Rattle.lmn_store_heap.specs.Heap.{IsInPlace}
use Rattle.lmn_print.proofs.ClearedMarks.{others_more, tree_same, place_same, next_place, clearing_first, clearing_next, clearing_last, clearing_fewer}
use Rattle.lmn_print.proofs.clearing.clear_all.Goals as goal
use Rattle.lmn_store_heap.proofs.Common.{in_place_atom as place_atom}
use Rattle.lmn_base.proofs.Lists.{holds_of_item}

pub first_printed-next-requires : goal.first_printed-next-requires
first_printed-next-requires g c = c.requires.tree

pub loop-next-init : goal.loop-next-init
loop-next-init g c = record {
  cleared = λ f t. clearing_first (g.S.LinkStore.heap c.args.store.now) c.requires f t (option_map g.S.LinkStore.atom_id c.first_printed-next.result) (c.first_printed-next.ensures.list f t);
  place = c.first_printed-next.ensures.place;
}

pub clear_atom-requires : goal.clear_atom-requires
clear_atom-requires g c =
    let s = g.S.LinkStore.heap c.args.store.now in
    let t = g.S.LinkStore.heap c.loop-next.store in
    let a = g.S.LinkStore.atom_id c.in-Some.atom in
    let f = c.requires.tree in
    let place = holds_of_item (λ b. IsInPlace s (g.S.LinkStore.atom_id b)) c.loop-next.next c.in-Some.atom c.in-Some.is c.loop-next.invariant.place in
    place_atom t a (place_same s t (c.loop-next.invariant.cleared f.0 f.1).marks a place)

pub next_printed-next-requires : goal.next_printed-next-requires
next_printed-next-requires g c =
    let s = g.S.LinkStore.heap c.args.store.now in
    let t = g.S.LinkStore.heap c.loop-next.store in
    let u = g.S.LinkStore.heap c.clear_atom.new.store in
    let f = c.requires.tree in
    let r = others_more s t u (c.loop-next.invariant.cleared f.0 f.1).marks c.clear_atom.ensures.marks in
    let place = holds_of_item (λ b. IsInPlace s (g.S.LinkStore.atom_id b)) c.loop-next.next c.in-Some.atom c.in-Some.is c.loop-next.invariant.place in
    record { tree = (f.0, tree_same s u r f.0 f.1); place = place_same s u r (g.S.LinkStore.atom_id c.in-Some.atom) place }

pub loop-next-preserved : goal.loop-next-preserved
loop-next-preserved g c =
    let s = g.S.LinkStore.heap c.args.store.now in
    let t = g.S.LinkStore.heap c.loop-next.store in
    let u = g.S.LinkStore.heap c.clear_atom.new.store in
    let f = c.requires.tree in
    let r = others_more s t u (c.loop-next.invariant.cleared f.0 f.1).marks c.clear_atom.ensures.marks in
    record {
      cleared = λ f tree. clearing_next g.S.LinkStore.atom_id s t u f tree c.in-Some.atom c.loop-next.next c.next_printed-next.result c.in-Some.is (c.loop-next.invariant.cleared f tree)
          c.clear_atom.ensures.marks c.clear_atom.ensures.here c.clear_atom.ensures.others c.next_printed-next.ensures.list;
      place = next_place g.S.LinkStore.atom_id s u r c.next_printed-next.result c.next_printed-next.ensures.place;
    }

pub loop-next-smaller : goal.loop-next-smaller
loop-next-smaller g c =
    let s = g.S.LinkStore.heap c.args.store.now in
    let t = g.S.LinkStore.heap c.loop-next.store in
    let u = g.S.LinkStore.heap c.clear_atom.new.store in
    let f = c.requires.tree in
    let r = others_more s t u (c.loop-next.invariant.cleared f.0 f.1).marks c.clear_atom.ensures.marks in
    clearing_fewer g.S.LinkStore.atom_id s u c.root-root.ensures.sound c.root-root.ensures.few r f.0 f.1 c.in-Some.atom c.loop-next.next c.next_printed-next.result c.in-Some.is c.next_printed-next.ensures.list

pub returns-clause-marks : goal.returns-clause-marks
returns-clause-marks g c = (c.loop-next.invariant.cleared c.requires.tree.0 c.requires.tree.1).marks

pub returns-clause-none : goal.returns-clause-none
returns-clause-none g c =
    clearing_last g.S.LinkStore.atom_id (g.S.LinkStore.heap c.args.store.now) (g.S.LinkStore.heap c.loop-next.store) c.requires.tree.0 c.loop-next.next c.in_default.not-Some
    (c.loop-next.invariant.cleared c.requires.tree.0 c.requires.tree.1)
