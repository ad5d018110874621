use Rattle.std.proofs.Common.{◌≡◌, ◌≢◌, None, subst}
use Rattle.lmn_store_heap.specs.Heap.{from, mems_in, gone}
use Rattle.lmn_store_heap.proofs.Heights.{mem_of_place}
use Rattle.lmn_ground.proofs.DroppingLaws.{Emptied, all_gone, empties, goes_in, goes_out, less_in, less_out, not_out, stands, stands_emptied, stands_outer, starts}
use Rattle.lmn_base.proofs.Truth.{never_both}
use Rattle.lmn_ground.proofs.cells.drop_cells.Goals as goal

pub loop-inner-init : goal.loop-inner-init
loop-inner-init g c =
    let s = g.S.LinkStore.heap c.args.store.now in
    let m = g.S.LinkStore.mem_id c.args.mem in
    let there = mem_of_place s m gone c.requires.gone in
    record { way = λ atoms ms r. starts s c.root-root.ensures.sound c.root-root.ensures.few m there atoms ms r }

pub take_atoms-requires : goal.take_atoms-requires
take_atoms-requires g c =
    let s = g.S.LinkStore.heap c.args.store.now in
    let m = g.S.LinkStore.mem_id c.args.mem in
    let there = mem_of_place s m gone c.requires.gone in
    let r = c.requires.content in
    stands s c.root-root.ensures.sound c.root-root.ensures.few m there r.0 r.1 r.2 (g.S.LinkStore.heap c.loop-inner.store) (g.S.LinkStore.mem_id c.loop-inner.at) (c.loop-inner.invariant.way r.0 r.1 r.2)

pub first_mem-requires : goal.first_mem-requires
first_mem-requires g c =
    let s = g.S.LinkStore.heap c.args.store.now in
    let m = g.S.LinkStore.mem_id c.args.mem in
    let there = mem_of_place s m gone c.requires.gone in
    let r = c.requires.content in
    stands_emptied s c.root-root.ensures.sound c.root-root.ensures.few m there r.0 r.1 r.2 (g.S.LinkStore.heap c.loop-inner.store) (g.S.LinkStore.heap c.take_atoms.new.store) (g.S.LinkStore.mem_id c.loop-inner.at)
    (c.loop-inner.invariant.way r.0 r.1 r.2) c.take_atoms.ensures

pub loop-inner-smaller-in-Some : goal.loop-inner-smaller-in-Some
loop-inner-smaller-in-Some g c =
    let s = g.S.LinkStore.heap c.args.store.now in
    let m = g.S.LinkStore.mem_id c.args.mem in
    let at = g.S.LinkStore.mem_id c.loop-inner.at in
    let h = g.S.LinkStore.heap c.loop-inner.store in
    let k = g.S.LinkStore.heap c.take_atoms.new.store in
    let there = mem_of_place s m gone c.requires.gone in
    let r = c.requires.content in
    less_in s c.root-root.ensures.sound c.root-root.ensures.few m there r.0 r.1 r.2 h k at (g.S.LinkStore.mem_id c.in-Some.inner) (c.loop-inner.invariant.way r.0 r.1 r.2) c.take_atoms.ensures c.in-Some.ensures.list

pub loop-inner-preserved-in-Some : goal.loop-inner-preserved-in-Some
loop-inner-preserved-in-Some g c =
    let s = g.S.LinkStore.heap c.args.store.now in
    let m = g.S.LinkStore.mem_id c.args.mem in
    let at = g.S.LinkStore.mem_id c.loop-inner.at in
    let h = g.S.LinkStore.heap c.loop-inner.store in
    let k = g.S.LinkStore.heap c.take_atoms.new.store in
    let there = mem_of_place s m gone c.requires.gone in
    let sound = c.root-root.ensures.sound in
    let few = c.root-root.ensures.few in
    record {
      way = λ atoms ms r. goes_in s sound few m there atoms ms r k at (g.S.LinkStore.mem_id c.in-Some.inner)
          (empties s sound few m there atoms ms r h k at (c.loop-inner.invariant.way atoms ms r) c.take_atoms.ensures).0 c.in-Some.ensures.list;
    }

pub same_mem-requires-clause-m : goal.same_mem-requires-clause-m
same_mem-requires-clause-m g c =
    let s = g.S.LinkStore.heap c.args.store.now in
    let m = g.S.LinkStore.mem_id c.args.mem in
    let there = mem_of_place s m gone c.requires.gone in
    let r = c.requires.content in
    stands_emptied s c.root-root.ensures.sound c.root-root.ensures.few m there r.0 r.1 r.2 (g.S.LinkStore.heap c.loop-inner.store) (g.S.LinkStore.heap c.take_atoms.new.store) (g.S.LinkStore.mem_id c.loop-inner.at)
    (c.loop-inner.invariant.way r.0 r.1 r.2) c.take_atoms.ensures

pub same_mem-requires-clause-n : goal.same_mem-requires-clause-n
same_mem-requires-clause-n g c =
    let s = g.S.LinkStore.heap c.args.store.now in
    let m = g.S.LinkStore.mem_id c.args.mem in
    let at = g.S.LinkStore.mem_id c.loop-inner.at in
    let h = g.S.LinkStore.heap c.loop-inner.store in
    let k = g.S.LinkStore.heap c.take_atoms.new.store in
    let there = mem_of_place s m gone c.requires.gone in
    let sound = c.root-root.ensures.sound in
    let few = c.root-root.ensures.few in
    let r = c.requires.content in
    stands_outer s sound few m there r.0 r.1 r.2 k at (empties s sound few m there r.0 r.1 r.2 h k at (c.loop-inner.invariant.way r.0 r.1 r.2) c.take_atoms.ensures).0

pub returns-then-same_mem : goal.returns-then-same_mem
returns-then-same_mem g c = λ atoms ms r.
    let s = g.S.LinkStore.heap c.args.store.now in
    let m = g.S.LinkStore.mem_id c.args.mem in
    let at = g.S.LinkStore.mem_id c.loop-inner.at in
    let h = g.S.LinkStore.heap c.loop-inner.store in
    let k = g.S.LinkStore.heap c.take_atoms.new.store in
    let there = mem_of_place s m gone c.requires.gone in
    let sound = c.root-root.ensures.sound in
    let few = c.root-root.ensures.few in
    let same : at ≡ m = c.same_mem.ensures.0 c.if-same_mem.true in
    all_gone s sound few m there atoms ms r k (subst (Emptied s k m atoms ms) same (empties s sound few m there atoms ms r h k at (c.loop-inner.invariant.way atoms ms r) c.take_atoms.ensures))
    (subst (λ x. from None (mems_in k x) ≡ mems_in k x) same c.in-None.ensures.list)

pub parent-requires : goal.parent-requires
parent-requires g c =
    let s = g.S.LinkStore.heap c.args.store.now in
    let m = g.S.LinkStore.mem_id c.args.mem in
    let there = mem_of_place s m gone c.requires.gone in
    let r = c.requires.content in
    stands_emptied s c.root-root.ensures.sound c.root-root.ensures.few m there r.0 r.1 r.2 (g.S.LinkStore.heap c.loop-inner.store) (g.S.LinkStore.heap c.take_atoms.new.store) (g.S.LinkStore.mem_id c.loop-inner.at)
    (c.loop-inner.invariant.way r.0 r.1 r.2) c.take_atoms.ensures

pub loop-inner-smaller : goal.loop-inner-smaller
loop-inner-smaller g c =
    let s = g.S.LinkStore.heap c.args.store.now in
    let m = g.S.LinkStore.mem_id c.args.mem in
    let at = g.S.LinkStore.mem_id c.loop-inner.at in
    let h = g.S.LinkStore.heap c.loop-inner.store in
    let k = g.S.LinkStore.heap c.take_atoms.new.store in
    let there = mem_of_place s m gone c.requires.gone in
    let r = c.requires.content in
    let apart : at ≢ m = λ e. never_both _ (c.same_mem.ensures.1 e) c.if-same_mem.false in
    less_out s c.root-root.ensures.sound c.root-root.ensures.few m there r.0 r.1 r.2 h k (g.S.LinkStore.heap c.take_mem.new.self) at (g.S.LinkStore.mem_id c.in-Some-parent.round)
    (c.loop-inner.invariant.way r.0 r.1 r.2) c.take_atoms.ensures apart c.in-Some-parent.ensures c.take_mem.ensures

pub loop-inner-preserved : goal.loop-inner-preserved
loop-inner-preserved g c =
    let s = g.S.LinkStore.heap c.args.store.now in
    let m = g.S.LinkStore.mem_id c.args.mem in
    let at = g.S.LinkStore.mem_id c.loop-inner.at in
    let h = g.S.LinkStore.heap c.loop-inner.store in
    let k = g.S.LinkStore.heap c.take_atoms.new.store in
    let there = mem_of_place s m gone c.requires.gone in
    let sound = c.root-root.ensures.sound in
    let few = c.root-root.ensures.few in
    let apart : at ≢ m = λ e. never_both _ (c.same_mem.ensures.1 e) c.if-same_mem.false in
    record {
      way = λ atoms ms r. goes_out s sound few m there atoms ms r k (g.S.LinkStore.heap c.take_mem.new.self) at (g.S.LinkStore.mem_id c.in-Some-parent.round)
          (empties s sound few m there atoms ms r h k at (c.loop-inner.invariant.way atoms ms r) c.take_atoms.ensures) apart c.in-None.ensures.list c.in-Some-parent.ensures c.take_mem.ensures;
    }

pub returns-in-None-parent : goal.returns-in-None-parent
returns-in-None-parent g c = λ atoms ms r.
    let s = g.S.LinkStore.heap c.args.store.now in
    let m = g.S.LinkStore.mem_id c.args.mem in
    let at = g.S.LinkStore.mem_id c.loop-inner.at in
    let h = g.S.LinkStore.heap c.loop-inner.store in
    let k = g.S.LinkStore.heap c.take_atoms.new.store in
    let there = mem_of_place s m gone c.requires.gone in
    let sound = c.root-root.ensures.sound in
    let few = c.root-root.ensures.few in
    let apart : at ≢ m = λ e. never_both _ (c.same_mem.ensures.1 e) c.if-same_mem.false in
    absurd (not_out s sound few m there atoms ms r k at (empties s sound few m there atoms ms r h k at (c.loop-inner.invariant.way atoms ms r) c.take_atoms.ensures).0 apart c.in-None-parent.ensures)
