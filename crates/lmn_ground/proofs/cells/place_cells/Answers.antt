use Rattle.std.proofs.Common.{◌≡◌, ◌<◌, ◌∷◌, length, refl, subst, sym, inl}
use Rattle.std.specs.Option.{option_map}
use Rattle.lmn_store_heap.specs.Heap.{after, from}
use Rattle.lmn_ground_parts.specs.Copies.{answer}
use Rattle.lmn_ground.proofs.DroppingLaws.{found_is}
use Rattle.lmn_ground.proofs.PlacingLaws.{all_placed, atoms_waiting, content_stays, copy_there, fewer, first_line, first_waits, goes_on, next_there, room_there, starts_from, still_there}
use Rattle.lmn_ground.proofs.cells.place_cells.Goals as goal

pub place_atoms-requires-clause-line : goal.place_atoms-requires-clause-line
place_atoms-requires-clause-line g c =
    let w = c.requires.waits in
    first_line (g.S.LinkStore.heap c.args.store.now) c.root-root.ensures.sound (g.S.LinkStore.mem_id c.args.from) (g.S.LinkStore.mem_id c.args.to) c.requires.from c.requires.to w.0 w.1 w.2 w.3 w.4

pub loop-next-init : goal.loop-next-init
loop-next-init g c = record {
  placing = λ atoms ms copies news w.
      starts_from (g.S.LinkStore.heap c.args.store.now) c.root-root.ensures.sound (g.S.LinkStore.mem_id c.args.from) (g.S.LinkStore.mem_id c.args.to) c.requires.from c.requires.to atoms ms copies news w
      (g.S.LinkStore.heap c.place_atoms.new.store) c.place_atoms.ensures;
}

pub next_twin-requires-clause-mem : goal.next_twin-requires-clause-mem
next_twin-requires-clause-mem g c =
    let s = g.S.LinkStore.heap c.args.store.now in
    let h = g.S.LinkStore.heap c.loop-next.store in
    let m = g.S.LinkStore.mem_id c.args.from in
    let n = g.S.LinkStore.mem_id c.args.to in
    let sound = c.root-root.ensures.sound in
    let at = g.S.LinkStore.mem_id c.loop-next.at.mem in
    let copy = g.S.LinkStore.mem_id c.loop-next.at.copy in
    let w = c.requires.waits in
    let d = c.loop-next.invariant.placing w.0 w.1 w.2 w.3 w.4 in
    still_there s sound m n c.requires.from c.requires.to w.0 w.1 w.2 w.3 w.4 h at copy d m (inl refl)

pub next_twin-requires-clause-at : goal.next_twin-requires-clause-at
next_twin-requires-clause-at g c =
    let s = g.S.LinkStore.heap c.args.store.now in
    let h = g.S.LinkStore.heap c.loop-next.store in
    let m = g.S.LinkStore.mem_id c.args.from in
    let n = g.S.LinkStore.mem_id c.args.to in
    let sound = c.root-root.ensures.sound in
    let at = g.S.LinkStore.mem_id c.loop-next.at.mem in
    let copy = g.S.LinkStore.mem_id c.loop-next.at.copy in
    let w = c.requires.waits in
    let d = c.loop-next.invariant.placing w.0 w.1 w.2 w.3 w.4 in
    (w.0, w.1, content_stays s sound m n c.requires.from c.requires.to w.0 w.1 w.2 w.3 w.4 h at copy d, d.here)

pub next_twin-requires-clause-twin : goal.next_twin-requires-clause-twin
next_twin-requires-clause-twin g c =
    let m = g.S.LinkStore.mem_id c.args.from in
    let n = g.S.LinkStore.mem_id c.args.to in
    let w = c.requires.waits in
    let d = c.loop-next.invariant.placing w.0 w.1 w.2 w.3 w.4 in
    (answer (m ∷ w.1) (n ∷ w.3), d.placed, d.twins, d.stand, d.twin)

pub next_twin-requires-clause-there : goal.next_twin-requires-clause-there
next_twin-requires-clause-there g c =
    let s = g.S.LinkStore.heap c.args.store.now in
    let h = g.S.LinkStore.heap c.loop-next.store in
    let m = g.S.LinkStore.mem_id c.args.from in
    let n = g.S.LinkStore.mem_id c.args.to in
    let sound = c.root-root.ensures.sound in
    let at = g.S.LinkStore.mem_id c.loop-next.at.mem in
    let copy = g.S.LinkStore.mem_id c.loop-next.at.copy in
    let w = c.requires.waits in
    let d = c.loop-next.invariant.placing w.0 w.1 w.2 w.3 w.4 in
    copy_there s sound m n c.requires.from c.requires.to w.0 w.1 w.2 w.3 w.4 h at copy d

pub place_copy-requires-clause-of : goal.place_copy-requires-clause-of
place_copy-requires-clause-of g c =
    let s = g.S.LinkStore.heap c.args.store.now in
    let h = g.S.LinkStore.heap c.loop-next.store in
    let m = g.S.LinkStore.mem_id c.args.from in
    let n = g.S.LinkStore.mem_id c.args.to in
    let sound = c.root-root.ensures.sound in
    let at = g.S.LinkStore.mem_id c.loop-next.at.mem in
    let copy = g.S.LinkStore.mem_id c.loop-next.at.copy in
    let w = c.requires.waits in
    let d = c.loop-next.invariant.placing w.0 w.1 w.2 w.3 w.4 in
    let y = g.S.LinkStore.mem_id c.in-Some.next.mem in
    let k = g.S.LinkStore.mem_id c.in-Some.next.copy in
    let v = c.in-Some.ensures.round (answer (m ∷ w.1) (n ∷ w.3)) d.placed d.twins d.stand d.twin in
    let next = c.in-Some.ensures.list w.0 w.1 (content_stays s sound m n c.requires.from c.requires.to w.0 w.1 w.2 w.3 w.4 h at copy d) in
    next_there s sound m n c.requires.from c.requires.to w.0 w.1 w.2 w.3 w.4 h at copy d y v.0 k next v.1 v.2 v.3

pub place_copy-requires-clause-to : goal.place_copy-requires-clause-to
place_copy-requires-clause-to g c =
    let s = g.S.LinkStore.heap c.args.store.now in
    let h = g.S.LinkStore.heap c.loop-next.store in
    let m = g.S.LinkStore.mem_id c.args.from in
    let n = g.S.LinkStore.mem_id c.args.to in
    let sound = c.root-root.ensures.sound in
    let at = g.S.LinkStore.mem_id c.loop-next.at.mem in
    let copy = g.S.LinkStore.mem_id c.loop-next.at.copy in
    let w = c.requires.waits in
    let d = c.loop-next.invariant.placing w.0 w.1 w.2 w.3 w.4 in
    let y = g.S.LinkStore.mem_id c.in-Some.next.mem in
    let k = g.S.LinkStore.mem_id c.in-Some.next.copy in
    let v = c.in-Some.ensures.round (answer (m ∷ w.1) (n ∷ w.3)) d.placed d.twins d.stand d.twin in
    let next = c.in-Some.ensures.list w.0 w.1 (content_stays s sound m n c.requires.from c.requires.to w.0 w.1 w.2 w.3 w.4 h at copy d) in
    room_there s sound m n c.requires.from c.requires.to w.0 w.1 w.2 w.3 w.4 h at copy d y v.0 k next v.1 v.2 v.3

pub place_copy-requires-clause-first : goal.place_copy-requires-clause-first
place_copy-requires-clause-first g c =
    let s = g.S.LinkStore.heap c.args.store.now in
    let h = g.S.LinkStore.heap c.loop-next.store in
    let m = g.S.LinkStore.mem_id c.args.from in
    let n = g.S.LinkStore.mem_id c.args.to in
    let sound = c.root-root.ensures.sound in
    let at = g.S.LinkStore.mem_id c.loop-next.at.mem in
    let copy = g.S.LinkStore.mem_id c.loop-next.at.copy in
    let w = c.requires.waits in
    let d = c.loop-next.invariant.placing w.0 w.1 w.2 w.3 w.4 in
    let y = g.S.LinkStore.mem_id c.in-Some.next.mem in
    let k = g.S.LinkStore.mem_id c.in-Some.next.copy in
    let v = c.in-Some.ensures.round (answer (m ∷ w.1) (n ∷ w.3)) d.placed d.twins d.stand d.twin in
    let next = c.in-Some.ensures.list w.0 w.1 (content_stays s sound m n c.requires.from c.requires.to w.0 w.1 w.2 w.3 w.4 h at copy d) in
    first_waits s sound m n c.requires.from c.requires.to w.0 w.1 w.2 w.3 w.4 h at copy d y v.0 k next v.1 v.2 v.3

pub place_copy-requires-clause-line : goal.place_copy-requires-clause-line
place_copy-requires-clause-line g c =
    let s = g.S.LinkStore.heap c.args.store.now in
    let h = g.S.LinkStore.heap c.loop-next.store in
    let m = g.S.LinkStore.mem_id c.args.from in
    let n = g.S.LinkStore.mem_id c.args.to in
    let sound = c.root-root.ensures.sound in
    let at = g.S.LinkStore.mem_id c.loop-next.at.mem in
    let copy = g.S.LinkStore.mem_id c.loop-next.at.copy in
    let w = c.requires.waits in
    let d = c.loop-next.invariant.placing w.0 w.1 w.2 w.3 w.4 in
    let y = g.S.LinkStore.mem_id c.in-Some.next.mem in
    let k = g.S.LinkStore.mem_id c.in-Some.next.copy in
    let v = c.in-Some.ensures.round (answer (m ∷ w.1) (n ∷ w.3)) d.placed d.twins d.stand d.twin in
    let next = c.in-Some.ensures.list w.0 w.1 (content_stays s sound m n c.requires.from c.requires.to w.0 w.1 w.2 w.3 w.4 h at copy d) in
    atoms_waiting s sound m n c.requires.from c.requires.to w.0 w.1 w.2 w.3 w.4 h at copy d y v.0 k next v.1 v.2 v.3

pub loop-next-smaller : goal.loop-next-smaller
loop-next-smaller g c =
    let s = g.S.LinkStore.heap c.args.store.now in
    let h = g.S.LinkStore.heap c.loop-next.store in
    let m = g.S.LinkStore.mem_id c.args.from in
    let n = g.S.LinkStore.mem_id c.args.to in
    let sound = c.root-root.ensures.sound in
    let at = g.S.LinkStore.mem_id c.loop-next.at.mem in
    let copy = g.S.LinkStore.mem_id c.loop-next.at.copy in
    let w = c.requires.waits in
    let d = c.loop-next.invariant.placing w.0 w.1 w.2 w.3 w.4 in
    let y = g.S.LinkStore.mem_id c.in-Some.next.mem in
    let k = g.S.LinkStore.mem_id c.in-Some.next.copy in
    let v = c.in-Some.ensures.round (answer (m ∷ w.1) (n ∷ w.3)) d.placed d.twins d.stand d.twin in
    let next = c.in-Some.ensures.list w.0 w.1 (content_stays s sound m n c.requires.from c.requires.to w.0 w.1 w.2 w.3 w.4 h at copy d) in
    subst (λ zs. length (after y (m ∷ zs)) < length (after at (m ∷ zs))) (sym (found_is s sound m w.0 w.1 w.4.content c.root-root.ensures.few))
    (fewer s sound m n c.requires.from c.requires.to w.0 w.1 w.2 w.3 w.4 h at copy d y v.0 k next v.1 v.2 v.3)

pub loop-next-preserved : goal.loop-next-preserved
loop-next-preserved g c =
    let s = g.S.LinkStore.heap c.args.store.now in
    let h = g.S.LinkStore.heap c.loop-next.store in
    let m = g.S.LinkStore.mem_id c.args.from in
    let n = g.S.LinkStore.mem_id c.args.to in
    let sound = c.root-root.ensures.sound in
    let at = g.S.LinkStore.mem_id c.loop-next.at.mem in
    let copy = g.S.LinkStore.mem_id c.loop-next.at.copy in
    let y = g.S.LinkStore.mem_id c.in-Some.next.mem in
    let k = g.S.LinkStore.mem_id c.in-Some.next.copy in
    record {
      placing = λ atoms ms copies news w.
          let d = c.loop-next.invariant.placing atoms ms copies news w in
          let v = c.in-Some.ensures.round (answer (m ∷ ms) (n ∷ news)) d.placed d.twins d.stand d.twin in
          let next = c.in-Some.ensures.list atoms ms (content_stays s sound m n c.requires.from c.requires.to atoms ms copies news w h at copy d) in
          goes_on s sound m n c.requires.from c.requires.to atoms ms copies news w h at copy d y v.0 k next v.1 v.2 v.3
          (g.S.LinkStore.mem_id c.place_copy.result) (g.S.LinkStore.heap c.place_copy.new.store) c.place_copy.ensures.first c.place_copy.ensures.placed;
    }

pub returns : goal.returns
returns g c = λ atoms ms copies news w.
    let s = g.S.LinkStore.heap c.args.store.now in
    let h = g.S.LinkStore.heap c.loop-next.store in
    let m = g.S.LinkStore.mem_id c.args.from in
    let n = g.S.LinkStore.mem_id c.args.to in
    let sound = c.root-root.ensures.sound in
    let at = g.S.LinkStore.mem_id c.loop-next.at.mem in
    let copy = g.S.LinkStore.mem_id c.loop-next.at.copy in
    let d = c.loop-next.invariant.placing atoms ms copies news w in
    let none = c.next_twin.ensures.list atoms ms (content_stays s sound m n c.requires.from c.requires.to atoms ms copies news w h at copy d) in
    all_placed s sound m n c.requires.from c.requires.to atoms ms copies news w h at copy d
    (subst (λ o. from (option_map (λ t. g.S.LinkStore.mem_id t.mem) o) (m ∷ ms) ≡ after at (m ∷ ms)) c.in_default.is none)
