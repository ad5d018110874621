use Rattle.std.proofs.Common.{◌≢◌, ◌∙◌, ◌<◌, ◌-◌, ◌∷◌, length, subst, sym}
use Rattle.lmn_base.specs.Lists.{In}
use Rattle.lmn_store_heap.specs.Heap.{after}
use Rattle.lmn_store_heap.proofs.Heights.{mem_of_list, parent_place}
use Rattle.lmn_ground.proofs.DroppingLaws.{found_is, is_mem}
use Rattle.lmn_ground.proofs.TwinLaws.{ahead_in, ahead_next, ahead_none, ahead_starts, ahead_up, content_one, either_here, has_round, nearer, twin_round, twin_up}
use Rattle.lmn_base.proofs.Truth.{never_both}
use Rattle.lmn_ground.proofs.cells.twin_behind.Goals as goal

pub loop-mem-init : goal.loop-mem-init
loop-mem-init g c =
    let s = g.S.LinkStore.heap c.args.store.now in
    let m = g.S.LinkStore.mem_id c.args.mem in
    let start = g.S.LinkStore.mem_id c.args.start.mem in
    let q = c.requires.at in
    record {
      ahead = λ sound atoms ms r. ahead_starts s sound m atoms ms r start
          (subst (λ zs. In start (m ∷ zs)) (content_one s sound c.root-root.ensures.few m q.0 q.1 atoms ms q.2 r) q.3) c.requires.empty;
      twin = λ twin placed t i e. (i, e);
      there = c.requires.there;
    }

pub same_mem-requires-clause-m : goal.same_mem-requires-clause-m
same_mem-requires-clause-m g c =
    let s = g.S.LinkStore.heap c.args.store.now in
    let m = g.S.LinkStore.mem_id c.args.mem in
    let at = g.S.LinkStore.mem_id c.loop-mem.at.mem in
    let start = g.S.LinkStore.mem_id c.args.start.mem in
    let sound = c.root-root.ensures.sound in
    let r = c.requires.at in
    is_mem s sound m r.0 r.1 r.2 c.requires.mem at (either_here m at r.1 (ahead_in s sound m r.0 r.1 r.2 start at (c.loop-mem.invariant.ahead sound r.0 r.1 r.2)))

pub returns-then-same_mem-clause-list : goal.returns-then-same_mem-clause-list
returns-then-same_mem-clause-list g c = λ atoms ms r.
    let s = g.S.LinkStore.heap c.args.store.now in
    let m = g.S.LinkStore.mem_id c.args.mem in
    let at = g.S.LinkStore.mem_id c.loop-mem.at.mem in
    let start = g.S.LinkStore.mem_id c.args.start.mem in
    let sound = c.root-root.ensures.sound in
    ahead_none s sound m atoms ms r start at (c.same_mem.ensures.0 c.if-same_mem.true) (c.loop-mem.invariant.ahead sound atoms ms r)

pub parent-requires : goal.parent-requires
parent-requires g c =
    let s = g.S.LinkStore.heap c.args.store.now in
    let m = g.S.LinkStore.mem_id c.args.mem in
    let at = g.S.LinkStore.mem_id c.loop-mem.at.mem in
    let start = g.S.LinkStore.mem_id c.args.start.mem in
    let sound = c.root-root.ensures.sound in
    let r = c.requires.at in
    is_mem s sound m r.0 r.1 r.2 c.requires.mem at (either_here m at r.1 (ahead_in s sound m r.0 r.1 r.2 start at (c.loop-mem.invariant.ahead sound r.0 r.1 r.2)))

pub returns-in-Some-next_mem-clause-list : goal.returns-in-Some-next_mem-clause-list
returns-in-Some-next_mem-clause-list g c = λ atoms ms r.
    let s = g.S.LinkStore.heap c.args.store.now in
    let m = g.S.LinkStore.mem_id c.args.mem in
    let at = g.S.LinkStore.mem_id c.loop-mem.at.mem in
    let start = g.S.LinkStore.mem_id c.args.start.mem in
    let sound = c.root-root.ensures.sound in
    let d : at ≢ m = λ e. never_both _ (c.same_mem.ensures.1 e) c.if-same_mem.false in
    let p = g.S.LinkStore.mem_id c.in-Some.round in
    ahead_next s sound m atoms ms r start at p (g.S.LinkStore.mem_id c.in-Some-next_mem.next) d c.in-Some.ensures (c.in-Some-next_mem.ensures.list p c.in-Some.ensures) (c.loop-mem.invariant.ahead sound atoms ms r)

pub returns-in-Some-next_mem-clause-round : goal.returns-in-Some-next_mem-clause-round
returns-in-Some-next_mem-clause-round g c = λ twin placed t i e.
    let s = g.S.LinkStore.heap c.args.store.now in
    let m = g.S.LinkStore.mem_id c.args.mem in
    let at = g.S.LinkStore.mem_id c.loop-mem.at.mem in
    let d : at ≢ m = λ e. never_both _ (c.same_mem.ensures.1 e) c.if-same_mem.false in
    let p = g.S.LinkStore.mem_id c.in-Some.round in
    let v = c.loop-mem.invariant.twin twin placed t i e in
    let u = twin_up s m twin placed at p (g.S.LinkStore.mem_id c.loop-mem.at.copy) (g.S.LinkStore.mem_id c.in-Some-parent.copy) t v.0 d v.1 c.in-Some.ensures c.in-Some-parent.ensures in
    (p, c.in-Some-next_mem.ensures.parent ∙ c.in-Some.ensures, u.0, u.1)

pub loop-mem-smaller : goal.loop-mem-smaller
loop-mem-smaller g c =
    let s = g.S.LinkStore.heap c.args.store.now in
    let m = g.S.LinkStore.mem_id c.args.mem in
    let at = g.S.LinkStore.mem_id c.loop-mem.at.mem in
    let start = g.S.LinkStore.mem_id c.args.start.mem in
    let sound = c.root-root.ensures.sound in
    let d : at ≢ m = λ e. never_both _ (c.same_mem.ensures.1 e) c.if-same_mem.false in
    let p = g.S.LinkStore.mem_id c.in-Some.round in
    let r = c.requires.at in
    subst (λ zs. length (m ∷ zs) - length (after p (m ∷ zs)) < length (m ∷ zs) - length (after at (m ∷ zs))) (sym (found_is s sound m r.0 r.1 r.2 c.root-root.ensures.few))
    (nearer s sound m r.0 r.1 r.2 at p d (ahead_in s sound m r.0 r.1 r.2 start at (c.loop-mem.invariant.ahead sound r.0 r.1 r.2)) c.in-Some.ensures)

pub loop-mem-preserved : goal.loop-mem-preserved
loop-mem-preserved g c =
    let s = g.S.LinkStore.heap c.args.store.now in
    let m = g.S.LinkStore.mem_id c.args.mem in
    let at = g.S.LinkStore.mem_id c.loop-mem.at.mem in
    let copy = g.S.LinkStore.mem_id c.loop-mem.at.copy in
    let up = g.S.LinkStore.mem_id c.in-Some-parent.copy in
    let start = g.S.LinkStore.mem_id c.args.start.mem in
    let d : at ≢ m = λ e. never_both _ (c.same_mem.ensures.1 e) c.if-same_mem.false in
    let p = g.S.LinkStore.mem_id c.in-Some.round in
    record {
      ahead = λ sound atoms ms r. ahead_up s sound m atoms ms r start at p d c.in-Some.ensures (c.in-None-next_mem.ensures.list p c.in-Some.ensures) (c.loop-mem.invariant.ahead sound atoms ms r);
      twin = λ twin placed t i e.
          let v = c.loop-mem.invariant.twin twin placed t i e in
          twin_up s m twin placed at p copy up t v.0 d v.1 c.in-Some.ensures c.in-Some-parent.ensures;
      there = mem_of_list s up copy ((c.root-root.ensures.sound.listed.mems up copy).1 (parent_place s copy up c.in-Some-parent.ensures));
    }

pub returns-in-None-parent-clause-list : goal.returns-in-None-parent-clause-list
returns-in-None-parent-clause-list g c = λ atoms ms r.
    let s = g.S.LinkStore.heap c.args.store.now in
    let m = g.S.LinkStore.mem_id c.args.mem in
    let at = g.S.LinkStore.mem_id c.loop-mem.at.mem in
    let d : at ≢ m = λ e. never_both _ (c.same_mem.ensures.1 e) c.if-same_mem.false in
    let w = c.requires.twin in
    let v = c.loop-mem.invariant.twin w.0 w.1 w.2 w.3 w.4 in
    absurd (twin_round s m w.0 w.1 at (g.S.LinkStore.mem_id c.loop-mem.at.copy) w.2 v.0 d v.1 c.in-None-parent.ensures)

pub returns-in-None-clause-list : goal.returns-in-None-clause-list
returns-in-None-clause-list g c = λ atoms ms r.
    let s = g.S.LinkStore.heap c.args.store.now in
    let m = g.S.LinkStore.mem_id c.args.mem in
    let at = g.S.LinkStore.mem_id c.loop-mem.at.mem in
    let start = g.S.LinkStore.mem_id c.args.start.mem in
    let sound = c.root-root.ensures.sound in
    let d : at ≢ m = λ e. never_both _ (c.same_mem.ensures.1 e) c.if-same_mem.false in
    absurd (has_round s sound m atoms ms r at d (ahead_in s sound m atoms ms r start at (c.loop-mem.invariant.ahead sound atoms ms r)) c.in-None.ensures)
