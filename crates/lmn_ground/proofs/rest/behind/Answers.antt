use Rattle.std.proofs.Common.{map, not, ◌==◌, ◌≡◌, ◌≢◌, ◌∙◌, ap, Some, subst, ◌-◌, ◌<◌, length, sym, ℕ, Bool}
use Rattle.std.specs.Option.{option_map}
use Rattle.lmn_store_heap.specs.Heap.{own_mark, parent_of, from, after}
use Rattle.lmn_store_heap.proofs.Heights.{mem_of_list, parent_place}
use Rattle.lmn_ground_parts.specs.Walks.{is_in}
use Rattle.lmn_ground_parts.specs.Rests.{keep}
use Rattle.lmn_ground.proofs.RestLaws.{begins, climbs, found, found_top, lower, not_top, rest_is}
use Rattle.lmn_base.proofs.Truth.{never_both}
use Rattle.lmn_ground.proofs.rest.behind.Goals as goal

pub loop-round-init : goal.loop-round-init
loop-round-init g c =
    let h = g.S.LinkStore.heap c.args.store.now in
    record {
      walk = λ atoms ms t. begins h c.root-root.ensures.sound (g.S.LinkStore.mem_id c.args.mem) (λ a. own_mark h a == 0) (λ n. not (is_in (map g.S.LinkStore.mem_id c.args.out.now) n)) atoms ms t
          (g.S.LinkStore.mem_id c.args.start) (c.requires.at atoms ms t) c.requires.empty;
      there = c.requires.there;
    }

pub returns-then-same_mem-clause-list : goal.returns-then-same_mem-clause-list
returns-then-same_mem-clause-list g c = λ atoms ms t.
    let h = g.S.LinkStore.heap c.args.store.now in
    let m = g.S.LinkStore.mem_id c.args.mem in
    let at = g.S.LinkStore.mem_id c.loop-round.at in
    let left : ℕ → Bool = λ n. not (is_in (map g.S.LinkStore.mem_id c.args.out.now) n) in
    let same : g.S.LinkStore.mem_id c.in-Some.round ≡ m = c.same_mem.ensures.0 c.if-same_mem.true in
    let parent : parent_of h at ≡ Some m = c.in-Some.ensures ∙ ap Some same in
    let o = option_map g.S.LinkStore.mem_id c.first_left.result in
    found_top h c.root-root.ensures.sound m (λ a. own_mark h a == 0) left atoms ms t (g.S.LinkStore.mem_id c.args.start) at (c.loop-round.invariant.walk atoms ms t) o parent
    (subst (λ zs. from o (keep left zs) ≡ keep left zs) (c.next_mem.ensures.list m parent) c.first_left.ensures.list)

pub returns-in-Some-next_mem-clause-list : goal.returns-in-Some-next_mem-clause-list
returns-in-Some-next_mem-clause-list g c = λ atoms ms t.
    let h = g.S.LinkStore.heap c.args.store.now in
    let m = g.S.LinkStore.mem_id c.args.mem in
    let at = g.S.LinkStore.mem_id c.loop-round.at in
    let left : ℕ → Bool = λ n. not (is_in (map g.S.LinkStore.mem_id c.args.out.now) n) in
    let p = g.S.LinkStore.mem_id c.in-Some.round in
    let d : p ≢ m = λ e. never_both _ (c.same_mem.ensures.1 e) c.if-same_mem.false in
    found h c.root-root.ensures.sound m (λ a. own_mark h a == 0) left atoms ms t (g.S.LinkStore.mem_id c.args.start) at (c.loop-round.invariant.walk atoms ms t) p (g.S.LinkStore.mem_id c.in-Some-next_mem.next) d c.in-Some.ensures (c.in-Some-next_mem.ensures.list p c.in-Some.ensures)

pub loop-round-smaller : goal.loop-round-smaller
loop-round-smaller g c =
    let r = c.requires.rest in
    let atoms = r.0 in
    let ms = r.1 in
    let t = r.2 in
    let h = g.S.LinkStore.heap c.args.store.now in
    let m = g.S.LinkStore.mem_id c.args.mem in
    let at = g.S.LinkStore.mem_id c.loop-round.at in
    let left : ℕ → Bool = λ n. not (is_in (map g.S.LinkStore.mem_id c.args.out.now) n) in
    let p = g.S.LinkStore.mem_id c.in-Some.round in
    let d : p ≢ m = λ e. never_both _ (c.same_mem.ensures.1 e) c.if-same_mem.false in
    subst (λ zs. length zs - length (after p zs) < length zs - length (after at zs)) (sym (rest_is h c.root-root.ensures.sound c.root-root.ensures.few m _ atoms ms t))
    (lower h c.root-root.ensures.sound m (λ a. own_mark h a == 0) left atoms ms t (g.S.LinkStore.mem_id c.args.start) at (c.loop-round.invariant.walk atoms ms t) p d c.in-Some.ensures)

pub loop-round-preserved : goal.loop-round-preserved
loop-round-preserved g c =
    let h = g.S.LinkStore.heap c.args.store.now in
    let m = g.S.LinkStore.mem_id c.args.mem in
    let at = g.S.LinkStore.mem_id c.loop-round.at in
    let left : ℕ → Bool = λ n. not (is_in (map g.S.LinkStore.mem_id c.args.out.now) n) in
    let p = g.S.LinkStore.mem_id c.in-Some.round in
    let d : p ≢ m = λ e. never_both _ (c.same_mem.ensures.1 e) c.if-same_mem.false in
    record {
      walk = λ atoms ms t. climbs h c.root-root.ensures.sound m (λ a. own_mark h a == 0) left atoms ms t (g.S.LinkStore.mem_id c.args.start) at (c.loop-round.invariant.walk atoms ms t) p d c.in-Some.ensures (c.in-None-next_mem.ensures.list p c.in-Some.ensures);
      there = mem_of_list h p at ((c.root-root.ensures.sound.listed.mems p at).1 (parent_place h at p c.in-Some.ensures));
    }

pub returns-in-None-clause-list : goal.returns-in-None-clause-list
returns-in-None-clause-list g c = λ atoms ms t.
    let h = g.S.LinkStore.heap c.args.store.now in
    let m = g.S.LinkStore.mem_id c.args.mem in
    let at = g.S.LinkStore.mem_id c.loop-round.at in
    let left : ℕ → Bool = λ n. not (is_in (map g.S.LinkStore.mem_id c.args.out.now) n) in
    absurd (not_top h c.root-root.ensures.sound m (λ a. own_mark h a == 0) left atoms ms t (g.S.LinkStore.mem_id c.args.start) at (c.loop-round.invariant.walk atoms ms t) c.in-None.ensures)
