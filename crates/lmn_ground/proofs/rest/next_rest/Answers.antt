use Rattle.std.proofs.Common.{map, not, ◌==◌, ◌≡◌, ◌∙◌, ap, Some, ◌≢◌}
use Rattle.std.specs.Option.{option_map}
use Rattle.lmn_store_heap.specs.Heap.{own_mark, home_of}
use Rattle.lmn_ground_parts.specs.Walks.{is_in}
use Rattle.lmn_ground.specs.Rests.{IsLeft}
use Rattle.lmn_ground.proofs.RestLaws.{first_is_in, home_in_rest, next_inner, next_is_in, next_own, past_inner, past_own}
use Rattle.lmn_base.proofs.Truth.{never_both}
use Rattle.lmn_ground.proofs.rest.next_rest.Goals as goal

pub first_inside-requires-clause-at : goal.first_inside-requires-clause-at
first_inside-requires-clause-at g c =
    first_is_in g.S.LinkStore.mem_id (IsLeft (g.S.LinkStore.heap c.args.store.now) (g.S.LinkStore.mem_id c.args.mem) (map g.S.LinkStore.mem_id c.args.out.now)) c.first_membrane.result c.first_membrane.ensures.list

pub next_membrane-requires-clause-at : goal.next_membrane-requires-clause-at
next_membrane-requires-clause-at g c = λ atoms ms t.
    let h = g.S.LinkStore.heap c.args.store.now in
    let m = g.S.LinkStore.mem_id c.args.mem in
    let n = g.S.LinkStore.mem_id c.in-Some.home in
    let d : n ≢ m = λ e. never_both _ (c.same_mem.ensures.1 e) c.if-same_mem.false in
    home_in_rest h c.root-root.ensures.sound m (λ a. own_mark h a == 0) (λ n. not (is_in (map g.S.LinkStore.mem_id c.args.out.now) n)) atoms ms t
    (g.S.LinkStore.atom_id c.args.a) n (c.requires.at atoms ms t) c.in-Some.ensures d

pub first_inside-requires-in-None-next_atom-clause-at : goal.first_inside-requires-in-None-next_atom-clause-at
first_inside-requires-in-None-next_atom-clause-at g c =
    next_is_in g.S.LinkStore.mem_id (IsLeft (g.S.LinkStore.heap c.args.store.now) (g.S.LinkStore.mem_id c.args.mem) (map g.S.LinkStore.mem_id c.args.out.now)) (g.S.LinkStore.mem_id c.in-Some.home) c.next_membrane.result c.next_membrane.ensures.list

pub returns-in-Some-first_unmatched-clause-list : goal.returns-in-Some-first_unmatched-clause-list
returns-in-Some-first_unmatched-clause-list g c = λ atoms ms t.
    let h = g.S.LinkStore.heap c.args.store.now in
    let m = g.S.LinkStore.mem_id c.args.mem in
    let same : g.S.LinkStore.mem_id c.in-Some.home ≡ m = c.same_mem.ensures.0 c.if-same_mem.true in
    let home : home_of h (g.S.LinkStore.atom_id c.args.a) ≡ Some m = c.in-Some.ensures ∙ ap Some same in
    next_own h c.root-root.ensures.sound m (λ a. own_mark h a == 0) (λ n. not (is_in (map g.S.LinkStore.mem_id c.args.out.now) n)) atoms ms t
    (g.S.LinkStore.atom_id c.args.a) (g.S.LinkStore.atom_id c.in-Some-first_unmatched.b) (option_map g.S.LinkStore.atom_id c.next_atom.result) (c.requires.at atoms ms t) home
    (c.next_atom.ensures.list m home) c.in-Some-first_unmatched.ensures.list

pub returns-in-None-first_unmatched-clause-list : goal.returns-in-None-first_unmatched-clause-list
returns-in-None-first_unmatched-clause-list g c = λ atoms ms t.
    let h = g.S.LinkStore.heap c.args.store.now in
    let m = g.S.LinkStore.mem_id c.args.mem in
    let same : g.S.LinkStore.mem_id c.in-Some.home ≡ m = c.same_mem.ensures.0 c.if-same_mem.true in
    let home : home_of h (g.S.LinkStore.atom_id c.args.a) ≡ Some m = c.in-Some.ensures ∙ ap Some same in
    past_own h c.root-root.ensures.sound m (λ a. own_mark h a == 0) (λ n. not (is_in (map g.S.LinkStore.mem_id c.args.out.now) n)) atoms ms t
    (g.S.LinkStore.atom_id c.args.a) (option_map g.S.LinkStore.atom_id c.next_atom.result) (option_map g.S.LinkStore.atom_id c.first_inside.result) (option_map g.S.LinkStore.mem_id c.first_membrane.result)
    (c.requires.at atoms ms t) home (c.next_atom.ensures.list m home) c.in-None-first_unmatched.ensures.list (c.first_membrane.ensures.list atoms ms t) (c.first_inside.ensures.list atoms ms t)

pub returns-in-Some-next_atom-clause-list : goal.returns-in-Some-next_atom-clause-list
returns-in-Some-next_atom-clause-list g c = λ atoms ms t.
    let h = g.S.LinkStore.heap c.args.store.now in
    let m = g.S.LinkStore.mem_id c.args.mem in
    let n = g.S.LinkStore.mem_id c.in-Some.home in
    let d : n ≢ m = λ e. never_both _ (c.same_mem.ensures.1 e) c.if-same_mem.false in
    next_inner h c.root-root.ensures.sound m (λ a. own_mark h a == 0) (λ n. not (is_in (map g.S.LinkStore.mem_id c.args.out.now) n)) atoms ms t
    (g.S.LinkStore.atom_id c.args.a) n (g.S.LinkStore.atom_id c.in-Some-next_atom.b) (c.requires.at atoms ms t) c.in-Some.ensures d (c.in-Some-next_atom.ensures.list n c.in-Some.ensures)

pub returns-in-None-next_atom-clause-list : goal.returns-in-None-next_atom-clause-list
returns-in-None-next_atom-clause-list g c = λ atoms ms t.
    let h = g.S.LinkStore.heap c.args.store.now in
    let m = g.S.LinkStore.mem_id c.args.mem in
    let n = g.S.LinkStore.mem_id c.in-Some.home in
    let d : n ≢ m = λ e. never_both _ (c.same_mem.ensures.1 e) c.if-same_mem.false in
    past_inner h c.root-root.ensures.sound m (λ a. own_mark h a == 0) (λ n. not (is_in (map g.S.LinkStore.mem_id c.args.out.now) n)) atoms ms t
    (g.S.LinkStore.atom_id c.args.a) n (option_map g.S.LinkStore.atom_id c.first_inside-in-None-next_atom.result) (option_map g.S.LinkStore.mem_id c.next_membrane.result) (c.requires.at atoms ms t) c.in-Some.ensures d
    (c.in-None-next_atom.ensures.list n c.in-Some.ensures) (c.next_membrane.ensures.list atoms ms t) (c.first_inside-in-None-next_atom.ensures.list atoms ms t)
