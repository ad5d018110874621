use Rattle.std.proofs.Common.{◌≡◌, ◌≤◌, Some, length, subst}
use Rattle.std.specs.Prelude.{IfSome}
use Rattle.std.specs.Option.{option_map}
use Rattle.lmn_base.specs.Lists.{In}
use Rattle.lmn_store_heap.specs.Lists.{from}
use Rattle.lmn_store_heap.specs.Heap.{parent_of, mems_in}
use Rattle.lmn_machine.specs.Asking.{HoldsAsked}
use Rattle.lmn_machine.proofs.Calling.{if_same}
use Rattle.lmn_machine.proofs.Fitting.{left_behind, fewer_behind}
use Rattle.lmn_machine.proofs.ahead.fitting_membrane.Goals as goal

pub returns-then-holds-clause-further : goal.returns-then-holds-clause-further
returns-then-holds-clause-further g c =
    let all = mems_in (g.S.LinkStore.heap c.args.store.now) (g.S.LinkStore.mem_id c.args.place) in
    subst (λ o. length (from (option_map g.S.LinkStore.mem_id o) all) ≤ length (from (option_map g.S.LinkStore.mem_id c.args.start) all)) c.in-Some.is c.loop-candidate.invariant.further

pub loop-candidate-preserved : goal.loop-candidate-preserved
loop-candidate-preserved g c =
    let parent = subst (λ o. IfSome o (λ m. parent_of (g.S.LinkStore.heap c.args.store.now) (g.S.LinkStore.mem_id m) ≡ Some (g.S.LinkStore.mem_id c.args.place))) c.in-Some.is c.loop-candidate.invariant.parent in
    let all = mems_in (g.S.LinkStore.heap c.args.store.now) (g.S.LinkStore.mem_id c.args.place) in
    let list = c.next_mem-candidate.ensures.list (g.S.LinkStore.mem_id c.args.place) parent in
    record {
      parent = if_same (λ m. parent_of (g.S.LinkStore.heap c.args.store.now) (g.S.LinkStore.mem_id m)) c.in-Some.m (Some (g.S.LinkStore.mem_id c.args.place)) c.next_mem-candidate.result c.next_mem-candidate.ensures.parent parent;
      further = fewer_behind (g.S.LinkStore.mem_id c.in-Some.m) (length (from (option_map g.S.LinkStore.mem_id c.args.start) all)) (option_map g.S.LinkStore.mem_id c.next_mem-candidate.result) all list
          (subst (λ o. length (from (option_map g.S.LinkStore.mem_id o) all) ≤ length (from (option_map g.S.LinkStore.mem_id c.args.start) all)) c.in-Some.is c.loop-candidate.invariant.further);
      left = λ n asks i. left_behind n (g.S.LinkStore.mem_id c.in-Some.m) (option_map g.S.LinkStore.mem_id c.next_mem-candidate.result) all
          (λ e. c.holds.ensures c.if-holds.false (subst (λ k. HoldsAsked (g.S.LinkStore.heap c.args.store.now) c.args.asked k) e asks)) list
          (subst (λ o. In n (from (option_map g.S.LinkStore.mem_id o) all)) c.in-Some.is (c.loop-candidate.invariant.left n asks i));
    }
