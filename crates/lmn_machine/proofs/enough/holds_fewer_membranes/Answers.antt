use Rattle.std.proofs.Common.{◌≡◌, ◌+◌, ◌<◌, Some, length, arith, ap, sym, subst}
use Rattle.std.specs.Prelude.{IfSome}
use Rattle.std.specs.Option.{option_map}
use Rattle.lmn_store_heap.specs.Lists.{from}
use Rattle.lmn_store_heap.specs.Heap.{parent_of, mems_in}
use Rattle.lmn_machine.specs.Enough.{holding}
use Rattle.lmn_machine.proofs.Calling.{if_same, none_is}
use Rattle.lmn_machine.proofs.Fitting.{smaller}
use Rattle.lmn_machine.proofs.Sufficing.{held_on}
use Rattle.lmn_machine.proofs.enough.holds_fewer_membranes.Goals as goal

pub loop-candidate-init : goal.loop-candidate-init
loop-candidate-init g c = record {
  counted = (let k = ap (λ ys. length (holding (g.S.LinkStore.heap c.args.store.now) c.args.functor ys)) c.first_mem-candidate.ensures.list in omega (arith, k));
  there = c.first_mem-candidate.ensures.parent;
}

pub loop-candidate-smaller : goal.loop-candidate-smaller
loop-candidate-smaller g c =
    let parent = subst (λ o. IfSome o (λ n. parent_of (g.S.LinkStore.heap c.args.store.now) (g.S.LinkStore.mem_id n) ≡ Some (g.S.LinkStore.mem_id c.args.m))) c.in-Some.is c.loop-candidate.invariant.there in
    let all = mems_in (g.S.LinkStore.heap c.args.store.now) (g.S.LinkStore.mem_id c.args.m) in
    let next = option_map g.S.LinkStore.mem_id c.next_mem-candidate.result in
    subst (λ o. length (from next all) < length (from (option_map g.S.LinkStore.mem_id o) all)) (sym c.in-Some.is)
    (smaller (g.S.LinkStore.mem_id c.in-Some.n) next next all (c.next_mem-candidate.ensures.list (g.S.LinkStore.mem_id c.args.m) parent) (omega arith))

pub loop-candidate-preserved : goal.loop-candidate-preserved
loop-candidate-preserved g c =
    let parent = subst (λ o. IfSome o (λ n. parent_of (g.S.LinkStore.heap c.args.store.now) (g.S.LinkStore.mem_id n) ≡ Some (g.S.LinkStore.mem_id c.args.m))) c.in-Some.is c.loop-candidate.invariant.there in
    let all = mems_in (g.S.LinkStore.heap c.args.store.now) (g.S.LinkStore.mem_id c.args.m) in
    record {
      counted = held_on (g.S.LinkStore.heap c.args.store.now) c.args.functor c.loop-candidate.found c.one_holding-found.result (g.S.LinkStore.mem_id c.in-Some.n) (length (holding (g.S.LinkStore.heap c.args.store.now) c.args.functor all)) (option_map g.S.LinkStore.mem_id c.next_mem-candidate.result) all
          (subst (λ o. c.loop-candidate.found + length (holding (g.S.LinkStore.heap c.args.store.now) c.args.functor (from (option_map g.S.LinkStore.mem_id o) all)) ≡ length (holding (g.S.LinkStore.heap c.args.store.now) c.args.functor all)) c.in-Some.is c.loop-candidate.invariant.counted)
          c.one_holding-found.ensures.count
          (c.next_mem-candidate.ensures.list (g.S.LinkStore.mem_id c.args.m) parent);
      there = if_same (λ n. parent_of (g.S.LinkStore.heap c.args.store.now) (g.S.LinkStore.mem_id n)) c.in-Some.n (Some (g.S.LinkStore.mem_id c.args.m)) c.next_mem-candidate.result c.next_mem-candidate.ensures.parent parent;
    }

pub returns : goal.returns
returns g c = λ t.
    (let all = mems_in (g.S.LinkStore.heap c.args.store.now) (g.S.LinkStore.mem_id c.args.m) in
    let w = subst (λ o. c.loop-candidate.found + length (holding (g.S.LinkStore.heap c.args.store.now) c.args.functor (from (option_map g.S.LinkStore.mem_id o) all)) ≡ length (holding (g.S.LinkStore.heap c.args.store.now) c.args.functor all)) (none_is c.loop-candidate.candidate c.in_default.not-Some) c.loop-candidate.invariant.counted in
    let l = c.is_below.ensures.0 t in omega (arith, w, l))
