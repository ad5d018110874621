use Rattle.std.proofs.Common.{◌+◌, ap, arith, length, map}
use Rattle.std.specs.Option.{option_map}
use Rattle.lmn_store_heap.specs.Heap.{rules_in}
use Rattle.lmn_ground.specs.Rests.{IsLeft}
use Rattle.lmn_ground.proofs.RestLaws.{first_is_in, less_left_of, next_is_in, rest_found, rest_is}
use Rattle.lmn_ground.proofs.MeasureLaws.{few_left, weigh_all, weigh_below, weigh_more, weigh_none}
use Rattle.lmn_ground.proofs.measuring.membranes_left.Goals as goal

pub loop-next-init : goal.loop-next-init
loop-next-init g c =
    let s = g.S.LinkStore.heap c.args.store.now in
    record {
      counted = λ atoms all t. weigh_none (λ n. 1 + length (rules_in s n)) (option_map g.S.LinkStore.mem_id c.first_membrane-next.result) all (c.first_membrane-next.ensures.list atoms all t);
      at = first_is_in g.S.LinkStore.mem_id (IsLeft s (g.S.LinkStore.mem_id c.args.mem) (map g.S.LinkStore.mem_id c.args.out.now)) c.first_membrane-next.result c.first_membrane-next.ensures.list;
      there = c.first_membrane-next.ensures.there;
    }

pub loop-next-smaller : goal.loop-next-smaller
loop-next-smaller g c =
    let s = g.S.LinkStore.heap c.args.store.now in
    let m = g.S.LinkStore.mem_id c.args.mem in
    let out = map g.S.LinkStore.mem_id c.args.out.now in
    let r = c.requires.rest in
    less_left_of (rest_found s m out) r.1 (option_map g.S.LinkStore.mem_id c.loop-next.next) (option_map g.S.LinkStore.mem_id c.next_membrane-next.result) (g.S.LinkStore.mem_id c.in-Some.m)
    (rest_is s c.root-root.ensures.sound c.root-root.ensures.few m out r.0 r.1 r.2) (ap (option_map g.S.LinkStore.mem_id) c.in-Some.is) (c.next_membrane-next.ensures.list r.0 r.1 r.2)

pub loop-next-preserved : goal.loop-next-preserved
loop-next-preserved g c =
    let s = g.S.LinkStore.heap c.args.store.now in
    let m = g.S.LinkStore.mem_id c.args.mem in
    let out = map g.S.LinkStore.mem_id c.args.out.now in
    record {
      counted = λ atoms all t. weigh_more (λ n. 1 + length (rules_in s n)) c.loop-next.count (g.S.LinkStore.mem_id c.in-Some.m) (1 + c.rules.result) (option_map g.S.LinkStore.mem_id c.loop-next.next) (option_map g.S.LinkStore.mem_id c.next_membrane-next.result) all
          (ap (option_map g.S.LinkStore.mem_id) c.in-Some.is) (ap (λ k. 1 + k) c.rules.ensures) (c.next_membrane-next.ensures.list atoms all t) (c.loop-next.invariant.counted atoms all t);
      at = next_is_in g.S.LinkStore.mem_id (IsLeft s m out) (g.S.LinkStore.mem_id c.in-Some.m) c.next_membrane-next.result c.next_membrane-next.ensures.list;
      there = c.next_membrane-next.ensures.there;
    }

pub returns : goal.returns
returns g c = λ atoms all t. weigh_all (λ n. 1 + length (rules_in (g.S.LinkStore.heap c.args.store.now) n)) c.loop-next.count (option_map g.S.LinkStore.mem_id c.loop-next.next) all (ap (option_map g.S.LinkStore.mem_id) c.in_default.is) (c.loop-next.invariant.counted atoms all t)

pub overflow_add-count : goal.overflow_add-count
overflow_add-count g c =
    let s = g.S.LinkStore.heap c.args.store.now in
    let r = c.requires.rest in
    let few = few_left s c.root-root.ensures.sound c.root-root.ensures.few (g.S.LinkStore.mem_id c.args.mem) (map g.S.LinkStore.mem_id c.args.out.now) r.0 r.1 r.2 in
    let low = weigh_below (λ n. 1 + length (rules_in s n)) c.loop-next.count (g.S.LinkStore.mem_id c.in-Some.m) (1 + c.rules.result) (option_map g.S.LinkStore.mem_id c.loop-next.next) r.1 (ap (option_map g.S.LinkStore.mem_id) c.in-Some.is) (ap (λ k. 1 + k) c.rules.ensures) (c.loop-next.invariant.counted r.0 r.1 r.2) in
    omega (arith, few, low)

pub overflow_add-count-in-Some : goal.overflow_add-count-in-Some
overflow_add-count-in-Some g c =
    let s = g.S.LinkStore.heap c.args.store.now in
    let r = c.requires.rest in
    let few = few_left s c.root-root.ensures.sound c.root-root.ensures.few (g.S.LinkStore.mem_id c.args.mem) (map g.S.LinkStore.mem_id c.args.out.now) r.0 r.1 r.2 in
    let low = weigh_below (λ n. 1 + length (rules_in s n)) c.loop-next.count (g.S.LinkStore.mem_id c.in-Some.m) (1 + c.rules.result) (option_map g.S.LinkStore.mem_id c.loop-next.next) r.1 (ap (option_map g.S.LinkStore.mem_id) c.in-Some.is) (ap (λ k. 1 + k) c.rules.ensures) (c.loop-next.invariant.counted r.0 r.1 r.2) in
    omega (arith, few, low)
