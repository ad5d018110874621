use Rattle.std.proofs.Common.{refl, subst, arith}
use Rattle.std.specs.Prelude.{MatchOption, take, drop}
use Rattle.lmn_store_heap.specs.Sound.{flat}
use Rattle.lmn_schedule_strategy.specs.Between.{between}
use Rattle.lmn_schedule_strategy.specs.Choosing.{IsFirstIn, NoneIn, Lulls, asked}
use Rattle.lmn_schedule_strategy.specs.Counting.{CountsAmong, awake_of}
use Rattle.lmn_schedule_strategy.proofs.Awake.{counts_next, counts_there, first_there, turned_apart}
use Rattle.lmn_schedule_strategy.proofs.Chosen.{take_first, take_rest}
use Rattle.lmn_schedule_strategy.proofs.Lulling.{first_then, first_so, lulls_alike, tree_alike}
use Rattle.lmn_schedule_strategy.proofs.strategy.search.Goals as goal

pub first_of_some-requires-clause-order : goal.first_of_some-requires-clause-order
first_of_some-requires-clause-order g c = c.requires.order

pub first_of_some-requires-clause-ordered : goal.first_of_some-requires-clause-ordered
first_of_some-requires-clause-ordered g c = let l = c.requires.from in omega (arith, l)

pub first_of_earlier-requires-clause-order : goal.first_of_earlier-requires-clause-order
first_of_earlier-requires-clause-order g c = c.requires.order

pub returns-in-Some-clause-first : goal.returns-in-Some-clause-first
returns-in-Some-clause-first g c = λ f t.
    (let h = g.S.LinkStore.heap c.args.machine.now.store in
    let k = g.S.LinkStore.heap c.first_of_some.new.machine.store in
    let m = g.S.LinkStore.mem_id c.in-Some.choice.membrane in
    first_so h k c.args.codes.now c.args.sleep f c.args.from (between c.args.from c.args.many (flat f)) m c.in-Some.choice.place c.in-Some.choice.rule (take_rest (flat f) c.args.from c.args.many (c.requires.many f t)) (c.in-Some.ensures.first f t))

pub returns-in-Some-clause-steps : goal.returns-in-Some-clause-steps
returns-in-Some-clause-steps g c = λ f t.
    (let h = g.S.LinkStore.heap c.args.machine.now.store in
    let m = g.S.LinkStore.mem_id c.in-Some.choice.membrane in
    let ms = drop c.args.from (flat f) in
    let e = take_rest (flat f) c.args.from c.args.many (c.requires.many f t) in
    let first = (c.in-Some.ensures.first f t).0 in
    counts_there h c.args.codes.now ms (take c.args.from (flat f)) (asked c.args.from f) m c.in-Some.choice.place c.in-Some.choice.rule c.args.steps.now c.first_of_some.new.steps c.requires.ready.sleeps first.rule
    (first_there h c.args.codes.now (between c.args.from c.args.many (flat f)) ms m c.in-Some.choice.place c.in-Some.choice.rule first e) refl
    (subst (λ xs. CountsAmong h c.args.codes.now (awake_of h xs) c.args.steps.now c.first_of_some.new.steps) e (c.in-Some.ensures.steps f t)))

pub returns-in-None-clause-first : goal.returns-in-None-clause-first
returns-in-None-clause-first g c = λ f t.
    (let h = g.S.LinkStore.heap c.args.machine.now.store in
    let k = g.S.LinkStore.heap c.first_of_some.new.machine.store in
    let l = g.S.LinkStore.heap c.first_of_earlier.new.machine.store in
    let e = take_rest (flat f) c.args.from c.args.many (c.requires.many f t) in
    let one = c.in-None.ensures.first f t in
    let lulls = subst (Lulls c.args.sleep h k) e one.1 in
    first_then (λ x. g.S.LinkStore.mem_id x.membrane) (λ x. x.place) (λ x. x.rule) h k l c.args.codes.now c.args.sleep f c.args.from c.first_of_earlier.result
    (subst (NoneIn h c.args.codes.now) e one.0) lulls
    (subst (λ ms. MatchOption c.first_of_earlier.result (NoneIn k c.args.codes.now ms × Lulls c.args.sleep k l ms)
    (λ x. (q : IsFirstIn k c.args.codes.now ms (g.S.LinkStore.mem_id x.membrane) x.place x.rule) × Lulls c.args.sleep k l q.earlier))
    (take_first (flat f) c.args.from) (c.first_of_earlier.ensures.first f (tree_alike h k (lulls_alike c.args.sleep h k (drop c.args.from (flat f)) lulls) f t))))

pub returns-in-None-clause-steps : goal.returns-in-None-clause-steps
returns-in-None-clause-steps g c = λ f t.
    (let h = g.S.LinkStore.heap c.args.machine.now.store in
    let k = g.S.LinkStore.heap c.first_of_some.new.machine.store in
    let codes = c.args.codes.now in
    let e = take_rest (flat f) c.args.from c.args.many (c.requires.many f t) in
    let one = c.in-None.ensures.first f t in
    let lulls = subst (Lulls c.args.sleep h k) e one.1 in
    counts_next c.args.sleep h k codes (drop c.args.from (flat f)) (take c.args.from (flat f)) (asked c.args.from f) c.args.steps.now c.first_of_some.new.steps c.first_of_earlier.new.steps lulls refl
    (λ m i j. turned_apart (flat f) c.args.from m t.once i j) (subst (NoneIn h codes) e one.0)
    (subst (λ xs. CountsAmong h codes (awake_of h xs) c.args.steps.now c.first_of_some.new.steps) e (c.in-None.ensures.steps f t))
    (subst (λ xs. CountsAmong k codes (awake_of k xs) c.first_of_some.new.steps c.first_of_earlier.new.steps) (take_first (flat f) c.args.from)
    (c.first_of_earlier.ensures.steps f (tree_alike h k (lulls_alike c.args.sleep h k (drop c.args.from (flat f)) lulls) f t))))

pub returns-in-Some-clause-ready : goal.returns-in-Some-clause-ready
returns-in-Some-clause-ready g c = record { turn = c.in-Some.ensures.turn; sleeps = c.in-Some.ensures.sleeps }

pub returns-in-None-clause-ready : goal.returns-in-None-clause-ready
returns-in-None-clause-ready g c = record { turn = c.first_of_earlier.ensures.turn; sleeps = c.first_of_earlier.ensures.sleeps }
