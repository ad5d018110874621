use Rattle.std.proofs.Common.{◌≡◌, [], ◌∷◌, Some, length, sym, subst, arith}
use Rattle.std.specs.Prelude.{slice_get}
use Rattle.lmn_store_heap.specs.Heap.{IsMem, mem_mark_of}
use Rattle.lmn_store_heap.specs.Sound.{flat}
use Rattle.lmn_schedule_sleep.specs.Quiet.{SameButMarks}
use Rattle.lmn_machine_commit.proofs.Rousing.{no_marks, marks_on}
use Rattle.lmn_store_trait.proofs.Numbers.{number_mem}
use Rattle.lmn_schedule_strategy.specs.Choosing.{CanTurn, IsFirstRule}
use Rattle.lmn_schedule_strategy.specs.Quieting.{SleepsRightly}
use Rattle.lmn_schedule_strategy.proofs.Lulling.{lulls_alike, tree_alike}
use Rattle.lmn_schedule_strategy.proofs.Passing.{passed_counts, passed_first, passed_found, passed_sleepers, passed_vain}
use Rattle.lmn_schedule_strategy.proofs.strategy.first_of_some.Goals as goal

pub loop-next-init : goal.loop-next-init
loop-next-init g c = record {
  alike = no_marks (g.S.LinkStore.heap c.args.machine.now.store);
  turn = c.requires.turn;
  sleeps = c.requires.sleeps;
  low = omega arith;
  high = c.requires.ordered;
  passed = λ f t. passed_first c.args.sleep c.args.codes.now (g.S.LinkStore.heap c.args.machine.now.store) (flat f) t.once c.args.from c.args.steps.now;
}

pub next_awake-requires : goal.next_awake-requires
next_awake-requires g c = c.loop-next.invariant.turn.valid

pub ask-requires-clause-turn : goal.ask-requires-clause-turn
ask-requires-clause-turn g c = subst (λ z. CanTurn z (length c.args.codes.now)) (sym c.in-Some.ensures.same) c.loop-next.invariant.turn

pub ask-requires-clause-sleeps : goal.ask-requires-clause-sleeps
ask-requires-clause-sleeps g c = subst (λ z. SleepsRightly z c.args.codes.now) (sym c.in-Some.ensures.same) c.loop-next.invariant.sleeps

pub ask-requires-clause-membrane : goal.ask-requires-clause-membrane
ask-requires-clause-membrane g c =
    let m = g.S.LinkStore.mem_id c.in-Some.next.membrane in
    subst (λ z. IsMem z m) (sym c.in-Some.ensures.same)
    (number_mem (g.S.LinkStore.heap c.loop-next.machine.store) c.in-Some.next.number m c.loop-next.invariant.turn.valid (λ f t. (c.in-Some.ensures.next f t).is))

pub ask-requires-clause-awake : goal.ask-requires-clause-awake
ask-requires-clause-awake g c =
    let tree = c.loop-next.invariant.turn.valid.tree in
    subst (λ z. mem_mark_of z (g.S.LinkStore.mem_id c.in-Some.next.membrane) ≡ 0) (sym c.in-Some.ensures.same) (c.in-Some.ensures.next tree.0 tree.1).awake

pub returns-in-Some-ask-clause-first : goal.returns-in-Some-ask-clause-first
returns-in-Some-ask-clause-first g c = λ f t.
    (let h = g.S.LinkStore.heap c.args.machine.now.store in
    let k = g.S.LinkStore.heap c.loop-next.machine.store in
    let i = g.S.LinkStore.heap c.next_awake.new.machine.store in
    let codes = c.args.codes.now in
    let choice = c.in-Some-ask.choice in
    let now = c.loop-next.invariant in
    let next = c.in-Some.ensures.next f (tree_alike h k now.alike f t) in
    let passed = passed_sleepers c.args.sleep codes h (flat f) t.once c.args.from k i c.loop-next.at c.in-Some.next.number c.args.steps.now c.loop-next.steps
    now.low next.least c.in-Some.ensures.same now.sleeps next.none (now.passed f t) in
    passed_found c.args.sleep codes h (flat f) t.once c.args.from i (g.S.LinkStore.heap c.ask.new.machine.store) c.in-Some.next.number (g.S.LinkStore.mem_id choice.membrane) choice.place choice.rule c.args.until c.args.steps.now c.loop-next.steps
    (let l = now.low in let s = next.least in omega (arith, l, s)) c.in-Some.ensures.within
    (subst (λ x. slice_get (flat f) c.in-Some.next.number ≡ Some (g.S.LinkStore.mem_id x)) (sym c.in-Some-ask.ensures.membrane) next.is)
    c.in-Some-ask.ensures.lulls passed c.in-Some-ask.ensures.first)

pub returns-in-Some-ask-clause-steps : goal.returns-in-Some-ask-clause-steps
returns-in-Some-ask-clause-steps g c = λ f t.
    (let h = g.S.LinkStore.heap c.args.machine.now.store in
    let k = g.S.LinkStore.heap c.loop-next.machine.store in
    let i = g.S.LinkStore.heap c.next_awake.new.machine.store in
    let codes = c.args.codes.now in
    let choice = c.in-Some-ask.choice in
    let m = g.S.LinkStore.mem_id c.in-Some.next.membrane in
    let now = c.loop-next.invariant in
    let next = c.in-Some.ensures.next f (tree_alike h k now.alike f t) in
    let passed = passed_sleepers c.args.sleep codes h (flat f) t.once c.args.from k i c.loop-next.at c.in-Some.next.number c.args.steps.now c.loop-next.steps
    now.low next.least c.in-Some.ensures.same now.sleeps next.none (now.passed f t) in
    passed_counts c.args.sleep codes h (flat f) t.once c.args.from i c.in-Some.next.number m choice.place choice.rule c.args.until c.args.steps.now c.loop-next.steps c.ask.new.steps
    (let l = now.low in let s = next.least in omega (arith, l, s)) c.in-Some.ensures.within next.is c.requires.sleeps passed
    (subst (λ x. IsFirstRule i codes (g.S.LinkStore.mem_id x) choice.place choice.rule) c.in-Some-ask.ensures.membrane c.in-Some-ask.ensures.first)
    c.in-Some-ask.ensures.steps)

pub loop-next-smaller : goal.loop-next-smaller
loop-next-smaller g c =
    let tree = c.loop-next.invariant.turn.valid.tree in
    let least = (c.in-Some.ensures.next tree.0 tree.1).least in
    let within = c.in-Some.ensures.within in
    omega (arith, least, within)

pub loop-next-preserved : goal.loop-next-preserved
loop-next-preserved g c =
    let h = g.S.LinkStore.heap c.args.machine.now.store in
    let k = g.S.LinkStore.heap c.loop-next.machine.store in
    let i = g.S.LinkStore.heap c.next_awake.new.machine.store in
    let l = g.S.LinkStore.heap c.ask.new.machine.store in
    let codes = c.args.codes.now in
    let m = g.S.LinkStore.mem_id c.in-Some.next.membrane in
    let now = c.loop-next.invariant in
    let tree = now.turn.valid.tree in
    let above = (c.in-Some.ensures.next tree.0 tree.1).least in
    let low = now.low in
    record {
      alike = marks_on h i l (subst (SameButMarks h) (sym c.in-Some.ensures.same) now.alike) (lulls_alike c.args.sleep i l (m ∷ []) c.in-None.ensures.lulls);
      turn = c.in-None.ensures.turn;
      sleeps = c.in-None.ensures.sleeps;
      low = omega (arith, above, low);
      high = (let within = c.in-Some.ensures.within in omega (arith, within));
      passed = λ f t.
          (let next = c.in-Some.ensures.next f (tree_alike h k now.alike f t) in
          passed_vain c.args.sleep codes h (flat f) t.once c.args.from i l c.in-Some.next.number m c.args.steps.now c.loop-next.steps c.ask.new.steps
          (omega (arith, above, low)) next.is
          (passed_sleepers c.args.sleep codes h (flat f) t.once c.args.from k i c.loop-next.at c.in-Some.next.number c.args.steps.now c.loop-next.steps low next.least c.in-Some.ensures.same now.sleeps next.none (now.passed f t))
          c.in-None.ensures.first c.in-None.ensures.lulls c.in-None.ensures.steps);
    }

pub returns-clause-turn : goal.returns-clause-turn
returns-clause-turn g c = subst (λ z. CanTurn z (length c.args.codes.now)) (sym c.in_default.ensures.same) c.loop-next.invariant.turn

pub returns-clause-sleeps : goal.returns-clause-sleeps
returns-clause-sleeps g c = subst (λ z. SleepsRightly z c.args.codes.now) (sym c.in_default.ensures.same) c.loop-next.invariant.sleeps

pub returns-clause-first : goal.returns-clause-first
returns-clause-first g c = λ f t.
    (let h = g.S.LinkStore.heap c.args.machine.now.store in
    let k = g.S.LinkStore.heap c.loop-next.machine.store in
    let now = c.loop-next.invariant in
    let passed = passed_sleepers c.args.sleep c.args.codes.now h (flat f) t.once c.args.from k (g.S.LinkStore.heap c.next_awake.new.machine.store) c.loop-next.at c.args.until c.args.steps.now c.loop-next.steps
    now.low now.high c.in_default.ensures.same now.sleeps (c.in_default.ensures.next f (tree_alike h k now.alike f t)) (now.passed f t) in
    (passed.none, passed.lulls))

pub returns-clause-steps : goal.returns-clause-steps
returns-clause-steps g c = λ f t.
    (let h = g.S.LinkStore.heap c.args.machine.now.store in
    let k = g.S.LinkStore.heap c.loop-next.machine.store in
    let now = c.loop-next.invariant in
    (passed_sleepers c.args.sleep c.args.codes.now h (flat f) t.once c.args.from k (g.S.LinkStore.heap c.next_awake.new.machine.store) c.loop-next.at c.args.until c.args.steps.now c.loop-next.steps
    now.low now.high c.in_default.ensures.same now.sleeps (c.in_default.ensures.next f (tree_alike h k now.alike f t)) (now.passed f t)).counts)
