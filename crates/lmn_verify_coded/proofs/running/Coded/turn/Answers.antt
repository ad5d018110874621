use Rattle.std.proofs.Common.{◌≡◌, arith, length, refl, subst, true}
use Rattle.lmn_store_heap.specs.Sound.{Forest, IsTree, flat}
use Rattle.lmn_schedule_strategy.specs.Choosing.{CanTurn}
use Rattle.lmn_schedule_strategy.specs.Quieting.{AreQuiet, SleepsRightly}
use Rattle.lmn_schedule_strategy.specs.Turns.{AreRunnable, IsAwakeTurn}
use Rattle.lmn_verify_coded.proofs.Awake.{coded_turn}
use Rattle.lmn_verify_coded.proofs.running.Coded.turn.Goals as goal
use Rattle.lmn_schedule.proofs.Turned.{kept_heap, some_membrane as root_counts}

pub take_turn-answer-requires-clause-codes : goal.take_turn-answer-requires-clause-codes
take_turn-answer-requires-clause-codes g c = subst AreRunnable refl c.requires.run.runnable

pub take_turn-answer-requires-clause-from : goal.take_turn-answer-requires-clause-from
take_turn-answer-requires-clause-from g c =
    let some = root_counts (g.S.LinkStore.heap c.args.self.now.machine.store) c.requires.run.turn.valid c.membranes-many.result
    (subst (λ s. (f : Forest) → IsTree (g.S.LinkStore.heap s) f → c.membranes-many.result ≡ length (flat f)) c.store.ensures c.membranes-many.ensures) in
    omega (arith, some)

pub take_turn-answer-requires-clause-ready : goal.take_turn-answer-requires-clause-ready
take_turn-answer-requires-clause-ready g c =
    let h = g.S.LinkStore.heap c.args.self.now.machine.store in
    record { turn = subst (λ xs. CanTurn h (length xs)) refl c.requires.run.turn; sleeps = subst (SleepsRightly h) refl c.requires.run.sleeps }

pub returns-then-eq-clause-turned : goal.returns-then-eq-clause-turned
returns-then-eq-clause-turned g c =
    let h = g.S.LinkStore.heap c.args.self.now.machine.store in
    let h' = g.S.LinkStore.heap c.take_turn-answer.new.machine.store in
    let t = c.requires.run.turn.valid.tree in
    coded_turn h c.args.self.now.codes t.0 t.1 c.args.self.now.size c.take_turn-answer.result h'
    (subst (λ xs. IsAwakeTurn true h xs t.0 0 c.args.self.now.size c.take_turn-answer.result h') refl (c.take_turn-answer.ensures.turned t.0 t.1))

pub returns-then-eq-clause-flags : goal.returns-then-eq-clause-flags
returns-then-eq-clause-flags g c f tree =
    let h = g.S.LinkStore.heap c.args.self.now.machine.store in
    let h' = g.S.LinkStore.heap c.take_turn-answer.new.machine.store in
    subst (λ xs. IsAwakeTurn true h xs f 0 c.args.self.now.size c.take_turn-answer.result h') refl (c.take_turn-answer.ensures.turned f tree)

pub returns-then-eq-clause-kept : goal.returns-then-eq-clause-kept
returns-then-eq-clause-kept g c =
    let h = g.S.LinkStore.heap c.args.self.now.machine.store in
    let h' = g.S.LinkStore.heap c.take_turn-answer.new.machine.store in
    let t = c.requires.run.turn.valid.tree in
    kept_heap h h' c.args.self.now.codes t.0 0 c.args.self.now.size c.take_turn-answer.result
    (subst (λ xs. IsAwakeTurn true h xs t.0 0 c.args.self.now.size c.take_turn-answer.result h') refl (c.take_turn-answer.ensures.turned t.0 t.1))

pub returns-then-eq-clause-again : goal.returns-then-eq-clause-again
returns-then-eq-clause-again g c =
    let h' = g.S.LinkStore.heap c.take_turn-answer.new.machine.store in
    record {
      turn = subst (λ xs. CanTurn h' (length xs)) refl c.take_turn-answer.ensures.again.turn;
      sleeps = subst (SleepsRightly h') refl (c.take_turn-answer.ensures.again.sleeps (subst AreQuiet refl c.requires.run.quiet));
      runnable = c.requires.run.runnable;
      quiet = c.requires.run.quiet;
      small = c.requires.run.small;
    }

pub returns-else-eq-clause-turned : goal.returns-else-eq-clause-turned
returns-else-eq-clause-turned g c =
    let h = g.S.LinkStore.heap c.args.self.now.machine.store in
    let h' = g.S.LinkStore.heap c.take_turn-answer.new.machine.store in
    let t = c.requires.run.turn.valid.tree in
    coded_turn h c.args.self.now.codes t.0 t.1 c.args.self.now.size c.take_turn-answer.result h'
    (subst (λ xs. IsAwakeTurn true h xs t.0 0 c.args.self.now.size c.take_turn-answer.result h') refl (c.take_turn-answer.ensures.turned t.0 t.1))

pub returns-else-eq-clause-flags : goal.returns-else-eq-clause-flags
returns-else-eq-clause-flags g c f tree =
    let h = g.S.LinkStore.heap c.args.self.now.machine.store in
    let h' = g.S.LinkStore.heap c.take_turn-answer.new.machine.store in
    subst (λ xs. IsAwakeTurn true h xs f 0 c.args.self.now.size c.take_turn-answer.result h') refl (c.take_turn-answer.ensures.turned f tree)

pub returns-else-eq-clause-kept : goal.returns-else-eq-clause-kept
returns-else-eq-clause-kept g c =
    let h = g.S.LinkStore.heap c.args.self.now.machine.store in
    let h' = g.S.LinkStore.heap c.take_turn-answer.new.machine.store in
    let t = c.requires.run.turn.valid.tree in
    kept_heap h h' c.args.self.now.codes t.0 0 c.args.self.now.size c.take_turn-answer.result
    (subst (λ xs. IsAwakeTurn true h xs t.0 0 c.args.self.now.size c.take_turn-answer.result h') refl (c.take_turn-answer.ensures.turned t.0 t.1))

pub returns-else-eq-clause-again : goal.returns-else-eq-clause-again
returns-else-eq-clause-again g c =
    let h' = g.S.LinkStore.heap c.take_turn-answer.new.machine.store in
    record {
      turn = subst (λ xs. CanTurn h' (length xs)) refl c.take_turn-answer.ensures.again.turn;
      sleeps = subst (SleepsRightly h') refl (c.take_turn-answer.ensures.again.sleeps (subst AreQuiet refl c.requires.run.quiet));
      runnable = c.requires.run.runnable;
      quiet = c.requires.run.quiet;
      small = c.requires.run.small;
    }
