use Rattle.std.proofs.Common.{◌≡◌, length, true, refl, sym, subst, arith, ◌∙◌}
use Rattle.lmn_adequacy_choices.specs.Turns.{HaveCodes, tree_over}
use Rattle.lmn_store_heap.specs.Sound.{Forest, IsTree, flat}
use Rattle.lmn_schedule_strategy.specs.Counting.{CountsAsked}
use Rattle.lmn_schedule_strategy.specs.Choosing.{CanTurn}
use Rattle.lmn_schedule_strategy.specs.Quieting.{AreQuiet, SleepsRightly}
use Rattle.lmn_schedule_strategy.specs.Turns.{AreRunnable, IsAwakeTurn}
use Rattle.lmn_schedule.proofs.Turned.{as_many_paths, kept_heap, some_membrane, turned}
use Rattle.lmn_schedule.proofs.engine.Engine.turn.Goals as goal

pub pick-from-requires-clause-some : goal.pick-from-requires-clause-some
pick-from-requires-clause-some g c =
    some_membrane (g.S.LinkStore.heap c.args.self.now.machine.store) c.requires.run.turn.valid c.membranes-many.result
    (subst (λ s. (f : Forest) → IsTree (g.S.LinkStore.heap s) f → c.membranes-many.result ≡ length (flat f)) c.store.ensures c.membranes-many.ensures)

pub take_turn-answer-requires-clause-ready : goal.take_turn-answer-requires-clause-ready
take_turn-answer-requires-clause-ready g c =
    let h = g.S.LinkStore.heap c.args.self.now.machine.store in
    record { turn = subst (λ xs. CanTurn h (length xs)) refl c.requires.run.turn; sleeps = subst (SleepsRightly h) refl c.requires.run.sleeps }

pub take_turn-answer-requires-clause-codes : goal.take_turn-answer-requires-clause-codes
take_turn-answer-requires-clause-codes g c =
    subst AreRunnable refl (c.tables_are_runnable.ensures c.args.self.now.codes (record {
      table = c.args.self.now.plain.now.rules;
      plans = c.requires.run.plans;
      whole = c.requires.run.whole;
      compiled = c.requires.run.compiled;
      inner = c.requires.run.inner;
    }))

pub returns-then-eq-clause-turned : goal.returns-then-eq-clause-turned
returns-then-eq-clause-turned g c k gives names solid o =
    let h = g.S.LinkStore.heap c.args.self.now.machine.store in
    let f = tree_over h o.inner in
    let counts = subst (λ s. (f : Forest) → IsTree (g.S.LinkStore.heap s) f → c.membranes-many.result ≡ length (flat f)) c.store.ensures c.membranes-many.ensures in
    let some = some_membrane h c.requires.run.turn.valid c.membranes-many.result counts in
    let first = gives c.args.self.now.commits c.membranes-many.result c.pick-from.result (omega (arith, c.requires.commits)) (omega (arith, c.membranes-many.type_inv)) some c.pick-from.ensures.answer in
    let have : HaveCodes c.args.self.now.plain.now.rules c.requires.run.plans c.args.self.now.codes = record { whole = c.requires.run.whole; compiled = c.requires.run.compiled } in
    turned names c.args.self.now.plain.now.rules k c.args.self.now.commits c.args.self.now.size c.requires.run.plans c.args.self.now.codes
    c.turns_are_alike.ensures c.turns_are_of_chooser.ensures c.spares_are_not_read.ensures c.marks_are_not_read.ensures have h c.requires.run.turn.valid solid o c.pick-from.result
    (subst (λ n. c.pick-from.result ≡ k c.args.self.now.commits n) (counts f o.tree) first)
    c.take_turn-answer.result (g.S.LinkStore.heap c.take_turn-answer.new.machine.store) c.take_turn-answer.ensures.again.turn.valid
    (subst (λ xs. IsAwakeTurn true h xs f c.pick-from.result c.args.self.now.size c.take_turn-answer.result (g.S.LinkStore.heap c.take_turn-answer.new.machine.store)) refl (c.take_turn-answer.ensures.turned f o.tree))

pub returns-else-eq-clause-turned : goal.returns-else-eq-clause-turned
returns-else-eq-clause-turned g c k gives names solid o =
    let h = g.S.LinkStore.heap c.args.self.now.machine.store in
    let f = tree_over h o.inner in
    let counts = subst (λ s. (f : Forest) → IsTree (g.S.LinkStore.heap s) f → c.membranes-many.result ≡ length (flat f)) c.store.ensures c.membranes-many.ensures in
    let some = some_membrane h c.requires.run.turn.valid c.membranes-many.result counts in
    let first = gives c.args.self.now.commits c.membranes-many.result c.pick-from.result (omega (arith, c.requires.commits)) (omega (arith, c.membranes-many.type_inv)) some c.pick-from.ensures.answer in
    let have : HaveCodes c.args.self.now.plain.now.rules c.requires.run.plans c.args.self.now.codes = record { whole = c.requires.run.whole; compiled = c.requires.run.compiled } in
    turned names c.args.self.now.plain.now.rules k c.args.self.now.commits c.args.self.now.size c.requires.run.plans c.args.self.now.codes
    c.turns_are_alike.ensures c.turns_are_of_chooser.ensures c.spares_are_not_read.ensures c.marks_are_not_read.ensures have h c.requires.run.turn.valid solid o c.pick-from.result
    (subst (λ n. c.pick-from.result ≡ k c.args.self.now.commits n) (counts f o.tree) first)
    c.take_turn-answer.result (g.S.LinkStore.heap c.take_turn-answer.new.machine.store) c.take_turn-answer.ensures.again.turn.valid
    (subst (λ xs. IsAwakeTurn true h xs f c.pick-from.result c.args.self.now.size c.take_turn-answer.result (g.S.LinkStore.heap c.take_turn-answer.new.machine.store)) refl (c.take_turn-answer.ensures.turned f o.tree))

pub returns-then-eq-clause-chosen : goal.returns-then-eq-clause-chosen
returns-then-eq-clause-chosen g c =
    let h = g.S.LinkStore.heap c.args.self.now.machine.store in
    let h' = g.S.LinkStore.heap c.take_turn-answer.new.machine.store in
    let table = c.args.self.now.plain.now.rules in
    let codes = c.args.self.now.codes in
    let commits = c.args.self.now.commits in
    let size = c.args.self.now.size in
    let many = subst (λ s. (f : Forest) → IsTree (g.S.LinkStore.heap s) f → c.membranes-many.result ≡ length (flat f)) c.store.ensures c.membranes-many.ensures in
    let from = c.pick-from.result in
    let answer = c.take_turn-answer.result in
    let have : HaveCodes table c.requires.run.plans codes = record { whole = c.requires.run.whole; compiled = c.requires.run.compiled } in
    record {
      from = from;
      counts = subst (λ xs. CountsAsked h xs from c.args.steps.now c.take_turn-answer.new.steps) refl c.take_turn-answer.ensures.steps;
      flags = λ f t. subst (λ xs. IsAwakeTurn true h xs f from size answer h') refl (c.take_turn-answer.ensures.turned f t);
      turned = λ names solid o. (
        subst (λ n. g.F.Fn.post c.args.self.now.chooser.f (commits, (n, tt)) from) (many (tree_over h o.inner) o.tree ∙ sym (as_many_paths c.membranes_are_numbered_alike.ensures names table h solid o)) c.pick-from.ensures.answer,
        turned names table (λ commits membranes. from) commits size c.requires.run.plans codes
            c.turns_are_alike.ensures c.turns_are_of_chooser.ensures c.spares_are_not_read.ensures c.marks_are_not_read.ensures have h c.requires.run.turn.valid solid o from refl answer h' c.take_turn-answer.ensures.again.turn.valid
            (subst (λ xs. IsAwakeTurn true h xs (tree_over h o.inner) from size answer h') refl (c.take_turn-answer.ensures.turned (tree_over h o.inner) o.tree)),
      );
    }

pub returns-else-eq-clause-chosen : goal.returns-else-eq-clause-chosen
returns-else-eq-clause-chosen g c =
    let h = g.S.LinkStore.heap c.args.self.now.machine.store in
    let h' = g.S.LinkStore.heap c.take_turn-answer.new.machine.store in
    let table = c.args.self.now.plain.now.rules in
    let codes = c.args.self.now.codes in
    let commits = c.args.self.now.commits in
    let size = c.args.self.now.size in
    let many = subst (λ s. (f : Forest) → IsTree (g.S.LinkStore.heap s) f → c.membranes-many.result ≡ length (flat f)) c.store.ensures c.membranes-many.ensures in
    let from = c.pick-from.result in
    let answer = c.take_turn-answer.result in
    let have : HaveCodes table c.requires.run.plans codes = record { whole = c.requires.run.whole; compiled = c.requires.run.compiled } in
    record {
      from = from;
      counts = subst (λ xs. CountsAsked h xs from c.args.steps.now c.take_turn-answer.new.steps) refl c.take_turn-answer.ensures.steps;
      flags = λ f t. subst (λ xs. IsAwakeTurn true h xs f from size answer h') refl (c.take_turn-answer.ensures.turned f t);
      turned = λ names solid o. (
        subst (λ n. g.F.Fn.post c.args.self.now.chooser.f (commits, (n, tt)) from) (many (tree_over h o.inner) o.tree ∙ sym (as_many_paths c.membranes_are_numbered_alike.ensures names table h solid o)) c.pick-from.ensures.answer,
        turned names table (λ commits membranes. from) commits size c.requires.run.plans codes
            c.turns_are_alike.ensures c.turns_are_of_chooser.ensures c.spares_are_not_read.ensures c.marks_are_not_read.ensures have h c.requires.run.turn.valid solid o from refl answer h' c.take_turn-answer.ensures.again.turn.valid
            (subst (λ xs. IsAwakeTurn true h xs (tree_over h o.inner) from size answer h') refl (c.take_turn-answer.ensures.turned (tree_over h o.inner) o.tree)),
      );
    }

pub returns-then-eq-clause-kept : goal.returns-then-eq-clause-kept
returns-then-eq-clause-kept g c =
    let h = g.S.LinkStore.heap c.args.self.now.machine.store in
    let tree = c.requires.run.turn.valid.tree in
    kept_heap h (g.S.LinkStore.heap c.take_turn-answer.new.machine.store) c.args.self.now.codes tree.0 c.pick-from.result c.args.self.now.size c.take_turn-answer.result
    (subst (λ xs. IsAwakeTurn true h xs tree.0 c.pick-from.result c.args.self.now.size c.take_turn-answer.result (g.S.LinkStore.heap c.take_turn-answer.new.machine.store)) refl (c.take_turn-answer.ensures.turned tree.0 tree.1))

pub returns-else-eq-clause-kept : goal.returns-else-eq-clause-kept
returns-else-eq-clause-kept g c =
    let h = g.S.LinkStore.heap c.args.self.now.machine.store in
    let tree = c.requires.run.turn.valid.tree in
    kept_heap h (g.S.LinkStore.heap c.take_turn-answer.new.machine.store) c.args.self.now.codes tree.0 c.pick-from.result c.args.self.now.size c.take_turn-answer.result
    (subst (λ xs. IsAwakeTurn true h xs tree.0 c.pick-from.result c.args.self.now.size c.take_turn-answer.result (g.S.LinkStore.heap c.take_turn-answer.new.machine.store)) refl (c.take_turn-answer.ensures.turned tree.0 tree.1))

pub returns-then-eq-clause-again : goal.returns-then-eq-clause-again
returns-then-eq-clause-again g c =
    let h' = g.S.LinkStore.heap c.take_turn-answer.new.machine.store in
    let codes = c.args.self.now.codes in
    let quiet = c.tables_are_quiet.ensures codes (record {
      table = c.args.self.now.plain.now.rules;
      plans = c.requires.run.plans;
      whole = c.requires.run.whole;
      compiled = c.requires.run.compiled;
      inner = c.requires.run.inner;
    }) in
    record {
      turn = subst (λ xs. CanTurn h' (length xs)) refl c.take_turn-answer.ensures.again.turn;
      sleeps = subst (SleepsRightly h') refl (c.take_turn-answer.ensures.again.sleeps (subst AreQuiet refl quiet));
      plans = c.requires.run.plans;
      whole = c.requires.run.whole;
      compiled = c.requires.run.compiled;
      inner = c.requires.run.inner;
      small = c.requires.run.small;
    }

pub returns-else-eq-clause-again : goal.returns-else-eq-clause-again
returns-else-eq-clause-again g c =
    let h' = g.S.LinkStore.heap c.take_turn-answer.new.machine.store in
    let codes = c.args.self.now.codes in
    let quiet = c.tables_are_quiet.ensures codes (record {
      table = c.args.self.now.plain.now.rules;
      plans = c.requires.run.plans;
      whole = c.requires.run.whole;
      compiled = c.requires.run.compiled;
      inner = c.requires.run.inner;
    }) in
    record {
      turn = subst (λ xs. CanTurn h' (length xs)) refl c.take_turn-answer.ensures.again.turn;
      sleeps = subst (SleepsRightly h') refl (c.take_turn-answer.ensures.again.sleeps (subst AreQuiet refl quiet));
      plans = c.requires.run.plans;
      whole = c.requires.run.whole;
      compiled = c.requires.run.compiled;
      inner = c.requires.run.inner;
      small = c.requires.run.small;
    }
