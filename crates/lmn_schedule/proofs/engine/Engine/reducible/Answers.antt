use Rattle.std.proofs.Common.{refl, ◌≡◌, length, subst}
use Rattle.lmn_adequacy_choices.specs.Turns.{HaveCodes, tree_over}
use Rattle.lmn_store_heap.specs.Sound.{Forest, IsTree, flat}
use Rattle.lmn_schedule_strategy.specs.Choosing.{AllInOrder, CanTurn, IsFirstIn, NoneIn, asked}
use Rattle.lmn_schedule_strategy.specs.Counting.{CountsAsked}
use Rattle.lmn_schedule_strategy.specs.Quieting.{SleepsRightly}
use Rattle.lmn_schedule.proofs.Turned.{done, embeds, some_membrane}
use Rattle.lmn_schedule.proofs.engine.Engine.reducible.Goals as goal

pub search-requires-clause-from : goal.search-requires-clause-from
search-requires-clause-from g c =
    some_membrane (g.S.LinkStore.heap c.args.self.now.machine.store) c.requires.run.turn.valid c.membranes-many.result
    (subst (λ s. (f : Forest) → IsTree (g.S.LinkStore.heap s) f → c.membranes-many.result ≡ length (flat f)) c.store.ensures c.membranes-many.ensures)

pub search-requires-clause-ready : goal.search-requires-clause-ready
search-requires-clause-ready g c =
    let h = g.S.LinkStore.heap c.args.self.now.machine.store in
    record { turn = subst (λ xs. CanTurn h (length xs)) refl c.requires.run.turn; sleeps = subst (SleepsRightly h) refl c.requires.run.sleeps }

pub search-requires-clause-order : goal.search-requires-clause-order
search-requires-clause-order g c =
    subst AllInOrder refl (λ n code e. (c.tables_are_runnable.ensures c.args.self.now.codes (record {
      table = c.args.self.now.plain.now.rules;
      plans = c.requires.run.plans;
      whole = c.requires.run.whole;
      compiled = c.requires.run.compiled;
      inner = c.requires.run.inner;
    }) n code e).head)

pub returns-in-Some-clause-yes : goal.returns-in-Some-clause-yes
returns-in-Some-clause-yes g c _ names solid o =
    let h = g.S.LinkStore.heap c.args.self.now.machine.store in
    let have : HaveCodes c.args.self.now.plain.now.rules c.requires.run.plans c.args.self.now.codes = record { whole = c.requires.run.whole; compiled = c.requires.run.compiled } in
    embeds names c.args.self.now.plain.now.rules (λ t m. 0) 0 0 c.requires.run.plans c.args.self.now.codes c.nothing_embeds.ensures have h solid o (g.S.LinkStore.mem_id c.in-Some.field-0.membrane) c.in-Some.field-0.place c.in-Some.field-0.rule
    (subst (λ xs. IsFirstIn h xs (asked 0 (tree_over h o.inner)) (g.S.LinkStore.mem_id c.in-Some.field-0.membrane) c.in-Some.field-0.place c.in-Some.field-0.rule) refl (c.in-Some.ensures.first (tree_over h o.inner) o.tree).0)

pub returns-in-None-clause-no : goal.returns-in-None-clause-no
returns-in-None-clause-no g c _ names solid o =
    let h = g.S.LinkStore.heap c.args.self.now.machine.store in
    let have : HaveCodes c.args.self.now.plain.now.rules c.requires.run.plans c.args.self.now.codes = record { whole = c.requires.run.whole; compiled = c.requires.run.compiled } in
    done names c.args.self.now.plain.now.rules (λ t m. 0) 0 0 c.requires.run.plans c.args.self.now.codes c.turns_are_alike.ensures have h solid o
    (subst (λ xs. NoneIn h xs (flat (tree_over h o.inner))) refl (c.in-None.ensures.first (tree_over h o.inner) o.tree).0)

pub returns-in-Some-clause-steps : goal.returns-in-Some-clause-steps
returns-in-Some-clause-steps g c = subst (λ xs. CountsAsked (g.S.LinkStore.heap c.args.self.now.machine.store) xs 0 c.args.steps.now c.search.new.steps) refl c.search.ensures.steps

pub returns-in-None-clause-steps : goal.returns-in-None-clause-steps
returns-in-None-clause-steps g c = subst (λ xs. CountsAsked (g.S.LinkStore.heap c.args.self.now.machine.store) xs 0 c.args.steps.now c.search.new.steps) refl c.search.ensures.steps

pub returns-in-Some-clause-same : goal.returns-in-Some-clause-same
returns-in-Some-clause-same g c = let t = c.requires.run.turn.valid.tree in (c.in-Some.ensures.first t.0 t.1).1

pub returns-in-None-clause-same : goal.returns-in-None-clause-same
returns-in-None-clause-same g c = let t = c.requires.run.turn.valid.tree in (c.in-None.ensures.first t.0 t.1).1
