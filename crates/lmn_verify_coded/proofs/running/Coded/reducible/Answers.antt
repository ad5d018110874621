use Rattle.std.proofs.Common.{refl, ◌≡◌, length, subst}
use Rattle.lmn_store_heap.specs.Sound.{Forest, IsTree, flat}
use Rattle.lmn_schedule_strategy.specs.Choosing.{CanTurn, IsFirstIn, NoneIn, asked}
use Rattle.lmn_schedule_strategy.specs.Quieting.{SleepsRightly}
use Rattle.lmn_verify_coded.proofs.Asking.{chosen_succeeds}
use Rattle.lmn_verify_coded.proofs.running.Coded.reducible.Goals as goal
use Rattle.lmn_schedule.proofs.Turned.{some_membrane as root_counts}

pub search-requires-clause-from : goal.search-requires-clause-from
search-requires-clause-from g c =
    root_counts (g.S.LinkStore.heap c.args.self.now.machine.store) c.requires.run.turn.valid c.membranes-many.result
    (subst (λ s. (f : Forest) → IsTree (g.S.LinkStore.heap s) f → c.membranes-many.result ≡ length (flat f)) c.store.ensures c.membranes-many.ensures)

pub returns-in-Some-clause-yes : goal.returns-in-Some-clause-yes
returns-in-Some-clause-yes g c _ f tree =
    let h = g.S.LinkStore.heap c.args.self.now.machine.store in
    let found = c.in-Some.field-0 in
    let m = g.S.LinkStore.mem_id found.membrane in
    chosen_succeeds h c.args.self.now.codes f m found.place found.rule
    (subst (λ xs. IsFirstIn h xs (asked 0 f) m found.place found.rule) refl (c.in-Some.ensures.first f tree).0)

pub returns-in-None-clause-no : goal.returns-in-None-clause-no
returns-in-None-clause-no g c _ f tree =
    subst (λ xs. NoneIn (g.S.LinkStore.heap c.args.self.now.machine.store) xs (flat f)) refl (c.in-None.ensures.first f tree).0

pub search-requires-clause-ready : goal.search-requires-clause-ready
search-requires-clause-ready g c =
    let h = g.S.LinkStore.heap c.args.self.now.machine.store in
    record { turn = subst (λ xs. CanTurn h (length xs)) refl c.requires.run.turn; sleeps = subst (SleepsRightly h) refl c.requires.run.sleeps }

pub returns-in-Some-clause-same : goal.returns-in-Some-clause-same
returns-in-Some-clause-same g c = let t = c.requires.run.turn.valid.tree in (c.in-Some.ensures.first t.0 t.1).1

pub returns-in-None-clause-same : goal.returns-in-None-clause-same
returns-in-None-clause-same g c = let t = c.requires.run.turn.valid.tree in (c.in-None.ensures.first t.0 t.1).1
