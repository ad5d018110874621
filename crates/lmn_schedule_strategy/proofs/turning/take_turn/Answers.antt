use Rattle.std.proofs.Common.{length}
use Rattle.lmn_schedule_sleep.proofs.Marks.{read_alike}
use Rattle.lmn_schedule_strategy.proofs.Firing.{can_again, can_fire}
use Rattle.lmn_schedule_strategy.proofs.Lulling.{first_in_alike, lulls_alike}
use Rattle.lmn_schedule_strategy.proofs.Rightly.{answers_awake, awake_turn, chooses_awake, chosen_rightly, lulls_awake}
use Rattle.lmn_store_heap.specs.Sound.{flat}
use Rattle.lmn_schedule_strategy.specs.Choosing.{asked}
use Rattle.lmn_schedule_strategy.proofs.turning.take_turn.Goals as goal

pub search-requires-clause-order : goal.search-requires-clause-order
search-requires-clause-order g c n code e = (c.requires.codes n code e).head

pub fire-requires-clause-fire : goal.fire-requires-clause-fire
fire-requires-clause-fire g c =
    let h = g.S.LinkStore.heap c.args.machine.now.store in
    let k = g.S.LinkStore.heap c.search.new.machine.store in
    let m = g.S.LinkStore.mem_id c.in-Some.choice.membrane in
    let n = c.in-Some.choice.rule in
    let codes = c.args.codes.now in
    let code = c.code-code.result in
    let found = c.in-Some.ensures.found in
    let tree = c.requires.ready.turn.valid.tree in
    let is = c.code-code.ensures in
    let first = c.in-Some.ensures.first tree.0 tree.1 in
    can_fire g.S.LinkStore.atom_id g.S.LinkStore.mem_id k codes c.requires.codes (length codes) c.in-Some.ensures.ready.turn m c.in-Some.choice.place n c.search.new.machine.set
    (first_in_alike h k codes (read_alike h k (lulls_alike c.args.sleep h k first.0.earlier first.1)) (asked c.args.from tree.0) m c.in-Some.choice.place n first.0).rule found code is

pub returns-in-Some-clause-turned : goal.returns-in-Some-clause-turned
returns-in-Some-clause-turned g c = λ f t.
    (let h = g.S.LinkStore.heap c.args.machine.now.store in
    let k = g.S.LinkStore.heap c.search.new.machine.store in
    let n = c.in-Some.choice.rule in
    let codes = c.args.codes.now in
    let code = c.code-code.result in
    let found = c.in-Some.ensures.found in
    let is = c.code-code.ensures in
    let first = c.in-Some.ensures.first f t in
    awake_turn g.S.LinkStore.atom_id g.S.LinkStore.mem_id h k codes (g.S.LinkStore.mem_id c.in-Some.choice.membrane) c.in-Some.choice.place n c.args.size c.search.new.machine.set found code is c.args.sleep f c.args.from first.0 first.1
    c.fire.result (g.S.LinkStore.heap c.fire.new.machine.store) c.fire.ensures.fires)

pub returns-in-Some-clause-again : goal.returns-in-Some-clause-again
returns-in-Some-clause-again g c = record {
  turn =
      (let k = g.S.LinkStore.heap c.search.new.machine.store in
      let n = c.in-Some.choice.rule in
      let codes = c.args.codes.now in
      let code = c.code-code.result in
      let found = c.in-Some.ensures.found in
      let is = c.code-code.ensures in
      can_again g.S.LinkStore.atom_id g.S.LinkStore.mem_id k codes (g.S.LinkStore.mem_id c.in-Some.choice.membrane) c.in-Some.choice.place n c.args.size c.search.new.machine.set found code is
      c.requires.codes c.in-Some.ensures.ready.turn c.fire.result (g.S.LinkStore.heap c.fire.new.machine.store) c.fire.ensures.fires c.fire.ensures.valid c.fire.ensures.unmarked);
  sleeps = λ quiet.
      (let h = g.S.LinkStore.heap c.args.machine.now.store in
      let k = g.S.LinkStore.heap c.search.new.machine.store in
      let n = c.in-Some.choice.rule in
      let codes = c.args.codes.now in
      let code = c.code-code.result in
      let found = c.in-Some.ensures.found in
      let is = c.code-code.ensures in
      let tree = c.requires.ready.turn.valid.tree in
      let first = c.in-Some.ensures.first tree.0 tree.1 in
      let chosen = chooses_awake g.S.LinkStore.atom_id g.S.LinkStore.mem_id h k codes (g.S.LinkStore.mem_id c.in-Some.choice.membrane) c.in-Some.choice.place n c.args.size c.search.new.machine.set found code is c.args.sleep tree.0 c.args.from first.0 first.1
      c.fire.result (g.S.LinkStore.heap c.fire.new.machine.store) c.fire.ensures.fires in
      chosen_rightly codes quiet k (g.S.LinkStore.heap c.fire.new.machine.store) c.in-Some.ensures.ready.turn.valid c.fire.ensures.valid (asked c.args.from tree.0) c.args.size c.fire.result chosen c.in-Some.ensures.ready.sleeps);
  awake = λ never all.
      (let h = g.S.LinkStore.heap c.args.machine.now.store in
      let k = g.S.LinkStore.heap c.search.new.machine.store in
      let tree = c.requires.ready.turn.valid.tree in
      let first = c.in-Some.ensures.first tree.0 tree.1 in
      let fires = c.fire.ensures.fires in
      answers_awake k (g.S.LinkStore.heap c.fire.new.machine.store) fires.registers c.code-code.result.body fires.left c.args.size c.fire.result fires.answered
      (lulls_awake c.args.sleep h k first.0.earlier never first.1 all));
}

pub returns-in-None-clause-turned : goal.returns-in-None-clause-turned
returns-in-None-clause-turned g c = λ f t. c.in-None.ensures.first f t

pub returns-in-None-clause-again : goal.returns-in-None-clause-again
returns-in-None-clause-again g c = record {
  turn = c.in-None.ensures.ready.turn;
  sleeps = λ quiet. c.in-None.ensures.ready.sleeps;
  awake = λ never all.
      (let h = g.S.LinkStore.heap c.args.machine.now.store in
      let k = g.S.LinkStore.heap c.search.new.machine.store in
      let tree = c.requires.ready.turn.valid.tree in
      lulls_awake c.args.sleep h k (flat tree.0) never (c.in-None.ensures.first tree.0 tree.1).1 all);
}
