use Rattle.std.proofs.Common.{length, sym, subst}
use Rattle.lmn_store_heap.specs.Heap.{IsMem}
use Rattle.lmn_schedule_strategy.specs.Choosing.{CanTurn, HasFound, IsFirstRule, Lulled}
use Rattle.lmn_schedule_strategy.specs.Quieting.{SleepsRightly}
use Rattle.lmn_schedule_strategy.proofs.Awake.{counts_in_vain, counts_one}
use Rattle.lmn_schedule_strategy.proofs.Lulling.{lulled_one, lulled_rightly, lulled_turn}
use Rattle.lmn_schedule_strategy.proofs.strategy.ask.Goals as goal

pub returns-in-Some-clause-sleeps : goal.returns-in-Some-clause-sleeps
returns-in-Some-clause-sleeps g c = subst (λ h. SleepsRightly h c.args.codes.now) (sym c.in-Some.ensures.same) c.requires.sleeps

pub returns-in-Some-clause-turn : goal.returns-in-Some-clause-turn
returns-in-Some-clause-turn g c = subst (λ h. CanTurn h (length c.args.codes.now)) (sym c.in-Some.ensures.same) c.requires.turn

pub returns-in-Some-clause-found : goal.returns-in-Some-clause-found
returns-in-Some-clause-found g c =
    subst (λ h. HasFound g.S.LinkStore.atom_id g.S.LinkStore.mem_id h c.args.codes.now (g.S.LinkStore.mem_id c.in-Some.choice.membrane) c.in-Some.choice.rule c.first_rule.new.machine.set) (sym c.in-Some.ensures.same) c.in-Some.ensures.found

pub returns-in-Some-clause-steps : goal.returns-in-Some-clause-steps
returns-in-Some-clause-steps g c =
    let h = g.S.LinkStore.heap c.args.machine.now.store in
    let m = g.S.LinkStore.mem_id c.args.membrane in
    let choice = c.in-Some.choice in
    counts_one h c.args.codes.now m choice.place choice.rule c.args.steps.now c.first_rule.new.steps c.requires.awake
    (subst (λ x. IsFirstRule h c.args.codes.now (g.S.LinkStore.mem_id x) choice.place choice.rule) c.in-Some.ensures.membrane c.in-Some.ensures.first) c.in-Some.ensures.steps

pub lull-requires : goal.lull-requires
lull-requires g c = subst (λ h. IsMem h (g.S.LinkStore.mem_id c.args.membrane)) (sym c.in-None.ensures.same) c.requires.membrane

pub returns-in-None-clause-turn : goal.returns-in-None-clause-turn
returns-in-None-clause-turn g c =
    let h1 = g.S.LinkStore.heap c.first_rule.new.machine.store in
    lulled_turn c.args.sleep h1 (g.S.LinkStore.heap c.lull.new.machine.store) (g.S.LinkStore.mem_id c.args.membrane) (length c.args.codes.now) c.lull.ensures.lulled (subst (λ h. CanTurn h (length c.args.codes.now)) (sym c.in-None.ensures.same) c.requires.turn)

pub returns-in-None-clause-sleeps : goal.returns-in-None-clause-sleeps
returns-in-None-clause-sleeps g c =
    let h = g.S.LinkStore.heap c.args.machine.now.store in
    let k = g.S.LinkStore.heap c.lull.new.machine.store in
    let m = g.S.LinkStore.mem_id c.args.membrane in
    lulled_rightly c.args.sleep h k c.args.codes.now m c.requires.membrane (subst (λ z. Lulled c.args.sleep z k m) c.in-None.ensures.same c.lull.ensures.lulled) c.in-None.ensures.first c.requires.sleeps

pub returns-in-None-clause-lulls : goal.returns-in-None-clause-lulls
returns-in-None-clause-lulls g c =
    let h = g.S.LinkStore.heap c.args.machine.now.store in
    let k = g.S.LinkStore.heap c.lull.new.machine.store in
    let m = g.S.LinkStore.mem_id c.args.membrane in
    lulled_one c.args.sleep h k m c.requires.membrane (subst (λ z. Lulled c.args.sleep z k m) c.in-None.ensures.same c.lull.ensures.lulled)

pub returns-in-None-clause-steps : goal.returns-in-None-clause-steps
returns-in-None-clause-steps g c =
    let h = g.S.LinkStore.heap c.args.machine.now.store in
    let m = g.S.LinkStore.mem_id c.args.membrane in
    counts_in_vain h c.args.codes.now m c.args.steps.now c.first_rule.new.steps c.requires.awake c.in-None.ensures.first c.in-None.ensures.steps
