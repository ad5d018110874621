use Rattle.std.proofs.Common.{◌≡◌, ◌<◌, ◌+◌, length, subst, ap, ◌∙◌, arith}
use Rattle.lmn_store_heap.specs.Heap.{rules_in}
use Rattle.lmn_schedule_strategy.specs.Choosing.{CodeSucceeds, HasFound}
use Rattle.lmn_schedule_strategy.proofs.Chosen.{found_succeeds, none_of_more, none_of_all, rule_read}
use Rattle.lmn_schedule_strategy.proofs.Counts.{counts_more}
use Rattle.lmn_schedule_strategy.proofs.strategy.first_rule.Goals as goal
use Rattle.lmn_store_heap.proofs.Common.{in_at as get_in}

pub succeeds-requires-clause-rule : goal.succeeds-requires-clause-rule
succeeds-requires-clause-rule g c =
    let m = g.S.LinkStore.mem_id c.args.membrane in
    c.requires.turn.of_table m c.loop-membrane.rule (get_in (rules_in (g.S.LinkStore.heap c.args.machine.now.store) m) c.loop-membrane.place c.loop-membrane.rule c.loop-membrane.invariant.read)

pub returns-then-succeeds-clause-first : goal.returns-then-succeeds-clause-first
returns-then-succeeds-clause-first g c =
    let h = g.S.LinkStore.heap c.args.machine.now.store in
    let m = g.S.LinkStore.mem_id c.args.membrane in
    record {
      stands = c.loop-membrane.invariant.read;
      succeeds = found_succeeds g.S.LinkStore.atom_id g.S.LinkStore.mem_id h c.args.codes.now m c.loop-membrane.rule c.succeeds.new.machine.set
          (subst (λ k. HasFound g.S.LinkStore.atom_id g.S.LinkStore.mem_id k c.args.codes.now m c.loop-membrane.rule c.succeeds.new.machine.set) c.loop-membrane.invariant.same (c.succeeds.ensures.found c.if-succeeds.true));
      earlier = c.loop-membrane.invariant.none;
    }

pub returns-then-place-rules-clause-first : goal.returns-then-place-rules-clause-first
returns-then-place-rules-clause-first g c =
    let h = g.S.LinkStore.heap c.args.machine.now.store in
    let m = g.S.LinkStore.mem_id c.args.membrane in
    let many : c.rules-rules.result ≡ length (rules_in h m) = c.rules-rules.ensures ∙ ap (λ s. length (rules_in (g.S.LinkStore.heap s) m)) c.store.ensures in
    none_of_all h c.args.codes.now m (c.loop-membrane.place + 1) (rules_in h m) (let end = c.if-place-rules.true in omega (arith, many, end))
    (none_of_more h c.args.codes.now m c.loop-membrane.place c.loop-membrane.rule (rules_in h m) c.loop-membrane.invariant.read c.loop-membrane.invariant.none
    (subst (λ k. CodeSucceeds k c.args.codes.now m c.loop-membrane.rule → ⊥) c.loop-membrane.invariant.same (c.succeeds.ensures.none c.if-succeeds.false)))

pub loop-membrane-preserved : goal.loop-membrane-preserved
loop-membrane-preserved g c =
    let h = g.S.LinkStore.heap c.args.machine.now.store in
    let m = g.S.LinkStore.mem_id c.args.membrane in
    let below : c.loop-membrane.place + 1 < c.rules-rules.result = (let more = c.if-place-rules.false in omega (arith, more)) in
    record {
      same = c.succeeds.ensures.same ∙ c.loop-membrane.invariant.same;
      below = below;
      read = rule_read h (g.S.LinkStore.heap c.store.result.now) (g.S.LinkStore.heap c.store-in-loop-membrane.result.now) m (c.loop-membrane.place + 1) c.rules-rules.result c.rule-rule-in-loop-membrane.result
          (ap g.S.LinkStore.heap c.store.ensures) (ap g.S.LinkStore.heap c.store-in-loop-membrane.ensures ∙ (c.succeeds.ensures.same ∙ c.loop-membrane.invariant.same)) c.rules-rules.ensures below c.rule-rule-in-loop-membrane.ensures;
      none = none_of_more h c.args.codes.now m c.loop-membrane.place c.loop-membrane.rule (rules_in h m) c.loop-membrane.invariant.read c.loop-membrane.invariant.none
          (subst (λ k. CodeSucceeds k c.args.codes.now m c.loop-membrane.rule → ⊥) c.loop-membrane.invariant.same (c.succeeds.ensures.none c.if-succeeds.false));
      counts = counts_more c.loop-membrane.place c.args.steps.now c.loop-membrane.steps c.succeeds.new.steps c.loop-membrane.invariant.counts c.succeeds.ensures.steps;
    }
