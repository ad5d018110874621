use Rattle.lmn_schedule_loading.proofs.FillingSteps.{rules_start, rules_next, room_next}
use Rattle.lmn_schedule_loading.proofs.filling.add_rules.Goals as goal

pub loop-rule-init : goal.loop-rule-init
loop-rule-init g c = record {
  adds = rules_start (g.S.LinkStore.heap c.args.store.now) (g.S.LinkStore.heap c.reserve_rules.new.self) (g.S.LinkStore.mem_id c.args.m) _ c.requires c.in_ok-reserve_rules.ensures.ok;
  room = c.in_ok-reserve_rules.ensures.least;
}

pub loop-rule-preserved : goal.loop-rule-preserved
loop-rule-preserved g c = record {
  adds = rules_next (g.S.LinkStore.heap c.args.store.now) (g.S.LinkStore.heap c.loop-rule.store) (g.S.LinkStore.heap c.add_rule.new.self) (g.S.LinkStore.mem_id c.args.m) c.args.rules.now c.loop-rule.rule-index _ c.requires c.loop-rule-test.true c.loop-rule.invariant.adds c.add_rule.ensures;
  room = room_next (g.S.LinkStore.heap c.loop-rule.store) (g.S.LinkStore.heap c.add_rule.new.self) (g.S.LinkStore.mem_id c.args.m) _ c.args.rules.now c.loop-rule.rule-index c.loop-rule.invariant.adds.ready c.loop-rule-test.true c.loop-rule.invariant.room c.add_rule.ensures;
}
