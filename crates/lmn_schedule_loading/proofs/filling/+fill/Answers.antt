use Rattle.std.proofs.Common.{rules}
use Rattle.std.proofs.lemmas.Result.{on_ok_weaker}
use Rattle.lmn_flatten_numbers.proofs.LevelSteps.{membrane_below}
use Rattle.lmn_schedule_loading.proofs.FillingSteps.{own_arities, inner_arities, membrane_ready, membrane_fills, inner_next, rules_last}
use Rattle.lmn_schedule_loading.proofs.filling.+fill.Goals as goal

pub add_leaves-requires-clause-arities : goal.add_leaves-requires-clause-arities
add_leaves-requires-clause-arities g t c = own_arities c.args.level.now c.as_slice.result.now c.as_slice.ensures c.requires.arities

pub fill-requires : goal.fill-requires
fill-requires g t c κs within = (
  membrane_below t c.args.level.now _ _ _ c.loop-inner-test.true c.inner-item.is c.as_slice-inner-items.ensures c.decreases,
  (
    search rules,
    (
      search rules,
      (
        search rules,
        (
          membrane_ready (g.S.LinkStore.heap c.loop-inner.store) (g.S.LinkStore.heap c.add_membrane.new.store) (g.S.LinkStore.mem_id c.args.m) (g.S.LinkStore.mem_id c.in_ok-membrane.membrane) c.loop-inner.invariant.adds.ready c.in_ok-membrane.ensures.fresh c.in_ok-membrane.ensures.ok,
          inner_arities c.args.level.now c.as_slice-inner-items.result.now c.loop-inner.inner-index c.inner-item.result c.loop-inner-test.true c.inner-item.is c.as_slice-inner-items.ensures c.requires.arities,
        ),
      ),
    ),
  ),
)

pub loop-inner-preserved : goal.loop-inner-preserved
loop-inner-preserved g t c = inner_next g.S.LinkStore.atom_id (g.S.LinkStore.heap c.args.store.now) (g.S.LinkStore.heap c.loop-inner.store) (g.S.LinkStore.heap c.fill.new.store) (g.S.LinkStore.mem_id c.args.m) _ c.as_slice-inner-items.result.now c.loop-inner.inner-index c.inner-item.result
    c.args.ports.now c.loop-inner.ports c.fill.new.ports c.requires.ready c.loop-inner-test.true c.inner-item.is c.loop-inner.invariant
    (membrane_fills g.S.LinkStore.atom_id (g.S.LinkStore.heap c.loop-inner.store) (g.S.LinkStore.heap c.add_membrane.new.store) (g.S.LinkStore.heap c.fill.new.store) (g.S.LinkStore.mem_id c.args.m) (g.S.LinkStore.mem_id c.in_ok-membrane.membrane) c.inner-item.result c.loop-inner.ports c.fill.new.ports
    c.loop-inner.invariant.adds.ready c.in_ok-membrane.ensures.fresh c.in_ok-membrane.ensures.ok c.in_ok-fill.ensures)

pub returns : goal.returns
returns g t c = on_ok_weaker c.add_rules.result
    (λ a. rules_last g.S.LinkStore.atom_id (g.S.LinkStore.heap c.args.store.now) (g.S.LinkStore.heap c.loop-inner.store) (g.S.LinkStore.heap c.add_rules.new.store) (g.S.LinkStore.mem_id c.args.m) c.args.level.now _ c.as_slice-inner-items.result.now c.as_slice-2.result.now c.loop-inner.inner-index
    c.args.ports.now c.loop-inner.ports c.requires.ready c.loop-inner-test.false c.as_slice-inner-items.ensures c.as_slice-2.ensures c.loop-inner.invariant a) c.add_rules.ensures
