use Rattle.std.proofs.Common.{◌∙◌, ◌++◌, sym, subst, ap}
use Rattle.lmn_base.specs.Levels.{leaves_of}
use Rattle.lmn_schedule_loading.specs.Adding.{CanBeFilled}
use Rattle.lmn_schedule_loading.specs.Joining.{connectors_of_leaves}
use Rattle.lmn_schedule_loading.proofs.Whole.{empty_ready, connectors_fit, ports_fit, are_free, are_twice, is_loaded}
use Rattle.lmn_schedule_loading.proofs.loading.put.Goals as goal

pub fill-requires-clause-ready : goal.fill-requires-clause-ready
fill-requires-clause-ready g c = subst (λ k. CanBeFilled (g.S.LinkStore.heap c.args.store.now) k) (sym c.root-root.ensures.root) (empty_ready (g.S.LinkStore.heap c.args.store.now) c.root-root.ensures.sound c.requires.store)

pub join_all-requires-clause-connectors : goal.join_all-requires-clause-connectors
join_all-requires-clause-connectors g c = connectors_fit g.S.LinkStore.atom_id c.args.plain.now (g.S.LinkStore.heap c.args.store.now) (g.S.LinkStore.heap c.fill.new.store) (g.S.LinkStore.mem_id c.root-root.result) c.len.result c.new-ports.result c.fill.new.ports c.as_slice.result.now c.as_slice-2.result.now c.root-root.ensures.sound c.requires.store c.requires.plain c.requires.closed
    c.root-root.ensures.root c.len.ensures c.new-ports.ensures c.in_ok-fill.ensures c.as_slice.ensures (c.as_slice-2.ensures ∙ c.in_ok-add_connectors.ensures ∙ ap (λ ps. ps ++ connectors_of_leaves (leaves_of c.args.plain.now.top)) c.new-connectors.ensures)

pub join_all-requires-clause-ports : goal.join_all-requires-clause-ports
join_all-requires-clause-ports g c = ports_fit g.S.LinkStore.atom_id c.args.plain.now (g.S.LinkStore.heap c.args.store.now) (g.S.LinkStore.heap c.fill.new.store) (g.S.LinkStore.mem_id c.root-root.result) c.len.result c.new-ports.result c.fill.new.ports c.as_slice.result.now c.as_slice-2.result.now c.root-root.ensures.sound c.requires.store c.requires.plain c.requires.closed
    c.root-root.ensures.root c.len.ensures c.new-ports.ensures c.in_ok-fill.ensures c.as_slice.ensures (c.as_slice-2.ensures ∙ c.in_ok-add_connectors.ensures ∙ ap (λ ps. ps ++ connectors_of_leaves (leaves_of c.args.plain.now.top)) c.new-connectors.ensures)

pub join_all-requires-clause-free : goal.join_all-requires-clause-free
join_all-requires-clause-free g c = are_free g.S.LinkStore.atom_id c.args.plain.now (g.S.LinkStore.heap c.args.store.now) (g.S.LinkStore.heap c.fill.new.store) (g.S.LinkStore.mem_id c.root-root.result) c.len.result c.new-ports.result c.fill.new.ports c.as_slice.result.now c.as_slice-2.result.now c.root-root.ensures.sound c.requires.store c.requires.plain c.requires.closed
    c.root-root.ensures.root c.len.ensures c.new-ports.ensures c.in_ok-fill.ensures c.as_slice.ensures (c.as_slice-2.ensures ∙ c.in_ok-add_connectors.ensures ∙ ap (λ ps. ps ++ connectors_of_leaves (leaves_of c.args.plain.now.top)) c.new-connectors.ensures)

pub join_all-requires-clause-twice : goal.join_all-requires-clause-twice
join_all-requires-clause-twice g c = are_twice g.S.LinkStore.atom_id c.args.plain.now (g.S.LinkStore.heap c.args.store.now) (g.S.LinkStore.heap c.fill.new.store) (g.S.LinkStore.mem_id c.root-root.result) c.len.result c.new-ports.result c.fill.new.ports c.as_slice.result.now c.as_slice-2.result.now c.root-root.ensures.sound c.requires.store c.requires.plain c.requires.closed
    c.root-root.ensures.root c.len.ensures c.new-ports.ensures c.in_ok-fill.ensures c.as_slice.ensures (c.as_slice-2.ensures ∙ c.in_ok-add_connectors.ensures ∙ ap (λ ps. ps ++ connectors_of_leaves (leaves_of c.args.plain.now.top)) c.new-connectors.ensures)

pub returns : goal.returns
returns g c = is_loaded g.S.LinkStore.atom_id c.args.plain.now (g.S.LinkStore.heap c.args.store.now) (g.S.LinkStore.heap c.fill.new.store) (g.S.LinkStore.mem_id c.root-root.result) c.len.result c.new-ports.result c.fill.new.ports c.as_slice.result.now c.as_slice-2.result.now c.root-root.ensures.sound c.requires.store c.requires.plain c.requires.closed
    c.root-root.ensures.root c.len.ensures c.new-ports.ensures c.in_ok-fill.ensures c.as_slice.ensures (c.as_slice-2.ensures ∙ c.in_ok-add_connectors.ensures ∙ ap (λ ps. ps ++ connectors_of_leaves (leaves_of c.args.plain.now.top)) c.new-connectors.ensures)
    (g.S.LinkStore.heap c.join_all.new.store) c.root-root-2.ensures.sound c.in_ok-join_all.ensures
