use Rattle.std.proofs.Common.{◌∙◌, sym}
use Rattle.std.proofs.lemmas.Result.{on_ok_weaker}
use Rattle.lmn_schedule_loading.proofs.FillingSteps.{atom_fills, connector_fills, typed_fills}
use Rattle.lmn_schedule_loading.proofs.filling.add_leaf.Goals as goal

pub returns-then-is_connector : goal.returns-then-is_connector
returns-then-is_connector g c = connector_fills g.S.LinkStore.atom_id (g.S.LinkStore.heap c.args.store.now) (g.S.LinkStore.mem_id c.args.m) c.args.leaf.now c.in-Atom.functor c.in-Atom.links c.in-Atom.pos c.args.ports.now c.requires.ready c.in-Atom.is (sym c.is_connector.ensures ∙ c.if-is_connector.true)

pub returns-else-is_connector : goal.returns-else-is_connector
returns-else-is_connector g c = on_ok_weaker c.add_linked_atom.result
    (λ a. atom_fills g.S.LinkStore.atom_id (g.S.LinkStore.heap c.args.store.now) (g.S.LinkStore.heap c.add_linked_atom.new.store) (g.S.LinkStore.mem_id c.args.m) c.args.leaf.now c.in-Atom.functor c.in-Atom.links c.as_slice.result.now c.in-Atom.pos c.args.ports.now c.add_linked_atom.new.ports
    c.requires.ready c.in-Atom.is c.as_slice.ensures c.requires.arity (sym c.is_connector.ensures ∙ c.if-is_connector.false) a) c.add_linked_atom.ensures.fills

pub returns-in-Typed : goal.returns-in-Typed
returns-in-Typed g c = typed_fills g.S.LinkStore.atom_id (g.S.LinkStore.heap c.args.store.now) (g.S.LinkStore.mem_id c.args.m) c.args.leaf.now c.in-Typed.name c.in-Typed.link c.in-Typed.pos c.args.ports.now c.requires.ready c.in-Typed.is
