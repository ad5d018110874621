use Rattle.std.proofs.Common.{◌≡◌, Some, None, length, subst, sym}
use Rattle.std.specs.Prelude.{true}
use Rattle.lmn_store_heap.specs.Heap.{link_of}
use Rattle.lmn_instr_code.specs.declared.instr.Instr.TheVariants.{Deref}
use Rattle.lmn_machine.specs.Searching.{Stepped}
use Rattle.lmn_machine.proofs.Calling.{having_atoms}
use Rattle.lmn_machine.proofs.Ends.{followed, not_followed}
use Rattle.lmn_machine.proofs.steps.follow.Goals as goal

pub returns-then-end-port : goal.returns-then-end-port
returns-then-end-port g c =
    subst (λ xs. Stepped g.S.LinkStore.atom_id g.S.LinkStore.mem_id (g.S.LinkStore.heap c.args.store.now) c.args.set.now (having_atoms c.args.set.now xs) true (Deref (length c.args.set.now.atoms) c.args.from c.args.port)) (sym c.push.ensures)
    (followed g.S.LinkStore.atom_id g.S.LinkStore.mem_id (g.S.LinkStore.heap c.args.store.now) c.args.set.now c.args.from c.args.port c.at.result c.in-Some.end.0 c.requires.order c.at.ensures c.requires.held c.in-Some.ensures.there
    (subst (λ e. link_of (g.S.LinkStore.heap c.args.store.now) (g.S.LinkStore.atom_id c.at.result) c.args.from.port ≡ Some (g.S.LinkStore.atom_id c.in-Some.end.0, e)) c.if-end-port.true c.in-Some.ensures.link))

pub returns-else-end-port : goal.returns-else-end-port
returns-else-end-port g c = not_followed g.S.LinkStore.atom_id g.S.LinkStore.mem_id (g.S.LinkStore.heap c.args.store.now) c.args.set.now c.args.from c.args.port c.at.result (Some c.in-Some.end) c.at.ensures c.requires.held c.in-Some.ensures.link c.if-end-port.false

pub returns-in-None : goal.returns-in-None
returns-in-None g c = not_followed g.S.LinkStore.atom_id g.S.LinkStore.mem_id (g.S.LinkStore.heap c.args.store.now) c.args.set.now c.args.from c.args.port c.at.result None c.at.ensures c.requires.held c.in-None.ensures.link tt
