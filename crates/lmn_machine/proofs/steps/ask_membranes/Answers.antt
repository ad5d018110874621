use Rattle.std.proofs.Common.{◌≡◌, Some, [], length, subst, sym}
use Rattle.std.specs.Prelude.{◌↔◌, ◌≢◌, ℕ, IsTrue}
use Rattle.lmn_store_heap.specs.Heap.{mems_in}
use Rattle.lmn_instr_code.specs.declared.instr.Instr.TheVariants.{NMems}
use Rattle.lmn_machine.proofs.Telling.{tested}
use Rattle.lmn_machine.proofs.steps.ask_membranes.Goals as goal

pub returns : goal.returns
returns g c =
    tested g.S.LinkStore.atom_id g.S.LinkStore.mem_id (g.S.LinkStore.heap c.args.store.now) c.args.set.now c.has_membranes.result c.outcome_of.result (NMems c.args.membrane c.args.count) c.requires tt c.requires.order.0
    (λ n s a. subst (λ k. IsTrue c.has_membranes.result ↔ (length (mems_in (g.S.LinkStore.heap c.args.store.now) (k)) ≡ c.args.count)) (sym (a.membranes _ _ c.at-asked.ensures)) (c.has_membranes.ensures)) c.outcome_of.ensures
