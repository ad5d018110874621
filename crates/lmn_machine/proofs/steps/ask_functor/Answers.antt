use Rattle.std.proofs.Common.{◌≡◌, Some, [], length, subst, sym}
use Rattle.std.specs.Prelude.{◌↔◌, ◌≢◌, ℕ, IsTrue}
use Rattle.lmn_store_heap.specs.Heap.{functor_of}
use Rattle.lmn_instr_code.specs.declared.instr.Instr.TheVariants.{Func}
use Rattle.lmn_machine.proofs.Telling.{tested}
use Rattle.lmn_machine.proofs.steps.ask_functor.Goals as goal

pub returns : goal.returns
returns g c =
    tested g.S.LinkStore.atom_id g.S.LinkStore.mem_id (g.S.LinkStore.heap c.args.store.now) c.args.set.now c.has_functor.result c.outcome_of.result (Func c.args.atom c.args.functor) c.requires tt c.requires.order.0
    (λ n s a. subst (λ k. IsTrue c.has_functor.result ↔ (functor_of (g.S.LinkStore.heap c.args.store.now) (k) ≡ Some c.args.functor)) (sym (a.atoms _ _ c.at-asked.ensures)) (c.has_functor.ensures)) c.outcome_of.ensures
