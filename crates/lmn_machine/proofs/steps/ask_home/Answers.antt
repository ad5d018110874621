use Rattle.std.proofs.Common.{◌≡◌, Some, [], length, subst, sym}
use Rattle.std.specs.Prelude.{◌↔◌, ◌≢◌, ℕ, IsTrue}
use Rattle.lmn_store_heap.specs.Heap.{atoms_in}
use Rattle.lmn_base.specs.Lists.{In}
use Rattle.lmn_instr_code.specs.declared.instr.Instr.TheVariants.{InMem}
use Rattle.lmn_machine.proofs.Telling.{tested}
use Rattle.lmn_machine.proofs.steps.ask_home.Goals as goal

pub returns : goal.returns
returns g c =
    tested g.S.LinkStore.atom_id g.S.LinkStore.mem_id (g.S.LinkStore.heap c.args.store.now) c.args.set.now c.stands_in.result c.outcome_of.result (InMem c.args.atom c.args.membrane) c.requires tt c.requires.order.0
    (λ n s a. subst (λ k. IsTrue c.stands_in.result ↔ (In (s.images.atom c.args.atom) (atoms_in (g.S.LinkStore.heap c.args.store.now) (k)))) (sym (a.membranes _ _ c.at-place.ensures)) (subst (λ k. IsTrue c.stands_in.result ↔ (In (k) (atoms_in (g.S.LinkStore.heap c.args.store.now) (g.S.LinkStore.mem_id c.at-place.result)))) (sym (a.atoms _ _ c.at-asked.ensures)) (c.stands_in.ensures))) c.outcome_of.ensures
