use Rattle.std.proofs.Common.{◌≡◌, Some, [], length, subst, sym}
use Rattle.std.specs.Prelude.{◌↔◌, ◌≢◌, ℕ, IsTrue}
use Rattle.lmn_store_heap.specs.Heap.{link_of}
use Rattle.lmn_instr_code.specs.declared.instr.Instr.TheVariants.{Joined}
use Rattle.lmn_machine.proofs.Telling.{tested}
use Rattle.lmn_machine.proofs.steps.ask_joined.Goals as goal

pub returns : goal.returns
returns g c =
    tested g.S.LinkStore.atom_id g.S.LinkStore.mem_id (g.S.LinkStore.heap c.args.store.now) c.args.set.now c.are_joined.result c.outcome_of.result (Joined c.args.port c.args.other) c.requires tt c.requires.order.0
    (λ n s a. subst (λ k. IsTrue c.are_joined.result ↔ (link_of (g.S.LinkStore.heap c.args.store.now) (s.images.atom c.args.port.atom) c.args.port.port ≡ Some ((k), c.args.other.port))) (sym (a.atoms _ _ c.at-another.ensures)) (subst (λ k. IsTrue c.are_joined.result ↔ (link_of (g.S.LinkStore.heap c.args.store.now) (k) c.args.port.port ≡ Some ((g.S.LinkStore.atom_id c.at-another.result), c.args.other.port))) (sym (a.atoms _ _ c.at-asked.ensures)) (c.are_joined.ensures))) c.outcome_of.ensures
