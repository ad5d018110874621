use Rattle.std.proofs.Common.{◌≡◌, Some, [], length, subst, sym}
use Rattle.std.specs.Prelude.{◌↔◌, ◌≢◌, ℕ, IsTrue}
use Rattle.lmn_store_heap.specs.Heap.{link_of}
use Rattle.lmn_solid_heads.specs.Embeddings.{StandsWithin}
use Rattle.lmn_instr_code.specs.declared.instr.Instr.TheVariants.{NotIn}
use Rattle.lmn_machine.proofs.Telling.{tested}
use Rattle.lmn_machine.proofs.steps.ask_outside.Goals as goal

pub returns : goal.returns
returns g c =
    tested g.S.LinkStore.atom_id g.S.LinkStore.mem_id (g.S.LinkStore.heap c.args.store.now) c.args.set.now c.is_outside.result c.outcome_of.result (NotIn c.args.port c.args.membrane) c.requires tt c.requires.order.0
    (λ n s a. subst (λ k. IsTrue c.is_outside.result ↔ ((q : ℕ × ℕ) → link_of (g.S.LinkStore.heap c.args.store.now) (s.images.atom c.args.port.atom) c.args.port.port ≡ Some q → StandsWithin (g.S.LinkStore.heap c.args.store.now) q.0 (k) → ⊥)) (sym (a.membranes _ _ c.at-place.ensures)) (subst (λ k. IsTrue c.is_outside.result ↔ ((q : ℕ × ℕ) → link_of (g.S.LinkStore.heap c.args.store.now) (k) c.args.port.port ≡ Some q → StandsWithin (g.S.LinkStore.heap c.args.store.now) q.0 (g.S.LinkStore.mem_id c.at-place.result) → ⊥)) (sym (a.atoms _ _ c.at-asked.ensures)) (c.is_outside.ensures))) c.outcome_of.ensures
