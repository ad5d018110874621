use Rattle.std.proofs.Common.{◌≡◌, Some, [], length, subst, sym}
use Rattle.std.specs.Prelude.{◌↔◌, ◌≢◌, ℕ, IsTrue}
use Rattle.lmn_instr_code.specs.declared.instr.Instr.TheVariants.{NeqMem}
use Rattle.lmn_machine.proofs.Telling.{tested}
use Rattle.lmn_machine.proofs.steps.ask_other_membrane.Goals as goal

pub returns : goal.returns
returns g c =
    tested g.S.LinkStore.atom_id g.S.LinkStore.mem_id (g.S.LinkStore.heap c.args.store.now) c.args.set.now c.membranes_differ.result c.outcome_of.result (NeqMem c.args.membrane c.args.other) c.requires tt c.requires.order.0
    (λ n s a. subst (λ k. IsTrue c.membranes_differ.result ↔ ((s.images.membrane c.args.membrane) ≢ (k))) (sym (a.membranes _ _ c.at-another.ensures)) (subst (λ k. IsTrue c.membranes_differ.result ↔ ((k) ≢ (g.S.LinkStore.mem_id c.at-another.result))) (sym (a.membranes _ _ c.at-asked.ensures)) (c.membranes_differ.ensures))) c.outcome_of.ensures
