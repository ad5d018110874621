use Rattle.std.proofs.Common.{length, refl}
use Rattle.std.proofs.Common.{subst, sym}
use Rattle.std.specs.Prelude.{◌<◌}
use Rattle.std.specs.List.{AllByRecursion}
use Rattle.lmn_instr_code.specs.declared.instr.Instr.TheVariants.{IsClosed}
use Rattle.lmn_machine.proofs.Telling.{told}
use Rattle.lmn_machine.proofs.Contexts.{closed_stepped}
use Rattle.lmn_machine.proofs.steps.ask_closed.Goals as goal

pub returns-clause-stepped : goal.returns-clause-stepped
returns-clause-stepped g c =
    told g.S.LinkStore.atom_id g.S.LinkStore.mem_id (g.S.LinkStore.heap c.args.store.now) c.args.set.now c.args.set.now c.is_closed.result c.outcome_of.result (IsClosed c.args.membrane c.args.parts.now) tt c.outcome_of.ensures
    (closed_stepped g.S.LinkStore.atom_id g.S.LinkStore.mem_id (g.S.LinkStore.heap c.args.store.now) c.args.set.now c.is_closed.result (IsClosed c.args.membrane c.args.parts.now) _ _ c.as_slice.result.now _ refl c.as_slice.ensures c.requires.held c.at-place.ensures
    (λ d s y n k a. c.is_closed.ensures.closed d s y n k (record { atoms = a.atoms; membranes = a.membranes; parts = a.parts; integers = a.integers })))

pub is_closed-requires-clause-listed : goal.is_closed-requires-clause-listed
is_closed-requires-clause-listed g c = subst (λ ks. AllByRecursion (λ k. k < length c.args.set.now.parts) ks) (sym c.as_slice.ensures) c.requires.order.0.1
