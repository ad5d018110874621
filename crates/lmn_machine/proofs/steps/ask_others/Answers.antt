use Rattle.std.proofs.Common.{length, refl}
use Rattle.std.proofs.Common.{subst, sym}
use Rattle.std.specs.Prelude.{◌<◌}
use Rattle.std.specs.List.{AllByRecursion}
use Rattle.lmn_instr_code.specs.declared.instr.Instr.TheVariants.{NAtoms}
use Rattle.lmn_machine.proofs.Telling.{told}
use Rattle.lmn_machine.proofs.Contexts.{others_stepped}
use Rattle.lmn_machine.proofs.steps.ask_others.Goals as goal

pub returns-clause-stepped : goal.returns-clause-stepped
returns-clause-stepped g c =
    told g.S.LinkStore.atom_id g.S.LinkStore.mem_id (g.S.LinkStore.heap c.args.store.now) c.args.set.now c.args.set.now c.has_others.result c.outcome_of.result (NAtoms c.args.membrane c.args.count c.args.parts.now) tt c.outcome_of.ensures
    (others_stepped g.S.LinkStore.atom_id g.S.LinkStore.mem_id (g.S.LinkStore.heap c.args.store.now) c.args.set.now c.has_others.result (NAtoms c.args.membrane c.args.count c.args.parts.now) _ _ _ c.as_slice.result.now _ refl c.as_slice.ensures c.requires.held c.at-place.ensures
    (λ s a. c.has_others.ensures.others s (record { atoms = a.atoms; membranes = a.membranes; parts = a.parts; integers = a.integers })))

pub has_others-requires-clause-listed : goal.has_others-requires-clause-listed
has_others-requires-clause-listed g c = subst (λ ks. AllByRecursion (λ k. k < length c.args.set.now.parts) ks) (sym c.as_slice.ensures) c.requires.order.0.1
