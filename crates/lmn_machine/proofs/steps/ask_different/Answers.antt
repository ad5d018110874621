use Rattle.std.proofs.Common.{length, refl}
use Rattle.lmn_instr_code.specs.declared.instr.Instr.TheVariants.{NeqGround}
use Rattle.lmn_machine.proofs.Telling.{told}
use Rattle.lmn_machine.proofs.Contexts.{differ_stepped}
use Rattle.lmn_machine.proofs.steps.ask_different.Goals as goal

pub returns-clause-stepped : goal.returns-clause-stepped
returns-clause-stepped g c =
    told g.S.LinkStore.atom_id g.S.LinkStore.mem_id (g.S.LinkStore.heap c.args.store.now) c.args.set.now c.args.set.now c.are_different.result c.outcome_of.result (NeqGround c.args.part c.args.other) tt c.outcome_of.ensures
    (differ_stepped g.S.LinkStore.atom_id g.S.LinkStore.mem_id (g.S.LinkStore.heap c.args.store.now) c.args.set.now c.are_different.result (NeqGround c.args.part c.args.other) _ _ _ _ refl c.requires.held c.at-root.ensures c.at-other_root.ensures c.are_different.ensures.different)

pub are_different-requires-clause-held : goal.are_different-requires-clause-held
are_different-requires-clause-held g c = (c.args.set.now.atoms, c.requires.held.whole _ _ c.at-root.ensures, c.requires.held.whole _ _ c.at-other_root.ensures)
