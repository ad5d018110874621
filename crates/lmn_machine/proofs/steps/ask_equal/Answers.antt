use Rattle.std.proofs.Common.{length, refl}
use Rattle.lmn_instr_code.specs.declared.instr.Instr.TheVariants.{EqGround}
use Rattle.lmn_machine.proofs.Telling.{told}
use Rattle.lmn_machine.proofs.Contexts.{equal_stepped}
use Rattle.lmn_machine.proofs.steps.ask_equal.Goals as goal

pub returns-clause-stepped : goal.returns-clause-stepped
returns-clause-stepped g c =
    told g.S.LinkStore.atom_id g.S.LinkStore.mem_id (g.S.LinkStore.heap c.args.store.now) c.args.set.now c.args.set.now c.are_equal.result c.outcome_of.result (EqGround c.args.part c.args.other) tt c.outcome_of.ensures
    (equal_stepped g.S.LinkStore.atom_id g.S.LinkStore.mem_id (g.S.LinkStore.heap c.args.store.now) c.args.set.now c.are_equal.result (EqGround c.args.part c.args.other) _ _ _ _ refl c.requires.held c.at-root.ensures c.at-other_root.ensures c.are_equal.ensures.equal)

pub are_equal-requires-clause-held : goal.are_equal-requires-clause-held
are_equal-requires-clause-held g c = (c.args.set.now.atoms, c.requires.held.whole _ _ c.at-root.ensures, c.requires.held.whole _ _ c.at-other_root.ensures)
