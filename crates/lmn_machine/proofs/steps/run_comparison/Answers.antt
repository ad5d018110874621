use Rattle.lmn_machine.proofs.Stepping.{check_stepped, comparison_reads, compares_tests}
use Rattle.lmn_machine.proofs.Telling.{comparison_chooses_none, told}
use Rattle.lmn_machine.proofs.steps.run_comparison.Goals as goal

pub compare-requires : goal.compare-requires
compare-requires g c = comparison_reads c.args.instr.now _ _ _ _ c.requires.compares c.requires.ready.order

pub returns : goal.returns
returns g c =
    told g.S.LinkStore.atom_id g.S.LinkStore.mem_id (g.S.LinkStore.heap c.args.store.now) c.args.set.now c.args.set.now c.compare.result c.outcome_of.result c.args.instr.now (comparison_chooses_none c.args.instr.now c.requires.compares) c.outcome_of.ensures
    (check_stepped g.S.LinkStore.atom_id g.S.LinkStore.mem_id (g.S.LinkStore.heap c.args.store.now) c.args.set.now c.compare.result c.args.instr.now c.requires.ready.held (compares_tests c.args.instr.now _ _ _ _ c.requires.compares c.requires.ready.order)
    (λ n s a. c.compare.ensures g.S.LinkStore.atom_id g.S.LinkStore.mem_id (g.S.LinkStore.heap c.args.store.now) n s a))
