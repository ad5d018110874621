use Rattle.std.proofs.Common.{length, refl}
use Rattle.lmn_instr_code.specs.declared.instr.Instr.TheVariants.{GetInt}
use Rattle.lmn_machine.proofs.Telling.{told}
use Rattle.lmn_machine.proofs.Giving.{get_stepped}
use Rattle.lmn_machine.proofs.steps.get_integer.Goals as goal

pub returns : goal.returns
returns g c =
    told g.S.LinkStore.atom_id g.S.LinkStore.mem_id (g.S.LinkStore.heap c.args.store.now) c.args.set.now c.set_integer.new.set c.set_integer.result c.outcome_of.result (GetInt (length c.args.set.now.integers) c.args.part) tt c.outcome_of.ensures
    (get_stepped g.S.LinkStore.atom_id g.S.LinkStore.mem_id (g.S.LinkStore.heap c.args.store.now) c.args.set.now c.set_integer.new.set c.set_integer.result (GetInt (length c.args.set.now.integers) c.args.part) _ _ _ c.integer_of-value.result refl c.requires.order c.requires.held c.at-root.ensures c.integer_of-value.ensures c.set_integer.ensures)
