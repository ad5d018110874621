use Rattle.std.proofs.Common.{length, refl}
use Rattle.lmn_instr_code.specs.declared.instr.Instr.TheVariants.{IsInt}
use Rattle.lmn_machine.proofs.Telling.{told}
use Rattle.lmn_machine.proofs.Lone.{int_stepped}
use Rattle.lmn_machine.proofs.steps.find_integer.Goals as goal

pub returns : goal.returns
returns g c =
    told g.S.LinkStore.atom_id g.S.LinkStore.mem_id (g.S.LinkStore.heap c.args.store.now) c.args.set.now c.set_part.new.set c.set_part.result c.outcome_of.result (IsInt (length c.args.set.now.parts) c.args.port c.args.membrane) tt c.outcome_of.ensures
    (int_stepped g.S.LinkStore.atom_id g.S.LinkStore.mem_id (g.S.LinkStore.heap c.args.store.now) c.requires.valid.sound c.args.set.now c.set_part.new.set c.set_part.result (IsInt (length c.args.set.now.parts) c.args.port c.args.membrane) _ _ _ _ _ c.integer_end-root.result refl c.requires.order c.requires.held c.at-from.ensures c.at-place.ensures c.integer_end-root.ensures c.set_part.ensures)
