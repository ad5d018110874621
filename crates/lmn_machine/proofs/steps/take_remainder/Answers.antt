use Rattle.std.proofs.Common.{length, refl}
use Rattle.lmn_instr_code.specs.declared.instr.Instr.TheVariants.{Mod}
use Rattle.lmn_machine.proofs.Telling.{told}
use Rattle.lmn_machine.proofs.Giving.{remainder_stepped}
use Rattle.lmn_machine.proofs.steps.take_remainder.Goals as goal

pub returns : goal.returns
returns g c = λ atom membrane h held.
    told atom membrane h c.args.set.now c.set_integer.new.set c.set_integer.result c.outcome_of.result (Mod (length c.args.set.now.integers) c.args.left c.args.right) tt c.outcome_of.ensures
    (remainder_stepped atom membrane h c.args.set.now c.set_integer.new.set c.set_integer.result (Mod (length c.args.set.now.integers) c.args.left c.args.right) _ _ _ _ _ c.remainder-value.result refl c.requires held
    c.at-m.ensures c.at-n.ensures (record { sfits = c.at-m.type_inv }) (record { sfits = c.at-n.type_inv }) c.remainder-value.ensures c.set_integer.ensures)
