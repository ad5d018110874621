use Rattle.std.proofs.Common.{length, refl}
use Rattle.lmn_instr_code.specs.declared.instr.Instr.TheVariants.{Div}
use Rattle.lmn_machine.proofs.Telling.{told}
use Rattle.lmn_machine.proofs.Giving.{quotient_stepped}
use Rattle.lmn_machine.proofs.steps.divide.Goals as goal

pub returns : goal.returns
returns g c = λ atom membrane h held.
    told atom membrane h c.args.set.now c.set_integer.new.set c.set_integer.result c.outcome_of.result (Div (length c.args.set.now.integers) c.args.left c.args.right) tt c.outcome_of.ensures
    (quotient_stepped atom membrane h c.args.set.now c.set_integer.new.set c.set_integer.result (Div (length c.args.set.now.integers) c.args.left c.args.right) _ _ _ _ _ c.quotient-value.result refl c.requires held
    c.at-m.ensures c.at-n.ensures (record { sfits = c.at-m.type_inv }) (record { sfits = c.at-n.type_inv }) c.quotient-value.ensures c.set_integer.ensures)
