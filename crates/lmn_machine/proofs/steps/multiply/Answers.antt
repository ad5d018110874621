use Rattle.std.proofs.Common.{length, refl}
use Rattle.lmn_instr_code.specs.declared.instr.Instr.TheVariants.{Mul}
use Rattle.lmn_machine.proofs.Telling.{told}
use Rattle.lmn_machine.proofs.Giving.{product_stepped}
use Rattle.lmn_machine.proofs.steps.multiply.Goals as goal

pub returns : goal.returns
returns g c = λ atom membrane h held.
    told atom membrane h c.args.set.now c.set_integer.new.set c.set_integer.result c.outcome_of.result (Mul (length c.args.set.now.integers) c.args.left c.args.right) tt c.outcome_of.ensures
    (product_stepped atom membrane h c.args.set.now c.set_integer.new.set c.set_integer.result (Mul (length c.args.set.now.integers) c.args.left c.args.right) _ _ _ _ _ c.product-value.result refl c.requires held
    c.at-m.ensures c.at-n.ensures (record { sfits = c.at-m.type_inv }) (record { sfits = c.at-n.type_inv }) c.product-value.ensures c.set_integer.ensures)
