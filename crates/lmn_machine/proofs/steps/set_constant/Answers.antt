use Rattle.std.proofs.Common.{length, refl}
use Rattle.lmn_instr_code.specs.declared.instr.Instr.TheVariants.{Const}
use Rattle.lmn_machine.proofs.Telling.{told}
use Rattle.lmn_machine.proofs.Giving.{const_stepped}
use Rattle.lmn_machine.proofs.steps.set_constant.Goals as goal

pub returns : goal.returns
returns g c = λ atom membrane h held.
    told atom membrane h c.args.set.now c.set_integer.new.set c.set_integer.result c.outcome_of.result (Const (length c.args.set.now.integers) c.args.value.now) tt c.outcome_of.ensures
    (const_stepped atom membrane h c.args.set.now c.set_integer.new.set c.set_integer.result (Const (length c.args.set.now.integers) c.args.value.now) _ _ refl c.requires held c.constant-number.result c.constant-number.ensures c.set_integer.ensures)
