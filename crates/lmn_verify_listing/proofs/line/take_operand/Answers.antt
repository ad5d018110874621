use Rattle.std.proofs.Common.{List, ℕ, ap, refl, subst, sym}
use Rattle.lmn_instr_reading.specs.Reading.{NumbersNames}
use Rattle.lmn_instr_reading.proofs.NameLemmas.{numbers_same}
use Rattle.lmn_instr_code.specs.declared.words.Operand.TheVariants.{Number}
use Rattle.lmn_verify_listing.specs.Taking.{some_names}
use Rattle.lmn_verify_listing.proofs.line.take_operand.Goals as goal

pub returns-in-None-clause-order : goal.returns-in-None-clause-order
returns-in-None-clause-order c =
    let names = c.args.names.now in
    subst (λ (xs : List ℕ). NumbersNames names xs names) (ap (λ k. some_names k (Number 0)) (sym c.in-None.is)) (numbers_same names names refl)
