-- Lemmas that several crates above cite.
use Rattle.lmn_instr_code.specs.declared.instr.Instr.{Instr}
use Rattle.lmn_instr_code.specs.declared.instr.Instr.TheVariants.{Proceed}
use Rattle.lmn_verify_code.specs.Verified.{is_proceed}
use Rattle.std.proofs.Common.{refl, sym, true, true≢false, ◌≡◌}

pub proceed_is : (i : Instr) → is_proceed i ≡ true → i ≡ Proceed
proceed_is Proceed e = refl
proceed_is _ e = absurd (true≢false (sym e))
