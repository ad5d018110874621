use Rattle.std.proofs.Common.{◌≡◌, drop}
use Rattle.lmn_verify_code.specs.Verified.{in_order, after_all}
use Rattle.lmn_verify_code.proofs.registers.in_order.Given as goal

abbrev pub invariant-loop-instr : goal.invariant-loop-instr
invariant-loop-instr l = (in_order l.now (drop l.instr-index l.code) ≡ in_order l.fn.counts l.code) × (after_all l.now (drop l.instr-index l.code) ≡ after_all l.fn.counts l.code)
