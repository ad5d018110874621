use Rattle.std.proofs.Common.{sym, ◌∙◌, subst, arith}
use lib.Dec.{T, ltb→lt}
use Rattle.lmn_receipt_line.proofs.LineLemmas.{atoms_there, membranes_there}
use Rattle.lmn_receipt_line.proofs.comparing.has_items.Goals.{then-len-gt0, else-len-gt0}
use Rattle.lmn_receipt_line.proofs.comparing.has_items.Goals as goal

pub returns-then-len-gt0-2 : goal.returns-then-len-gt0-2
returns-then-len-gt0-2 c = λ names table. c.if-len-gt0-2.true ∙ sym (elim c.if-len-gt0.branch [
  | then-len-gt0 w ↦ atoms_there names table c.args.region.now (let e = c.len.ensures in let l = w.if-len-gt0.true in omega (arith, e, l))
  | else-len-gt0 w ↦ membranes_there names table c.args.region.now (let e = w.len-else-len-gt0.ensures in let l = ltb→lt 0 w.len-else-len-gt0.result (subst T (sym (sym w.value-is ∙ c.if-len-gt0-2.true)) tt) in omega (arith, e, l))
])
