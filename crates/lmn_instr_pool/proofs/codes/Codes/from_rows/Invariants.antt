use Rattle.std.proofs.Common.{◌≡◌, ◌++◌}
use Rattle.lmn_instr_pool.proofs.codes.Codes.from_rows.Given as goal

abbrev pub invariant-loop-code : goal.invariant-loop-code
invariant-loop-code l = (l.codes ≡ l.yielded) × (l.yielded ++ l.code-iterator.rest.items ≡ l.fn.rows)
