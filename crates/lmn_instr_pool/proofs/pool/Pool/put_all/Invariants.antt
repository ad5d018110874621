use Rattle.std.proofs.Common.{◌≡◌, ◌++◌}
use Rattle.lmn_instr_pool.specs.Pools.{Keeps, Selects}
use Rattle.lmn_instr_pool.proofs.pool.Pool.put_all.Given as goal

abbrev pub invariant-loop-instr : goal.invariant-loop-instr
invariant-loop-instr l = (Selects l.self l.numbers l.yielded) × (l.yielded ++ l.instr-iterator.rest.items ≡ l.fn.instrs) × Keeps l.fn.self l.self
