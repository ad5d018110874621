use Rattle.std.proofs.Common.{◌≡◌, drop}
use Rattle.lmn_compile_body.specs.Naming.{last_register}
use Rattle.lmn_compile_body.proofs.integers.register_of.Given as goal

abbrev pub invariant-loop-entry : goal.invariant-loop-entry
invariant-loop-entry l = last_register (drop l.entry-index l.integers) l.register l.name ≡ last_register l.integers 0 l.name
