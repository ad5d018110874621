use Rattle.lmn_compile_rules.proofs.RuleCodes.{AreSoFar}
use Rattle.lmn_compile_rules.proofs.compiling.stored.Given as goal

abbrev pub invariant-loop-k : goal.invariant-loop-k
invariant-loop-k l = record { done : AreSoFar l.plain.rules l.plans l.k l.codes }
