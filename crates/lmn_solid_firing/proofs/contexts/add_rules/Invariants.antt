use Rattle.std.proofs.Common.{◌≡◌, ◌++◌, drop}
use Rattle.lmn_solid_firing.specs.Making.{rules_named}
use Rattle.lmn_solid_firing.proofs.contexts.add_rules.Given as goal

abbrev pub invariant-loop-context : goal.invariant-loop-context
invariant-loop-context l = l.rules ++ rules_named l.flat l.taken (drop l.context-index l.contexts) ≡ l.fn.rules ++ (l.numbers ++ rules_named l.flat l.taken l.contexts)
