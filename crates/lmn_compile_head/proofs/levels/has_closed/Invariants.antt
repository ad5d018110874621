use Rattle.std.proofs.Common.{◌≡◌, drop}
use Rattle.std.specs.List.{list_any}
use Rattle.lmn_compile_head.proofs.levels.has_closed.Given as goal

abbrev pub invariant-loop-context : goal.invariant-loop-context
invariant-loop-context l = list_any (λ u. u.closed) (drop l.context-index l.uses) ≡ list_any (λ u. u.closed) l.uses
