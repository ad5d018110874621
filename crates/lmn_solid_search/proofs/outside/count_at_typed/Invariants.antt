use Rattle.std.proofs.Common.{◌≡◌, ◌+◌, drop, map}
use Rattle.lmn_solid_heads.specs.Heads.{times}
use Rattle.lmn_solid_search.proofs.outside.count_at_typed.Given as goal

abbrev pub invariant-loop-context : goal.invariant-loop-context
invariant-loop-context l = l.found + times l.link (map (λ t. t.link) (drop l.context-index l.typed)) ≡ times l.link (map (λ t. t.link) l.typed)
