use Rattle.std.proofs.Common.{◌≡◌, ◌++◌, drop, map}
use Rattle.lmn_solid_heads.specs.Heads.{typed_contexts_of}
use Rattle.lmn_solid_firing.proofs.names.typed_names.Given as goal

abbrev pub invariant-loop-item : goal.invariant-loop-item
invariant-loop-item l = l.names ++ map (λ t. t.name) (typed_contexts_of (drop l.item-index l.items)) ≡ map (λ t. t.name) (typed_contexts_of l.items)
