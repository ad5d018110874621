use Rattle.std.proofs.Common.{◌≡◌, ◌++◌, drop, map}
use Rattle.lmn_solid_heads.specs.Heads.{typed_contexts_of}
use Rattle.lmn_solid_firing.proofs.wires.typed_links.Given as goal

abbrev pub invariant-loop-item : goal.invariant-loop-item
invariant-loop-item l = l.links ++ map (λ t. t.link) (typed_contexts_of (drop l.item-index l.items)) ≡ map (λ t. t.link) (typed_contexts_of l.items)
