use Rattle.std.proofs.Common.{◌≡◌, ◌++◌, drop, map}
use Rattle.lmn_solid_heads.specs.Heads.{typed_contexts_of}
use Rattle.lmn_solid_search.specs.Taking.{kept_typed}
use Rattle.lmn_solid_search.proofs.head.typed_in_head.Given as goal

abbrev pub invariant-loop-item : goal.invariant-loop-item
invariant-loop-item l = l.typed ++ map kept_typed (typed_contexts_of (drop l.item-index l.items)) ≡ map kept_typed (typed_contexts_of l.items)
