use Rattle.std.proofs.Common.{◌<◌, take, All}
use Rattle.std.specs.List.{flat_map}
use Rattle.lmn_base.specs.Levels.{occurrences_of_leaf, links_of, link_numbers}
use Rattle.lmn_test_levels.proofs.numbered.+are_below.Given as goal

abbrev pub invariant-loop-leaf : goal.invariant-loop-leaf
invariant-loop-leaf l = All (λ k. k < l.keys) (link_numbers (flat_map occurrences_of_leaf (take l.leaf-index l.leaf-items)))

abbrev pub invariant-loop-inner : goal.invariant-loop-inner
invariant-loop-inner l = All (λ k. k < l.keys) (flat_map links_of (take l.inner-index l.inner-items))
