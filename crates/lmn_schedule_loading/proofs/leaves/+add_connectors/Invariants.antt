use Rattle.std.proofs.Common.{◌≡◌, ◌++◌, take}
use Rattle.std.specs.List.{flat_map}
use Rattle.lmn_base.specs.Levels.{leaves_of}
use Rattle.lmn_base.specs.declared.level.Level.{out-Level}
use Rattle.lmn_schedule_loading.specs.Joining.{connectors_of_leaves}
use Rattle.lmn_schedule_loading.proofs.leaves.+add_connectors.Given as goal

abbrev pub invariant-loop-leaf : goal.invariant-loop-leaf
invariant-loop-leaf l = l.pairs ≡ l.fn.pairs ++ connectors_of_leaves (take l.leaf-index l.leaf-items)

abbrev pub invariant-loop-inner : goal.invariant-loop-inner
invariant-loop-inner l = l.pairs ≡ l.fn.pairs ++ connectors_of_leaves ((out-Level l.level).leaves ++ flat_map leaves_of (take l.inner-index l.inner-items))
