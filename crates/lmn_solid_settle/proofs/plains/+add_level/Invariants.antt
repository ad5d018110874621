use Rattle.std.proofs.Common.{◌≡◌, ◌++◌, take, length}
use Rattle.std.specs.List.{flat_map}
use Rattle.lmn_base.specs.declared.level.Level.{out-Level}
use Rattle.lmn_congruence.specs.SolidsOfPlains.{fused_leaf}
use Rattle.lmn_schedule_loading.specs.Joining.{connectors_of_leaves}
use Rattle.lmn_base.specs.Levels.{leaves_of}
use Rattle.lmn_solid_settle.proofs.PlainSolids.{laid_so_far}
use Rattle.lmn_solid_settle.proofs.plains.+add_level.Given as goal

abbrev pub invariant-loop-leaf : goal.invariant-loop-leaf
invariant-loop-leaf l = (l.atoms ≡ flat_map (fused_leaf (λ x. x)) (take l.leaf-index l.leaf-items)) × (l.connectors ≡ l.fn.connectors ++ connectors_of_leaves (take l.leaf-index l.leaf-items))

abbrev pub invariant-loop-inner : goal.invariant-loop-inner
invariant-loop-inner l =
    (l.membranes.items ≡ l.fn.membranes.items ++ laid_so_far l.fn.around (length l.fn.membranes.items) (out-Level l.level) (take l.inner-index l.inner-items))
    × (l.connectors ≡ l.fn.connectors ++ connectors_of_leaves ((out-Level l.level).leaves ++ flat_map leaves_of (take l.inner-index l.inner-items)))
