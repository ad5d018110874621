-- The process of a plain's top, and its solid. A text has a level at its top. The type also allows contexts
-- there: a text with one is refused, and here they stand for nothing.
use Rattle.std.specs.Prelude.{ℕ, ◌≡◌, List, [], ◌∷◌, map}
use Rattle.lmn_congruence.specs.Process.{Process, nothing, connector, atom, pair, membrane, rule, Closed, together}
use Rattle.lmn_congruence.specs.Rules.{Leaf, atom_leaf, connector_leaf, typed_leaf, Level, level, Levels, no_level, level_and, rules_list}
use Rattle.lmn_congruence.specs.Fused.{Joins}
use Rattle.lmn_congruence.specs.Regions.{SolidAtom, Region, region, Regions, no_region, region_and, region_process}

-- the process of a leaf; a typed context stands for nothing at the top
abbrev pub leaf_process : Leaf → Process
leaf_process (atom_leaf a xs) = atom a xs
leaf_process (connector_leaf x y) = connector x y
leaf_process (typed_leaf p x) = nothing

-- the process of a top: the parallel pair of its items
abbrev mutual
  pub level_process : Level → Process
  level_process (level leaves membranes contexts rule_contexts rules) =
      pair (together (map leaf_process leaves))
      (pair (together (levels_processes membranes)) (together (map rule (rules_list rules))))

  pub levels_processes : Levels → List Process
  levels_processes no_level = []
  levels_processes (level_and l ls) = membrane (level_process l) ∷ levels_processes ls

-- the lists of a top in their order, without the connectors, each link at its image
abbrev pub fused_leaves : (ℕ → ℕ) → List Leaf → List SolidAtom
fused_leaves v [] = []
fused_leaves v (atom_leaf a xs ∷ ls) = record { label = a; links = map v xs } ∷ fused_leaves v ls
fused_leaves v (_ ∷ ls) = fused_leaves v ls

abbrev mutual
  pub fused_level : (ℕ → ℕ) → Level → Region
  fused_level v (level leaves membranes contexts rule_contexts rules) =
      region (fused_leaves v leaves) (fused_levels v membranes) (rules_list rules)

  pub fused_levels : (ℕ → ℕ) → Levels → Regions
  fused_levels v no_level = no_region
  fused_levels v (level_and l ls) = region_and (fused_level v l) (fused_levels v ls)

-- S is the solid of the plain with this top, up to the numbers of links. Each link of the top stands in exactly
-- two places, connectors included, and one map of links takes the two links of each connector to one, through
-- any membranes. Each link of S stands in exactly two places. So two ports are joined in S exactly where a
-- chain of links and connectors leads from one to the other: ports of one chain have one image, and two chains
-- with one image would make four places. A loop has no port, and vanishes. An open top has no solid.
pub record SolidOf (top : Level) (S : Region) : Type 0 where
  pub closed_top : Closed (level_process top)
  pub to : ℕ → ℕ
  pub joins : Joins to (level_process top)
  pub is : S ≡ fused_level to top
  pub closed : Closed (region_process S)
