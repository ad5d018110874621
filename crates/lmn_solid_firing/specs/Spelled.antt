-- A raw level of the calculus, written as a raw region with connectors.
use Rattle.std.specs.Prelude.{ℕ, ◌≡◌, ◌≢◌, ◌<◌, List, [], ◌∷◌, ◌++◌, map, length, All}
use Rattle.lmn_base.specs.declared.rule.RuleTree.{RuleTree}
use Rattle.lmn_base.specs.Solids.{connector}
use Rattle.lmn_congruence_classes.specs.Tables.{PairsBelow}
use Rattle.lmn_congruence.specs.Plains.{fused_level}
use Rattle.lmn_congruence.specs.Rules.{Leaf, Level, Levels, Name, atom_leaf, connector_leaf, level, level_and, no_level, typed_leaf}
use Rattle.lmn_congruence.specs.Translation.{numbered_region, numbered_rule}
use Rattle.lmn_solid_settle.specs.Raw.{RawRegion, RawRegions, no_raw, raw, raw_and, raw_atoms, raw_links, settled}

-- the connectors of leaves, and of a level: its own, and then those in each of its membranes
abbrev pub leaf_connectors : List Leaf → List (ℕ × ℕ)
leaf_connectors [] = []
leaf_connectors (atom_leaf a xs ∷ ls) = leaf_connectors ls
leaf_connectors (connector_leaf x y ∷ ls) = (x, y) ∷ leaf_connectors ls
leaf_connectors (typed_leaf p x ∷ ls) = leaf_connectors ls

abbrev mutual
  pub level_connectors : Level → List (ℕ × ℕ)
  level_connectors (level leaves membranes contexts rule_contexts rules) = leaf_connectors leaves ++ levels_connectors membranes

  pub levels_connectors : Levels → List (ℕ × ℕ)
  levels_connectors no_level = []
  levels_connectors (level_and l ls) = level_connectors l ++ levels_connectors ls

-- the rules of a raw region, by number
abbrev mutual
  pub raw_rules : RawRegion → List ℕ
  raw_rules (raw xs ms rs) = rs ++ raw_rules_in ms

  pub raw_rules_in : RawRegions → List ℕ
  raw_rules_in no_raw = []
  raw_rules_in (raw_and m ms) = raw_rules m ++ raw_rules_in ms

-- a connector with each link at its image
abbrev pub mapped_pair : (ℕ → ℕ) → ℕ × ℕ → ℕ × ℕ
mapped_pair f e = (f e.0, f e.1)

-- A raw region with connectors is this level, its links, names and rules written by numbers.
--   from, to       a number stands for a link of the level, different numbers for different links; `to` takes such a link back
--   level          what stands at the level but for its connectors, every list in its order
--   joins          the connectors of the level
pub record Writes (names : List Name) (table : List RuleTree) (L : Level) (r : RawRegion) (connectors : List (ℕ × ℕ)) : Type 0 where
  pub from : ℕ → ℕ
  pub to : ℕ → ℕ
  pub back : (x : ℕ) → to (from x) ≡ x
  pub level : numbered_region names (numbered_rule names table) (settled from r) ≡ fused_level (λ x. x) L
  pub joins : level_connectors L ≡ map (mapped_pair from) connectors

-- A raw region with connectors is this level, its links written by numbers below n, and names and rules by theirs.
--   from, to       a number stands for a link of the level, different numbers for different links; `to` takes such a link back
--   level          what stands at the level but for its connectors, every list in its order
--   connectors     the connectors of the level
--   arities, no_connector    an atom has as many links as its functor says, and is no connector
--   links_below, pairs_below    the numbers are below n
pub record Spells (names : List Name) (table : List RuleTree) (L : Level) (r : RawRegion) (connectors : List (ℕ × ℕ)) (n : ℕ) : Type 0 where
  pub from : ℕ → ℕ
  pub to : ℕ → ℕ
  pub back : (x : ℕ) → to (from x) ≡ x
  pub level : numbered_region names (numbered_rule names table) (settled from r) ≡ fused_level (λ x. x) L
  pub joins : level_connectors L ≡ map (mapped_pair from) connectors
  pub arities : All (λ a. length a.links ≡ a.functor.arity) (raw_atoms r)
  pub no_connector : All (λ a. a.functor ≢ connector) (raw_atoms r)
  pub links_below : All (λ x. x < n) (raw_links r)
  pub pairs_below : PairsBelow n connectors
