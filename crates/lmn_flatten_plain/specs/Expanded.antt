-- Levels and rules with every abbreviation expanded. They are those of a plain, but for names by their bytes, links that
-- have no numbers yet, and conditions by the numbers of their tokens.
use Rattle.std.specs.Prelude.{ℕ, Bool, List, [], ◌∷◌, ◌++◌, map, flat_map}
use Rattle.lmn_base.specs.declared.refusal.Pos.{Pos}
use Rattle.lmn_congruence.specs.Rules.{Name, Label}
use Rattle.lmn_parser.specs.Syntax.{WrittenCondition}
use Rattle.lmn_flatten_plain.specs.Links.{Link, Use}

-- an atom, a connector included, with its label, its links and its place; or a typed context with its name, link and place
pub data ExpandedLeaf : Type 0 where
  atom_leaf : Label → List Use → Pos → ExpandedLeaf
  typed_leaf : Name → Use → Pos → ExpandedLeaf

-- a context, or a rule context; whether it is a closed context, `$p[]`
pub record Context : Type 0 where
  pub name : Name
  pub closed : Bool
  pub pos : Pos

-- leaves, membranes, contexts, rule contexts, and the numbers of rules
mutual
  pub data ExpandedLevel : Type 0 where
    level : List ExpandedLeaf → ExpandedLevels → List Context → List Context → List ℕ → ExpandedLevel

  pub data ExpandedLevels : Type 0 where
    no_level : ExpandedLevels
    level_and : ExpandedLevel → ExpandedLevels → ExpandedLevels

-- a rule with its place
pub record ExpandedRule : Type 0 where
  pub head : ExpandedLevel
  pub guard : List WrittenCondition
  pub body : ExpandedLevel
  pub pos : Pos

abbrev pub expanded_levels : List ExpandedLevel → ExpandedLevels
expanded_levels [] = no_level
expanded_levels (l ∷ ls) = level_and l (expanded_levels ls)

-- the links of a level, one for each occurrence, in printed order

abbrev pub expanded_leaf_links : ExpandedLeaf → List Link
expanded_leaf_links (atom_leaf l us pos) = map (λ u. u.link) us
expanded_leaf_links (typed_leaf n u pos) = u.link ∷ []

abbrev mutual
  pub expanded_links : ExpandedLevel → List Link
  expanded_links (level leaves membranes contexts rule_contexts rules) = flat_map expanded_leaf_links leaves ++ expanded_links_in membranes

  pub expanded_links_in : ExpandedLevels → List Link
  expanded_links_in no_level = []
  expanded_links_in (level_and l ls) = expanded_links l ++ expanded_links_in ls

-- a leaf and a level with other links

abbrev pub renamed_leaf : (Link → Link) → ExpandedLeaf → ExpandedLeaf
renamed_leaf f (atom_leaf l us pos) = atom_leaf l (map (λ (u : Use). record { link = f u.link; pos = u.pos }) us) pos
renamed_leaf f (typed_leaf n u pos) = typed_leaf n (record { link = f u.link; pos = u.pos }) pos

abbrev mutual
  pub renamed_level : (Link → Link) → ExpandedLevel → ExpandedLevel
  renamed_level f (level leaves membranes contexts rule_contexts rules) =
      level (map (renamed_leaf f) leaves) (all_renamed f membranes) contexts rule_contexts rules

  pub all_renamed : (Link → Link) → ExpandedLevels → ExpandedLevels
  all_renamed f no_level = no_level
  all_renamed f (level_and l ls) = level_and (renamed_level f l) (all_renamed f ls)

-- parts of these, as laws and contracts of private functions tell them: the links of some uses, and of leaves
abbrev pub use_links : List Use → List Link
use_links us = map (λ u. u.link) us

-- an occurrence with another link
abbrev pub renamed_use : (Link → Link) → Use → Use
renamed_use f u = record { link = f u.link; pos = u.pos }

abbrev pub expanded_leaves_links : List ExpandedLeaf → List Link
expanded_leaves_links = flat_map expanded_leaf_links
