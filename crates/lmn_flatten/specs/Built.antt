-- Levels whose links have numbers by a relation.
use Rattle.std.specs.Prelude.{ℕ, ◌≡◌, List, [], ◌∷◌, ◌++◌, map, length}
use Rattle.std.specs.List.{AllZip}
use Rattle.lmn_base.specs.declared.level.Leaf as base
use Rattle.lmn_base.specs.declared.level.Leaf.TheVariants.{Atom, Typed}
use Rattle.lmn_base.specs.declared.level.Level as base_level
use Rattle.lmn_base.specs.declared.level.Level.TheOpen.{Level-F}
use Rattle.lmn_base.specs.declared.level.Level.TheViews.{roll-Level}
use Rattle.lmn_base.specs.declared.level.Occ.{Occ}
use Rattle.lmn_congruence.specs.Rules as tree
use Rattle.lmn_flatten_plain.specs.Links.{Link, Use}
use Rattle.lmn_flatten_plain.specs.Expanded.{ExpandedLeaf, atom_leaf, typed_leaf, ExpandedLevel, level, ExpandedLevels, no_level, level_and}
use Rattle.lmn_flatten_plain.specs.Parts.{Parts}
use Rattle.lmn_flatten_plain.specs.Plains.{number_of, numbered_label, numbered_context}
use Rattle.lmn_flatten.specs.declared.part.Part.{Part}

module _ (names : List tree.Name) (R : Link → ℕ → Type 0) where
  abbrev pub IsUse : Use → Occ → Type 0
  IsUse u o = R u.link o.link × (o.pos ≡ u.pos)

  abbrev pub IsLeaf : ExpandedLeaf → base.Leaf → Type 0
  IsLeaf (atom_leaf l us pos) x =
      (os : List Occ) × (x ≡ Atom (record { label = numbered_label names (λ a. 0) l; arity = length us }) os pos) × AllZip IsUse us os
  IsLeaf (typed_leaf n u pos) x = (o : Occ) × (x ≡ Typed (number_of names n) o pos) × IsUse u o

  abbrev mutual
    pub IsLevel : ExpandedLevel → base_level.Level → Type 0
    IsLevel (level leaves membranes contexts rule_contexts rules) x =
        (l : Level-F base_level.Level) × (x ≡ roll-Level l) × AllZip IsLeaf leaves l.leaves × AreLevels membranes l.membranes × (l.contexts ≡ map (numbered_context names (λ a. 0)) contexts)
        × (l.rule_contexts ≡ map (numbered_context names (λ a. 0)) rule_contexts) × (l.rules ≡ rules)

    pub AreLevels : ExpandedLevels → List base_level.Level → Type 0
    AreLevels no_level xs = xs ≡ []
    AreLevels (level_and l ls) xs = (y : base_level.Level) × (ys : List base_level.Level) × (xs ≡ y ∷ ys) × IsLevel l y × AreLevels ls ys

  -- the items of a level that isn't whole yet
  pub record IsPartOfLevel (p : Parts) (x : Part) : Type 0 where
    pub leaves : AllZip IsLeaf p.leaves x.leaves
    pub membranes : AllZip IsLevel p.membranes x.membranes
    pub contexts : x.contexts ≡ map (numbered_context names (λ a. 0)) p.contexts
    pub rule_contexts : x.rule_contexts ≡ map (numbered_context names (λ a. 0)) p.rule_contexts
    pub rules : x.rules ≡ p.rules

abbrev pub no_items : Part
no_items = record { leaves = []; membranes = []; contexts = []; rule_contexts = []; rules = [] }

-- each list of one before that of the other
abbrev pub with_items : Part → Part → Part
with_items x y = record {
  leaves = x.leaves ++ y.leaves;
  membranes = x.membranes ++ y.membranes;
  contexts = x.contexts ++ y.contexts;
  rule_contexts = x.rule_contexts ++ y.rule_contexts;
  rules = x.rules ++ y.rules;
}

-- A leaf is added to a level.
pub record AddsLeaf (names : List tree.Name) (R : Link → ℕ → Type 0) (l : ExpandedLeaf) (old new : Part) : Type 0 where
  pub leaf : base.Leaf
  pub is_leaf : IsLeaf names R l leaf
  pub leaves : new.leaves ≡ old.leaves ++ leaf ∷ []
  pub membranes : new.membranes ≡ old.membranes
  pub contexts : new.contexts ≡ old.contexts
  pub rule_contexts : new.rule_contexts ≡ old.rule_contexts
  pub rules : new.rules ≡ old.rules
