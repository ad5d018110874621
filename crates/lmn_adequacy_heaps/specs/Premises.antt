-- What the laws ask of heaps, of the list of names and of rules.
use Rattle.std.specs.Prelude.{ℕ, ℤ, ◌≡◌, ◌∷◌, Some, List, slice_get}
use Rattle.lmn_base.specs.declared.functor.Functor.{Functor}
use Rattle.lmn_base.specs.declared.rule.RuleTree.{RuleTree}
use Rattle.lmn_base.specs.Names.{IsNames, HasNames, label_names, rule_names}
use Rattle.lmn_base.specs.WellMade.{IsWellMadeRule}
use Rattle.lmn_store_heap.specs.Heap.{Heap, functor_of, mems_in, rules_in}
use Rattle.lmn_store_heap.specs.Lists.{Distinct}
use Rattle.lmn_store_heap.specs.Sound.{Forest, Forms, Valid, flat}
use Rattle.lmn_congruence.specs.Rules.{Name}
use Rattle.lmn_congruence.specs.Translation.{rule_tree, name_of}
use Rattle.lmn_reduction.specs.Parts.{Rooted, IsInteger, IsUnary, IsGround}
use Rattle.lmn_guards.specs.declared.plan.TypeKind.{TypeKind}
use Rattle.lmn_guards.specs.declared.plan.TypeKind.TheVariants.{Int, Unary, Ground}
use Rattle.lmn_solid_heads.specs.Embeddings.{HasTyped}
use Rattle.lmn_guards.specs.GuardCodes.{type_of}
use Rattle.lmn_solid_heads.specs.Flattening.{items_of_head}
use Rattle.lmn_solid_heads.specs.Heads.{HeadTyped}
use Rattle.lmn_adequacy.specs.Accepted.{Accepted}
use Rattle.lmn_store_heap.specs.Solid.{IsNaming}
use Rattle.lmn_adequacy_heaps.specs.HeapRegions.{HeapReading}
use Rattle.lmn_base.specs.Lists.{In}

-- a heap between commits, and how it is read: its links have numbers, and its names stand in the list
pub record IsRead (h : Heap) (r : HeapReading) : Type 0 where
  pub valid : Valid h
  pub naming : IsNaming h r.name
  pub names : IsNames r.names
  pub known : (a : ℕ) (f : Functor) → functor_of h a ≡ Some f → HasNames r.names (label_names f.label)

-- the membranes in a membrane, and in them, form this forest
pub record HasForest (h : Heap) (m : ℕ) (inner : Forest) : Type 0 where
  pub forms : Forms h inner (mems_in h m)
  pub once : Distinct (m ∷ flat inner)

-- a rule that a text may have, whose names stand in the list
pub record IsRule (r : HeapReading) (rule : RuleTree) : Type 0 where
  pub well_made : IsWellMadeRule rule
  pub known : HasNames r.names (rule_names rule)
  pub accepted : Accepted (rule_tree r.names r.rule rule)

-- The rules of a heap are those of a table. What a number is read as is the tree of the rule with this number.
pub record HasRules (h : Heap) (r : HeapReading) (table : List RuleTree) : Type 0 where
  pub known : (m k : ℕ) → In k (rules_in h m) → (rule : RuleTree) × (slice_get table k ≡ Some rule) × IsRule r rule
  pub read : (k : ℕ) (rule : RuleTree) → slice_get table k ≡ Some rule → r.rule k ≡ rule_tree r.names r.rule rule

-- a part of the calculus is of a kind that types have
abbrev pub IsOfTypeKind : TypeKind → Rooted → Type 0
IsOfTypeKind Int g = (z : ℤ) × IsInteger z g
IsOfTypeKind Unary g = IsUnary g
IsOfTypeKind Ground g = IsGround g

-- what typed contexts are taken to is of their kinds
abbrev pub HasKinds : HeapReading → (ℕ → TypeKind) → RuleTree → (Name → Rooted) → Type 0
HasKinds r kind rule typed_of = (n : ℕ) (u : HeadTyped) → HasTyped (items_of_head kind rule.head) n u → IsOfTypeKind u.kind (typed_of (name_of r.names u.name))

-- The kinds are those that the guard gives: each typed context of the head has the narrowest type that the conditions ask.
abbrev pub HasTypes : (ℕ → TypeKind) → RuleTree → Type 0
HasTypes kind rule = (n : ℕ) (u : HeadTyped) → HasTyped (items_of_head kind rule.head) n u → type_of rule.head rule.guard u.name ≡ Some u.kind
