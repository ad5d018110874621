-- The head of a rule as one flat list of items.
use Rattle.std.specs.Prelude.{ℕ, ◌+◌, Bool, true, false, List, [], ◌∷◌, ◌++◌, map, sum}
use Rattle.std.specs.List.{list_any}
use Rattle.lmn_base.specs.declared.level.Leaf.{Leaf}
use Rattle.lmn_base.specs.declared.level.Leaf.TheVariants as leaf
use Rattle.lmn_base.specs.declared.level.Level.{Level}
use Rattle.lmn_base.specs.declared.level.Level.TheOpen.{Level-F}
use Rattle.lmn_base.specs.declared.level.Level.TheFolds.{fold-Level}
use Rattle.lmn_base.specs.declared.level.CtxUse.{CtxUse}
use Rattle.lmn_guards.specs.declared.plan.TypeKind.{TypeKind}
use Rattle.lmn_solid_heads.specs.declared.items.HeadItem.{HeadItem}
use Rattle.lmn_solid_heads.specs.declared.items.HeadItem.TheVariants.{Atom, Typed, Membrane}

-- A level whose membranes aren't numbered yet.
--   items   its items, given its own number and the number of its first membrane
--   size    how many membranes stand in it, at every depth
pub record Unnumbered : Type 0 where
  pub items : ℕ → ℕ → List HeadItem
  pub size : ℕ
  pub has_context : Bool
  pub has_closed_context : Bool
  pub has_rule_context : Bool

-- a context stands there
abbrev pub has_some : List CtxUse → Bool
has_some [] = false
has_some (u ∷ us) = true

-- `kind` gives what a typed context is, by its name
abbrev pub head_leaf_item : (ℕ → TypeKind) → ℕ → Leaf → HeadItem
head_leaf_item kind inside (leaf.Atom functor links pos) = Atom functor (map (λ o. o.link) links) inside
head_leaf_item kind inside (leaf.Typed name link pos) = Typed name (kind name) link.link inside

-- the leaves as items
abbrev pub leaf_items : (ℕ → TypeKind) → ℕ → List Leaf → List HeadItem
leaf_items kind inside [] = []
leaf_items kind inside (x ∷ xs) = head_leaf_item kind inside x ∷ leaf_items kind inside xs

-- membranes with their items, the first having the number `next`
abbrev pub head_membrane_items : ℕ → ℕ → List Unnumbered → List HeadItem
head_membrane_items inside next [] = []
head_membrane_items inside next (l ∷ ls) =
    Membrane inside l.has_context l.has_closed_context l.has_rule_context ∷ l.items next (next + 1) ++ head_membrane_items inside (next + 1 + l.size) ls

-- a level whose membranes are flat already
abbrev pub flatten_step : (ℕ → TypeKind) → Level-F Unnumbered → Unnumbered
flatten_step kind l = record {
  items = λ inside next. leaf_items kind inside l.leaves ++ head_membrane_items inside next l.membranes;
  size = sum (map (λ m. 1 + m.size) l.membranes);
  has_context = has_some l.contexts;
  has_closed_context = list_any (λ u. u.closed) l.contexts;
  has_rule_context = has_some l.rule_contexts;
}

-- a level whose own number isn't known yet
abbrev pub unnumbered : (ℕ → TypeKind) → Level → Unnumbered
unnumbered kind = fold-Level Unnumbered (flatten_step kind)

-- the items of a head in their order
abbrev pub items_of_head : (ℕ → TypeKind) → Level → List HeadItem
items_of_head kind l = (unnumbered kind l).items 0 1
