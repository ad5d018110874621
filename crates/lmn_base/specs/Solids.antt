-- What every solid is like.
use Rattle.std.specs.Prelude.{ℕ, zero, suc, ◌≡◌, ◌≢◌, ◌<◌, ◌+◌, ◌==◌, ◌&&◌, Bool, true, false, List, ◌++◌, flat_map, sum, length, All}
use Rattle.lmn_base.specs.declared.functor.Functor.{Functor}
use Rattle.lmn_base.specs.declared.functor.Label.{Label}
use Rattle.lmn_base.specs.declared.functor.Label.TheVariants.{Name, Int}
use Rattle.lmn_base.specs.declared.functor.TheConstants.{CONNECTOR_NAME}
use Rattle.lmn_base.specs.declared.rule.RuleTree.{RuleTree}
use Rattle.lmn_base.specs.declared.solid.SolidAtom.{SolidAtom}
use Rattle.lmn_base.specs.declared.solid.Region.{Region}
use Rattle.lmn_base.specs.declared.solid.Region.TheOpen.{Region-F}
use Rattle.lmn_base.specs.declared.solid.Region.TheFolds.{fold-Region}
use Rattle.lmn_base.specs.declared.solid.Solid.{Solid}
use Rattle.lmn_base.specs.Links.{EachTwice, NumbersLinks}

-- the name `=` with two links
abbrev pub connector : Functor
connector = record { label = Name CONNECTOR_NAME; arity = 2 }

-- the name `=`, which has the number 0
abbrev pub is_equals : Label → Bool
is_equals (Name zero) = true
is_equals (Name (suc n)) = false
is_equals (Int z) = false

-- whether a functor is the name `=` with two links
abbrev pub is_connector : Functor → Bool
is_connector f = is_equals f.label && (f.arity == 2)

-- the atoms of a region, and then those in each of its membranes: the printed order
abbrev pub atoms_of_region : Region → List SolidAtom
atoms_of_region = fold-Region (List SolidAtom) (λ r. r.atoms ++ flat_map (λ inner. inner) r.membranes)

-- their links, in printed order
abbrev pub links_of_region : Region → List ℕ
links_of_region r = flat_map (λ a. a.links) (atoms_of_region r)

-- Each atom has as many links as its arity and isn't a connector; each link stands twice; links are numbered in printed order.
pub record IsSolid (s : Solid) : Type 0 where
  pub arities : All (λ a. length a.links ≡ a.functor.arity) (atoms_of_region s.root)
  pub no_connector : All (λ a. a.functor ≢ connector) (atoms_of_region s.root)
  pub closed : EachTwice (links_of_region s.root)
  pub numbered : (n : ℕ) × NumbersLinks (links_of_region s.root) n

-- how many items a solid has, a region's atoms, membranes and rules, and those inside its membranes: its root isn't counted
abbrev pub item_count : Solid → ℕ
item_count s = fold-Region ℕ (λ r. length r.atoms + length r.membranes + sum r.membranes + length r.rules) s.root

-- a table has one rule for each number of a rule in a solid, in its root and in its membranes
abbrev pub HasEachRule : List RuleTree → Solid → Type 0
HasEachRule table s = All (λ k. k < length table) (fold-Region (List ℕ) (λ r. r.rules ++ flat_map (λ inner. inner) r.membranes) s.root)

-- ---- what these say of a region of whose membranes it is known, as laws and contracts of private functions tell it

abbrev pub atoms_step : Region-F (List SolidAtom) → List SolidAtom
atoms_step r = r.atoms ++ flat_map (λ inner. inner) r.membranes

abbrev pub items_step : Region-F ℕ → ℕ
items_step r = length r.atoms + length r.membranes + sum r.membranes + length r.rules

abbrev pub rules_step : Region-F (List ℕ) → List ℕ
rules_step r = r.rules ++ flat_map (λ inner. inner) r.membranes
