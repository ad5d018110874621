-- The solid of a plain, by the numbers that the program keeps.
use Rattle.std.specs.Prelude.{ℕ, ◌≡◌, true, if◌then◌else◌, List, [], ◌∷◌, map, flat_map, All}
use Rattle.lmn_base.specs.declared.level.Leaf.{Leaf}
use Rattle.lmn_base.specs.declared.level.Leaf.TheVariants.{Atom, Typed}
use Rattle.lmn_base.specs.declared.level.Level.{Level}
use Rattle.lmn_base.specs.declared.level.Level.TheOpen.{Level-F}
use Rattle.lmn_base.specs.declared.level.Level.TheFolds.{fold-Level}
use Rattle.lmn_base.specs.declared.rule.Plain.{Plain}
use Rattle.lmn_base.specs.declared.solid.SolidAtom.{SolidAtom}
use Rattle.lmn_base.specs.declared.solid.Region.{Region}
use Rattle.lmn_base.specs.declared.solid.Region.TheViews.{roll-Region}
use Rattle.lmn_base.specs.declared.solid.Solid.{Solid}
use Rattle.lmn_base.specs.Levels.{leaves_of, links_of}
use Rattle.lmn_base.specs.Links.{EachTwice}
use Rattle.lmn_base.specs.Solids.{IsSolid, is_equals, is_connector}

-- an atom with its links at their images; a connector is left out
abbrev pub fused_leaf : (ℕ → ℕ) → Leaf → List SolidAtom
fused_leaf v (Atom functor links pos) = if is_connector functor then [] else record { functor = functor; links = map (λ o. v o.link) links } ∷ []
fused_leaf v (Typed name link pos) = []

-- a level whose membranes are fused already
abbrev pub fused_step : (ℕ → ℕ) → Level-F Region → Region
fused_step v l = roll-Region (record { atoms = flat_map (fused_leaf v) l.leaves; membranes = l.membranes; rules = l.rules })

-- a level without its connectors, every list in its order
abbrev pub fused_region : (ℕ → ℕ) → Level → Region
fused_region v = fold-Level Region (fused_step v)

-- the two links of a connector have one image
abbrev pub JoinsLeaf : (ℕ → ℕ) → Leaf → Type 0
JoinsLeaf v (Atom functor [] pos) = Unit {0}
JoinsLeaf v (Atom functor (a ∷ []) pos) = Unit {0}
JoinsLeaf v (Atom functor (a ∷ b ∷ []) pos) = is_equals functor.label ≡ true → v a.link ≡ v b.link
JoinsLeaf v (Atom functor (a ∷ b ∷ c ∷ links) pos) = Unit {0}
JoinsLeaf v (Typed name link pos) = Unit {0}

-- s is the solid of the plain: each link of the top stands there twice, one map of links takes the two links of each
-- connector to one, through any membranes, and s is the top without its connectors, each link at its image. Nothing is
-- asked of names, and rules keep their numbers. Each link of s stands there twice, so two ports are joined in it exactly
-- where a chain of links and connectors joins them, and a loop vanishes.
pub record IsSolidOf (p : Plain) (s : Solid) : Type 0 where
  pub closed : EachTwice (links_of p.top)
  pub to : ℕ → ℕ
  pub joins : All (JoinsLeaf to) (leaves_of p.top)
  pub is : s.root ≡ fused_region to p.top
  pub is_solid : IsSolid s
