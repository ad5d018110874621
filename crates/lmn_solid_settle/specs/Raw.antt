-- What a process is before it is settled: membranes with atoms, whose links connectors may still join.
use Rattle.std.specs.Prelude.{ℕ, suc, ◌≡◌, ◌≢◌, ◌<◌, ◌+◌, List, [], ◌∷◌, ◌++◌, map, flat_map, length, All}
use Rattle.lmn_base.specs.declared.solid.Region.{Region}
use Rattle.lmn_base.specs.declared.solid.Region.TheViews.{roll-Region}
use Rattle.lmn_base.specs.declared.solid.Solid.{Solid}
use Rattle.lmn_base.specs.declared.solid.SolidAtom.{SolidAtom}
use Rattle.lmn_base.specs.Solids.{IsSolid, connector}
use Rattle.lmn_congruence_classes.specs.Tables.{PairsBelow}
use Rattle.lmn_solid_settle.specs.declared.settling.RawMembrane.{RawMembrane}
use Rattle.lmn_congruence_splice.specs.Splice.{IsOneOf, TwiceOrNever, both_links}

-- atoms, membranes and the numbers of rules, every list in its order
mutual
  pub data RawRegion : Type 0 where
    raw : List SolidAtom → RawRegions → List ℕ → RawRegion

  pub data RawRegions : Type 0 where
    no_raw : RawRegions
    raw_and : RawRegion → RawRegions → RawRegions

-- the atoms in printed order: those of a region, and then those in each of its membranes
abbrev mutual
  pub raw_atoms : RawRegion → List SolidAtom
  raw_atoms (raw xs ms rs) = xs ++ raw_atoms_in ms

  pub raw_atoms_in : RawRegions → List SolidAtom
  raw_atoms_in no_raw = []
  raw_atoms_in (raw_and m ms) = raw_atoms m ++ raw_atoms_in ms

-- the links at them
abbrev pub raw_links : RawRegion → List ℕ
raw_links r = flat_map (λ a. a.links) (raw_atoms r)

-- an atom with each link at its image
abbrev pub settled_atom : (ℕ → ℕ) → SolidAtom → SolidAtom
settled_atom v a = record { functor = a.functor; links = map v a.links }

-- the region, each link at its image
abbrev mutual
  pub settled : (ℕ → ℕ) → RawRegion → Region
  settled v (raw xs ms rs) = roll-Region (record { atoms = map (settled_atom v) xs; membranes = settled_all v ms; rules = rs })

  pub settled_all : (ℕ → ℕ) → RawRegions → List Region
  settled_all v no_raw = []
  settled_all v (raw_and m ms) = settled v m ∷ settled_all v ms

-- ---- in a table

-- how many membranes there are, the region itself too
abbrev mutual
  pub size : RawRegion → ℕ
  size (raw xs ms rs) = suc (size_in ms)

  pub size_in : RawRegions → ℕ
  size_in no_raw = 0
  size_in (raw_and m ms) = size m + size_in ms

-- The membranes in preorder, from the number n on, each with the number of the one around it.
abbrev mutual
  pub laid : (around n : ℕ) → RawRegion → List RawMembrane
  laid around n (raw xs ms rs) = record { around = around; atoms = xs; rules = rs } ∷ laid_in n (suc n) ms

  pub laid_in : (around n : ℕ) → RawRegions → List RawMembrane
  laid_in around n no_raw = []
  laid_in around n (raw_and m ms) = laid around n m ++ laid_in around (n + size m) ms

-- ---- settling

-- A process that can be settled: each atom has as many links as its arity and is no connector, and each link stands twice at atoms and
-- in connectors. Links are numbers below n.
pub record CanSettle (r : RawRegion) (connectors : List (ℕ × ℕ)) (n : ℕ) : Type 0 where
  pub arities : All (λ a. length a.links ≡ a.functor.arity) (raw_atoms r)
  pub no_connector : All (λ a. a.functor ≢ connector) (raw_atoms r)
  pub twice : TwiceOrNever (both_links connectors ++ raw_links r)
  pub links_below : All (λ x. x < n) (raw_links r)
  pub pairs_below : PairsBelow n connectors

-- The solid of it: one map of links takes the two links of each connector to one, and the solid is the region with each link at its
-- image. Each link of the solid stands twice, so two ports are joined exactly where a chain of links and connectors joins them.
pub record IsSettled (r : RawRegion) (connectors : List (ℕ × ℕ)) (s : Solid) : Type 0 where
  pub to : ℕ → ℕ
  pub joins : (e : ℕ × ℕ) → IsOneOf e connectors → to e.0 ≡ to e.1
  pub is : s.root ≡ settled to r
  pub is_solid : IsSolid s
