-- When two solids are the same.
use Rattle.std.specs.Prelude.{ℕ, ◌≡◌, List, map}
use Rattle.lmn_congruence.specs.Orders.{Shuffle}
use Rattle.lmn_congruence.specs.Process.{OneToOneOn}
use Rattle.lmn_congruence.specs.Rules.{Rule}
use Rattle.lmn_congruence.specs.Regions.{SolidAtom, Region, region, Regions, no_region, region_and, region_process}

abbrev pub renamed_atom : (ℕ → ℕ) → SolidAtom → SolidAtom
renamed_atom f a = record { label = a.label; links = map f a.links }

-- a region with all its links renamed, every list in its order
abbrev mutual
  pub renamed_region : (ℕ → ℕ) → Region → Region
  renamed_region f (region atoms membranes rules) =
      region (map (renamed_atom f) atoms) (renamed_regions f membranes) rules

  pub renamed_regions : (ℕ → ℕ) → Regions → Regions
  renamed_regions f no_region = no_region
  renamed_regions f (region_and r rs) = region_and (renamed_region f r) (renamed_regions f rs)

-- S' is S but for the numbers of links
pub record IsRenamed (S S' : Region) : Type 0 where
  pub to : ℕ → ℕ
  pub one_to_one : OneToOneOn to (region_process S)
  pub is : S' ≡ renamed_region to S

-- the last list is the first one with a region put in at some place
pub data PutRegion (m : Region) : Regions → Regions → Type 0 where
  first : {rs : Regions} → PutRegion m rs (region_and m rs)
  later : {r : Region} {rs rs' : Regions} → PutRegion m rs rs' → PutRegion m (region_and r rs) (region_and r rs')

-- equal up to the order of the lists at every depth, after a renaming of links; rules are equal as trees
mutual
  pub data SameRegion (f : ℕ → ℕ) : Region → Region → Type 0 where
    same_region : {xs ys : List SolidAtom} {ms ns : Regions} {rs ss : List Rule} →
        Shuffle (λ a b. renamed_atom f a ≡ b) xs ys → SameRegions f ms ns → Shuffle (λ r s. r ≡ s) rs ss →
        SameRegion f (region xs ms rs) (region ys ns ss)

  pub data SameRegions (f : ℕ → ℕ) : Regions → Regions → Type 0 where
    none_left : SameRegions f no_region no_region
    one_more : {m n : Region} {ms ns ns' : Regions} →
        SameRegion f m n → SameRegions f ms ns → PutRegion n ns ns' → SameRegions f (region_and m ms) ns'

-- equal up to the order of lists and the numbers of links
pub record Same (S S' : Region) : Type 0 where
  pub to : ℕ → ℕ
  pub one_to_one : OneToOneOn to (region_process S)
  pub same : SameRegion to S S'
