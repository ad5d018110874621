-- The table of links of a process or of a rule.
use Rattle.std.specs.Prelude.{ℕ, ◌≡◌, ◌<◌, ◌≤◌, ◌⊎◌, ◌==◌, List, [], ◌∷◌, ◌++◌, map, flat_map, filter, length, slice_get, Some, MatchOption, AllPairs, IsPermutation}
use Rattle.lmn_base.specs.declared.level.Level.{Level}
use Rattle.lmn_base.specs.declared.refusal.Pos.{Pos}
use Rattle.lmn_base.specs.declared.rule.LinkUse.{LinkUse}
use Rattle.lmn_base.specs.Levels.{occurrences_of, links_of}
use Rattle.lmn_base.specs.Links.{NumbersLinks}

-- one place is before another in the text, or is the same
abbrev pub NotAfter : Pos → Pos → Type 0
NotAfter p q = (p.line < q.line) ⊎ ((p.line ≡ q.line) × (p.column ≤ q.column))

-- the places where a link occurs in a level
abbrev pub places_of_link : ℕ → Level → List Pos
places_of_link x l = map (λ o. o.pos) (filter (λ o. o.link == x) (occurrences_of l))

-- ps are the places where a link occurs in some levels: level by level, in each by rising place
pub data RisingPlaces (x : ℕ) : List Level → List Pos → Type 0 where
  no_places : RisingPlaces x [] []
  places_and : {l : Level} {ls : List Level} {ps qs : List Pos} →
      IsPermutation (places_of_link x l) ps → AllPairs NotAfter ps → RisingPlaces x ls qs →
      RisingPlaces x (l ∷ ls) (ps ++ qs)

-- what an entry says of a link that occurs at these places: how often, and the first and third place
pub record TellsOf (ps : List Pos) (u : LinkUse) : Type 0 where
  pub count : u.count ≡ length ps
  pub first : slice_get ps 0 ≡ Some u.first
  pub third : MatchOption (slice_get ps 2) (u.third ≡ u.first) (λ p. u.third ≡ p)

-- The links of some levels are numbered by first occurrence over all of them, and the table has
-- one entry for each link, by its number.
pub record IsTableOf (levels : List Level) (table : List LinkUse) : Type 0 where
  pub numbered : NumbersLinks (flat_map links_of levels) (length table)
  pub tells : (x : ℕ) (u : LinkUse) → slice_get table x ≡ Some u →
      (ps : List Pos) × RisingPlaces x levels ps × TellsOf ps u
