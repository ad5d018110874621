-- What was counted of links in a level.
use Rattle.std.specs.Prelude.{ℕ, ◌≡◌, ◌==◌, Bool, true, List, ◌++◌, map, filter, length, slice_get, Option, Some, None, IsSome, AllPairs, IsPermutation}
use Rattle.std.specs.Option.{option_or}
use Rattle.lmn_base.specs.declared.level.Occ.{Occ}
use Rattle.lmn_base.specs.declared.refusal.Pos.{Pos}
use Rattle.lmn_base.specs.declared.rule.LinkUse.{LinkUse}
use Rattle.lmn_base.specs.LinkUses.{NotAfter, TellsOf}
use Rattle.lmn_base.specs.PlaceOrder.{not_after}
use Rattle.lmn_flatten_numbers.specs.declared.tally.FirstPlaces.{FirstPlaces}
use Rattle.lmn_flatten_numbers.specs.declared.tally.Tally.{Tally}

-- a place is not after another one, or there is no other
abbrev pub comes_before : Pos → Option Pos → Bool
comes_before p None = true
comes_before p (Some q) = not_after p q

-- ps are the places of a list, by rising place
pub record Rising (places ps : List Pos) : Type 0 where
  pub same : IsPermutation places ps
  pub rise : AllPairs NotAfter ps

-- the first three of a list of places
pub record AreFirstThree (ps : List Pos) (f : FirstPlaces) : Type 0 where
  pub first : f.first ≡ slice_get ps 0
  pub second : f.second ≡ slice_get ps 1
  pub third : f.third ≡ slice_get ps 2

-- the first three of some places, by rising place
pub record AreFirst (places : List Pos) (f : FirstPlaces) : Type 0 where
  pub rising : List Pos
  pub sorted : Rising places rising
  pub first : AreFirstThree rising f

-- what is counted of a link that occurs at these places
pub record IsTally (places : List Pos) (t : Tally) : Type 0 where
  pub count : t.count ≡ length places
  pub first : AreFirst places t.places

-- where a link stands among some occurrences
abbrev pub places_among : ℕ → List Occ → List Pos
places_among x os = map (λ o. o.pos) (filter (λ o. o.link == x) os)

-- there is a tally for each link, by its number
abbrev pub AreTallies : List Occ → List Tally → Type 0
AreTallies os tallies = (x : ℕ) (t : Tally) → slice_get tallies x ≡ Some t → IsTally (places_among x os) t

-- these occurrences are counted behind what was counted before
pub record CountsOccurrences (os : List Occ) (old new : List Tally) : Type 0 where
  pub keys : length new ≡ length old
  pub more : (before : List Occ) → AreTallies before old → AreTallies (before ++ os) new

-- a link occurs in one of two levels at least
abbrev pub Occurs : Tally → Tally → Type 0
Occurs head body = IsSome (option_or head.places.first body.places.first)

-- What an entry says of a link by what was counted of it in two levels: the places in the first come first, and in
-- each they come by rising place.
abbrev pub IsJoinedEntry : Tally → Tally → LinkUse → Type 0
IsJoinedEntry head body u = (in_head in_body : List Pos) → IsTally in_head head → IsTally in_body body →
    (hs : List Pos) × (bs : List Pos) × Rising in_head hs × Rising in_body bs × TellsOf (hs ++ bs) u

-- the same of every link
abbrev pub EachOccurs : List Tally → List Tally → Type 0
EachOccurs heads bodies = (x : ℕ) (head body : Tally) → slice_get heads x ≡ Some head → slice_get bodies x ≡ Some body → Occurs head body

abbrev pub EachJoined : List Tally → List Tally → List LinkUse → Type 0
EachJoined heads bodies table = (x : ℕ) (head body : Tally) (u : LinkUse) →
    slice_get heads x ≡ Some head → slice_get bodies x ≡ Some body → slice_get table x ≡ Some u → IsJoinedEntry head body u

-- the table of links that two levels have together, an entry for each link
pub record IsJoinedTable (heads bodies : List Tally) (table : List LinkUse) : Type 0 where
  pub links : length table ≡ length heads
  pub each : EachJoined heads bodies table

-- a link occurs in the level
abbrev pub EachOccursAlone : List Tally → Type 0
EachOccursAlone tallies = (x : ℕ) (t : Tally) → slice_get tallies x ≡ Some t → IsSome t.places.first

-- What an entry says of a link by what was counted of it in one level: its places come by rising place.
abbrev pub IsOwnTally : Tally → LinkUse → Type 0
IsOwnTally t u = (places : List Pos) → IsTally places t → (ps : List Pos) × Rising places ps × TellsOf ps u

-- the same of every link
abbrev pub EachAlone : List Tally → List LinkUse → Type 0
EachAlone tallies table = (x : ℕ) (t : Tally) (u : LinkUse) → slice_get tallies x ≡ Some t → slice_get table x ≡ Some u → IsOwnTally t u

pub record AreAlone (tallies : List Tally) (table : List LinkUse) : Type 0 where
  pub links : length table ≡ length tallies
  pub each : EachAlone tallies table
