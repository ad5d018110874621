-- The rows of a store as its callers see them.
use Rattle.std.specs.Prelude.{◌≡◌, ◌≢◌, ◌<◌, ◌^◌, ℕ, List, [], ◌∷◌, Option, true, if◌then◌else◌, replicate, slice_index_or, slice_set}
use Rattle.lmn_web_rows.specs.Rows.{Row, blank, items_in, live_in, numbered, NUMBER_WORD}

-- the rows, of which those that aren't in use are seen without words
abbrev pub shown : List Row → List Row
shown [] = []
shown (r ∷ rs) = record r { items = if r.live then r.items else [] } ∷ shown rs

-- a store: its rows, how many words of the block that came last weren't used yet, and how many rows were numbered
pub record Stored : Type 0 where
  pub rows : List Row
  pub left : ℕ
  pub count : ℕ

-- the row at a place has this number
abbrev pub HasNumber : List Row → ℕ → ℕ → Type 0
HasNumber rows n i = (x : Option ℕ) × (slice_index_or (items_in rows n) NUMBER_WORD blank ≡ numbered i x)

-- each row in use has a number below how many were given, which no other row has, whether it is in use or not
pub record AreNumbered (rows : List Row) (count : ℕ) : Type 0 where
  pub every : (n : ℕ) → live_in rows n ≡ true → (i : ℕ) × HasNumber rows n i
  pub below : (n i : ℕ) → HasNumber rows n i → i < count
  pub single : (n m i : ℕ) → HasNumber rows n i → HasNumber rows m i → n ≡ m

-- each row has the words that it had
abbrev pub HaveSameWords : List Row → List Row → Type 0
HaveSameWords old new = (n : ℕ) → items_in new n ≡ items_in old n

-- a row of so many words, none of which was written but its number, which no row had, is new at a place; the others are as they were
pub record IsMade (old new : List Row) (n words : ℕ) : Type 0 where
  pub number : ℕ
  pub beside : Option ℕ
  pub small : number < 2 ^ 32
  pub fresh : (m : ℕ) → HasNumber old m number → ⊥
  pub none : items_in old n ≡ []
  pub made : items_in new n ≡ slice_set (replicate words blank) NUMBER_WORD (numbered number beside)
  pub others : (m : ℕ) → m ≢ n → items_in new m ≡ items_in old m

-- there is no row at a place any more; the others are as they were
pub record IsGone (old new : List Row) (n : ℕ) : Type 0 where
  pub none : items_in new n ≡ []
  pub others : (m : ℕ) → m ≢ n → items_in new m ≡ items_in old m
