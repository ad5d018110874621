-- What is seen of a shelf and of a sink in memory.
use Rattle.std.specs.Prelude.{◌≡◌, ℕ, ◌+◌, ◌<◌, ◌⊎◌, List, length, Option, None, is_some, if◌then◌else◌, Contains}
use Rattle.lmn_io.specs.Counts.{Faults}
use Rattle.lmn_io.specs.Texts.{Fetch, text_named}

-- The texts beside their names; the numbers of the calls that fail, how many calls were made, what was asked for, how many failed by
-- their number, and how many failed at all.
pub record MemoryShelf : Type 0 where
  pub names : List (List ℕ)
  pub texts : List (List ℕ)
  pub failing : List ℕ
  pub calls : ℕ
  pub asked : List Fetch
  pub listed : ℕ
  pub all : ℕ

-- the text under a name
abbrev pub text_in : MemoryShelf → List ℕ → Option (List ℕ)
text_in t name = text_named t.names t.texts name

-- the count of faults of a name
abbrev pub faults_in : MemoryShelf → List ℕ → ℕ
faults_in t name = if is_some (text_in t name) then t.listed else t.all

-- the next fetch of this name fails
abbrev pub FetchFails : MemoryShelf → List ℕ → Type 0
FetchFails t name = Contains t.failing t.calls ⊎ (text_in t name ≡ None)

-- The bytes that were taken, of which there may be so many; the numbers of the puts that fail,
-- how many puts were made, and what is counted of them.
pub record MemorySink : Type 0 where
  pub room : ℕ
  pub bytes : List ℕ
  pub failing : List ℕ
  pub calls : ℕ
  pub faults : Faults

-- the next put of this piece fails
abbrev pub PutFails : MemorySink → List ℕ → Type 0
PutFails t piece = Contains t.failing t.calls ⊎ (t.room < length t.bytes + length piece)
