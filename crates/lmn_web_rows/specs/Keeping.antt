-- What holds in a store: its blocks, the rest of the last one, and the rows that are kept. Only private contracts cite these words.
use Rattle.std.specs.Prelude.{◌≡◌, ◌⊎◌, ℕ, zero, suc, ◌+◌, ◌<◌, ◌≤◌, ◌%◌, ◌^◌, false, List, [], ◌∷◌, ◌++◌, length, replicate, slice_index_or}
use denote.RawPtr.{Ptr, block_ptr, null_ptr}
use Rattle.lmn_web_rows.specs.Rows.{Row, blank, link, items_in, live_in, place_of, IsStart}
use Rattle.lmn_web_rows.specs.Seen.{HasNumber}
use Rattle.lmn_web_rows.specs.Tiles.{AreTiled}

-- the pointers to some blocks: that to the first of them stands last
abbrev pub LeadTo : List ℕ → List Ptr → Type 0
LeadTo [] ps = ps ≡ []
LeadTo (b ∷ bs) ps = (qs : List Ptr) × (ps ≡ qs ++ block_ptr b 0 ∷ []) × LeadTo bs qs

-- how many rows of its length are kept, counted from the one that came first, where a row is kept; 0 where it is the rest of a block
abbrev pub Depths : Type 0
Depths = ℕ → ℕ

-- the rest of a block: a row that isn't in use, of so many words, none of which was written
pub record IsRest (rows : List Row) (depth : Depths) (p : Ptr) (left : ℕ) : Type 0 where
  pub start : IsStart p
  pub some : 0 < left
  pub spare : live_in rows (place_of p) ≡ false
  pub words : items_in rows (place_of p) ≡ replicate left blank
  pub apart : depth (place_of p) ≡ 0
  pub inside : place_of p % 2 ^ 18 + left ≤ 2 ^ 18

-- a row that is kept, of so many words and with a number, with d others behind it: its first word leads to the next one
pub record IsKept (rows : List Row) (depth : Depths) (count d : ℕ) (p : Ptr) : Type 0 where
  pub start : IsStart p
  pub spare : live_in rows (place_of p) ≡ false
  pub words : length (items_in rows (place_of p)) ≡ count
  pub number : (i : ℕ) × HasNumber rows (place_of p) i
  pub deep : depth (place_of p) ≡ suc d
  pub next : Ptr
  pub word : slice_index_or (items_in rows (place_of p)) 0 blank ≡ link next

-- so many rows are kept from a pointer on, one behind the other
abbrev pub AreKept : List Row → Depths → ℕ → ℕ → Ptr → Type 0
AreKept rows depth count zero p = p ≡ null_ptr
AreKept rows depth count (suc d) p = (k : IsKept rows depth count d p) × AreKept rows depth count d k.next

-- the rows fill the blocks, and of each length below 1024 those from its pointer on are kept
pub record IsStore (rows : List Row) (blocks : List ℕ) (all : List Ptr) (last : Ptr) (left : ℕ) (firsts : List Ptr) : Type 0 where
  pub depth : Depths
  pub tiled : AreTiled blocks rows
  pub leads : LeadTo blocks all
  pub rest : (left ≡ 0) ⊎ IsRest rows depth last left
  pub lengths : length firsts ≡ 1024
  pub kept : (words : ℕ) → (d : ℕ) × AreKept rows depth words d (slice_index_or firsts words null_ptr)
