-- Rows of words, many of them side by side in one block.
use Rattle.std.specs.Prelude.{◌≡◌, Bool, true, false, ℕ, ◌+◌, ◌-◌, ◌*◌, ◌/◌, ◌%◌, ◌==◌, ◌^◌, ◌<◌, ◌≤◌, length, take, drop, List, [], ◌∷◌, Option, Some, None, if◌then◌else◌, replicate, slice_set, slice_index_or}
use denote.RawPtr.{Ptr, block_ptr, null_ptr, block_of, count_of}

-- what a word holds: nothing yet, a pointer, a number, or numbers of half a word, of which some may not be written yet
abbrev pub Item : Type 0
Item = Option (Option Ptr × (ℕ × List (Option ℕ)))

abbrev pub blank : Item
blank = None

abbrev pub link : Ptr → Item
link p = Some (Some p, (0, []))

abbrev pub number : ℕ → Item
number n = Some (None, (n, []))

-- a word of two numbers
abbrev pub halves : ℕ → ℕ → Item
halves m n = Some (None, (0, Some m ∷ Some n ∷ []))

-- the halves of a word: two that aren't written, if it holds anything else
abbrev pub halves_in : Item → List (Option ℕ)
halves_in None = replicate 2 None
halves_in (Some (Some p, x)) = replicate 2 None
halves_in (Some (None, (n, []))) = replicate 2 None
halves_in (Some (None, (n, x ∷ xs))) = x ∷ xs

-- a word with these halves
abbrev pub of_halves : List (Option ℕ) → Item
of_halves xs = Some (None, (0, xs))

-- a word of which a half is another number
abbrev pub with_half : ℕ → ℕ → Item → Item
with_half j n i = of_halves (slice_set (halves_in i) j (Some n))

-- the number in a half of words: each word has two
abbrev pub half_at : List Item → ℕ → Option ℕ
half_at is j = slice_index_or (halves_in (slice_index_or is (j / 2) blank)) (j % 2) None

-- the words, of which a half is another number
abbrev pub with_half_at : ℕ → ℕ → List Item → List Item
with_half_at j n is = slice_set is (j / 2) (with_half (j % 2) n (slice_index_or is (j / 2) blank))

-- The number of a row stands in the first half of this word, which no call but the one that makes rows writes.
abbrev pub NUMBER_WORD : ℕ
NUMBER_WORD = 7

-- a word with the number of a row, and beside it what its owner wrote
abbrev pub numbered : ℕ → Option ℕ → Item
numbered n x = of_halves (Some n ∷ x ∷ [])

-- the words, of which nothing is known any more but the one with the number
abbrev pub forgotten : List Item → List Item
forgotten is = slice_set (replicate (length is) blank) NUMBER_WORD (slice_index_or is NUMBER_WORD blank)

-- a row: the place of its first word, its words, and whether it is in use
pub record Row : Type 0 where
  pub at : ℕ
  pub items : List Item
  pub live : Bool

-- a row that isn't in use
abbrev pub spare : ℕ → List Item → Row
spare n is = record { at = n; items = is; live = false }

-- The places of a block are the numbers of its words, of which it has 2 ^ 18.

abbrev pub block_at : ℕ → ℕ
block_at n = n / 2 ^ 18

-- the byte of its block at which a place begins
abbrev pub byte_at : ℕ → ℕ
byte_at n = n % 2 ^ 18 * 8

-- the pointer to a place
abbrev pub place_ptr : ℕ → Ptr
place_ptr n = block_ptr (block_at n) (byte_at n)

abbrev pub place_of : Ptr → ℕ
place_of p = block_of p * 2 ^ 18 + count_of p / 8

-- the words of the row at a place, none where there is no such row
abbrev pub items_in : List Row → ℕ → List Item
items_in [] b = []
items_in (r ∷ rs) b = if r.at == b then r.items else items_in rs b

-- whether the row at a place is in use; where there is none, none is
abbrev pub live_in : List Row → ℕ → Bool
live_in [] n = false
live_in (r ∷ rs) n = if r.at == n then r.live else live_in rs n

-- the rows, with these words at a place
abbrev pub with_items : ℕ → List Item → List Row → List Row
with_items b is [] = []
with_items b is (r ∷ rs) = if r.at == b then record r { items = is } ∷ rs else r ∷ with_items b is rs

-- the rows, of which that at a place is in use, or isn't
abbrev pub with_use : Bool → ℕ → List Row → List Row
with_use t n [] = []
with_use t n (r ∷ rs) = if r.at == n then record r { live = t } ∷ rs else r ∷ with_use t n rs

-- the rows, of which that at a place is cut in two behind so many words
abbrev pub cut_row : ℕ → ℕ → List Row → List Row
cut_row n c [] = []
cut_row n c (r ∷ rs) = if r.at == n then record r { items = take c r.items } ∷ record r { at = n + c; items = drop c r.items } ∷ rs else r ∷ cut_row n c rs

-- rows that lie side by side from a place on, none of them empty, with so many words together
abbrev pub AreSideBySide : ℕ → ℕ → List Row → Type 0
AreSideBySide n c [] = c ≡ 0
AreSideBySide n c (r ∷ rs) = (r.at ≡ n) × (0 < length r.items) × (length r.items ≤ c) × AreSideBySide (n + length r.items) (c - length r.items) rs

-- the first rows, with so many words together
abbrev pub first_rows : ℕ → List Row → List Row
first_rows c [] = []
first_rows c (r ∷ rs) = if c == 0 then [] else r ∷ first_rows (c - length r.items) rs

-- and the others
abbrev pub later_rows : ℕ → List Row → List Row
later_rows c [] = []
later_rows c (r ∷ rs) = if c == 0 then r ∷ rs else later_rows (c - length r.items) rs

-- the pointer leads to a place
abbrev pub IsStart : Ptr → Type 0
IsStart p = p ≡ place_ptr (place_of p)

-- the pointer may be compared with the one that leads nowhere
abbrev pub IsNear : Ptr → Type 0
IsNear p = count_of p < 2 ^ 63

-- whether the pointer is the one that leads nowhere
abbrev pub leads_nowhere : Ptr → Bool
leads_nowhere (block_ptr b o) = false
leads_nowhere null_ptr = true
