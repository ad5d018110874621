-- What the owner of rows owns and lends.
use Rattle.std.specs.Prelude.{ℕ, ◌+◌, ◌^◌, List, [], ◌∷◌, length, Option, Some, None}
use base.Fraction.{full_share}
use base.Fml.{Lft, Fml, ftrue, fsep, fwand, froom}
use mir.Syntax.{Ty, w32, w64, ty_int, ty_array}
use denote.RawPtr.{Ptr, RawPtr, block_ptr}
use denote.Builtin.{u32, u64}
use denote.Memory.{part_at}
use denote.Sharing.{nothing, beside}
use denote.Struct.Lending.{lent_at}
use Rattle.std.specs.declared.alloc.Global.{Global}
use Rattle.std.specs.contracts.impls.GlobalAllocator.TheImpl.{ghosts}
use Rattle.lmn_web_rows.specs.Rows.{Item, Row, block_at, byte_at}

-- a word
abbrev pub word : Ty
word = ty_int w64

-- half of a word, and halves side by side
abbrev pub half : Ty
half = ty_int w32

abbrev pub half_own : Option ℕ → ℕ → ℕ → Fml
half_own None b e = froom half b e
half_own (Some n) b e = part_at u32 full_share n b e

abbrev pub halves_own : List (Option ℕ) → ℕ → ℕ → Fml
halves_own [] b e = ftrue
halves_own (x ∷ xs) b e = fsep (half_own x b e) (halves_own xs b (e + 4))

-- room for so many halves is room for the word that was cut into them
abbrev pub whole_word : ℕ → ℕ → ℕ → Fml
whole_word n b e = fwand (froom (ty_array half n) b e) (froom word b e)

abbrev pub item_own : Item → ℕ → ℕ → Fml
item_own None b e = froom word b e
item_own (Some (Some p, x)) b e = part_at RawPtr full_share p b e
item_own (Some (None, (n, []))) b e = part_at u64 full_share n b e
item_own (Some (None, (n, x ∷ xs))) b e = fsep (halves_own (x ∷ xs) b e) (whole_word (length (x ∷ xs)) b e)

-- words side by side
abbrev pub items_own : List Item → ℕ → ℕ → Fml
items_own [] b e = ftrue
items_own (i ∷ is) b e = fsep (item_own i b e) (items_own is b (e + 8))

-- a handle of the heap: they are all the same
abbrev pub heap : Global
heap = record { memory = record { seal = tt } }

-- the right to free a block that the heap gave for a value of a type
abbrev pub may_free : Ty → Ptr → Fml
may_free = ghosts.dealloc_token heap

-- how many words a block has
abbrev pub block_words : ℕ
block_words = 2 ^ 18

-- a row, in use or not
abbrev pub row_own : Row → Fml
row_own r = items_own r.items (block_at r.at) (byte_at r.at)

-- the rights to free some blocks
abbrev pub blocks_own : List ℕ → Fml
blocks_own [] = ftrue
blocks_own (b ∷ bs) = fsep (may_free (ty_array word block_words) (block_ptr b 0)) (blocks_own bs)

abbrev pub rows_own : List Row → Fml
rows_own [] = ftrue
rows_own (r ∷ rs) = fsep (row_own r) (rows_own rs)

abbrev pub half_lent : Option ℕ → ℕ → ℕ → Lft → Fml
half_lent None b e = nothing
half_lent (Some n) b e = lent_at u32 (block_ptr b e) n

abbrev pub halves_lent : List (Option ℕ) → ℕ → ℕ → Lft → Fml
halves_lent [] b e = nothing
halves_lent (x ∷ xs) b e = beside (half_lent x b e) (halves_lent xs b (e + 4))

abbrev pub item_lent : Item → ℕ → ℕ → Lft → Fml
item_lent None b e = nothing
item_lent (Some (Some p, x)) b e = lent_at RawPtr (block_ptr b e) p
item_lent (Some (None, (n, []))) b e = lent_at u64 (block_ptr b e) n
item_lent (Some (None, (n, x ∷ xs))) b e = halves_lent (x ∷ xs) b e

abbrev pub items_lent : List Item → ℕ → ℕ → Lft → Fml
items_lent [] b e = nothing
items_lent (i ∷ is) b e = beside (item_lent i b e) (items_lent is b (e + 8))

abbrev pub rows_lent : List Row → Lft → Fml
rows_lent [] = nothing
rows_lent (r ∷ rs) = beside (items_lent r.items (block_at r.at) (byte_at r.at)) (rows_lent rs)
