-- A `&` to the owner of rows reaches each word. Assumes `Logic`.
use Prim.Native.Nat.{ℕ, ◌+◌}
use mathlib.Core.List.{List, [], ◌∷◌}
use Rattle.std.specs.Prelude.{Option, Some, None, length}
use seplogic.Ra.Ura.{Ura}
use mir.Syntax.{w32, w64}
use base.Fml.{Lft}
use contract.BorrowLft.{⊑_static}
use types.Logic.{Logic}
use denote.Builtin.{u32, u64}
use denote.Plain.{uint_row_laws}
use denote.Param.Shared.{copy_shared}
use denote.RawPtr.{RawPtr, block_ptr, ptr_row_laws}
use denote.Sharing.{ShrLaws}
use denote.SharingLaws.{beside_shr_laws, nothing_shr_laws}
use denote.Shares.{Shares-less}
use denote.Struct.Field.{RawPtr-field, u32-field, u64-field}
use denote.Struct.Laws.{RawPtr-copy, u32-copy, u64-copy}
use denote.Struct.Lending.{Lends, lent_at_shr_laws, Lends-lies, Lends-first, Lends-both, Lends-nothing}
use Rattle.lmn_web_rows.specs.Rows.{Item, Row, block_at, byte_at}
use Rattle.lmn_web_rows.specs.Owned.{whole_word, half_own, halves_own, item_own, items_own, row_own, rows_own, half_lent, halves_lent, item_lent, items_lent, rows_lent}

half_laws : (x : Option ℕ) (b e : ℕ) → ShrLaws (half_lent x b e)
half_laws None b e = nothing_shr_laws
half_laws (Some n) b e = lent_at_shr_laws u32 (uint_row_laws w32) (block_ptr b e) n

halves_laws : (xs : List (Option ℕ)) (b e : ℕ) → ShrLaws (halves_lent xs b e)
halves_laws [] b e = nothing_shr_laws
halves_laws (x ∷ xs) b e = beside_shr_laws _ _ (half_laws x b e) (halves_laws xs b (e + 4))

item_laws : (i : Item) (b e : ℕ) → ShrLaws (item_lent i b e)
item_laws None b e = nothing_shr_laws
item_laws (Some (Some p, x)) b e = lent_at_shr_laws RawPtr ptr_row_laws (block_ptr b e) p
item_laws (Some (None, (n, []))) b e = lent_at_shr_laws u64 (uint_row_laws w64) (block_ptr b e) n
item_laws (Some (None, (n, x ∷ xs))) b e = halves_laws (x ∷ xs) b e

items_laws : (is : List Item) (b e : ℕ) → ShrLaws (items_lent is b e)
items_laws [] b e = nothing_shr_laws
items_laws (i ∷ is) b e = beside_shr_laws _ _ (item_laws i b e) (items_laws is b (e + 8))

-- what rows lend can be shared
pub rows_laws : (rs : List Row) → ShrLaws (rows_lent rs)
rows_laws [] = nothing_shr_laws
rows_laws (r ∷ rs) = beside_shr_laws _ _ (items_laws r.items (block_at r.at) (byte_at r.at)) (rows_laws rs)

module _ {M : Type 1} {𝓤 : Ura M} (𝓛 : Logic 𝓤) (l : Lft) where
  Lends-half : (x : Option ℕ) (b e : ℕ) → Lends 𝓛 (half_own x b e) (half_lent x b e) l
  Lends-half None b e = Lends-nothing 𝓛 _ l
  Lends-half (Some n) b e = Lends-lies 𝓛 u32 l (block_ptr b e) n (Shares-less 𝓛 u32 [] l (⊑_static l) ((copy_shared u32-field u32-copy).shares M 𝓤 𝓛) n)

  Lends-halves : (xs : List (Option ℕ)) (b e : ℕ) → Lends 𝓛 (halves_own xs b e) (halves_lent xs b e) l
  Lends-halves [] b e = Lends-nothing 𝓛 _ l
  Lends-halves (x ∷ xs) b e = Lends-both 𝓛 (half_own x b e) (halves_own xs b (e + 4)) (half_lent x b e) (halves_lent xs b (e + 4)) l (Lends-half x b e) (Lends-halves xs b (e + 4))

  Lends-item : (i : Item) (b e : ℕ) → Lends 𝓛 (item_own i b e) (item_lent i b e) l
  Lends-item None b e = Lends-nothing 𝓛 _ l
  Lends-item (Some (Some p, x)) b e = Lends-lies 𝓛 RawPtr l (block_ptr b e) p (Shares-less 𝓛 RawPtr [] l (⊑_static l) ((copy_shared RawPtr-field RawPtr-copy).shares M 𝓤 𝓛) p)
  Lends-item (Some (None, (n, []))) b e = Lends-lies 𝓛 u64 l (block_ptr b e) n (Shares-less 𝓛 u64 [] l (⊑_static l) ((copy_shared u64-field u64-copy).shares M 𝓤 𝓛) n)
  Lends-item (Some (None, (n, x ∷ xs))) b e = Lends-first 𝓛 (halves_own (x ∷ xs) b e) (whole_word (length (x ∷ xs)) b e) (halves_lent (x ∷ xs) b e) l (Lends-halves (x ∷ xs) b e)

  Lends-items : (is : List Item) (b e : ℕ) → Lends 𝓛 (items_own is b e) (items_lent is b e) l
  Lends-items [] b e = Lends-nothing 𝓛 _ l
  Lends-items (i ∷ is) b e = Lends-both 𝓛 (item_own i b e) (items_own is b (e + 8)) (item_lent i b e) (items_lent is b (e + 8)) l (Lends-item i b e) (Lends-items is b (e + 8))

  -- rows that are owned can be lent
  pub Lends-rows : (rs : List Row) → Lends 𝓛 (rows_own rs) (rows_lent rs) l
  Lends-rows [] = Lends-nothing 𝓛 _ l
  Lends-rows (r ∷ rs) =
      Lends-both 𝓛 (row_own r) (rows_own rs) (items_lent r.items (block_at r.at) (byte_at r.at)) (rows_lent rs) l (Lends-items r.items (block_at r.at) (byte_at r.at)) (Lends-rows rs)
