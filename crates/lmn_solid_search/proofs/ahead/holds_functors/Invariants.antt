use Rattle.std.proofs.Common.{◌≡◌, ◌<◌, ℕ, Some, slice_get}
use Rattle.lmn_solid_tables.specs.Flats.{heap_of}
use Rattle.lmn_solid_search.specs.Ahead.{HoldsItem}
use Rattle.lmn_solid_heads.specs.declared.items.HeadItem.{HeadItem}
use Rattle.lmn_solid_search.proofs.ahead.holds_functors.Given as goal

abbrev pub invariant-loop-item : goal.invariant-loop-item
invariant-loop-item l = (i : ℕ) (x : HeadItem) → i < l.item-index → slice_get l.items i ≡ Some x → HoldsItem (heap_of l.flat) l.number l.membrane l.items x
