-- The law of what is quiet.
use Rattle.std.specs.Prelude.{ℕ, List}
use Rattle.lmn_base.specs.declared.guard.Cond.{Cond}
use Rattle.lmn_store_heap.specs.Heap.{Heap}
use Rattle.lmn_store_heap.specs.Sound.{Valid}
use Rattle.lmn_solid_heads.specs.declared.items.HeadItem.{HeadItem}
use Rattle.lmn_solid_heads.specs.Embeddings.{Images, Embeds}
use Rattle.lmn_compile_head.specs.Heads.{IsHead}
use Rattle.lmn_schedule_sleep.specs.Quiet.{IsQuiet}

-- Where a head lies in t, at a membrane that is quiet from h to t, it lay there in h.
abbrev pub QuietStaysMatchless : Type 0
QuietStaysMatchless = (h t : Heap) → Valid h → Valid t → (m : ℕ) → IsQuiet h t m →
    (items : List HeadItem) → IsHead items → (guard : List Cond) (f : Images) → Embeds t items guard m f → Embeds h items guard m f
