-- The law of the code of a rule.
use Rattle.std.specs.Prelude.{ℕ, List, ◌++◌}
use Rattle.lmn_base.specs.declared.guard.Cond.{Cond}
use Rattle.lmn_store_heap.specs.Heap.{Heap, IsMemInPlace}
use Rattle.lmn_store_heap.specs.Sound.{Valid}
use Rattle.lmn_solid_heads.specs.declared.items.HeadItem.{HeadItem}
use Rattle.lmn_solid_heads.specs.Embeddings.{IsLeast}
use Rattle.lmn_instr_code.specs.Running.{IsFirstSuccess}
use Rattle.lmn_instr_code.specs.HeadCode.{head_code}
use Rattle.lmn_compile_head.specs.Laws.{HeadMeetsHeap}
use Rattle.lmn_solid_bodies.specs.declared.items.BodyItem.{BodyItem}
use Rattle.lmn_solid_bodies.specs.Code.{body_code}
use Rattle.lmn_solid_bodies.specs.Fired.{images_of}
use Rattle.lmn_solid_bodies.specs.Names.{Names}
use Rattle.lmn_solid_bodies.specs.Rules.{NestedRule, PartAtoms}
use Rattle.lmn_solid_bodies.specs.Running.{Registers, RunsBody}
use Rattle.lmn_solid_bodies.specs.Within.{FiresWithin, HoldsRests}
use Rattle.lmn_base.specs.Graphs.{Port}

-- Where the code of a head first succeeds in a membrane, its head embeds there at the least positions, and the code of the
-- body, run with the same registers that hold its rests, fires the rule.
abbrev pub CodeFires : Type 0
CodeFires = (head : List HeadItem) (guard : List Cond) (body : List BodyItem) (n : ℕ) → NestedRule head body n →
    (h : Heap) → HeadMeetsHeap h head guard → (m : ℕ) → IsMemInPlace h m → (r : Registers) → IsFirstSuccess h (head_code head guard) m r.head →
    HoldsRests h r head → (c : Port → ℕ) → Names h c → (h' : Heap) → RunsBody r (body_code head body n) h h' →
    IsLeast h head guard m r.head.images
    × ((ps : List ℕ) × PartAtoms h head r.head.images ps × Valid h' × FiresWithin h c r head body (images_of r head ++ ps) h')
