-- The law of what a rule wakes.
use Rattle.std.specs.Prelude.{ℕ, List}
use Rattle.lmn_store_heap.specs.Heap.{Heap, IsMemInPlace}
use Rattle.lmn_store_heap.specs.Sound.{Valid}
use Rattle.lmn_solid_heads.specs.declared.items.HeadItem.{HeadItem}
use Rattle.lmn_solid_heads.specs.Embeddings.{Lies}
use Rattle.lmn_solid_bodies.specs.declared.items.BodyItem.{BodyItem}
use Rattle.lmn_solid_bodies.specs.Code.{body_code}
use Rattle.lmn_solid_bodies.specs.Rules.{NestedRule}
use Rattle.lmn_solid_bodies.specs.Running.{Registers}
use Rattle.lmn_solid_bodies.specs.Within.{HoldsRests}
use Rattle.lmn_machine_commit.specs.Waking.{Commits}
use Rattle.lmn_schedule_sleep.specs.Quiet.{Wakes}

-- The code of the body of a rule, committed where its head lies, wakes what it touches: each membrane that isn't quiet, and besides that
-- of the rule and those round it. Every other membrane keeps its mark.
abbrev pub RulesWakeTouched : Type 0
RulesWakeTouched = (head : List HeadItem) (body : List BodyItem) (links : ℕ) → NestedRule head body links →
    (h : Heap) → Valid h → (m : ℕ) → IsMemInPlace h m → (r : Registers) → Lies h head m r.head.images → HoldsRests h r head →
    (z : Heap) → Commits h r (body_code head body links) z → Wakes h z m
