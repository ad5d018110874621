-- What is said of the solid of each heap.
use Rattle.std.specs.Prelude.{◌≡◌}
use Rattle.lmn_base.specs.declared.solid.Solid.{Solid}
use Rattle.lmn_base.specs.Solids.{IsSolid}
use Rattle.lmn_store_heap.specs.Heap.{Heap}
use Rattle.lmn_store_heap.specs.Solid.{HasSolid}
use Rattle.lmn_store_heap.specs.Sound.{Valid}

-- Each valid heap has a solid.
abbrev pub HeapsHaveSolids : Type 0
HeapsHaveSolids = (s : Heap) → Valid s → (x : Solid) × HasSolid s x

-- It has no other.
abbrev pub OneSolid : Type 0
OneSolid = (s : Heap) (x y : Solid) → Valid s → HasSolid s x → HasSolid s y → x ≡ y

-- It is like every solid: each link stands in two places, each atom has its links, and none is a connector.
abbrev pub HeapSolidsAreSolids : Type 0
HeapSolidsAreSolids = (s : Heap) (x : Solid) → Valid s → HasSolid s x → IsSolid x
