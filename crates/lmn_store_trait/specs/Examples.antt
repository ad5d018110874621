-- Which membranes are awake, by a small heap with the root 0 and in it the membrane 1.
use Rattle.std.specs.Prelude.{[], ◌∷◌}
use Rattle.lmn_store_heap.specs.Heap.{mem_marked}
use Rattle.lmn_store_heap.specs.Examples.{across}
use Rattle.lmn_store_trait.specs.Awake.{IsNextAwake, NoneAwake, asleep_mark}

-- While the root sleeps the next that is awake is the membrane in it, whose number is 1, and while both are awake it isn't.
abbrev pub InnerIsNext : Type 0
InnerIsNext = IsNextAwake (mem_marked across 0 asleep_mark) (0 ∷ 1 ∷ []) 0 1 1 × (IsNextAwake across (0 ∷ 1 ∷ []) 0 1 1 → ⊥)

-- While both sleep none is awake, and while the root alone does one is.
abbrev pub BothSleep : Type 0
BothSleep = NoneAwake (mem_marked (mem_marked across 0 asleep_mark) 1 asleep_mark) (0 ∷ 1 ∷ []) 0 2 × (NoneAwake (mem_marked across 0 asleep_mark) (0 ∷ 1 ∷ []) 0 2 → ⊥)
