-- A small count.
use Rattle.std.specs.Prelude.{◌≡◌, [], ◌∷◌}
use Rattle.lmn_store_heap.specs.Examples.{across, functor_a, functor_b}
use Rattle.lmn_debug_counting.specs.Counts.{count_in}

-- Of `{a(X)}, b(X)` each functor stands once in the root and the membrane in it; in the root alone `a` doesn't stand.
abbrev pub CountsAtEachDepth : Type 0
CountsAtEachDepth = (count_in across functor_a (0 ∷ 1 ∷ []) ≡ 1) × (count_in across functor_b (0 ∷ 1 ∷ []) ≡ 1) × (¬ (count_in across functor_a (0 ∷ []) ≡ 1))
