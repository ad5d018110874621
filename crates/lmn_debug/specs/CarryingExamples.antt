-- What small scripts write.
use Rattle.std.specs.Prelude.{ℕ, List, [], ◌∷◌, codes}
use Rattle.lmn_base.specs.declared.guard.Cmp.TheVariants.{Eq}
use Rattle.lmn_debug.specs.Examples.{functor_a, growing_course, names_a}
use Rattle.lmn_debug_script.specs.declared.order.Order.{Order}
use Rattle.lmn_debug_script.specs.declared.order.Order.TheVariants.{Step, Back, Until, Show}
use Rattle.lmn_debug.specs.Orders.{ObeyedAll, ObeyedSome, ObeyedUpTo}

-- what these orders write on `a. a :- a, a.` with the size 3, on which there is one commit
abbrev pub AllWritten : List Order → List ℕ → Type 0
AllWritten orders written = ObeyedAll names_a growing_course orders written

-- `show`, `step 2`, `back 9` and `until a/0 =:= 2` write the process, and where they stop. `back 9` leads to the number 0 and not to 1.
abbrev pub OrdersAreWritten : Type 0
OrdersAreWritten =
    AllWritten (Show ∷ Step 2 ∷ Back 9 ∷ Until functor_a Eq 2 ∷ []) (codes "a. (a :- a, a).\n% at 1 full\n% at 0\n% at 1 met\n")
    × (¬ (AllWritten (Back 9 ∷ []) (codes "% at 1\n")))

-- Where memory is wanting for `step 1`, the lines of the orders before it are written. It is never wanting for `show`, nor for `back` where
-- nothing was fired.
abbrev pub MemoryMayLack : Type 0
MemoryMayLack =
    ObeyedSome names_a growing_course (Back 9 ∷ Step 1 ∷ Show ∷ []) (codes "% at 0\n")
    × ((written : List ℕ) → ¬ (ObeyedSome names_a growing_course (Show ∷ []) written))
    × ((written : List ℕ) → ¬ (ObeyedSome names_a growing_course (Back 9 ∷ []) written))

-- Where the second line fails, both are due at most, and no other.
abbrev pub LinesMayFail : Type 0
LinesMayFail =
    ObeyedUpTo names_a growing_course (Back 9 ∷ Step 1 ∷ Show ∷ []) (codes "% at 0\n% at 1\n")
    × (¬ (ObeyedUpTo names_a growing_course (Back 9 ∷ []) (codes "% at 1\n")))
