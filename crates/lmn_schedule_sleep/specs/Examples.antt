-- What is quiet on a small heap, `{a(X)}, b(X)`: the root is the membrane 0, the membrane 1 has the atom 0, the root the atom 1.
use Rattle.std.specs.Prelude.{ℕ}
use Rattle.lmn_store_heap.specs.Heap.{Heap, IsMem, taken}
use Rattle.lmn_store_heap.specs.Examples.{across}
use Rattle.lmn_schedule_sleep.specs.Quiet.{SameButMarks, IsQuiet}

-- Where the marks of membranes alone change, every membrane is quiet.
abbrev pub MarksLeaveQuiet : Type 0
MarksLeaveQuiet = (h k : Heap) → SameButMarks h k → (m : ℕ) → IsMem h m → IsQuiet h k m

-- Where `a` is taken out of the membrane, neither this nor the root round it is quiet.
abbrev pub InnerIsTouched : Type 0
InnerIsTouched = (IsQuiet across (taken across 0) 1 → ⊥) × (IsQuiet across (taken across 0) 0 → ⊥)

-- Where `b` is taken out of the root, the root isn't quiet, and the membrane in it is: until `a` is joined otherwise.
abbrev pub OuterIsTouched : Type 0
OuterIsTouched = (IsQuiet across (taken across 1) 0 → ⊥) × IsQuiet across (taken across 1) 1
