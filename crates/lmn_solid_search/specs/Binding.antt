-- What names stand for behind the conditions of a guard.
use Rattle.std.specs.Prelude.{ℕ, ℤ, List, [], ◌∷◌, Option, Some, None}
use Rattle.lmn_base.specs.declared.guard.Cond.{Cond}
use Rattle.lmn_base.specs.declared.guard.Cond.TheVariants.{Kind, Compare, Equal, Differ}
use Rattle.lmn_base.specs.Graphs.{Port}
use Rattle.lmn_guards.specs.Values.{value}
use Rattle.lmn_store_heap.specs.Heap.{Heap}
use Rattle.lmn_solid_heads.specs.Guards.{Meaning, integer_named, bind}

-- a name that stands for no part is bound to a value
abbrev pub bound_unless : Meaning → Option Port → ℕ → Option ℤ → Meaning
bound_unless s (Some p) x z = s
bound_unless s None x None = s
bound_unless s None x (Some z) = bind s x z

-- `$x = E` binds the name on its left, where it stands for no part; no other condition binds one
abbrev pub after : Heap → Meaning → Cond → Meaning
after h s (Kind n args pos) = s
after h s (Compare op left right pos) = s
after h s (Equal left right pos) = bound_unless s (s.part_of left.name) left.name (value (integer_named h s) right)
after h s (Differ left right pos) = s

-- what names stand for behind a guard
abbrev pub after_all : Heap → Meaning → List Cond → Meaning
after_all h s [] = s
after_all h s (c ∷ cs) = after_all h (after h s c) cs
