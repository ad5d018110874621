-- What the names that a guard binds stand for.
use Rattle.std.specs.Prelude.{ℕ, ℤ, List, [], ◌∷◌, Option, Some, None}
use Rattle.lmn_base.specs.declared.guard.Cond.{Cond}
use Rattle.lmn_base.specs.declared.guard.Cond.TheVariants.{Kind, Compare, Equal, Differ}
use Rattle.lmn_guards.specs.Values.{value}
use Rattle.lmn_store_heap.specs.Heap.{Heap}
use Rattle.lmn_solid_heads.specs.Guards.{Meaning, bind, integer_named}
use Rattle.lmn_congruence.specs.Rules.{Name}
use Rattle.lmn_congruence.specs.Translation.{name_of}
use Rattle.lmn_reduction.specs.Parts.{Rooted, IsInteger}
use Rattle.lmn_base.specs.Graphs.{Port}

-- what a left side of `=` binds: nothing where it is a part of the head, and else its integer
abbrev pub BindsAt : List Name → (Name → Rooted) → Meaning → Option Port → ℕ → Option ℤ → (Meaning → Type 0) → Type 0
BindsAt names typed_of s (Some p) x z Rest = Rest s
BindsAt names typed_of s None x None Rest = Unit {0}
BindsAt names typed_of s None x (Some z) Rest = IsInteger z (typed_of (name_of names x)) × Rest (bind s x z)

-- each name that a guard binds on a heap is taken to its integer
abbrev pub Binds : Heap → List Name → (Name → Rooted) → Meaning → List Cond → Type 0
Binds h names typed_of s [] = Unit {0}
Binds h names typed_of s (Kind n args pos ∷ cs) = Binds h names typed_of s cs
Binds h names typed_of s (Compare op left right pos ∷ cs) = Binds h names typed_of s cs
Binds h names typed_of s (Equal left right pos ∷ cs) =
    BindsAt names typed_of s (s.part_of left.name) left.name (value (integer_named h s) right) (λ s'. Binds h names typed_of s' cs)
Binds h names typed_of s (Differ left right pos ∷ cs) = Binds h names typed_of s cs
