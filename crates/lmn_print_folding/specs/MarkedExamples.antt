-- Own marks of the atoms of two small heaps.
use Rattle.std.specs.Prelude.{ℕ}
use Rattle.lmn_base.specs.declared.functor.Functor.{Functor}
use Rattle.lmn_base.specs.declared.functor.Label.TheVariants.{Name}
use Rattle.lmn_store_heap.specs.Examples.{functor_a, functor_b}
use Rattle.lmn_store_heap.specs.Heap.{Heap, arity_of, joined, lone_root, made_atom, marked, placed}
use Rattle.lmn_print_folding.specs.Children.{IsMarkedIn}

-- the atoms 0 and 1 in the root, with these functors, and not joined
abbrev two_atoms : Functor → Functor → Heap
two_atoms f g = placed (placed (made_atom (made_atom lone_root 0 f) 1 g) 0 0) 0 1

-- with these own marks
abbrev with_own_marks : Heap → ℕ → ℕ → Heap
with_own_marks s v w = marked (marked s 0 (arity_of s 0) v) 1 (arity_of s 1) w

-- `a(X), b(X)`: of the two the later one is the child.
abbrev pub marked_last_ports : ℕ → ℕ → Heap
marked_last_ports v w = with_own_marks (joined (two_atoms functor_a functor_b) 0 0 1 0) v w

-- So the first one is an item, and the other descends from it,
abbrev pub TermIsMarked : Type 0
TermIsMarked = IsMarkedIn (marked_last_ports 1 3) 0

-- and is no item: neither one that is no child,
abbrev pub ChildIsNoFirstItem : Type 0
ChildIsNoFirstItem = IsMarkedIn (marked_last_ports 1 1) 0 → ⊥

-- nor a later one.
abbrev pub TermIsNoLaterItem : Type 0
TermIsNoLaterItem = IsMarkedIn (marked_last_ports 1 2) 0 → ⊥

-- two names with two links
abbrev c : Functor
c = record { label = Name 8; arity = 2 }

abbrev d : Functor
d = record { label = Name 9; arity = 2 }

-- `c(X,Y), d(Y,X)`: each is a child of the other.
abbrev pub marked_circle : ℕ → ℕ → Heap
marked_circle v w = with_own_marks (joined (joined (two_atoms c d) 0 0 1 1) 0 1 1 0) v w

-- The first one is the item,
abbrev pub LaterItemIsMarked : Type 0
LaterItemIsMarked = IsMarkedIn (marked_circle 2 3) 0

-- and not the other: an item is chosen before what descends from it is asked.
abbrev pub TermIsNotBeforeItsItem : Type 0
TermIsNotBeforeItsItem = IsMarkedIn (marked_circle 3 2) 0 → ⊥
