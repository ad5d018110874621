-- A part of two atoms and its copy, in a small heap.
use Rattle.std.specs.Prelude.{[], ◌∷◌}
use Rattle.lmn_base.specs.declared.functor.Functor.{Functor}
use Rattle.lmn_base.specs.declared.functor.Label.TheVariants.{Name}
use Rattle.lmn_store_heap.specs.Heap.{Heap, lone_root, made_atom, placed, joined}
use Rattle.lmn_ground_parts.specs.Copies.{copied}
use Rattle.lmn_solid_bodies.specs.Within.{IsCopyIn}

-- the functors a/1, f/2 and b/1
abbrev pub unary_a : Functor
unary_a = record { label = Name 4; arity = 1 }

abbrev pub binary_f : Functor
binary_f = record { label = Name 5; arity = 2 }

abbrev pub unary_b : Functor
unary_b = record { label = Name 6; arity = 1 }

-- the atoms 0, 1 and 2 of `a(X), f(X,Y), b(Y)` at the root
abbrev pub whole : Heap
whole = joined (joined (placed (placed (placed (made_atom (made_atom (made_atom lone_root 0 unary_a) 1 binary_f) 2 unary_b) 0 0) 0 1) 0 2) 0 0 1 0) 1 1 2 0

-- the part that `unary_a` holds is copied to the atoms 3 and 4
abbrev pub with_copy : Heap
with_copy = copied whole (1, 0) (1 ∷ 2 ∷ []) (3 ∷ 4 ∷ [])

-- The copy is `f(Z,W), b(W)`, in this order.
pub record PartHasCopy : Type 0 where
  pub is : IsCopyIn whole with_copy (1, 0) (3, 0) (3 ∷ 4 ∷ [])
  pub other_order : IsCopyIn whole with_copy (1, 0) (3, 0) (4 ∷ 3 ∷ []) → ⊥
  pub not_made : IsCopyIn whole whole (1, 0) (3, 0) (3 ∷ 4 ∷ []) → ⊥
