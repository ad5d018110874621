-- A small heap with rests.
use Rattle.std.specs.Prelude.{[], ◌∷◌}
use Rattle.lmn_base.specs.declared.functor.Functor.{Functor}
use Rattle.lmn_base.specs.declared.functor.Label.TheVariants.{Name}
use Rattle.lmn_store_heap.specs.Heap.{Heap, lone_root, made_atom, made_mem, placed, placed_mem, joined}
use Rattle.lmn_ground_parts.specs.Rests.{IsContent, NoneLeaves}

-- a functor of arity 1
abbrev pub unary : Functor
unary = record { label = Name 4; arity = 1 }

-- `{a(X), {a(X)}}`: membrane 1 with atom 0 and membrane 2, which has atom 1
abbrev pub nested : Heap
nested = joined (placed (placed (made_atom (made_atom (placed_mem (made_mem (placed_mem (made_mem lone_root 1) 0 1) 2) 1 2) 0 unary) 1 unary) 1 0) 2 1) 0 0 1 0

-- What is in membrane 1 is atom 0, and then atom 1 of membrane 2. The link stays in it, and leaves membrane 2.
pub record RestsStand : Type 0 where
  pub whole : IsContent nested 1 (0 ∷ 1 ∷ []) (2 ∷ [])
  pub inner : IsContent nested 2 (1 ∷ []) []
  pub other_order : IsContent nested 1 (1 ∷ 0 ∷ []) (2 ∷ []) → ⊥
  pub stays : NoneLeaves nested (0 ∷ 1 ∷ [])
  pub leaves : NoneLeaves nested (1 ∷ []) → ⊥
