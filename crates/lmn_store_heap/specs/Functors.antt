-- The atoms of a list that have one functor.
use Rattle.std.specs.Prelude.{ℕ, Bool, false, ◌==◌, ◌&&◌, List, [], ◌∷◌, Option, Some, None, if◌then◌else◌}
use Rattle.std.specs.Ordering.{int_eq}
use Rattle.lmn_base.specs.declared.functor.Functor.{Functor}
use Rattle.lmn_base.specs.declared.functor.Label.{Label}
use Rattle.lmn_base.specs.declared.functor.Label.TheVariants.{Name, Int}
use Rattle.lmn_store_heap.specs.Heap.{Heap, functor_of}

-- the same name, or the same integer
abbrev pub same_label : Label → Label → Bool
same_label (Name m) (Name n) = m == n
same_label (Name n) (Int z) = false
same_label (Int z) (Name n) = false
same_label (Int y) (Int z) = int_eq y z

-- the same label and arity
abbrev pub same_functor : Functor → Functor → Bool
same_functor f g = same_label f.label g.label && (f.arity == g.arity)

-- there is a functor, and it is this one
abbrev pub is_of : Option Functor → Functor → Bool
is_of None f = false
is_of (Some g) f = same_functor g f

-- those of the list with the functor, in their order
abbrev pub with_functor : Heap → Functor → List ℕ → List ℕ
with_functor s f [] = []
with_functor s f (a ∷ xs) = if is_of (functor_of s a) f then a ∷ with_functor s f xs else with_functor s f xs
