-- When the guard of a rule holds for parts of a heap.
use Rattle.std.specs.Prelude.{ℕ, ℤ, ◌≡◌, ◌+◌, ◌==◌, List, [], ◌∷◌, Option, Some, None, if◌then◌else◌}
use Rattle.lmn_base.specs.declared.functor.Functor.{Functor}
use Rattle.lmn_base.specs.declared.functor.Label.{Label}
use Rattle.lmn_base.specs.declared.functor.Label.TheVariants.{Name, Int as Integer}
use Rattle.lmn_base.specs.declared.functor.TheConstants.{INT_NAME, UNARY_NAME, GROUND_NAME}
use Rattle.lmn_base.specs.declared.level.CtxUse.{CtxUse}
use Rattle.lmn_base.specs.declared.guard.Cond.{Cond}
use Rattle.lmn_base.specs.declared.guard.Cond.TheVariants.{Kind, Compare, Equal, Differ}
use Rattle.lmn_base.specs.declared.guard.Expr.{Expr}
use Rattle.lmn_base.specs.declared.guard.Expr.TheVariants as expr
use Rattle.lmn_base.specs.Graphs.{SameGraph, Port}
use Rattle.lmn_store_heap.specs.Heap.{Heap, functor_of}
use Rattle.lmn_store_heap.specs.Graphs.{atom_map}
use Rattle.lmn_guards.specs.Values.{value, Stand}
use Rattle.lmn_guards.specs.declared.plan.TypeKind.{TypeKind}
use Rattle.lmn_guards.specs.declared.plan.TypeKind.TheVariants.{Int, Unary, Ground}
use Rattle.lmn_solid_heads.specs.Heads.{HeadTyped}

-- the integer of an atom of arity 1
abbrev pub integer_by : Label → ℕ → Option ℤ
integer_by (Name n) arity = None
integer_by (Integer z) arity = if arity == 1 then Some z else None

-- and that of its functor
abbrev pub integer_of_functor : Option Functor → Option ℤ
integer_of_functor None = None
integer_of_functor (Some f) = integer_by f.label f.arity

-- the integer that a part is, if it is one
abbrev pub integer_at : Heap → Port → Option ℤ
integer_at h p = integer_of_functor (functor_of h p.0)

-- a part is entered at an atom of arity 1
abbrev pub IsUnaryPart : Heap → Port → Type 0
IsUnaryPart h p = (f : Functor) × (functor_of h p.0 ≡ Some f) × (f.arity ≡ 1)

-- The part entered at a port is of a kind. That a ground part stands whole is said elsewhere.
abbrev pub IsOfKindAt : Heap → TypeKind → Port → Type 0
IsOfKindAt h Int p = (z : ℤ) × (integer_at h p ≡ Some z)
IsOfKindAt h Unary p = IsUnaryPart h p
IsOfKindAt h Ground p = Unit {0}

-- What a name stands for: the part of a typed context of the head, or the integer to which the guard binds it.
--   part_of   the port at which the part is entered
--   bound_to  the integer
pub record Meaning : Type 0 where
  pub part_of : ℕ → Option Port
  pub bound_to : ℕ → Option ℤ

-- the integer of a part, or the one that is bound
abbrev pub integer_or : Heap → Option Port → Option ℤ → Option ℤ
integer_or h (Some p) bound = integer_at h p
integer_or h None bound = bound

-- the integer of a name
abbrev pub integer_named : Heap → Meaning → ℕ → Option ℤ
integer_named h s x = integer_or h (s.part_of x) (s.bound_to x)

-- a name is bound to an integer
abbrev pub bind : Meaning → ℕ → ℤ → Meaning
bind s x z = record s { bound_to = λ y. if y == x then Some z else s.bound_to y }

-- there is a part, and this holds of it
abbrev pub with_part : Option Port → (Port → Type 0) → Type 0
with_part None P = ⊥
with_part (Some p) P = P p

-- the kind that a condition's name asks
abbrev pub kind_named : ℕ → Option TypeKind
kind_named n =
    if n == INT_NAME then Some Int
    else if n == UNARY_NAME then Some Unary
    else if n == GROUND_NAME then Some Ground
    else None

-- a part is of a kind, where there is one
abbrev pub KindHolds : Heap → Option TypeKind → Port → Type 0
KindHolds h None p = ⊥
KindHolds h (Some kind) p = IsOfKindAt h kind p

-- a condition on a type holds: it has one context, and the part of that is of the kind
abbrev pub TypeHolds : Heap → Meaning → ℕ → List CtxUse → Type 0
TypeHolds h s n [] = ⊥
TypeHolds h s n (u ∷ []) = with_part (s.part_of u.name) (KindHolds h (kind_named n))
TypeHolds h s n (u ∷ (v ∷ us)) = ⊥

-- the context that an expression is
abbrev pub context_alone : Expr → Option ℕ
context_alone (expr.Int z) = None
context_alone (expr.Ctx u) = Some u.name
context_alone (expr.Op' op p l q r) = None

-- the part for which that context stands
abbrev pub part_alone : Meaning → Option ℕ → Option Port
part_alone s None = None
part_alone s (Some x) = s.part_of x

-- `$x = E`: the left side is no context of the head, and is bound to the value of E before what follows; or both
-- sides are contexts of the head and their parts are equal
abbrev pub EqualHolds : Heap → Meaning → Option Port → Option Port → ℕ → Option ℤ → (Meaning → Type 0) → Type 0
EqualHolds h s (Some p) (Some q) x z Rest = SameGraph (atom_map h) p (atom_map h) q × Rest s
EqualHolds h s (Some p) None x z Rest = ⊥
EqualHolds h s None right x None Rest = ⊥
EqualHolds h s None right x (Some z) Rest = Rest (bind s x z)

-- Every condition of the guard holds, from left to right. The parts are taken to stand whole.
abbrev pub HoldsOnHeap : Heap → Meaning → List Cond → Type 0
HoldsOnHeap h s [] = Unit {0}
HoldsOnHeap h s (Kind n args pos ∷ cs) = TypeHolds h s n args × HoldsOnHeap h s cs
HoldsOnHeap h s (Compare op left right pos ∷ cs) =
    ((m n : ℤ) × (value (integer_named h s) left ≡ Some m) × (value (integer_named h s) right ≡ Some n) × Stand op m n) × HoldsOnHeap h s cs
HoldsOnHeap h s (Equal left right pos ∷ cs) =
    EqualHolds h s (s.part_of left.name) (part_alone s (context_alone right)) left.name (value (integer_named h s) right) (λ s'. HoldsOnHeap h s' cs)
HoldsOnHeap h s (Differ left right pos ∷ cs) =
    with_part (s.part_of left.name) (λ p. with_part (s.part_of right.name) (λ q.
    SameGraph (atom_map h) p (atom_map h) q → ⊥)) × HoldsOnHeap h s cs

-- the number, from n on, of the typed context with a name
abbrev pub typed_number : List HeadTyped → ℕ → ℕ → Option ℕ
typed_number [] n x = None
typed_number (t ∷ ts) n x = if t.name == x then Some n else typed_number ts (n + 1) x
