-- Small heaps, and where small heads lie in them.
use Rattle.std.specs.Prelude.{ℕ, pos, true, false, List, [], ◌∷◌, Some, map, slice_get}
use Rattle.lmn_base.specs.declared.functor.Functor.{Functor}
use Rattle.lmn_base.specs.declared.functor.Label.TheVariants.{Name, Int}
use Rattle.lmn_base.specs.declared.guard.Cmp.TheVariants.{Lt}
use Rattle.lmn_base.specs.declared.guard.Cond.{Cond}
use Rattle.lmn_base.specs.declared.guard.Cond.TheVariants.{Compare}
use Rattle.lmn_base.specs.declared.guard.Expr.TheVariants as expr
use Rattle.lmn_base.specs.Graphs.{StandsWhole, SameGraph, Port}
use Rattle.lmn_store_heap.specs.Graphs.{atom_map}
use Rattle.lmn_store_heap.specs.Heap.{Heap, HeapAtom, HeapMem, Place, top, within}
use Rattle.lmn_guards.specs.declared.plan.TypeKind.TheVariants as kind
use Rattle.lmn_solid_heads.specs.declared.items.HeadItem.{HeadItem}
use Rattle.lmn_solid_heads.specs.declared.items.HeadItem.TheVariants.{Atom, Typed, Membrane}
use Rattle.lmn_solid_heads.specs.Embeddings.{Images, Lies, Embeds}
use Rattle.lmn_base.specs.SmallTexts.{somewhere}

-- ---- heaps: the atoms, and the membranes from the root on, each by its number

abbrev pub heap_with : List HeapAtom → List HeapMem → Heap
heap_with atoms mems = record { root = 0; atoms = slice_get atoms; mems = slice_get mems; new_atoms = []; new_mems = [] }

-- an atom of a membrane, its ports joined to these
abbrev pub atom_in : ℕ → Functor → List Port → HeapAtom
atom_in m f ports = record { functor = f; links = map Some ports; marks = []; place = within m }

abbrev pub membrane_at : Place → List ℕ → List ℕ → List ℕ → HeapMem
membrane_at p atoms mems rules = record { atoms = atoms; mems = mems; rules = rules; spare = 0; mark = 0; place = p }

-- functors by their arity
abbrev pub a_of_arity : ℕ → Functor
a_of_arity n = record { label = Name 4; arity = n }

abbrev pub b_of_arity : ℕ → Functor
b_of_arity n = record { label = Name 5; arity = n }

abbrev pub c_of_arity : ℕ → Functor
c_of_arity n = record { label = Name 6; arity = n }

abbrev pub integer : ℕ → Functor
integer n = record { label = Int (pos n); arity = 1 }

-- a head embeds in the root of a heap at some images, or at none
abbrev pub EmbedsInRoot : Heap → List HeadItem → List Cond → Type 0
EmbedsInRoot h items guard = (f : Images) × Embeds h items guard 0 f

-- ---- joined

-- the head `a(X), b(X)`
abbrev pub a_joined_to_b : List HeadItem
a_joined_to_b = Atom (a_of_arity 1) (0 ∷ []) 0 ∷ Atom (b_of_arity 1) (0 ∷ []) 0 ∷ []

-- lies in `a(X), b(X)`, and not in `a(X), b(Y), c(X,Y)`
abbrev pub a_with_b : Heap
a_with_b = heap_with (atom_in 0 (a_of_arity 1) ((1, 0) ∷ []) ∷ atom_in 0 (b_of_arity 1) ((0, 0) ∷ []) ∷ []) (membrane_at top (0 ∷ 1 ∷ []) [] [] ∷ [])

abbrev pub c_between : Heap
c_between = heap_with
    (atom_in 0 (a_of_arity 1) ((2, 0) ∷ []) ∷ atom_in 0 (b_of_arity 1) ((2, 1) ∷ []) ∷ atom_in 0 (c_of_arity 2) ((0, 0) ∷ (1, 0) ∷ []) ∷ [])
    (membrane_at top (0 ∷ 1 ∷ 2 ∷ []) [] [] ∷ [])

abbrev pub LinksJoin : Type 0
LinksJoin = EmbedsInRoot a_with_b a_joined_to_b [] × (¬ (EmbedsInRoot c_between a_joined_to_b []))

-- ---- outside

-- the head `{a(X)}, b(Y)` lies in `{a(X)}, b(X)`: two links of the head may be one link
abbrev pub a_apart_from_b : List HeadItem
a_apart_from_b = Membrane 0 false false false ∷ Atom (a_of_arity 1) (0 ∷ []) 1 ∷ Atom (b_of_arity 1) (1 ∷ []) 0 ∷ []

abbrev pub through_the_wall : Heap
through_the_wall = heap_with
    (atom_in 1 (a_of_arity 1) ((1, 0) ∷ []) ∷ atom_in 0 (b_of_arity 1) ((0, 0) ∷ []) ∷ [])
    (membrane_at top (1 ∷ []) (1 ∷ []) [] ∷ membrane_at (within 0) (0 ∷ []) [] [] ∷ [])

-- but the head `{a(X), b(Y)}` doesn't lie in `{a(X), b(X)}`: there X doesn't leave the membrane
abbrev pub a_beside_b : List HeadItem
a_beside_b = Membrane 0 false false false ∷ Atom (a_of_arity 1) (0 ∷ []) 1 ∷ Atom (b_of_arity 1) (1 ∷ []) 1 ∷ []

abbrev pub a_with_b_inside : Heap
a_with_b_inside = heap_with
    (atom_in 1 (a_of_arity 1) ((1, 0) ∷ []) ∷ atom_in 1 (b_of_arity 1) ((0, 0) ∷ []) ∷ [])
    (membrane_at top [] (1 ∷ []) [] ∷ membrane_at (within 0) (0 ∷ 1 ∷ []) [] [] ∷ [])

abbrev pub LinksLeave : Type 0
LinksLeave = EmbedsInRoot through_the_wall a_apart_from_b [] × (¬ (EmbedsInRoot a_with_b_inside a_beside_b []))

-- the items of that head lie there all the same: this is asked of a head that embeds alone
abbrev pub LinksMayStay : Type 0
LinksMayStay = ((f : Images) × Lies a_with_b_inside a_beside_b 0 f) × (¬ (EmbedsInRoot a_with_b_inside a_beside_b []))

-- ---- nothing else

-- The head `{a, $p, @r}` lies in `{a, b, T :- U}`. Without `$p` the membrane has an atom too many, without `@r` a rule.
abbrev pub a_in_membrane : HeadItem → List HeadItem
a_in_membrane m = m ∷ Atom (a_of_arity 0) [] 1 ∷ []

abbrev pub filled_membrane : Heap
filled_membrane = heap_with
    (atom_in 1 (a_of_arity 0) [] ∷ atom_in 1 (b_of_arity 0) [] ∷ [])
    (membrane_at top [] (1 ∷ []) [] ∷ membrane_at (within 0) (0 ∷ 1 ∷ []) [] (0 ∷ []) ∷ [])

abbrev pub ContextsTakeTheRest : Type 0
ContextsTakeTheRest =
    EmbedsInRoot filled_membrane (a_in_membrane (Membrane 0 true false true)) []
    × (¬ (EmbedsInRoot filled_membrane (a_in_membrane (Membrane 0 false false true)) []))
    × (¬ (EmbedsInRoot filled_membrane (a_in_membrane (Membrane 0 true false false)) []))

-- ---- a closed rest

-- The head `{$p[]}` embeds in `{a(X), b(X)}`, and not in `{a(X)}, b(X)`: there a link leaves the rest.
abbrev pub rest_in_membrane : List HeadItem
rest_in_membrane = Membrane 0 true true false ∷ []

abbrev pub ClosedRestsAreClosed : Type 0
ClosedRestsAreClosed = EmbedsInRoot a_with_b_inside rest_in_membrane [] × (¬ (EmbedsInRoot through_the_wall rest_in_membrane []))

-- ---- parts

-- the head `a($x,Z)` with a ground `$x`
abbrev pub a_of_ground : List HeadItem
a_of_ground = Atom (a_of_arity 2) (0 ∷ 1 ∷ []) 0 ∷ Typed 7 kind.Ground 0 0 ∷ []

-- In `a(X,Y), b(X,Y)` the part behind X comes back to `a_of_arity` by Y. It stands whole, but has an image in it.
abbrev pub joined_twice : Heap
joined_twice = heap_with
    (atom_in 0 (a_of_arity 2) ((1, 0) ∷ (1, 1) ∷ []) ∷ atom_in 0 (b_of_arity 2) ((0, 0) ∷ (0, 1) ∷ []) ∷ [])
    (membrane_at top (0 ∷ 1 ∷ []) [] [] ∷ [])

abbrev pub PartsHaveNoImage : Type 0
PartsHaveNoImage = StandsWhole (atom_map joined_twice) (1, 0) 0 × (¬ (EmbedsInRoot joined_twice a_of_ground []))

-- the head `a($x)` with `int($x)`, and the guard `$x < 3`
abbrev pub a_of_int : List HeadItem
a_of_int = Atom (a_of_arity 1) (0 ∷ []) 0 ∷ Typed 7 kind.Int 0 0 ∷ []

abbrev pub below_three : List Cond
below_three = Compare Lt (expr.Ctx (record { name = 7; closed = false; pos = somewhere })) (expr.Int (pos 3)) somewhere ∷ []

-- an integer beside `a_of_arity`, and in a membrane
abbrev pub a_with_number : ℕ → Heap
a_with_number n = heap_with (atom_in 0 (a_of_arity 1) ((1, 0) ∷ []) ∷ atom_in 0 (integer n) ((0, 0) ∷ []) ∷ []) (membrane_at top (0 ∷ 1 ∷ []) [] [] ∷ [])

abbrev pub integer_inside : Heap
integer_inside = heap_with
    (atom_in 0 (a_of_arity 1) ((1, 0) ∷ []) ∷ atom_in 1 (integer 2) ((0, 0) ∷ []) ∷ [])
    (membrane_at top (0 ∷ []) (1 ∷ []) [] ∷ membrane_at (within 0) (1 ∷ []) [] [] ∷ [])

-- The guard holds in `a(2)` and not in `a(5)`. In `a(X), {2(X)}` the part doesn't stand where it is written.
abbrev pub GuardsAskParts : Type 0
GuardsAskParts =
    EmbedsInRoot (a_with_number 2) a_of_int below_three
    × (¬ (EmbedsInRoot (a_with_number 5) a_of_int below_three))
    × (¬ (StandsWhole (atom_map integer_inside) (1, 0) 0)) × (¬ (EmbedsInRoot integer_inside a_of_int []))

-- ---- rooted graphs

-- `a(R,X,Y), b(X,Y)` and `a(R,X,Y), b(Y,X)`, both held by `c(R)`, which has the number 0
abbrev pub straight_heap : Heap
straight_heap = heap_with
    (atom_in 0 (c_of_arity 1) ((1, 0) ∷ []) ∷ atom_in 0 (a_of_arity 3) ((0, 0) ∷ (2, 0) ∷ (2, 1) ∷ []) ∷ atom_in 0 (b_of_arity 2) ((1, 1) ∷ (1, 2) ∷ []) ∷ [])
    (membrane_at top (0 ∷ 1 ∷ 2 ∷ []) [] [] ∷ [])

abbrev pub crossed_heap : Heap
crossed_heap = heap_with
    (atom_in 0 (c_of_arity 1) ((1, 0) ∷ []) ∷ atom_in 0 (a_of_arity 3) ((0, 0) ∷ (2, 1) ∷ (2, 0) ∷ []) ∷ atom_in 0 (b_of_arity 2) ((1, 2) ∷ (1, 1) ∷ []) ∷ [])
    (membrane_at top (0 ∷ 1 ∷ 2 ∷ []) [] [] ∷ [])

-- The part behind `c_of_arity` is the same graph as itself, and not as the one that joins other ports.
abbrev pub HeapPortsAreTold : Type 0
HeapPortsAreTold =
    SameGraph (atom_map straight_heap) (1, 0) (atom_map straight_heap) (1, 0)
    × (¬ (SameGraph (atom_map straight_heap) (1, 0) (atom_map crossed_heap) (1, 0)))
