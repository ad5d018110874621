-- Tables of what names stand for, and single conditions. Only private functions' contracts cite these words.
use Rattle.std.specs.Prelude.{ℕ, ℤ, ◌≡◌, ◌==◌, ◌↔◌, if◌then◌else◌, option_and_then, List, [], ◌∷◌, Option, Some, None, drop}
use Rattle.lmn_base.specs.declared.guard.Cmp.{Cmp}
use Rattle.lmn_base.specs.declared.guard.Cond.{Cond}
use Rattle.lmn_base.specs.declared.guard.Expr.{Expr}
use Rattle.lmn_base.specs.declared.guard.Cond.TheVariants.{Kind, Compare, Equal, Differ}
use Rattle.lmn_base.specs.Graphs.{SameGraph, Port}
use Rattle.lmn_solid_tables.specs.Flats.{port_by}
use Rattle.lmn_guards.specs.Values.{value, value_beside, Stand}
use Rattle.lmn_store_heap.specs.Heap.{Heap, IsAtom}
use Rattle.lmn_store_heap.specs.Graphs.{atom_map}
use Rattle.lmn_solid_heads.specs.Guards.{Meaning, integer_at, integer_named, TypeHolds, EqualHolds, HoldsOnHeap, context_alone, part_alone, with_part}
use Rattle.lmn_solid_search.specs.Binding.{after_all}
use Rattle.lmn_solid_search.specs.declared.known.Named.{Named}
use Rattle.lmn_solid_search.specs.declared.known.Known.{Known}

-- the part of a name in a table: the first with that name
abbrev pub part_named : List Named → ℕ → Option Port
part_named [] x = None
part_named (p ∷ ps) x = if p.name == x then Some (port_by p.entry) else part_named ps x

-- a table tells what names stand for
pub record Knows (h : Heap) (k : Known) (s : Meaning) : Type 0 where
  pub part : (x : ℕ) → s.part_of x ≡ part_named k.parts x
  pub integer : (x : ℕ) → integer_named h s x ≡ value_beside k.names.items k.values.items x

-- each part is entered at an atom
abbrev pub AreParts : Heap → List Named → Type 0
AreParts h ps = (x : ℕ) (p : Port) → part_named ps x ≡ Some p → IsAtom h p.0

-- two expressions have values that stand in an order
abbrev pub Compares : (ℕ → Option ℤ) → Cmp → Expr → Expr → Type 0
Compares given op left right = (m n : ℤ) × (value given left ≡ Some m) × (value given right ≡ Some n) × Stand op m n

-- one condition holds
abbrev pub Holds : Heap → Meaning → Cond → Type 0
Holds h s (Kind n args pos) = TypeHolds h s n args
Holds h s (Compare op left right pos) = Compares (integer_named h s) op left right
Holds h s (Equal left right pos) =
    EqualHolds h s (s.part_of left.name) (part_alone s (context_alone right)) left.name (value (integer_named h s) right) (λ s'. Unit {0})
Holds h s (Differ left right pos) = with_part (s.part_of left.name) (λ p. with_part (s.part_of right.name) (λ q. SameGraph (atom_map h) p (atom_map h) q → ⊥))

-- the first i conditions of a guard hold, and the table tells what is left
pub record Guarding (h : Heap) (s : Meaning) (guard : List Cond) (k : Known) (i : ℕ) : Type 0 where
  pub now : Meaning
  pub known : Knows h k now
  pub left : HoldsOnHeap h now (drop i guard) ↔ HoldsOnHeap h s guard
  pub bound : after_all h now (drop i guard) ≡ after_all h s guard

-- the first of two ports, if there is one
abbrev pub or_else : Option Port → Option Port → Option Port
or_else None q = q
or_else (Some p) q = Some p

-- the integers in a table are those of its parts
abbrev pub KnowsIntegers : Heap → Known → Type 0
KnowsIntegers h k = (x : ℕ) → value_beside k.names.items k.values.items x ≡ option_and_then (integer_at h) (part_named k.parts x)
