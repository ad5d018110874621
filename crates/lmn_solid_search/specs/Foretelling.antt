-- What is known of integers before a placement is whole. Only private functions' contracts cite these words.
use Rattle.std.specs.Prelude.{ℕ, ℤ, ◌≡◌, ◌==◌, Bool, true, false, if◌then◌else◌, option_and_then, position, List, [], ◌∷◌, Option, Some, None, is_some, length, slice_get}
use Rattle.lmn_base.specs.declared.guard.Cond.{Cond}
use Rattle.lmn_base.specs.declared.guard.Expr.{Expr}
use Rattle.lmn_base.specs.declared.guard.Expr.TheVariants.{Int, Ctx, Op'}
use Rattle.lmn_guards.specs.Values.{value, value_beside}
use Rattle.lmn_store_heap.specs.Heap.{Heap}
use Rattle.lmn_solid_heads.specs.Guards.{Meaning, EqualHolds, HoldsOnHeap, context_alone, integer_named, part_alone}
use Rattle.lmn_solid_search.specs.Binding.{after, bound_unless}
use Rattle.lmn_solid_search.specs.Knowing.{Holds}
use Rattle.lmn_solid_search.specs.Meeting.{named_meaning}
use Rattle.lmn_solid_search.specs.Parting.{AreTaken}
use Rattle.lmn_solid_search.specs.Reasoning.{SameImages, Within}
use Rattle.lmn_solid_search.specs.declared.early.Early.{Early}
use Rattle.lmn_solid_search.specs.declared.head.Head.{Head}
use Rattle.lmn_solid_search.specs.declared.head.TypedItem.{TypedItem}
use Rattle.lmn_solid_search.specs.declared.numbers.Numbers.{Numbers}
use Rattle.lmn_solid_search.specs.declared.numbers.Numbers.TheVariants.{All}
use Rattle.lmn_solid_search.specs.declared.parts.Part.{Part}
use Rattle.lmn_solid_search.specs.declared.placed.Placed.{Placed}

-- the numbers that stand at the place of a name, and all where it has none
abbrev pub or_all : Option Numbers → Numbers
or_all None = All
or_all (Some e) = e

abbrev pub rests_beside : List ℕ → List Numbers → ℕ → Numbers
rests_beside names rests x = or_all (option_and_then (slice_get rests) (position (λ m. m == x) names))

-- on which images the integer of a name rests, by a table
abbrev pub on_name : Early → ℕ → Numbers
on_name k = rests_beside k.names.items k.rests.items

-- each name in an expression rests on no others than these
abbrev pub RestsOn : (ℕ → Numbers) → Expr → Numbers → Type 0
RestsOn on (Int z) e = Unit {0}
RestsOn on (Ctx u) e = Within (on u.name) e
RestsOn on (Op' op p left q right) e = RestsOn on left e × RestsOn on right e

-- An integer of a table is that of its name in each placement that has the images on which it rests.
--   images   the images for which the table was made
--   others   those of the placement
--   given    the integers of names there
abbrev pub Foretells : Early → List ℕ → List ℕ → (ℕ → Option ℤ) → Type 0
Foretells k images others given = (x : ℕ) (z : ℤ) → value_beside k.names.items k.values.items x ≡ Some z → SameImages (on_name k x) images others → given x ≡ Some z

-- a typed context has the name
abbrev pub is_name : List TypedItem → ℕ → Bool
is_name [] x = false
is_name (t ∷ typed) x = if t.name == x then true else is_name typed x

-- the names of typed contexts stand for parts, and no others
abbrev pub NamesParts : List TypedItem → Meaning → Type 0
NamesParts typed s = (x : ℕ) → is_some (s.part_of x) ≡ is_name typed x

-- by a table, a condition holds in no placement where the images are the same on which this rests
abbrev pub RefusesCondition : Early → List TypedItem → Cond → Numbers → Type 0
RefusesCondition k typed c e = (h : Heap) (s : Meaning) (images others : List ℕ) → NamesParts typed s → Foretells k images others (integer_named h s) → SameImages e images others → Holds h s c → ⊥

-- a table foretells behind a condition what another one foretold before it
abbrev pub ForetellsBehind : Early → Early → List TypedItem → Cond → Type 0
ForetellsBehind k k' typed c = (h : Heap) (s : Meaning) (images others : List ℕ) → NamesParts typed s → Foretells k images others (integer_named h s) → Holds h s c → Foretells k' images others (integer_named h (after h s c))

-- the same of `$x = E`
abbrev pub ForetellsEqual : Early → Early → List TypedItem → ℕ → Expr → Type 0
ForetellsEqual k k' typed x right = (h : Heap) (s : Meaning) (images others : List ℕ) → NamesParts typed s → Foretells k images others (integer_named h s)
    → EqualHolds h s (s.part_of x) (part_alone s (context_alone right)) x (value (integer_named h s) right) (λ s'. Unit {0})
    → Foretells k' images others (integer_named h (bound_unless s (s.part_of x) x (value (integer_named h s) right)))

-- the same of a guard
abbrev pub RefusesGuard : Early → List TypedItem → List Cond → Numbers → Type 0
RefusesGuard k typed guard e = (h : Heap) (s : Meaning) (images others : List ℕ) → NamesParts typed s → Foretells k images others (integer_named h s) → SameImages e images others → HoldsOnHeap h s guard → ⊥

-- conditions of a guard were asked and these are left; a table foretells what names stand for behind the others
pub record Asked (k : Early) (h : Heap) (images others : List ℕ) (typed : List TypedItem) (left : List Cond) : Type 0 where
  pub now : Meaning
  pub names : NamesParts typed now
  pub foretold : Foretells k images others (integer_named h now)
  pub holds : HoldsOnHeap h now left

-- they were asked of a guard, from a table on
abbrev pub AsksOn : Early → Early → List TypedItem → List Cond → List Cond → Type 0
AsksOn k k' typed guard left = (h : Heap) (s : Meaning) (images others : List ℕ) → NamesParts typed s → Foretells k images others (integer_named h s) → HoldsOnHeap h s guard → Asked k' h images others typed left

-- a head has no parts in a placement that has these images where a failure rests on them
abbrev pub RefusesParts : Heap → Head → List ℕ → Numbers → Type 0
RefusesParts h head images e = (r : Placed) (parts : List Part) → SameImages e images r.atoms → AreTaken h head.atoms r head.typed parts (length head.typed) → ⊥

-- a table foretells the integers of parts
abbrev pub ForetellsParts : Early → Heap → Head → List ℕ → Type 0
ForetellsParts k h head images = (r : Placed) (parts : List Part) → AreTaken h head.atoms r head.typed parts (length head.typed) → Foretells k images r.atoms (integer_named h (named_meaning head.typed parts))
