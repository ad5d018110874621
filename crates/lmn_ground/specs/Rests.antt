-- Rests that are told by marks, and walks over them.
use Rattle.std.specs.Prelude.{zero, suc, ℕ, ◌≡◌, ◌==◌, not, List, [], ◌∷◌, Some}
use Rattle.lmn_base.specs.Lists.{In}
use Rattle.lmn_store_heap.specs.Heap.{Heap, IsMem, own_mark, marked, arity_of, parent_of}
use Rattle.lmn_ground_parts.specs.Rests.{IsRest}
use Rattle.lmn_ground_parts.specs.Walks.{is_in}

-- the numbers name membranes
abbrev pub AreMembranes : Heap → List ℕ → Type 0
AreMembranes s [] = Unit {0}
AreMembranes s (m ∷ ms) = IsMem s m × AreMembranes s ms

-- The rest of the membrane m: the atoms whose own mark is 0, and the membranes but those of `out`, with all that is in them.
abbrev pub IsLeft : Heap → ℕ → List ℕ → List ℕ → List ℕ → Type 0
IsLeft s m out atoms membranes = IsRest s m (λ a. own_mark s a == 0) (λ n. not (is_in out n)) atoms membranes

-- the own marks of these atoms are set, one after the other
abbrev pub own_marked : ℕ → List ℕ → Heap → Heap
own_marked v [] h = h
own_marked v (a ∷ xs) h = own_marked v xs (marked h a (arity_of h a) v)

-- the first mark of an atom with a port
abbrev pub port_marked : ℕ → ℕ → ℕ → Heap → Heap
port_marked zero v a h = h
port_marked (suc n) v a h = marked h a 0 v

-- The first marks of those of these atoms that have a port are set, one after the other.
abbrev pub ports_marked : ℕ → List ℕ → Heap → Heap
ports_marked v [] h = h
ports_marked v (a ∷ xs) h = ports_marked v xs (port_marked (arity_of h a) v a h)

-- The twins of these membranes stand in one another as the membranes do; each of them stands in m or in one of them.
abbrev pub AreTwins : Heap → ℕ → (ℕ → ℕ) → List ℕ → Type 0
AreTwins s m twin ms = (x : ℕ) → In x ms → (p : ℕ) × (parent_of s x ≡ Some p) × In p (m ∷ ms) × (parent_of s (twin x) ≡ Some (twin p))
