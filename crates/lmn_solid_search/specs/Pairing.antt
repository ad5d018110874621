-- Atoms of two parts in pairs, as a comparison of the parts makes them. Only private functions' contracts cite these words.
use Rattle.std.specs.Prelude.{ℕ, ◌≡◌, ◌≢◌, ◌<◌, ◌≤◌, ◌+◌, ◌⊎◌, Bool, true, false, List, [], ◌∷◌, ◌++◌, Option, Some, length, slice_get, slice_set}
use Rattle.lmn_base.specs.Graphs.{Reached, SameGraph, Port}
use Rattle.lmn_store_heap.specs.Heap.{Heap, functor_of, arity_of, link_of}
use Rattle.lmn_store_heap.specs.Graphs.{atom_map}
use Rattle.lmn_solid_search.specs.Walking.{unmarked, HasPlaces}
use Rattle.lmn_solid_search.specs.declared.pairs.Pairs.{Pairs}

-- marks tell where each number stands in a list
pub record Numbers (marks : List (Option ℕ)) (xs : List ℕ) : Type 0 where
  pub marked : (a n : ℕ) → slice_get xs n ≡ Some a → slice_get marks a ≡ Some (Some n)
  pub listed : (a n : ℕ) → slice_get marks a ≡ Some (Some n) → slice_get xs n ≡ Some a
  pub total : unmarked marks + length xs ≡ length marks

-- pair number n
abbrev pub IsPair : Pairs → ℕ → ℕ → ℕ → Type 0
IsPair p n a b = (slice_get p.lefts n ≡ Some a) × (slice_get p.rights n ≡ Some b)

-- no number stands in two pairs, and the marks tell in which it stands
pub record AreTwins (p : Pairs) : Type 0 where
  pub left : Numbers p.forth p.lefts
  pub right : Numbers p.back p.rights
  pub long : length p.lefts ≡ length p.rights

-- one of two numbers stands in a pair with another one
abbrev pub Clash : Pairs → ℕ → ℕ → Type 0
Clash p c d = (n : ℕ) × (a : ℕ) × (b : ℕ) × IsPair p n a b × (((a ≡ c) × (b ≢ d)) ⊎ ((a ≢ c) × (b ≡ d)))

-- the last pair was added
pub record Adds (p : Pairs) (c d : ℕ) (q : Pairs) : Type 0 where
  pub lefts : q.lefts ≡ p.lefts ++ c ∷ []
  pub rights : q.rights ≡ p.rights ++ d ∷ []
  pub forth : q.forth ≡ slice_set p.forth c (Some (length p.lefts))
  pub back : q.back ≡ slice_set p.back d (Some (length p.lefts))

-- two numbers are made a pair, or can't be one
pub record Joins (p : Pairs) (c d : ℕ) (q : Pairs) (made : Bool) : Type 0 where
  pub twins : AreTwins q
  pub front : (n a b : ℕ) → IsPair p n a b → IsPair q n a b
  pub new : (n a b : ℕ) → IsPair q n a b → IsPair p n a b ⊎ ((a ≡ c) × (b ≡ d))
  pub longer : length p.lefts ≤ length q.lefts
  pub yes : made ≡ true → (n : ℕ) × IsPair q n c d
  pub not_made : made ≡ false → Clash p c d

-- Port i of two atoms in a pair: both are the roots, or both lead to atoms in a pair, to the same port.
abbrev pub Agree : Heap → Port → Port → Pairs → ℕ → ℕ → ℕ → Type 0
Agree h x y p a b i = (◌≡◌ {A = ℕ × ℕ} (a, i) x × ◌≡◌ {A = ℕ × ℕ} (b, i) y)
    ⊎ (◌≢◌ {A = ℕ × ℕ} (a, i) x × ◌≢◌ {A = ℕ × ℕ} (b, i) y
    × ((j : ℕ) × (c : ℕ) × (d : ℕ) × (n : ℕ) × (link_of h a i ≡ Some (c, j)) × (link_of h b i ≡ Some (d, j)) × IsPair p n c d))

-- The parts with the roots x and y are compared; the atoms of the first k pairs agree. Where the parts are equal, the
-- pairs are those of the map that shows it.
pub record Comparing (h : Heap) (x y : Port) (p : Pairs) (k : ℕ) : Type 0 where
  pub twins : AreTwins p
  pub within : k ≤ length p.lefts
  pub left : (n a b : ℕ) → IsPair p n a b → Reached (atom_map h) x a
  pub right : (n a b : ℕ) → IsPair p n a b → Reached (atom_map h) y b
  pub first : IsPair p 0 x.0 y.0
  pub functors : (n a b : ℕ) → n < k → IsPair p n a b → functor_of h b ≡ functor_of h a
  pub agree : (n a b i : ℕ) → n < k → IsPair p n a b → i < arity_of h a → Agree h x y p a b i
  pub like : (g : SameGraph (atom_map h) x (atom_map h) y) (n a b : ℕ) → IsPair p n a b → g.to a ≡ b

-- the same, and of pair number k the first i ports agree
pub record ComparingAt (h : Heap) (x y : Port) (p : Pairs) (k a b i : ℕ) : Type 0 where
  pub comparing : Comparing h x y p k
  pub at : IsPair p k a b
  pub functor : functor_of h b ≡ functor_of h a
  pub before : (j : ℕ) → j < i → Agree h x y p a b j

-- each atom has its places
abbrev pub HavePlaces : Heap → Pairs → Type 0
HavePlaces h p = HasPlaces h p.forth × HasPlaces h p.back

-- as many places stay
abbrev pub SameLengths : Pairs → Pairs → Type 0
SameLengths p q = (length q.forth ≡ length p.forth) × (length q.back ≡ length p.back)

-- what an answer says of two parts: they are still alike, or they are not equal
abbrev pub Tells : Bool → Type 0 → Type 0 → Type 0
Tells same Alike Equal = (same ≡ true → Alike) × (same ≡ false → Equal → ⊥)
