-- What holds of a heap at every moment, and what holds of it between commits.
use Rattle.std.specs.Prelude.{◌≡◌, ◌≢◌, ◌<◌, ◌≤◌, ℕ, ◌+◌, ◌↔◌, ◌⊎◌, List, [], ◌∷◌, ◌++◌, Some, IsSome, length, map, sum}
use Rattle.lmn_base.specs.declared.functor.Functor.{Functor}
use Rattle.lmn_base.specs.Solids.{connector}
use Rattle.lmn_store_heap.specs.Heap.{Heap, top, within, waiting, IsAtom, IsMem, IsInPlace, functor_of, link_of, place_of, mem_place_of, parent_of, atoms_in, mems_in, rules_in, spare_of, arity_of, marks_of, Distinct}
use Rattle.lmn_base.specs.Lists.{In}

-- each port that has a partner is that partner's partner, and not its own
pub record Paired (s : Heap) : Type 0 where
  pub back : (a i b j : ℕ) → link_of s a i ≡ Some (b, j) → link_of s b j ≡ Some (a, i)
  pub apart : (a i : ℕ) → link_of s a i ≡ Some (a, i) → ⊥

-- each item stands in the list of its home, once, and in no other; the lines hold what waits
pub record Listed (s : Heap) : Type 0 where
  pub atoms : (m a : ℕ) → In a (atoms_in s m) ↔ (place_of s a ≡ Some (within m))
  pub atoms_once : (m : ℕ) → Distinct (atoms_in s m)
  pub mems : (m n : ℕ) → In n (mems_in s m) ↔ (mem_place_of s n ≡ Some (within m))
  pub mems_once : (m : ℕ) → Distinct (mems_in s m)
  pub new_atoms : (a : ℕ) → In a s.new_atoms ↔ (place_of s a ≡ Some waiting)
  pub new_atoms_once : Distinct s.new_atoms
  pub new_mems : (m : ℕ) → In m s.new_mems ↔ (mem_place_of s m ≡ Some waiting)
  pub new_mems_once : Distinct s.new_mems
  pub root : (m : ℕ) → (mem_place_of s m ≡ Some top) ↔ (m ≡ s.root)
  pub no_top : (a : ℕ) → place_of s a ≡ Some top → ⊥
  pub new_empty : (m : ℕ) → mem_place_of s m ≡ Some waiting → (atoms_in s m ≡ []) × (mems_in s m ≡ [])

-- an atom has as many ports as its functor says, and one mark more
pub record Shaped (s : Heap) : Type 0 where
  pub ports : (a : ℕ) (f : Functor) → functor_of s a ≡ Some f → arity_of s a ≡ f.arity
  pub marks : (a : ℕ) → IsAtom s a → length (marks_of (s.atoms a)) ≡ arity_of s a + 1

-- what holds at every moment
pub record Sound (s : Heap) : Type 0 where
  pub paired : Paired s
  pub listed : Listed s
  pub shaped : Shaped s

-- The tree of membranes, by their numbers: a first membrane with what is in it, and those after it.
pub data Forest : Type 0 where
  bare : Forest
  mem : ℕ → Forest → Forest → Forest

-- the membranes of a forest in preorder: each one, what is in it, and then those after it
abbrev pub flat : Forest → List ℕ
flat bare = []
flat (mem m inner rest) = m ∷ flat inner ++ flat rest

-- the forest of a list of membranes
abbrev pub Forms : Heap → Forest → List ℕ → Type 0
Forms s bare ms = ms ≡ []
Forms s (mem m inner rest) ms = (others : List ℕ) × (ms ≡ m ∷ others) × Forms s inner (mems_in s m) × Forms s rest others

-- how many items these membranes are and hold, without what is in membranes inside them
abbrev pub item_count_in : Heap → List ℕ → ℕ
item_count_in s ms = sum (map (λ m. 1 + length (atoms_in s m) + length (rules_in s m)) ms)

-- nothing is detached or taken
pub record AllInPlace (s : Heap) : Type 0 where
  pub atoms : (a : ℕ) → IsAtom s a → IsInPlace s a
  pub mems : (m : ℕ) → IsMem s m → (mem_place_of s m ≡ Some top) ⊎ IsSome (parent_of s m)

-- the tree of the root, with every membrane in it, once
pub record IsTree (s : Heap) (f : Forest) : Type 0 where
  pub forms : Forms s f (s.root ∷ [])
  pub once : Distinct (flat f)
  pub all : (m : ℕ) → IsMem s m → In m (flat f)

-- What holds between commits: nothing is detached or taken, each port has a partner, no atom in place is a
-- connector, and the membranes are a tree with the root at its top.
pub record Valid (s : Heap) : Type 0 where
  pub sound : Sound s
  pub settled : AllInPlace s
  pub full : (a i : ℕ) → i < arity_of s a → IsSome (link_of s a i)
  pub no_connector : (a : ℕ) → IsInPlace s a → functor_of s a ≢ Some connector
  pub tree : (f : Forest) × IsTree s f

-- The atoms and membranes that aren't freed, the rules and the spares are at most n together.
pub record AtMost (n : ℕ) (s : Heap) : Type 0 where
  pub atoms : List ℕ
  pub mems : List ℕ
  pub all_atoms : (a : ℕ) → IsAtom s a → In a atoms
  pub all_mems : (m : ℕ) → IsMem s m → In m mems
  pub few : length atoms + length mems + sum (map (λ m. length (rules_in s m)) mems) + sum (map (spare_of s) mems) ≤ n
