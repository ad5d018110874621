-- What walks have found so far. Only private functions' contracts cite these words.
use Rattle.std.specs.Prelude.{ℕ, ◌≡◌, ◌≢◌, ◌<◌, ◌≤◌, ◌+◌, suc, List, [], ◌∷◌, Option, Some, None, length, slice_get, ◌⊎◌}
use Rattle.lmn_base.specs.Graphs.{Reached, StandsWhole, Port}
use Rattle.lmn_base.specs.Lists.{In}
use Rattle.lmn_store_heap.specs.Heap.{Heap, IsAtom, IsMem, home_of, link_of, mems_in}
use Rattle.lmn_store_heap.specs.Conditions.{Above}
use Rattle.lmn_store_heap.specs.Graphs.{atom_map}

-- a place has a number
abbrev pub IsMarked : List (Option ℕ) → ℕ → Type 0
IsMarked marks a = (n : ℕ) × (slice_get marks a ≡ Some (Some n))

-- how many places have none
abbrev pub unmarked : List (Option ℕ) → ℕ
unmarked [] = 0
unmarked (None ∷ marks) = suc (unmarked marks)
unmarked (Some n ∷ marks) = unmarked marks

-- marks and a list tell the same
pub record Tells (marks : List (Option ℕ)) (xs : List ℕ) : Type 0 where
  pub marked : (a : ℕ) → In a xs → IsMarked marks a
  pub listed : (a : ℕ) → IsMarked marks a → In a xs
  pub total : unmarked marks + length xs ≡ length marks

-- a number was added, unless it was in the list
pub record Notes (marks : List (Option ℕ)) (xs : List ℕ) (p : ℕ) (marks' : List (Option ℕ)) (xs' : List ℕ) : Type 0 where
  pub tells : Tells marks xs → Tells marks' xs'
  pub there : Tells marks xs → In p xs'
  pub front : (k a : ℕ) → slice_get xs k ≡ Some a → slice_get xs' k ≡ Some a
  pub kept : (a : ℕ) → In a xs → In a xs'
  pub new : (a : ℕ) → In a xs' → (a ≢ p) → In a xs
  pub longer : length xs ≤ length xs'

-- A walk from the numbers of which S holds to those that are next has found a list of numbers, and has gone on from
-- the first k of them. R holds of what it finds.
pub record Walking (S R : ℕ → Type 0) (Next : ℕ → ℕ → ℕ → Type 0) (marks : List (Option ℕ)) (xs : List ℕ) (k : ℕ) : Type 0 where
  pub tells : Tells marks xs
  pub within : k ≤ length xs
  pub right : (a : ℕ) → In a xs → R a
  pub started : (a : ℕ) → S a → In a xs
  pub done : (j a i b : ℕ) → j < k → slice_get xs j ≡ Some a → Next a i b → In b xs

-- it stands at one of them and has gone on by its first i ways
pub record WalkingAt (S R : ℕ → Type 0) (Next : ℕ → ℕ → ℕ → Type 0) (marks : List (Option ℕ)) (xs : List ℕ) (k a i : ℕ) : Type 0 where
  pub walking : Walking S R Next marks xs k
  pub at : slice_get xs k ≡ Some a
  pub before : (j b : ℕ) → j < i → Next a j b → In b xs

-- each atom of a heap has its place
abbrev pub HasPlaces : Heap → List (Option ℕ) → Type 0
HasPlaces h marks = (a : ℕ) → IsAtom h a → a < length marks

-- port i of an atom leads to an atom, otherwise than by the root
abbrev pub Leads : Heap → Port → ℕ → ℕ → ℕ → Type 0
Leads h root a i b = ◌≢◌ {A = ℕ × ℕ} (a, i) root × ((j : ℕ) × (link_of h a i ≡ Some (b, j)))

-- a walk through a part
abbrev pub Gathering : Heap → Port → List (Option ℕ) → List ℕ → ℕ → Type 0
Gathering h root = Walking (λ a. root.0 ≡ a) (Reached (atom_map h) root) (Leads h root)

abbrev pub GatheringAt : Heap → Port → List (Option ℕ) → List ℕ → ℕ → ℕ → ℕ → Type 0
GatheringAt h root = WalkingAt (λ a. root.0 ≡ a) (Reached (atom_map h) root) (Leads h root)

-- a list and marks tell the atoms of a part
pub record IsGathered (h : Heap) (root : Port) (marks : List (Option ℕ)) (xs : List ℕ) : Type 0 where
  pub tells : Tells marks xs
  pub reached : (a : ℕ) → In a xs → Reached (atom_map h) root a
  pub all : (a : ℕ) → Reached (atom_map h) root a → In a xs

-- a part stands whole in a membrane, and none of these atoms is one of it
abbrev pub StandsApart : Heap → Port → ℕ → List ℕ → Type 0
StandsApart h root home images = StandsWhole (atom_map h) root home × ((b : ℕ) → Reached (atom_map h) root b → In b images → ⊥)

-- an atom stands in a membrane and isn't one of these
abbrev pub Fits : Heap → ℕ → List ℕ → ℕ → Type 0
Fits h home images a = (home_of h a ≡ Some home) × (In a images → ⊥)

-- numbers were added, unless they were in the list
pub record NotesAll (marks : List (Option ℕ)) (xs ps : List ℕ) (marks' : List (Option ℕ)) (xs' : List ℕ) : Type 0 where
  pub tells : Tells marks xs → Tells marks' xs'
  pub there : Tells marks xs → (p : ℕ) → In p ps → In p xs'
  pub front : (k a : ℕ) → slice_get xs k ≡ Some a → slice_get xs' k ≡ Some a
  pub new : (a : ℕ) → In a xs' → In a xs ⊎ In a ps
  pub longer : length xs ≤ length xs'

-- each membrane of a heap has its place
abbrev pub HasMembranes : Heap → List (Option ℕ) → Type 0
HasMembranes h marks = (m : ℕ) → IsMem h m → m < length marks

-- a membrane is one of these or stands in one of them, at any depth
abbrev pub IsBelow : Heap → List ℕ → ℕ → Type 0
IsBelow h starts b = (c : ℕ) × (k : ℕ) × In c starts × Above h k c b

-- the membranes in a membrane come next
abbrev pub Holds : Heap → ℕ → ℕ → ℕ → Type 0
Holds h m i b = slice_get (mems_in h m) i ≡ Some b

-- a walk through membranes
abbrev pub Descending : Heap → List ℕ → List (Option ℕ) → List ℕ → ℕ → Type 0
Descending h starts = Walking (λ c. In c starts) (IsBelow h starts) (Holds h)

-- a list and marks tell the membranes below these
pub record AreBelow (h : Heap) (starts : List ℕ) (marks : List (Option ℕ)) (xs : List ℕ) : Type 0 where
  pub tells : Tells marks xs
  pub right : (b : ℕ) → In b xs → IsBelow h starts b
  pub all : (b : ℕ) → IsBelow h starts b → In b xs
