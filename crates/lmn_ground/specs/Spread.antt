-- What a walk by marks has found, and what it has done to the heap.
use Rattle.std.specs.Prelude.{suc, ℕ, ◌≡◌, ◌≢◌, ◌⊎◌, ◌↔◌, ◌<◌, ◌≤◌, ◌+◌, Bool, true, List, [], ◌∷◌, Option, Some, None, IsSome, length}
use Rattle.lmn_base.specs.Graphs.{Reached, StandsWhole}
use Rattle.lmn_store_heap.specs.Heap.{Heap, Distinct, arity_of, link_of, home_of, own_mark}
use Rattle.lmn_store_heap.specs.Graphs.{atom_map}
use Rattle.lmn_ground.specs.Marks.{painted, first_marks, entry_number, least_found, matched_mark, way, ports_ahead, OnWay}
use Rattle.lmn_ground_parts.specs.Walks.{neighbour, IsPartInDepth, HasPort, net, Walk, FoundInside, is_in}
use Rattle.lmn_base.specs.Lists.{In}

-- the first mark of each atom of the part is 0
abbrev pub CleanPart : Heap → ℕ × ℕ → Type 0
CleanPart s root = (a : ℕ) → Reached (atom_map s) root a → first_marks s a ≡ 0

-- the atom stands in the membrane, where one is asked for, and isn't matched
abbrev pub AtomFits : Heap → Option ℕ → ℕ → Type 0
AtomFits s None a = Unit {0}
AtomFits s (Some home) a = (home_of s a ≡ Some home) × (own_mark s a ≢ matched_mark)

-- every atom of a part fits, and each of its ports but the root is joined
pub record IsWhole (s : Heap) (root : ℕ × ℕ) (home : Option ℕ) : Type 0 where
  pub atoms : (a : ℕ) → Reached (atom_map s) root a → AtomFits s home a
  pub ends : (a i : ℕ) → Reached (atom_map s) root a → i < arity_of s a → (a, i) ≢ root → IsSome (link_of s a i)

-- the part stands whole in the membrane, and none of its atoms is matched
pub record IsGroundIn (s : Heap) (root : ℕ × ℕ) (home : ℕ) : Type 0 where
  pub whole : StandsWhole (atom_map s) root home
  pub unmatched : (a : ℕ) → Reached (atom_map s) root a → own_mark s a ≢ matched_mark

-- the marks of these atoms tell their numbers, which rise from k on
abbrev pub Numbered : (ℕ → ℕ) → ℕ → List ℕ → Type 0
Numbered v k [] = Unit {0}
Numbered v k (x ∷ xs) = (entry_number (v x) ≡ k) × Numbered v (suc k) xs

-- A walk has marked some atoms, which are all that is found among themselves; where it is `all`, they are the whole part.
pub record Spread (before now : Heap) (root : ℕ × ℕ) (count : ℕ) (all : Bool) : Type 0 where
  pub marks : ℕ → ℕ
  pub seen : List ℕ
  pub is : now ≡ painted before marks
  pub outside : (x : ℕ) → (In x seen → ⊥) → marks x ≡ 0
  pub on : (x : ℕ) → In x seen → least_found ≤ first_marks now x
  pub off : (x : ℕ) → Reached (atom_map before) root x → (In x seen → ⊥) → first_marks now x ≡ 0
  pub clean : (x : ℕ) → In x seen → first_marks before x ≡ 0
  pub ports : (x : ℕ) → In x seen → 0 < arity_of before x
  pub counted : length seen ≡ count
  pub numbers : Numbered (first_marks now) 2 seen
  pub reached : (x : ℕ) → In x seen → Reached (atom_map before) root x
  pub walked : FoundInside (net before) root (is_in seen) seen
  pub whole : all ≡ true → IsPartInDepth before root seen

-- A walk from the root stands at port i of the atom a.
pub record Spreading (before now : Heap) (root : ℕ × ℕ) (home : Option ℕ) (seen : List ℕ) (depth a i count : ℕ) : Type 0 where
  pub marks : ℕ → ℕ
  pub is : now ≡ painted before marks
  pub outside : (x : ℕ) → (In x seen → ⊥) → marks x ≡ 0
  pub on : (x : ℕ) → In x seen → least_found ≤ first_marks now x
  pub off : (x : ℕ) → Reached (atom_map before) root x → (In x seen → ⊥) → first_marks now x ≡ 0
  pub clean : (x : ℕ) → In x seen → first_marks before x ≡ 0
  pub ports : (x : ℕ) → In x seen → 0 < arity_of before x
  pub counted : length seen ≡ count
  pub numbers : Numbered (first_marks now) 2 seen
  pub once : Distinct seen
  pub fits : (x : ℕ) → In x seen → AtomFits before home x
  pub reached : (x : ℕ) → In x seen → Reached (atom_map before) root x
  pub first : In root.0 seen
  pub here : i ≤ arity_of before a
  pub on_way : OnWay (net before) (first_marks now) root depth a
  pub way_seen : (x : ℕ) → In x (way (net before) (first_marks now) depth a) → In x seen
  pub deep : depth < count
  pub joined : (x k : ℕ) → In x seen → k < arity_of before x
      → HasPort (x, k) (ports_ahead (net before) (first_marks now) depth a i) ⊎ ((◌≡◌ {A = ℕ × ℕ} (x, k) root) ⊎ IsSome (link_of before x k))
  pub walks : (inside : ℕ → Bool) (all : List ℕ) → ((x : ℕ) → In x seen → inside x ≡ true)
      → Walk (net before).arity (neighbour (net before) root inside) seen (ports_ahead (net before) (first_marks now) depth a i) all → FoundInside (net before) root inside all

-- The marks of the atoms `seen` are taken back by a second walk, which has met some of them and stands at port i of the atom a.
pub record Wiping (before now : Heap) (root : ℕ × ℕ) (seen met : List ℕ) (depth a i left : ℕ) : Type 0 where
  pub marks : ℕ → ℕ
  pub is : now ≡ painted before marks
  pub clean : (x : ℕ) → In x seen → first_marks before x ≡ 0
  pub ports : (x : ℕ) → In x seen → 0 < arity_of before x
  pub outside : (x : ℕ) → (In x seen → ⊥) → marks x ≡ 0
  pub wiped : (x : ℕ) → In x met → (In x (way (net before) (first_marks now) depth a) → ⊥) → marks x ≡ 0
  pub high : (x : ℕ) → In x seen → (In x met → ⊥) → least_found ≤ first_marks now x
  pub low : (x : ℕ) → In x met → first_marks now x < least_found
  pub off : (x : ℕ) → Reached (atom_map before) root x → (In x seen → ⊥) → first_marks now x < least_found
  pub reached : (x : ℕ) → In x seen → Reached (atom_map before) root x
  pub here : i ≤ arity_of before a
  pub on_way : OnWay (net before) (first_marks now) root depth a
  pub once : Distinct (way (net before) (first_marks now) depth a)
  pub way_met : (x : ℕ) → In x (way (net before) (first_marks now) depth a) → In x met
  pub first : In root.0 met
  pub rest : Walk (net before).arity (neighbour (net before) root (is_in seen)) met (ports_ahead (net before) (first_marks now) depth a i) seen
  pub few : left + length met ≡ length seen
  pub deep : depth < length met

-- the atoms of a part, each once
abbrev pub AreAtoms : Heap → ℕ × ℕ → List ℕ → Type 0
AreAtoms s root xs = Distinct xs × ((a : ℕ) → In a xs ↔ Reached (atom_map s) root a)
