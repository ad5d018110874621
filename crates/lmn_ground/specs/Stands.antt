-- Words of private functions: where a walk goes on.
use Rattle.std.specs.Prelude.{ℕ, ◌≡◌, ◌+◌, ◌<◌, ◌≤◌, false, List, Some, length, map}
use Rattle.lmn_store_heap.specs.Heap.{Heap, arity_of, link_of}
use Rattle.lmn_ground_parts.specs.Walks.{is_port, net}
use Rattle.lmn_ground.specs.Marks.{back, first_marks, least_found, weight}
use Rattle.lmn_ground.specs.Spread.{Wiping}

-- From the atom a, which is so deep, a walk has gone back to b: to port j, the one behind that from which a was entered.
pub record WentBack (s : Heap) (depth a deep b j : ℕ) : Type 0 where
  pub number : b ≡ (back (net s) (first_marks s) a).0
  pub port : j ≡ (back (net s) (first_marks s) a).1 + 1
  pub higher : depth ≡ deep + 1

-- From port i of the atom a, which is so deep, a walk has entered the atom b, and stands at its first port.
pub record HasEntered (s : Heap) (depth a i deep b j : ℕ) : Type 0 where
  pub first : j ≡ 0
  pub deeper : deep ≡ depth + 1
  pub entry : back (net s) (first_marks s) b ≡ (a, i)

-- p is the other end of the port q, which isn't the root, and its atom has still the mark of the first walk.
pub record IsMarkedEnd (s : Heap) (root q p : ℕ × ℕ) : Type 0 where
  pub link : link_of s q.0 q.1 ≡ Some p
  pub link_back : link_of s p.0 p.1 ≡ Some q
  pub there : p.1 < arity_of s p.0
  -- the arity fits a byte
  pub small : arity_of s p.0 < 256
  pub apart : is_port q root ≡ false
  pub high : least_found ≤ first_marks s p.0

-- What holds of the walk back at one place holds of it at another, from which on no more is to be gone through.
pub record WipesOn (s s' : Heap) (root : ℕ × ℕ) (depth a i deep b j : ℕ) : Type 0 where
  pub walk : (before : Heap) (seen met : List ℕ) (left : ℕ) → Wiping before s root seen met depth a i left → Wiping before s' root seen met deep b j left
  pub lighter : (before : Heap) (seen met : List ℕ) (left : ℕ) → Wiping before s root seen met depth a i left
      → weight (net s') (first_marks s') deep b j ≤ weight (net s) (first_marks s) depth a i

-- Some atoms that a walk has found, and all of them, in its order, where they are as many.
pub record IsTrail {A : Type 0} (id : A → ℕ) (trail : List A) (count : ℕ) (seen : List ℕ) : Type 0 where
  pub few : length trail ≤ count
  pub all : length trail ≡ count → map id trail ≡ seen
