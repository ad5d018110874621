-- The conditions of the calls that free, and of moving.
use Rattle.std.specs.Prelude.{◌≡◌, ◌≢◌, ◌<◌, ℕ, zero, suc, [], Some, IsSome}
use Rattle.lmn_store_heap.specs.Heap.{Heap, waiting, gone, IsInPlace, link_of, place_of, mem_place_of, parent_of, atoms_in, mems_in, arity_of}

-- m is a number of steps above n
abbrev pub Above : Heap → ℕ → ℕ → ℕ → Type 0
Above s zero m n = n ≡ m
Above s (suc k) m n = (p : ℕ) × (parent_of s n ≡ Some p) × Above s k m p

-- n isn't m, nor inside it
abbrev pub IsOutside : Heap → ℕ → ℕ → Type 0
IsOutside s n m = (k : ℕ) → Above s k m n → ⊥

-- no detached atom is joined to an atom that isn't detached
abbrev pub Alone : Heap → Type 0
Alone s = (a i b j : ℕ) → place_of s a ≡ Some waiting → link_of s a i ≡ Some (b, j) → place_of s b ≡ Some waiting

-- what is taken may be freed
pub record Ready (s : Heap) : Type 0 where
  pub empty : (m : ℕ) → mem_place_of s m ≡ Some gone → (atoms_in s m ≡ []) × (mems_in s m ≡ [])
  pub full : (a i : ℕ) → IsInPlace s a → i < arity_of s a → IsSome (link_of s a i)
  pub kept : (a i b j : ℕ) → IsInPlace s a → link_of s a i ≡ Some (b, j) → place_of s b ≢ Some gone
  pub no_atoms : s.new_atoms ≡ []
  pub no_mems : s.new_mems ≡ []
