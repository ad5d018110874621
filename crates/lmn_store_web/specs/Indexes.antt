-- Words of the invariant of a store over a web, and of private functions: what its index of membranes holds.
use Rattle.std.specs.Prelude.{◌≡◌, ◌≢◌, ◌≤◌, ◌==◌, ℕ, List, [], ◌∷◌, ◌++◌, Option, Some, length, map, nat_lt, slice_get, slice_set, unwrap_or, if◌then◌else◌}
use Rattle.lmn_store_heap.specs.Heap.{Heap, IsMem, mems_in, mem_mark_of}
use Rattle.lmn_store_trait.specs.Awake.{awake_mark}
use Rattle.lmn_store_web_preorder.specs.Nests.{Nest}
use Rattle.lmn_web.specs.Webs.{WebCell, web_label}

-- the key of a membrane: its label, which is the place of its rules
abbrev pub key_of : (ℕ → Option WebCell) → ℕ → ℕ
key_of w m = unwrap_or (web_label w m) 0

-- The nest is that of the membranes of a heap, by their keys: in each stand those of the membranes in it, in order, and it is awake where the membrane is; whether the root is, its mark alone tells. In the key of no membrane nothing stands.
pub record IsNestOf (key : ℕ → ℕ) (h : Heap) (n : Nest) : Type 0 where
  pub inside : (m : ℕ) → IsMem h m → n.inside (key m) ≡ map key (mems_in h m)
  pub awake : (m : ℕ) → IsMem h m → m ≢ h.root → n.awake (key m) ≡ (mem_mark_of h m == awake_mark)
  pub others : (k : ℕ) → ((m : ℕ) → IsMem h m → key m ≢ k) → n.inside k ≡ []

-- The membranes of the heap are known by their keys: an index, told by the nests that it holds, holds theirs, and a list has each at its key.
pub record IsIndexed (holds : Nest → Type 0) (mems : List ℕ) (key : ℕ → ℕ) (h : Heap) : Type 0 where
  pub nest : Nest
  pub nested : holds nest
  pub agrees : IsNestOf key h nest
  pub cells : (m : ℕ) → IsMem h m → slice_get mems (key m) ≡ Some m
  pub few : length mems ≤ nest.keys

-- a list with m at a key, which is at most its length
abbrev pub held : ℕ → ℕ → List ℕ → List ℕ
held key m ms = if nat_lt key (length ms) then slice_set ms key m else ms ++ m ∷ []
