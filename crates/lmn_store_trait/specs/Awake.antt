-- Which membranes are awake, by their numbers in a list.
use Rattle.std.specs.Prelude.{ℕ, ◌≡◌, ◌≢◌, ◌<◌, ◌≤◌, List, Some, slice_get}
use Rattle.lmn_store_heap.specs.Heap.{Heap, mem_mark_of}

-- the mark of a membrane that is awake, and of one that sleeps
abbrev pub awake_mark : ℕ
awake_mark = 0

abbrev pub asleep_mark : ℕ
asleep_mark = 1

-- None of the membranes with a number from `from` to `to` is awake.
abbrev pub NoneAwake : Heap → List ℕ → ℕ → ℕ → Type 0
NoneAwake h ms from to = (i m : ℕ) → from ≤ i → i < to → slice_get ms i ≡ Some m → mem_mark_of h m ≢ awake_mark

-- The membrane m is awake, and none with a number from `from` to its own, which is n, is.
pub record IsNextAwake (h : Heap) (ms : List ℕ) (from n m : ℕ) : Type 0 where
  pub least : from ≤ n
  pub is : slice_get ms n ≡ Some m
  pub awake : mem_mark_of h m ≡ awake_mark
  pub none : NoneAwake h ms from n
