-- What is looked up of a port.
use Rattle.std.specs.Prelude.{◌≡◌, ◌≢◌, ℕ, Some, IsSome}
use Rattle.lmn_store_heap.specs.Heap.{Heap, gone, link_of, place_of}

-- a port has a partner, which isn't at a taken atom
pub record IsJoined (s : Heap) (a i : ℕ) : Type 0 where
  pub full : IsSome (link_of s a i)
  pub kept : (b j : ℕ) → link_of s a i ≡ Some (b, j) → place_of s b ≢ Some gone
