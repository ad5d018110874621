-- What holds of a heap that is made call by call. No public contract cites a word of this.
use Rattle.std.specs.Prelude.{◌≡◌, ◌≢◌, ◌<◌, ℕ, Some}
use Rattle.lmn_base.specs.Solids.{connector}
use Rattle.lmn_store_heap.specs.Heap.{Heap, functor_of, mark_of, mems_in}
use Rattle.lmn_base.specs.Lists.{In}

-- No atom is a connector, no atom has a mark, and each membrane has a greater number than the one in which it stands.
pub record IsMadeByHand (s : Heap) : Type 0 where
  pub no_connector : (a : ℕ) → functor_of s a ≢ Some connector
  pub unmarked : (a i : ℕ) → mark_of s a i ≡ 0
  pub rising : (m n : ℕ) → In n (mems_in s m) → m < n
