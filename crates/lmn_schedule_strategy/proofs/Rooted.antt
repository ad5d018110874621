-- The root has the number 0.
use Rattle.std.proofs.Common.{ℕ, ◌≡◌, arith}
use Rattle.lmn_store_heap.specs.Heap.{Heap, IsMem, mem_mark_of}
use Rattle.lmn_store_heap.specs.Sound.{Forest, IsTree, Valid, flat}
use Rattle.lmn_store_trait.specs.Awake.{IsNextAwake}
use Rattle.lmn_store_trait.proofs.Numbers.{number_mem, root_number}

-- the root is a membrane
pub root_mem : (h : Heap) (m : ℕ) → Valid h → m ≡ h.root → IsMem h m
root_mem h m v e = number_mem h 0 m v (root_number h m e)

-- where it is awake it is the first that is
pub root_next : (h : Heap) (at m : ℕ) → at ≡ 0 → m ≡ h.root → mem_mark_of h m ≡ 0 → (f : Forest) → IsTree h f → IsNextAwake h (flat f) at 0 m
root_next h at m z e awake f t = record { least = omega (arith, z); is = root_number h m e f t; awake = awake; none = λ i n l k s. absurd (omega (arith, k)) }
