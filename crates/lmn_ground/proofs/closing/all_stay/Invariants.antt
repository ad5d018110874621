use Rattle.std.proofs.Common.{◌≡◌, ◌≢◌, ◌<◌, ℕ, Some}
use Rattle.lmn_store_heap.specs.Heap.{link_of}
use Rattle.lmn_ground.specs.Marks.{first_marks}
use Rattle.lmn_ground.proofs.closing.all_stay.Given as goal

abbrev pub invariant-loop-i : goal.invariant-loop-i
invariant-loop-i g l =
    let h = g.S.LinkStore.heap l.store in
    (k b j : ℕ) → k < l.i → link_of h (g.S.LinkStore.atom_id l.a) k ≡ Some (b, j) → first_marks h b ≢ 0
