use Rattle.std.proofs.Common.{◌≡◌, ◌++◌, ℕ, List, length}
use Rattle.lmn_store_heap.specs.Heap.{IsMemInPlace, atoms_in}
use Rattle.lmn_ground.proofs.PlaceLaws.{LeftToPlace}
use Rattle.lmn_ground.proofs.cells.place_atoms.Given as goal

abbrev pub invariant-loop : goal.invariant-loop
invariant-loop g l =
    let s = g.S.LinkStore.heap l.fn.store in
    let t = g.S.LinkStore.heap l.store in
    let n = g.S.LinkStore.mem_id l.to in
    record {
      outer : IsMemInPlace t n;
      left : (ys behind : List ℕ) → length ys ≡ length (atoms_in s (g.S.LinkStore.mem_id l.fn.from)) → s.new_atoms ≡ ys ++ behind → LeftToPlace s t n l.counter ys behind;
    }
