use Rattle.std.proofs.Common.{ℕ, ◌≡◌, List, ◌++◌, length, drop}
use Rattle.lmn_store_heap.specs.Heap.{IsMemInPlace}
use Rattle.lmn_solid_bodies.specs.Running.{all_placed}
use Rattle.lmn_machine_commit.proofs.Placing.{pairs}
use Rattle.lmn_machine_commit.proofs.committing.place_atoms.Given as goal

abbrev pub invariant-loop-i : goal.invariant-loop-i
invariant-loop-i g l = record {
  membrane : IsMemInPlace (g.S.LinkStore.heap l.store) (g.S.LinkStore.mem_id l.m);
  ahead : (atoms rest : List ℕ) → length atoms ≡ l.count → (g.S.LinkStore.heap l.fn.store).new_atoms ≡ atoms ++ rest →
      ((g.S.LinkStore.heap l.store).new_atoms ≡ drop l.i atoms ++ rest)
      × (all_placed (g.S.LinkStore.heap l.store) (pairs (g.S.LinkStore.mem_id l.m) (drop l.i atoms)) ≡ all_placed (g.S.LinkStore.heap l.fn.store) (pairs (g.S.LinkStore.mem_id l.m) atoms));
}
