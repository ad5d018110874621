use Rattle.std.proofs.Common.{◌≤◌, ◌+◌, ◌-◌, ◌^◌, ℕ, List}
use Rattle.lmn_store_heap.specs.Sound.{Forest, IsTree}
use Rattle.lmn_io.specs.Gathering.{output}
use Rattle.lmn_print_plain.specs.Walks.{AreTexts, Position, membranes_ahead, from_atoms, texts_with, tree_text}
use Rattle.lmn_print_plain.proofs.DueLemmas.{Due}
use Rattle.lmn_print_plain.proofs.walk.add_tree.Given as goal

abbrev pub invariant-loop-next : goal.invariant-loop-next
invariant-loop-next g l =
    let h = g.S.LinkStore.heap l.store in
    record {
      walk : (f : Forest) → IsTree h f → (atoms : ℕ → List (List ℕ)) → AreTexts h (g.W.AtomWriter.are_texts l.names h) atoms → let t = texts_with atoms l.names l.table h in (p : Position h (g.S.LinkStore.mem_id l.at.mem) l.at.depth)
          × Due (tree_text t f) (from_atoms t p) (output l.initial.buffer (g.O.Sink.told l.initial.out) (g.O.Sink.faults l.initial.out)) (output l.buffer (g.O.Sink.told l.out) (g.O.Sink.faults l.out))
          × (l.entered + membranes_ahead p ≤ 2 ^ 48);
    }

abbrev pub decreases-loop-next : goal.decreases-loop-next
decreases-loop-next g l = 2 ^ 48 - l.entered
