use Rattle.std.proofs.Common.{◌≤◌, ℕ, List}
use Rattle.lmn_io.specs.Gathering.{output}
use Rattle.lmn_print_plain.specs.Walks.{Leaving, from_rules, left_behind, texts_with}
use Rattle.lmn_print_plain.proofs.DueLemmas.{Due}
use Rattle.lmn_print_plain.proofs.walk.leave.Given as goal

abbrev pub invariant-loop-parent : goal.invariant-loop-parent
invariant-loop-parent g l =
    let h = g.S.LinkStore.heap l.store in
    record {
      walk : (atoms : ℕ → List (List ℕ)) → let t = texts_with atoms l.names l.table h in (from : Leaving h (g.S.LinkStore.mem_id l.fn.from.mem) l.fn.from.depth) → (p : Leaving h (g.S.LinkStore.mem_id l.at.mem) l.at.depth)
          × Due (from_rules t l.before from) (from_rules t l.any p) (output l.initial.buffer (g.O.Sink.told l.initial.out) (g.O.Sink.faults l.initial.out)) (output l.buffer (g.O.Sink.told l.out) (g.O.Sink.faults l.out))
          × (left_behind p ≤ left_behind from);
    }

abbrev pub decreases-loop-parent : goal.decreases-loop-parent
decreases-loop-parent g l = l.at.depth
