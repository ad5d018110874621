use Rattle.std.proofs.Common.{ℕ, ◌≡◌, ◌≤◌, length}
use Rattle.lmn_congruence_classes.specs.Tables.{IsForest, Represents}
use Rattle.lmn_congruence_classes.proofs.find.Given as goal

abbrev pub invariant-loop-at : goal.invariant-loop-at
invariant-loop-at l = record {
  size : length l.table ≡ length l.fn.table;
  forest : IsForest l.table;
  below : l.at ≤ l.link;
  class : (m : ℕ → ℕ) → Represents l.fn.table m → Represents l.table m × (m l.at ≡ m l.link);
}

abbrev pub decreases-loop-at : goal.decreases-loop-at
decreases-loop-at l = l.at
