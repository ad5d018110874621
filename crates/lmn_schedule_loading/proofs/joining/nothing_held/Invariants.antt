use Rattle.std.proofs.Common.{ℕ, ◌≡◌, ◌<◌, length, get_or, None}
use Rattle.lmn_schedule_loading.proofs.joining.nothing_held.Given as goal

abbrev pub invariant-loop-class : goal.invariant-loop-class
invariant-loop-class g l = record {
  size : length l.table ≡ l.class;
  none : (z : ℕ) → z < l.class → get_or l.table z None ≡ None;
}
