use Rattle.std.proofs.Common.{ℕ, ◌≡◌, ◌<◌, length, get_or}
use Rattle.lmn_congruence_classes.proofs.alone.Given as goal

abbrev pub invariant-loop-link : goal.invariant-loop-link
invariant-loop-link l = record {
  size : length l.table ≡ l.link;
  same : (x : ℕ) → x < l.link → get_or l.table x 0 ≡ x;
}
