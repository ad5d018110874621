use Rattle.std.proofs.Common.{◌≡◌, ◌≤◌, ◌+◌, ◌-◌, length}
use Rattle.lmn_store_slab.specs.Lines.{list_at}
use Rattle.lmn_store_slab.proofs.growth.cover.Given as goal

abbrev pub invariant-loop-lists : goal.invariant-loop-lists
invariant-loop-lists l = record {
  same : list_at l.lists ≡ list_at l.initial.lists;
  count : length l.lists.lists ≡ length l.initial.lists.lists;
  grows : l.initial.lists.size ≤ l.lists.size;
}

abbrev pub decreases-loop-lists : goal.decreases-loop-lists
decreases-loop-lists l = l.x + 1 - l.lists.size
