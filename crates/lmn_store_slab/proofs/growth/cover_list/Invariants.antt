use Rattle.std.proofs.Common.{◌≡◌, ◌<◌, ◌≤◌, ◌+◌, ◌-◌, ◌^◌, length}
use Rattle.lmn_store_slab.specs.Lines.{list_at}
use Rattle.lmn_store_slab.proofs.growth.cover_list.Given as goal

abbrev pub invariant-loop-lists : goal.invariant-loop-lists
invariant-loop-lists l = record {
  same : list_at l.lists ≡ list_at l.initial.lists;
  size : l.lists.size ≡ l.initial.lists.size;
  grows : length l.initial.lists.lists ≤ length l.lists.lists;
  small : length l.initial.lists.lists < 2 ^ 63 → length l.lists.lists < 2 ^ 63;
}

abbrev pub decreases-loop-lists : goal.decreases-loop-lists
decreases-loop-lists l = l.m + 3 - length l.lists.lists
