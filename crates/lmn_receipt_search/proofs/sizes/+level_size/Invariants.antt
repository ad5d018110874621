use Rattle.std.proofs.Common.{◌+◌, ◌≤◌, drop, map}
use Rattle.lmn_solid_tables.specs.Flats.{heap_of}
use Rattle.lmn_receipt_search.specs.Items.{body_size, total}
use Rattle.lmn_receipt_search.proofs.sizes.+level_size.Given as goal

abbrev pub decreases-level_size : goal.decreases-level_size
decreases-level_size l = goal.size-level_size l

abbrev pub invariant-loop-inner : goal.invariant-loop-inner
invariant-loop-inner l = l.count + total (map (body_size (heap_of l.flat) l.sizes l.taken) (drop l.inner-index l.inner-items)) ≤ body_size (heap_of l.flat) l.sizes l.taken l.level
