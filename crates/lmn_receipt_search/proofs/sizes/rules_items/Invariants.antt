use Rattle.std.proofs.Common.{◌+◌, ◌≤◌, drop}
use Rattle.lmn_solid_tables.specs.Flats.{heap_of}
use Rattle.lmn_receipt_search.specs.Items.{rules_size}
use Rattle.lmn_receipt_search.proofs.sizes.rules_items.Given as goal

abbrev pub invariant-loop-context : goal.invariant-loop-context
invariant-loop-context l = l.count + rules_size (heap_of l.flat) l.taken (drop l.context-index l.contexts) ≤ rules_size (heap_of l.flat) l.taken l.contexts
