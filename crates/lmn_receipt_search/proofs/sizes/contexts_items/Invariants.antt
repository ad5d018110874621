use Rattle.std.proofs.Common.{◌+◌, ◌≤◌, drop}
use Rattle.lmn_solid_tables.specs.Flats.{heap_of}
use Rattle.lmn_receipt_search.specs.Items.{contexts_size}
use Rattle.lmn_receipt_search.proofs.sizes.contexts_items.Given as goal

abbrev pub invariant-loop-context : goal.invariant-loop-context
invariant-loop-context l = l.count + contexts_size (heap_of l.flat) l.sizes l.taken (drop l.context-index l.contexts) ≤ contexts_size (heap_of l.flat) l.sizes l.taken l.contexts
