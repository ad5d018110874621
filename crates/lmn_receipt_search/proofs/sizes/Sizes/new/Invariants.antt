use Rattle.std.proofs.Common.{◌≡◌, length}
use Rattle.lmn_solid_tables.specs.Flats.{heap_of}
use Rattle.lmn_receipt_search.proofs.Sizing.{AreSizesFrom}
use Rattle.lmn_receipt_search.proofs.sizes.Sizes.new.Given as goal

abbrev pub invariant-loop-membrane : goal.invariant-loop-membrane
invariant-loop-membrane l = record {
  length : length l.of.items ≡ l.count;
  sizes : AreSizesFrom (heap_of l.flat) l.membrane l.of.items;
}
