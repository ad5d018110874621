use Rattle.std.proofs.Common.{◌≡◌, length}
use Rattle.lmn_flatten_numbers.specs.Tallies.{EachAlone}
use Rattle.lmn_flatten_numbers.proofs.table.table_alone.Given as goal

abbrev pub invariant-loop-i : goal.invariant-loop-i
invariant-loop-i l = (length l.table ≡ l.i) × EachAlone l.tallies l.table
