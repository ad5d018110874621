use Rattle.std.proofs.Common.{◌≡◌, length}
use Rattle.lmn_flatten_numbers.specs.Tallies.{EachJoined}
use Rattle.lmn_flatten_numbers.proofs.table.table_of.Given as goal

abbrev pub invariant-loop-i : goal.invariant-loop-i
invariant-loop-i l = (length l.table ≡ l.i) × EachJoined l.head l.body l.table
