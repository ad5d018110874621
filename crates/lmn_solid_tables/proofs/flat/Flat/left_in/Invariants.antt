use Rattle.lmn_solid_tables.specs.Flats.{IsLeft, heap_of}
use Rattle.lmn_solid_tables.proofs.Left.{Kept}
use Rattle.lmn_solid_tables.proofs.flat.Flat.left_in.Given as goal

-- of the first membranes those that are left are listed
abbrev pub invariant-loop-number : goal.invariant-loop-number
invariant-loop-number l = Kept (IsLeft (heap_of l.self) l.images l.home) l.is_left.items l.left.items l.number
