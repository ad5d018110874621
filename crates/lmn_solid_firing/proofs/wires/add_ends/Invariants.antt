use Rattle.std.proofs.Common.{◌≡◌, ◌++◌, drop}
use Rattle.lmn_solid_firing.specs.Pieces.{ends_at}
use Rattle.lmn_solid_firing.proofs.wires.add_ends.Given as goal

abbrev pub invariant-loop-index : goal.invariant-loop-index
invariant-loop-index l = l.ends ++ ends_at l.flat l.atom l.index (drop l.index l.links) ≡ l.fn.ends ++ ends_at l.flat l.atom 0 l.links
