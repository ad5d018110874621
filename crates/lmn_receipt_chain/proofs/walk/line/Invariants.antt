use Rattle.std.proofs.Common.{◌-◌}
use Rattle.lmn_receipt_chain.proofs.WalkLemmas.{Tried}
use Rattle.lmn_receipt_chain.proofs.walk.line.Given as goal

abbrev pub invariant-loop-from : goal.invariant-loop-from
invariant-loop-from g l = record {
  tables : g.N.NextSolids.are_of l.fn.solids l.fn.solid l.tables;
  tried : Tried (g.N.NextSolids.region l.fn.solids l.fn.solid) l.fn.rest l.from;
}

abbrev pub decreases-loop-from : goal.decreases-loop-from
decreases-loop-from g l = l.asked - l.from
