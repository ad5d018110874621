use Rattle.std.proofs.Common.{ℕ, ◌≤◌, ◌-◌}
use Rattle.lmn_reduction.specs.Chains.{Chain}
use Rattle.lmn_receipt_chain.proofs.ReadLemmas.{ReadTo}
use Rattle.lmn_receipt_chain.proofs.checking.walk.Given as goal

abbrev pub invariant-loop-next : goal.invariant-loop-next
invariant-loop-next g l = record {
  enough : 2 ≤ l.line;
  ready : g.T.TraceLines.is_ready l.lines;
  reads : (n : ℕ) × Chain g.T.TraceLines.reads l.fn.lines n l.lines;
  read : ReadTo (g.N.NextSolids.region l.fn.solids) (g.N.NextSolids.fits l.fn.solids) l.fn.solid l.solid (g.T.TraceLines.is_rest l.fn.lines) (g.T.TraceLines.is_rest l.lines) (g.T.TraceLines.last l.lines) (l.line - 2);
}

abbrev pub decreases-loop-next : goal.decreases-loop-next
decreases-loop-next g l = g.T.TraceLines.left l.lines
