use Rattle.std.proofs.Common.{◌≡◌, length}
use Rattle.lmn_receipt_chain.proofs.LeftOutLemmas.{AreMarked, IsBehind}
use Rattle.lmn_receipt_chain.proofs.left_out.ending_before.Given as goal

abbrev pub invariant-loop-membrane : goal.invariant-loop-membrane
invariant-loop-membrane l = record {
  many : length l.out.items ≡ length l.depths;
  behind : IsBehind l.depths l.closed l.membrane l.behind;
  marks : AreMarked l.depths l.closed l.membrane l.out.items;
}
