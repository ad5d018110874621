use Rattle.std.proofs.Common.{◌≡◌, ◌≤◌, drop}
use Rattle.lmn_receipt_chain.specs.Alike.{blurred}
use Rattle.lmn_receipt_chain.proofs.alike.next_byte.Given as goal

abbrev pub invariant-loop-at : goal.invariant-loop-at
invariant-loop-at l = record {
  low : l.from ≤ l.at;
  same : blurred (drop l.at l.text) ≡ blurred (drop l.from l.text);
}
