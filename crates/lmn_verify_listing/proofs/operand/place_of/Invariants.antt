use Rattle.std.proofs.Common.{take}
use Rattle.lmn_verify_listing.specs.Lines.{HasNo}
use Rattle.lmn_verify_listing.proofs.operand.place_of.Given as goal

abbrev pub invariant-loop-at : goal.invariant-loop-at
invariant-loop-at l = HasNo l.byte (take l.at l.text)
