use Rattle.std.proofs.Common.{◌-◌, length}
use Rattle.lmn_verify_listing.specs.Reaching.{IsBegun}
use Rattle.lmn_verify_listing.proofs.listing.read_block.Given as goal

abbrev pub invariant-loop-at : goal.invariant-loop-at
invariant-loop-at l = IsBegun l.in_head l.listing l.fn.names l.names l.from l.first l.at l.line l.instrs

abbrev pub decreases-loop-at : goal.decreases-loop-at
decreases-loop-at l = length l.listing - l.at
