use Rattle.std.proofs.Common.{◌≡◌, ◌+◌, drop}
use Rattle.lmn_solid_heads.specs.Heads.{times}
use Rattle.lmn_solid_firing.specs.Pieces.{links_at}
use Rattle.lmn_solid_firing.proofs.wires.count_at_ends.Given as goal

abbrev pub invariant-loop-end : goal.invariant-loop-end
invariant-loop-end l = l.found + times l.link (links_at (drop l.end-index l.ends)) ≡ times l.link (links_at l.ends)
