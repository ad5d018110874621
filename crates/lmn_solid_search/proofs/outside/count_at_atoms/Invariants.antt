use Rattle.std.proofs.Common.{◌≡◌, ◌+◌, drop}
use Rattle.lmn_solid_heads.specs.Heads.{times}
use Rattle.lmn_solid_search.specs.Placing.{links_in}
use Rattle.lmn_solid_search.proofs.outside.count_at_atoms.Given as goal

abbrev pub invariant-loop-atom : goal.invariant-loop-atom
invariant-loop-atom l = l.found + times l.link (links_in (drop l.atom-index l.atoms)) ≡ times l.link (links_in l.atoms)
