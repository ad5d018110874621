use Rattle.std.proofs.Common.{◌≡◌, ◌+◌, ◌++◌, drop, map}
use Rattle.lmn_solid_firing.proofs.leaves.links_of.Given as goal

abbrev pub invariant-loop-occurrence : goal.invariant-loop-occurrence
invariant-loop-occurrence l = l.rows ++ map (λ o. l.taken.links + o.link) (drop l.occurrence-index l.links) ≡ map (λ o. l.taken.links + o.link) l.links
