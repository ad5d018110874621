use Rattle.std.proofs.Common.{◌≡◌, map, take}
use Rattle.lmn_solid_settle.proofs.plains.links_at.Given as goal

abbrev pub invariant-loop-occurrence : goal.invariant-loop-occurrence
invariant-loop-occurrence l = l.numbers ≡ map (λ o. o.link) (take l.occurrence-index l.links)
