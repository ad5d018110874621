use Rattle.std.proofs.Common.{◌≡◌, map, take}
use Rattle.lmn_solid_search.proofs.embedding.entries_of.Given as goal

abbrev pub invariant-loop-part : goal.invariant-loop-part
invariant-loop-part l = l.entries ≡ map (λ q. q.entry) (take l.part-index l.parts)
