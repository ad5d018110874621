use Rattle.std.proofs.Common.{take, map}
use Rattle.lmn_flatten.specs.Copies.{CountsPlaces}
use Rattle.lmn_base.specs.declared.level.Occ.{Occ}
use Rattle.lmn_flatten.proofs.kept.count_links.Given as goal

abbrev pub invariant-loop-occ : goal.invariant-loop-occ
invariant-loop-occ l = CountsPlaces (map (λ (o : Occ). o.link) (take l.occ-index l.links)) l.initial.counts l.counts
