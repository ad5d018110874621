use Rattle.std.proofs.Common.{[], ◌∷◌}
use Rattle.lmn_solid_settle.specs.Tables.{class_in, numbered_link}
use Rattle.lmn_solid_settle.proofs.NumberLoops.{Passed}
use Rattle.lmn_solid_settle.proofs.numbers.Numbers.number_links.Given as goal

abbrev pub invariant-loop-link : goal.invariant-loop-link
invariant-loop-link l = Passed numbered_link (λ cs x. class_in cs x ∷ []) l.fn.self l.self l.link-index l.fn.links l.links
