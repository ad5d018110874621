use Rattle.std.proofs.Common.{ℕ, List, subst}
use Rattle.lmn_base.specs.Lists.{In}
use Rattle.lmn_solid_search.proofs.PartsLemmas.{part_marked}
use Rattle.lmn_solid_search.proofs.parts.mark_part.Goals as goal

pub mark_all-requires : goal.mark_all-requires
mark_all-requires c = λ a i. c.requires a (subst (λ (xs : List ℕ). In a xs) c.as_slice.ensures i)

pub returns-then-inside-membrane-clause-marked : goal.returns-then-inside-membrane-clause-marked
returns-then-inside-membrane-clause-marked c = part_marked c.args.seen.now c.mark_all.new.seen c.args.inside c.args.membrane c.as_slice.result.now c.args.part.now.atoms c.if-inside-membrane.true c.as_slice.ensures c.mark_all.ensures.marked
