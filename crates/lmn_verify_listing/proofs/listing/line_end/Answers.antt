use Rattle.std.proofs.Common.{refl}
use Rattle.lmn_verify_listing.proofs.ReachingLemmas.{ends_behind, ends_last}
use Rattle.lmn_verify_listing.proofs.listing.line_end.Goals as goal

pub returns-then-line-rest : goal.returns-then-line-rest
returns-then-line-rest c = ends_behind c.args.listing.now c.rest_of-rest.result.now c.args.at c.place_of-line.result _ c.requires c.rest_of-rest.ensures c.place_of-line.ensures c.if-line-rest.true refl

pub returns-else-line-rest : goal.returns-else-line-rest
returns-else-line-rest c = ends_last c.args.listing.now c.rest_of-rest.result.now c.args.at c.place_of-line.result _ c.requires c.rest_of-rest.ensures c.place_of-line.ensures c.if-line-rest.false refl
