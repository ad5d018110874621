use Rattle.lmn_receipt_search.proofs.Counted.{bodies_are_counted}
use Rattle.lmn_receipt_search.proofs.laws.bodies_are_counted.Goals as goal

pub returns : goal.returns
returns c = bodies_are_counted c.searched_rules_may_fire.ensures c.least_images_lie.ensures c.matches_are_of_embeddings.ensures c.firings_are_spelled.ensures
