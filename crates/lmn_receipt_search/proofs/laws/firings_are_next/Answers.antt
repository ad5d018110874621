use Rattle.lmn_receipt_search.proofs.Firings as firings
use Rattle.lmn_receipt_search.proofs.laws.firings_are_next.Goals as goal

pub returns : goal.returns
returns c = firings.firings_are_next c.first_is_chosen.ensures c.none_has_embedding.ensures c.flats_are_read.ensures c.flats_have_rules.ensures c.searched_rules_may_fire.ensures
