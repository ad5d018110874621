use Rattle.lmn_flatten_plain.proofs.RulePlaces.{rules_by_rising_place}
use Rattle.lmn_flatten_plain.proofs.laws.rules_stand_by_place.Goals as goal

pub returns : goal.returns
returns c = rules_by_rising_place
