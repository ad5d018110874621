use Rattle.lmn_flatten_numbers.proofs.Renamed.{renumbered_links, renumbered_twice}
use Rattle.lmn_flatten_numbers.proofs.laws.levels_are_renamed.Goals as goal

pub returns : goal.returns
returns c = record { twice = renumbered_twice; links = renumbered_links }
