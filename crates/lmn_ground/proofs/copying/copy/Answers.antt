use Rattle.std.proofs.Common.{◌∙◌}
use Rattle.lmn_ground.proofs.ListedLaws.{listed_none}
use Rattle.lmn_ground.proofs.copying.copy.Goals as goal

pub returns-in-Ok-clause-ok : goal.returns-in-Ok-clause-ok
returns-in-Ok-clause-ok g c = c.in-Ok.ensures.ok.0

pub returns-in-Ok-clause-alone : goal.returns-in-Ok-clause-alone
returns-in-Ok-clause-alone g c = c.in-Ok.ensures.alone

pub copy_counted-requires-clause-listed : goal.copy_counted-requires-clause-listed
copy_counted-requires-clause-listed g c = listed_none _ _ (record { port = 0; atoms = c.reserve.new.self }) (c.reserve.ensures ∙ c.new.ensures)
