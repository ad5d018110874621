use Rattle.lmn_schedule.proofs.Sleeping.{sleepers_do_not_embed}
use Rattle.lmn_schedule.proofs.laws.sleepers_do_not_embed.Goals as goal

pub returns : goal.returns
returns c = sleepers_do_not_embed c.nothing_embeds_there.ensures
