-- No rule of a membrane that sleeps embeds.
use Rattle.std.proofs.Common.{subst}
use Rattle.lmn_adequacy.specs.Embedding.{EmbedsIn}
use Rattle.lmn_adequacy_choices.specs.Laws.{NothingEmbedsThere}
use Rattle.lmn_schedule.specs.Sleeping.{SleepersDoNotEmbed}
use Rattle.lmn_schedule.specs.Held.{reading_by}

pub sleepers_do_not_embed : NothingEmbedsThere → SleepersDoNotEmbed
sleepers_do_not_embed there names table h S codes size o run m asleep path leads k f e =
    let s = run.sleeps in
    there table run.plans codes (record { whole = run.whole; compiled = run.compiled }) h (reading_by names table o.number) o.inner (record { read = o.read; tree = o.tree; rules = o.rules })
    m path leads (s.none m asleep) k f (subst (EmbedsIn path k f) o.is e)
