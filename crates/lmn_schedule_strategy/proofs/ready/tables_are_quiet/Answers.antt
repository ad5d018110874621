use Rattle.lmn_schedule_strategy.proofs.QuietCodes.{tables_are_quiet}
use Rattle.lmn_schedule_strategy.proofs.ready.tables_are_quiet.Goals as goal

pub returns : goal.returns
returns c = tables_are_quiet c.accepted_sets_items.ensures c.accepted_bodies.ensures.nested c.accepted_heads.ensures c.accepted_least.ensures c.quiet_stays_matchless.ensures c.rules_wake_touched.ensures
