use Rattle.std.proofs.Common.{length, refl}
use Rattle.std.proofs.lemmas.Option.{slice_get_read}
use Rattle.lmn_base.proofs.Lists.{holds_of_item}
use Rattle.lmn_solid_search.proofs.ForetellingLemmas.{asks_first, asks_next, guard_refused}
use Rattle.lmn_solid_search.proofs.early.Early.ask_all.Goals as goal

pub loop-condition-init : goal.loop-condition-init
loop-condition-init c =
    asks_first c.args.self.now c.args.typed.now c.args.guard.now

pub returns-in-Some : goal.returns-in-Some
returns-in-Some c =
    guard_refused c.args.self.now c.loop-condition.self c.args.typed.now c.args.guard.now c.loop-condition.condition-index c.condition-item.result (slice_get_read c.args.guard.now (length c.args.guard.now) c.loop-condition.condition-index c.condition-item.result refl c.loop-condition-test.true c.condition-item.is) c.loop-condition.invariant c.in-Some.rests (holds_of_item _ c.in_ok-rests.field-0 c.in-Some.rests c.in-Some.is c.in_ok-rests.ensures.refused)

pub loop-condition-preserved : goal.loop-condition-preserved
loop-condition-preserved c =
    asks_next c.args.self.now c.loop-condition.self c.args.typed.now c.args.guard.now c.loop-condition.condition-index c.condition-item.result (slice_get_read c.args.guard.now (length c.args.guard.now) c.loop-condition.condition-index c.condition-item.result refl c.loop-condition-test.true c.condition-item.is) c.loop-condition.invariant c.ask.new.self c.in_ok-rests.ensures.behind
