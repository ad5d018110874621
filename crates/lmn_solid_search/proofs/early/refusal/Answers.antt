use Rattle.std.proofs.lemmas.Result.{IfOk-weaker}
use Rattle.lmn_base.proofs.Lists.{holds_of_item, weaker}
use Rattle.lmn_solid_tables.specs.Flats.{heap_of}
use Rattle.lmn_solid_search.proofs.ForetellingLemmas.{guard_fails, no_parts, nothing_foretold}
use Rattle.lmn_solid_search.proofs.early.refusal.Goals as goal

pub loop-number-init : goal.loop-number-init
loop-number-init c =
    nothing_foretold c.new-early.result (heap_of c.args.flat.now) c.args.head.now c.args.images.now c.new-early.ensures.names

pub returns-in-Some : goal.returns-in-Some
returns-in-Some c =
    no_parts (heap_of c.args.flat.now) c.args.head.now c.args.guard.now c.args.images.now c.in-Some.rests (holds_of_item _ c.in_ok-rests.field-0 c.in-Some.rests c.in-Some.is c.in_ok-rests.ensures.refused)

pub loop-number-preserved : goal.loop-number-preserved
loop-number-preserved c =
    c.in_ok-rests.ensures.told c.loop-number.invariant

pub returns : goal.returns
returns c =
    IfOk-weaker c.ask_all.result _ _ (λ o w. weaker o _ _ (λ e r. guard_fails (heap_of c.args.flat.now) c.args.head.now c.args.guard.now c.args.images.now c.loop-number.early c.as_slice.result.now e c.as_slice.ensures c.loop-number.invariant r) w) c.ask_all.ensures
