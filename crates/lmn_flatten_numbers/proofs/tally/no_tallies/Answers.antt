use Rattle.std.proofs.Common.{◌≡◌, ◌∙◌, arith}
use Rattle.lmn_flatten_numbers.proofs.TallySteps.{no_tally, next_tally}
use Rattle.lmn_flatten_numbers.proofs.tally.no_tallies.Goals as goal

pub loop-init : goal.loop-init
loop-init c = no_tally c.new-tallies.result c.new-tallies.ensures

pub loop-preserved : goal.loop-preserved
loop-preserved c = next_tally c.loop.counter c.loop.tallies c.push.new.self _ c.none.ensures c.in_ok-push.ensures.ok c.loop.invariant

pub returns : goal.returns
returns c = let same : c.loop.counter ≡ c.args.count = omega arith in (c.loop.invariant.0 ∙ same, c.loop.invariant.1)
