use Rattle.lmn_flatten.proofs.CopyLemmas.{all_fresh, get_at, fresh_next, no_fresh_yet}
use Rattle.lmn_flatten.proofs.kept.freshened.Goals as goal

pub loop-number-init : goal.loop-number-init
loop-number-init c = λ r keys h none size. no_fresh_yet r keys c.args.counts.now c.new-links.result c.args.scope.now c.new-links.ensures h

pub loop-number-preserved : goal.loop-number-preserved
loop-number-preserved c = λ r keys h none size.
    fresh_next r keys c.args.counts.now c.loop-number.links c.push.new.self c.loop-number.number c.in_ok-narrow.field-0 _ c.in_ok-link.link c.args.scope.now
    c.fresh_or_same.new.scope h none size c.loop-number-test.true (get_at c.args.counts.now c.loop-number.number _ c.loop-number-test.true) c.in_ok-narrow.ensures c.in_ok-push.ensures.ok
    c.loop-number.scope (c.loop-number.invariant r keys h none size) (λ ks a i k j. c.in_ok-link.ensures r ks a i k j)

pub returns : goal.returns
returns c = λ r keys h none size. all_fresh r keys c.args.counts.now c.loop-number.links c.loop-number.number c.loop-number.scope c.loop-number-test.false (c.loop-number.invariant r keys h none size)
