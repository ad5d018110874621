use Rattle.lmn_test_levels.proofs.LinkBounds.{link_bound, links_bound}
use Rattle.lmn_test_levels.proofs.numbered.are_below_in_links.Goals as goal

pub loop-link-preserved : goal.loop-link-preserved
loop-link-preserved c = link_bound c.args.keys c.loop-link.link-index c.args.links.now _ c.loop-link-test.true c.loop-link.invariant c.if-link-keys.false

pub returns : goal.returns
returns c = λ e. links_bound c.args.keys c.loop-link.link-index c.args.links.now c.loop-link-test.false c.loop-link.invariant
