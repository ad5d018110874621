use Rattle.lmn_flatten_numbers.proofs.TallySteps.{counts_none, link_counted_within, link_counted, links_counted}
use Rattle.lmn_flatten_numbers.proofs.tally.count_links.Goals as goal

pub loop-link-init : goal.loop-link-init
loop-link-init c = counts_none c.args.tallies.now

pub count_link-requires : goal.count_link-requires
count_link-requires c = link_counted_within _ _ _ _ _ c.loop-link-test.true c.loop-link.invariant c.requires

pub loop-link-preserved : goal.loop-link-preserved
loop-link-preserved c = link_counted _ _ _ _ _ _ c.loop-link-test.true c.loop-link.invariant c.in_ok-count_link.ensures

pub returns : goal.returns
returns c = links_counted _ _ _ _ c.loop-link-test.false c.loop-link.invariant
