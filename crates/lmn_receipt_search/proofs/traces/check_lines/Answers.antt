use Rattle.std.proofs.Common.{subst, sym}
use Rattle.lmn_reduction.specs.Chains.{no_step}
use Rattle.lmn_receipt_chain.specs.Laws.{IsAcceptedSolid}
use Rattle.lmn_receipt_chain.specs.OneFeed.{HaveOneFeed}
use Rattle.lmn_receipt_search.specs.Feeds.{NamesWithout}
use Rattle.lmn_receipt_search.proofs.Beginning.{followed, refused, search_fits, search_region, solid_accepted, solid_fits}
use Rattle.lmn_receipt_search.proofs.Planned.{by_made_slice}
use Rattle.lmn_receipt_search.proofs.traces.check_lines.Goals as goal

pub solid_of-requires-clause-made : goal.solid_of-requires-clause-made
solid_of-requires-clause-made g c = c.requires.searched.1.made

pub follow_lines-requires-clause-fits : goal.follow_lines-requires-clause-fits
follow_lines-requires-clause-fits g c =
    let q = c.requires.searched in
    let names = c.args.names.now in
    let plain = c.args.plain.now in
    let solids = c.new-solids.result in
    let can = by_made_slice names plain q.0 c.as_slice.result.now c.in_ok-plans.plans c.as_slice-2.result.now c.as_slice.ensures c.as_slice-2.ensures q.1 c.in_ok-plans.ensures in
    let both =
    search_fits names solids.names.now plain solids.plain.now c.as_slice-2.result.now solids.plans.now c.in_ok-first.first c.new-solids.ensures.names c.new-solids.ensures.plain c.new-solids.ensures.plans
    can (solid_fits names plain q.1.made c.requires.named c.in_ok-first.first c.in_ok-first.ensures) in
    (both.0, both.1, λ e. subst NamesWithout (sym c.new-solids.ensures.names) (c.new-solids.ensures.feeds e))

pub follow_lines-requires-clause-sound : goal.follow_lines-requires-clause-sound
follow_lines-requires-clause-sound g c =
    let q = c.requires.searched in
    let names = c.args.names.now in
    let plain = c.args.plain.now in
    let solids = c.new-solids.result in
    subst IsAcceptedSolid (sym (search_region names solids.names.now plain solids.plain.now c.in_ok-first.first c.new-solids.ensures.names c.new-solids.ensures.plain))
    (solid_accepted names plain q.0 q.1 c.in_ok-first.first c.in_ok-first.ensures)

pub follow_lines-requires-clause-feeds : goal.follow_lines-requires-clause-feeds
follow_lines-requires-clause-feeds g c = λ cut.
    let names = c.args.names.now in
    let plain = c.args.plain.now in
    let solids = c.new-solids.result in
    subst HaveOneFeed (sym (search_region names solids.names.now plain solids.plain.now c.in_ok-first.first c.new-solids.ensures.names c.new-solids.ensures.plain))
    (c.lines_have_one_feed.ensures c.args.alloc names plain c.in_ok-first.first (c.requires.lines.1 cut) c.in_ok-first.ensures)

pub returns-in_err-plans-clause-reads : goal.returns-in_err-plans-clause-reads
returns-in_err-plans-clause-reads g c = (0, no_step)

pub returns-in_err-first-clause-reads : goal.returns-in_err-first-clause-reads
returns-in_err-first-clause-reads g c = (0, no_step)

pub returns-clause-chain : goal.returns-clause-chain
returns-clause-chain g c =
    let names = c.args.names.now in
    let plain = c.args.plain.now in
    let solids = c.new-solids.result in
    followed names plain c.in_ok-first.first c.in_ok-first.ensures _ (search_region names solids.names.now plain solids.plain.now c.in_ok-first.first c.new-solids.ensures.names c.new-solids.ensures.plain)
    (g.T.TraceLines.is_rest c.args.lines.now) c.follow_lines.result c.follow_lines.ensures.told

pub returns-clause-wrong : goal.returns-clause-wrong
returns-clause-wrong g c =
    let names = c.args.names.now in
    let plain = c.args.plain.now in
    let solids = c.new-solids.result in
    refused names plain c.in_ok-first.first c.in_ok-first.ensures _ (search_region names solids.names.now plain solids.plain.now c.in_ok-first.first c.new-solids.ensures.names c.new-solids.ensures.plain)
    (g.T.TraceLines.is_rest c.args.lines.now) c.follow_lines.result c.follow_lines.ensures.told
