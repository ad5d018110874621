use Rattle.std.proofs.Common.{set, ap, ◌∙◌, arith}
use Rattle.lmn_web_cells.specs.Rows.{items_in, with_items, link, place_of}
use Rattle.lmn_web_cells.proofs.FillLemmas.{links_begin, links_there, links_step, links_end}
use Rattle.lmn_web_cells.proofs.filling.fill_links.Goals as goal

pub loop-k-init : goal.loop-k-init
loop-k-init c = let some = c.requires.words in links_begin c.args.rows.now.rows (place_of c.args.at) (omega (arith, some))

pub set_link-requires : goal.set_link-requires
set_link-requires c =
    let low = c.loop-k-test.true in let some = c.requires.words in
    (c.requires.start, omega (arith, low), (λ e. absurd (omega (arith, e, low))), links_there c.args.rows.now.rows c.loop-k.rows.rows (place_of c.args.at) c.loop-k.k c.loop-k.invariant (omega (arith, low, some)))

pub loop-k-preserved : goal.loop-k-preserved
loop-k-preserved c =
    let b = place_of c.args.at in let rows = c.loop-k.rows.rows in let low = c.loop-k-test.true in let some = c.requires.words in
    links_step c.args.rows.now.rows rows c.set_link.new.self.rows b c.loop-k.k c.loop-k.invariant (omega (arith, low, some))
    (c.set_link.ensures ∙ ap (λ p. with_items b (set (items_in rows b) c.loop-k.k (link p)) rows) c.nowhere.ensures)

pub returns : goal.returns
returns c =
    let end = c.loop-k-test.false in let below = c.loop-k.auto.k-end in
    links_end c.args.rows.now.rows c.loop-k.rows.rows (place_of c.args.at) c.loop-k.k c.loop-k.invariant (omega (arith, end, below))
