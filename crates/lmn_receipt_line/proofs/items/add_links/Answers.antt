use Rattle.std.proofs.lemmas.Grind.{common_steps}
use Rattle.std.proofs.Common.{arith}
use Rattle.std.specs.Prelude.{codes, false, map}
use Rattle.lmn_io.proofs.TakingLemmas.{adds_as, adds_more}
use Rattle.lmn_flatten_plain.specs.Words.{link_name}
use Rattle.lmn_print_plain.specs.Rows.{in_row}
use Rattle.lmn_print_plain.proofs.RowLemmas.{row_first, row_at, row_all}
use Rattle.lmn_receipt_line.proofs.ItemLemmas.{links_text}
use Rattle.lmn_receipt_line.proofs.items.add_links.Goals as goal

pub loop-link-init : goal.loop-link-init
loop-link-init g c = row_first (codes ", ") false link_name c.args.links.now _

pub loop-link-preserved : goal.loop-link-preserved
loop-link-preserved g c =
    row_at (codes ", ") false link_name c.args.links.now c.loop-link.link-index _ c.loop-link.any _ _ _ _ c.loop-link-test.true c.loop-link.invariant c.add_between.ensures c.add_link.ensures

pub returns : goal.returns
returns g c =
    adds_as (links_text c.args.links.now (grind (arith, common_steps, c.is_empty.ensures, c.if-is_empty.false)))
    (adds_more (codes "(") _ _ _ _ c.add.ensures (adds_more (in_row (codes ", ") false (map link_name c.args.links.now)) (codes ")") _ _ _
    (row_all (codes ", ") false link_name c.args.links.now _ c.loop-link.any _ _ c.loop-link-test.false c.loop-link.invariant).0 c.add-2.ensures))
