use Rattle.lmn_io.proofs.TakingLemmas.{adds_as, adds_more}
use Rattle.lmn_receipt_line.proofs.ItemLemmas.{atom_text}
use Rattle.lmn_receipt_line.proofs.items.add_atom.Goals as goal

pub returns : goal.returns
returns g c = adds_as (atom_text c.args.names.now c.args.atom.now c.as_slice.result.now c.as_slice.ensures) (adds_more _ _ _ _ _ c.add_label.ensures c.add_links.ensures)
