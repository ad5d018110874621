use Rattle.lmn_io.proofs.TakingLemmas.{adds_as, adds_more}
use Rattle.lmn_print_plain.proofs.labels.add_context.Goals as goal

pub returns : goal.returns
returns g c = adds_more c.args.sign.now _ _ _ _ c.add.ensures (adds_as c.name_of.ensures.text c.add-2.ensures)
