use Rattle.std.proofs.Common.{codes}
use Rattle.lmn_io.proofs.TakingLemmas.{adds_more}
use Rattle.lmn_instr_code.specs.Labels.{listed_label_text}
use Rattle.lmn_instr_code.proofs.listing.add_functor.Goals as goal

pub returns : goal.returns
returns g c =
    adds_more (listed_label_text c.args.names.now c.args.functor.label) _ _ _ _ c.add_label.ensures
    (adds_more (codes "/") _ _ _ _ c.add.ensures c.add_number.ensures)
