use Rattle.lmn_io.proofs.TakingLemmas.{adds_as, adds_more}
use Rattle.std.proofs.Common.{ap}
use Rattle.lmn_lexer.specs.NameText.{name_text}
use Rattle.lmn_print_plain.proofs.LeafLemmas.{kind_text}
use Rattle.lmn_print_plain.proofs.guard.add_kind.Goals as goal

pub returns : goal.returns
returns g c =
    adds_as (kind_text c.args.names.now c.args.name c.args.args.now c.name_of.ensures.names)
    (adds_more _ _ _ _ _ (adds_as (ap name_text c.name_of.ensures.text) c.add_name.ensures) c.add_arguments.ensures)
