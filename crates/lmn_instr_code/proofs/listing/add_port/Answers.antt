use Rattle.std.proofs.Common.{codes}
use Rattle.std.specs.Fmt.{decimal}
use Rattle.lmn_io.proofs.TakingLemmas.{adds_more}
use Rattle.lmn_instr_code.proofs.listing.add_port.Goals as goal

pub returns : goal.returns
returns g c =
    adds_more (codes "A") _ _ _ _ c.add.ensures
    (adds_more (decimal c.args.port.atom) _ _ _ _ c.add_number.ensures
    (adds_more (codes ".") _ _ _ _ c.add-2.ensures c.add_number-2.ensures))
