use Rattle.std.proofs.Common.{ap, arith}
use Rattle.std.specs.Fmt.{decimal}
use Rattle.lmn_io.proofs.TakingLemmas.{adds_as, adds_more}
use Rattle.lmn_instr_code.proofs.listing.add_register.Goals as goal

pub returns : goal.returns
returns g c = adds_more c.args.letter.now (decimal c.args.register) _ _ _ c.add.ensures (adds_as (ap decimal (omega arith)) c.add_number.ensures)
