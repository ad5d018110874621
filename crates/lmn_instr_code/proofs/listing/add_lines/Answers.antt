use Rattle.std.proofs.Common.{ap}
use Rattle.lmn_io.proofs.TakingLemmas.{adds_all, adds_as, adds_next}
use Rattle.lmn_instr_code.specs.Listings.{line}
use Rattle.lmn_instr_code.proofs.listing.add_lines.Goals as goal

pub loop-instr-preserved : goal.loop-instr-preserved
loop-instr-preserved g c =
    adds_next (line c.args.names.now) c.args.code.now c.loop-instr.instr-index c.instr-item.result _ _ _ c.loop-instr-test.true c.loop-instr.invariant
    (adds_as (ap (line c.args.names.now) c.instr-item.is) c.add_line.ensures)

pub returns : goal.returns
returns g c = adds_all (line c.args.names.now) _ _ c.loop-instr-test.false c.loop-instr.invariant
