use Rattle.std.proofs.Common.{ap, codes}
use Rattle.std.specs.Fmt.{decimal}
use Rattle.std.specs.List.{flat_map}
use Rattle.lmn_io.proofs.TakingLemmas.{adds_as, adds_more}
use Rattle.lmn_instr_code.specs.Listings.{line}
use Rattle.lmn_instr_code.proofs.listing.add_code.Goals as goal

pub returns : goal.returns
returns g c =
    adds_more (codes "rule ") _ _ _ _ c.add.ensures
    (adds_more (decimal c.args.number) _ _ _ _ c.add_number.ensures
    (adds_more (codes "\n") _ _ _ _ c.add-2.ensures
    (adds_more (flat_map (line c.args.names.now) c.args.code.now.head) _ _ _ _
    (adds_as (ap (flat_map (line c.args.names.now)) c.as_slice.ensures) c.add_lines.ensures)
    (adds_as (ap (flat_map (line c.args.names.now)) c.as_slice-2.ensures) c.add_lines-2.ensures))))
