use Rattle.std.proofs.Common.{ap, sym, arith}
use Rattle.std.proofs.lemmas.Option.{get_or_from_slice_get}
use Rattle.lmn_io.proofs.TakingLemmas.{adds_all, adds_as, adds_next}
use Rattle.lmn_instr_code.specs.Listings.{line}
use Rattle.lmn_compile_listing.proofs.Listed.{has_at}
use Rattle.lmn_compile_listing.proofs.listing.add_body_lines.Goals as goal

pub add_line-requires : goal.add_line-requires
add_line-requires g c = has_at c.args.names.now c.args.code.now c.loop-i.i c.at.result.now c.at.ensures c.requires

pub loop-i-preserved : goal.loop-i-preserved
loop-i-preserved g c =
    let at = get_or_from_slice_get c.args.code.now c.loop-i.i c.at.result.now c.at.result.now c.at.ensures in
    let below = c.loop-i-test.true in
    let count = c.len-i-end.ensures.len in
    adds_next (line c.args.names.now) c.args.code.now c.loop-i.i c.at.result.now _ _ _ (omega (arith, below, count)) c.loop-i.invariant
    (adds_as (ap (line c.args.names.now) (sym at)) c.add_line.ensures)

pub returns : goal.returns
returns g c =
    let end = c.loop-i-test.false in
    let count = c.len-i-end.ensures.len in
    adds_all (line c.args.names.now) _ _ (omega (arith, end, count)) c.loop-i.invariant
