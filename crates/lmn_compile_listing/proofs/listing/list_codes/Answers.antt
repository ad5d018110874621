use Rattle.lmn_compile_listing.proofs.Listed.{next_written, part_written}
use Rattle.lmn_compile_listing.proofs.listing.list_codes.Goals as goal

pub returns-in_err-list : goal.returns-in_err-list
returns-in_err-list g c =
    part_written c.args.names.now c.args.codes.now c.loop-k.k c.code-code.result c.code-code.ensures _ tt _ c.from_residual.result _ _ _ _ _ _ c.from_residual.ensures.1 c.loop-k.invariant c.in_err-list.ensures

pub loop-k-preserved : goal.loop-k-preserved
loop-k-preserved g c =
    next_written c.args.names.now c.args.codes.now c.loop-k.k c.code-code.result c.code-code.ensures tt _ _ _ _ _ _ _ c.loop-k.invariant c.in_ok-list.ensures
