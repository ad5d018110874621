use Rattle.std.proofs.Common.{◌∙◌, ◌++◌, ap, refl, sym}
use Rattle.std.proofs.lemmas.Result.{on_ok_weaker, on_err_weaker}
use Rattle.lmn_io.proofs.TakingLemmas.{kept_behind, prefix_after, takes_more}
use Rattle.lmn_io.proofs.line_buffer.keep_or_put.Goals as goal

pub returns-then-has_room-2-clause-took : goal.returns-then-has_room-2-clause-took
returns-then-has_room-2-clause-took g c =
    kept_behind c.args.kept.now c.args.piece.now _ _ _ (c.keep-then-has_room-2.ensures ∙ ap (λ bytes. bytes ++ c.args.piece.now) c.clear.ensures)
    (c.in_ok-put.ensures.writes.took c.args.kept.now (sym c.as_slice.ensures))

pub returns-clause-took : goal.returns-clause-took
returns-clause-took g c =
    on_ok_weaker c.put-2.result (takes_more c.args.kept.now c.args.piece.now _ _ _ _ c.clear.ensures (c.in_ok-put.ensures.writes.took c.args.kept.now (sym c.as_slice.ensures)))
    (c.put-2.ensures.writes.took c.args.piece.now refl)

pub returns-clause-prefix : goal.returns-clause-prefix
returns-clause-prefix g c =
    on_err_weaker c.put-2.result (prefix_after c.args.kept.now c.args.piece.now _ _ _ (c.in_ok-put.ensures.writes.took c.args.kept.now (sym c.as_slice.ensures)))
    (c.put-2.ensures.writes.prefix c.args.piece.now refl)
