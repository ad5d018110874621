use Rattle.lmn_io.proofs.TakingLemmas.{adds_next}
use Rattle.lmn_io.proofs.line_buffer.LineBuffer.add_all.Goals as goal

pub loop-piece-preserved : goal.loop-piece-preserved
loop-piece-preserved g c =
    adds_next (λ piece. piece.now) c.args.pieces.now c.loop-piece.piece-index _ _ _ _ c.loop-piece-test.true c.loop-piece.invariant c.add.ensures
