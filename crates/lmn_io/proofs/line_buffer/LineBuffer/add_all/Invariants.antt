use Rattle.std.proofs.Common.{take}
use Rattle.lmn_io.specs.Gathering.{Adds, all_of, output}
use Rattle.lmn_io.proofs.line_buffer.LineBuffer.add_all.Given as goal

abbrev pub invariant-loop-piece : goal.invariant-loop-piece
invariant-loop-piece g l =
    let told = g.O.Sink.told in
    let faults = g.O.Sink.faults in
    Adds (all_of (take l.piece-index l.pieces)) (output l.initial.self (told l.initial.sink) (faults l.initial.sink)) (output l.self (told l.sink) (faults l.sink))
