use Rattle.std.proofs.Common.{◌≡◌, ℕ, List, ◌++◌, length}
use Rattle.std.specs.Io.KnownBytes.{Appends}
use Rattle.lmn_io.proofs.out_sink.OutSinkSink.put.Given as goal

abbrev pub invariant-loop-rest : goal.invariant-loop-rest
invariant-loop-rest g l =
    (l.self.failures ≡ l.initial.self.failures) × (l.self.since ≡ l.initial.self.since)
    × ((front : List ℕ) × (l.fn.piece ≡ front ++ l.rest) × (l.self.taken.bytes ≡ l.initial.self.taken.bytes ++ front)
    × Appends (g.W.Write.contents l.initial.self.writer) (g.W.Write.contents l.self.writer) front)

abbrev pub decreases-loop-rest : goal.decreases-loop-rest
decreases-loop-rest g l = length l.rest
