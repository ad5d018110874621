use Rattle.std.proofs.Common.{◌≡◌, ◌≤◌, ◌+◌, ◌==◌, take, drop}
use Rattle.std.specs.Prelude.{count_by}
use Rattle.lmn_lexer.specs.Cutting.{column_behind}
use Rattle.lmn_lexer.proofs.place.behind.Given as goal

abbrev pub invariant-loop-byte : goal.invariant-loop-byte
invariant-loop-byte l = (l.line ≡ l.initial.line + count_by (λ b. b == 10) (take l.byte-index l.bytes))
    × (column_behind l.initial.column l.bytes ≡ column_behind l.column (drop l.byte-index l.bytes))
    × (l.column ≤ l.initial.column + l.byte-index)
