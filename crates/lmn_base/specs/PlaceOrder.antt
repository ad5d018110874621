-- The order of places in a text.
use Rattle.std.specs.Prelude.{Bool, ◌&&◌, ◌||◌, ◌==◌, nat_lt, nat_le}
use Rattle.lmn_base.specs.declared.refusal.Pos.{Pos}

-- one place is before another in the text, or is the same
abbrev pub not_after : Pos → Pos → Bool
not_after p q = nat_lt p.line q.line || ((p.line == q.line) && nat_le p.column q.column)
