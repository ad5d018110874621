-- What examples of small texts are written with: their first names, by number, and places.
use Rattle.lmn_base.specs.declared.level.CtxUse.{CtxUse}
use Rattle.lmn_base.specs.declared.refusal.Pos.{Pos}
use Rattle.std.specs.Prelude.{ℕ, pos, false}

-- the first names of a text behind the four fixed ones, by their numbers
abbrev pub name_a : ℕ
name_a = 4

abbrev pub name_b : ℕ
name_b = 5

-- a place in the first line
abbrev pub at_column : ℕ → Pos
at_column n = record { line = 1; column = n }

-- the names behind `a` and `b`, by their numbers
abbrev pub name_p : ℕ
name_p = 6

abbrev pub name_q : ℕ
name_q = 7

-- a use of a name at such a place
abbrev pub use_at : ℕ → ℕ → CtxUse
use_at name n = record { name = name; closed = false; pos = at_column n }

-- a place that doesn't matter
abbrev pub somewhere : Pos
somewhere = record { line = 1; column = 1 }
