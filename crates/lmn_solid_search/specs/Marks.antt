-- What marks tell.
use Rattle.std.specs.Prelude.{ℕ, ◌≤◌, ◌==◌, List, Option, Some, None, if◌then◌else◌}
use Rattle.std.specs.List.{AllByRecursion}
use Rattle.lmn_solid_search.specs.declared.marks.Mark.{Mark}

-- a mark of the round tells its number, and no other one tells any
abbrev pub shown : ℕ → Mark → Option ℕ
shown round mark = if mark.round == round then Some mark.number else None

-- no mark is of a later round
abbrev pub NoneLater : ℕ → List Mark → Type 0
NoneLater round = AllByRecursion (λ mark. mark.round ≤ round)

-- a mark of no round
abbrev pub never : Mark
never = record { round = 0; number = 0 }
