-- The number by which a cell tells its kind, and a membrane whether its atoms are filed by class.
use Rattle.std.specs.Prelude.{ℕ, ◌==◌, if◌then◌else◌}
use Rattle.lmn_web.specs.declared.kind.CellKind.{CellKind}
use Rattle.lmn_web.specs.declared.kind.CellKind.TheVariants.{Atom, Membrane}

abbrev pub kind_by : ℕ → CellKind
kind_by n = if n == 0 then Atom else Membrane

-- the number of a membrane whose atoms are filed
abbrev pub FILED : ℕ
FILED = 1
