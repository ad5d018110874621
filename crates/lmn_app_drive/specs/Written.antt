-- What a run writes.
use Rattle.std.specs.Prelude.{ℕ, ◌≡◌, List, [], ◌++◌, length, Bool, if◌then◌else◌}
use Rattle.std.specs.List.{concat}
use Rattle.lmn_congruence.specs.Regions.{Region}
use Rattle.lmn_print_folded.specs.Lines.{IsLine}
use Rattle.lmn_app_runs.specs.Runs.{LinesOf, end_line}

-- The lines of the solids of a trace that is cut, in the folded form where that is asked, and else in the plain one: those of the solids
-- before the last one, and that of the last one.
pub record Lines (folded : Bool) (before : List Region) (last : Region) : Type 0 where
  pub first_lines : List (List ℕ)
  pub last_line : List ℕ
  pub are_lines : LinesOf folded before first_lines
  pub is_line : IsLine folded last last_line

-- lines that are written with a trace alone
abbrev pub traced : Bool → List (List ℕ) → List ℕ
traced trace lines = if trace then concat lines else []

-- What is written by lines: with a trace those before the last one, then the last one, and the end line with a word.
abbrev pub written : Bool → List (List ℕ) → List ℕ → List ℕ → List ℕ
written trace first_lines last_line word = traced trace first_lines ++ (last_line ++ end_line word (length first_lines))

-- this text is written, in a form, of a trace that is cut
abbrev pub IsWritten : (folded trace : Bool) → List Region → Region → List ℕ → List ℕ → Type 0
IsWritten folded trace before last word text = (lines : Lines folded before last) × (text ≡ written trace lines.first_lines lines.last_line word)
