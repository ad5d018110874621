-- Laws of folded lines.
use Rattle.std.specs.Prelude.{ℕ, ◌≡◌, List}
use Rattle.lmn_congruence.specs.Process.{Closed}
use Rattle.lmn_congruence.specs.Regions.{Region, region_process}
use Rattle.lmn_print_folded.specs.Lines.{IsFoldedLine}

-- Each region in which every link stands in two places, as each solid's does, has a folded line.
abbrev pub SomeFoldedLine : Type 0
SomeFoldedLine = (S : Region) → Closed (region_process S) → (line : List ℕ) × IsFoldedLine S line

-- It has no other.
abbrev pub OneFoldedLine : Type 0
OneFoldedLine = (S : Region) (line other : List ℕ) → Closed (region_process S) → IsFoldedLine S line → IsFoldedLine S other → line ≡ other
