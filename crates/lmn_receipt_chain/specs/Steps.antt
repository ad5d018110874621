-- What is found behind the line of a solid.
use Rattle.std.specs.Prelude.{◌≡◌, ◌<◌, ◌≤◌, ◌⊎◌, ◌++◌, ℕ, List, codes, drop, length}
use Rattle.lmn_base.specs.declared.solid.Solid.{Solid}
use Rattle.lmn_congruence.specs.Regions.{Region}
use Rattle.lmn_receipt_chain.specs.declared.walk.Step.{Step}
use Rattle.lmn_receipt_chain.specs.declared.walk.Step.TheVariants.{More, Done, WrongLine, WrongEnd}
use Rattle.lmn_app_runs.specs.Runs.{end_line}
use Rattle.lmn_receipt_chain.specs.Chains.{Continues, IsEndThere, IsEndWord, IsProcessThere, line_of_solid}

-- a text begins with the line of S, which is so long
abbrev pub BeginsWith : Region → List ℕ → ℕ → Type 0
BeginsWith S text len = (0 < len) × (len ≤ length text) × (text ≡ line_of_solid S ++ drop len text)

-- no solid that continues S has a line at the beginning of the rest
abbrev pub NothingFits : Region → List ℕ → Type 0
NothingFits S rest = (S' : Region) (more : List ℕ) → Continues S S' → ¬ (rest ≡ line_of_solid S' ++ more)

-- the rest is no end line that is due behind n commits
abbrev pub NoEndIsDue : Region → List ℕ → ℕ → Type 0
NoEndIsDue S rest n = (word : List ℕ) → IsEndWord S word → ¬ (rest ≡ end_line word n)

-- the rest is an end line with one of the words of an end where a firing is possible
abbrev pub IsOtherEnd : List ℕ → ℕ → Type 0
IsOtherEnd rest n = (rest ≡ end_line (codes "budget") n) ⊎ (rest ≡ end_line (codes "full") n) ⊎ (rest ≡ end_line (codes "no memory") n)

-- Behind the line of S, n commits done, this is found: the line of a next solid, with its length; the end line; a line or an end that
-- is wrong. `region` reads solids, and `fits` holds of those that are found.
abbrev pub IsStep : (Solid → Region) → (Solid → Type 0) → Region → List ℕ → ℕ → Step → Type 0
IsStep region fits S rest n (More next len) =
    fits next × Continues S (region next) × (0 < len) × (len ≤ length rest) × (rest ≡ line_of_solid (region next) ++ drop len rest)
IsStep region fits S rest n Done = (word : List ℕ) × IsEndWord S word × (rest ≡ end_line word n)
IsStep region fits S rest n WrongLine = IsProcessThere rest × NothingFits S rest
IsStep region fits S rest n WrongEnd = IsEndThere rest × NoEndIsDue S rest n
