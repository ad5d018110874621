-- The laws of listings.
use Rattle.std.specs.Prelude.{ℕ, ◌≡◌, ◌+◌, ◌*◌, ◌<◌, ◌^◌, List, length}
use Rattle.std.specs.List.{flat_map}
use Rattle.lmn_base.specs.Names.{IsNames}
use Rattle.lmn_instr_code.specs.declared.instr.Code.{Code}
use Rattle.lmn_instr_reading.specs.Reading.{AddsNames, NumbersNames}
use Rattle.lmn_verify_code.specs.Operands.{code_names}
use Rattle.lmn_verify_listing.specs.Lines.{IsWrongLine}
use Rattle.lmn_verify_listing.specs.Listings.{AreListed}

-- What is the listings of codes has no line that doesn't stand in its place: each text of which codes are read isn't refused
-- by its lines.
abbrev pub ListedLinesStand : Type 0
ListedLinesStand =
    (n : ℕ) (names : List (List ℕ)) (codes : List Code) (text : List ℕ) (k : ℕ) → n < 2 ^ 32 → AreListed n names codes text → IsWrongLine n text k → ⊥

-- A text has at most one line that is the first that doesn't stand in its place.
abbrev pub WrongLineIsOne : Type 0
WrongLineIsOne = (n : ℕ) (text : List ℕ) (j k : ℕ) → IsWrongLine n text j → IsWrongLine n text k → j ≡ k

-- Beside names that are held no text is neither the listings of codes, whose names are put behind these in the order in which they stand
-- in it, nor has a line that doesn't stand in its place. There are few enough of both that the number of each name has 32 bits.
abbrev pub NeitherListedNorWrong : Type 0
NeitherListedNorWrong =
    (n : ℕ) (names : List (List ℕ)) (text : List ℕ) → IsNames names → length names + 3 * length text < 2 ^ 32
    → ¬ (((later : List (List ℕ)) (codes : List Code) → AddsNames (3 * length text) names later → IsNames later → AreListed n later codes text
    → NumbersNames names (flat_map code_names codes) later → ⊥) × ((k : ℕ) → ¬ (IsWrongLine n text k)))
