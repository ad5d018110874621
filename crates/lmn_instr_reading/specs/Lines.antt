-- Lines, and the small numbers that stand in them.
use Rattle.std.specs.Prelude.{ℕ, ◌≢◌, ◌&&◌, Bool, List, [], ◌∷◌, ◌++◌, Option, Some, None, length, nat_le, if◌then◌else◌}
use Rattle.std.specs.Char.{is_ascii_digit}
use Rattle.std.specs.List.{AllByRecursion, flat_map, list_all}
use Rattle.lmn_lexer.specs.Faults.{value_behind}

-- ---- numbers

-- the number that digits write, where it is at most 1,000,000
abbrev pub small_value : List ℕ → Option ℕ
small_value digits = if nat_le (value_behind 0 digits) 1000000 then Some (value_behind 0 digits) else None

-- there are 1 to 7 digits
abbrev pub are_digits : List ℕ → Bool
are_digits bytes = nat_le 1 (length bytes) && (nat_le (length bytes) 7 && list_all is_ascii_digit bytes)

-- the number that 1 to 7 digits write, where it is at most 1,000,000; zeros may stand in front
abbrev pub number_written : List ℕ → Option ℕ
number_written bytes = if are_digits bytes then small_value bytes else None

-- ---- lines

-- no byte is a space
abbrev pub HasNoSpace : List ℕ → Type 0
HasNoSpace bytes = AllByRecursion (λ b. b ≢ 32) bytes

-- no byte is a line feed
abbrev pub IsOneLine : List ℕ → Type 0
IsOneLine line = AllByRecursion (λ b. b ≢ 10) line

-- lines, each with its line feed
abbrev pub joined : List (List ℕ) → List ℕ
joined lines = flat_map (λ line. line ++ 10 ∷ []) lines
