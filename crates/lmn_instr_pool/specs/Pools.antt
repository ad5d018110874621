-- Only contracts of private functions cite this file: instructions by their numbers in a pool.
use Rattle.std.specs.Prelude.{ℕ, List, [], ◌∷◌, ◌++◌, ◌≡◌, ◌<◌, Some, length, slice_get, option_to_list}
use Rattle.lmn_instr_code.specs.declared.instr.Instr.{Instr}

-- the instructions of a pool with these numbers
abbrev pub picked : List Instr → List ℕ → List Instr
picked pool [] = []
picked pool (n ∷ ns) = option_to_list (slice_get pool n) ++ picked pool ns

-- the pool has an instruction with each of these numbers
abbrev pub AreThere : List Instr → List ℕ → Type 0
AreThere pool [] = Unit {0}
AreThere pool (n ∷ ns) = (n < length pool) × AreThere pool ns

-- the numbers are those of these instructions
abbrev pub Selects : List Instr → List ℕ → List Instr → Type 0
Selects pool [] [] = Unit {0}
Selects pool [] (x ∷ xs) = ⊥
Selects pool (n ∷ ns) [] = ⊥
Selects pool (n ∷ ns) (x ∷ xs) = (slice_get pool n ≡ Some x) × Selects pool ns xs

-- each number means what it meant
abbrev pub Keeps : List Instr → List Instr → Type 0
Keeps before after = (n : ℕ) (x : Instr) → slice_get before n ≡ Some x → slice_get after n ≡ Some x
