-- What a sink tells of the bytes that it took, if it tells them.
use Rattle.std.specs.Prelude.{◌≡◌, ℕ, List, ◌++◌, Option, Some, None}
use Rattle.std.specs.Io.KnownBytes.{Appends}

-- it took the whole piece
abbrev pub Takes : List ℕ → Option (List ℕ) → Option (List ℕ) → Type 0
Takes piece None new = new ≡ None
Takes piece (Some old) new = new ≡ Some (old ++ piece)

-- it took a prefix of the piece
abbrev pub TakesPrefix : List ℕ → Option (List ℕ) → Option (List ℕ) → Type 0
TakesPrefix piece None new = new ≡ None
TakesPrefix piece (Some old) new = (front rest : List ℕ) × (piece ≡ front ++ rest) × (new ≡ Some (old ++ front))

-- it took the piece but for the part at its end that is still kept back
abbrev pub Gathers : List ℕ → Option (List ℕ) → List ℕ → Option (List ℕ) → Type 0
Gathers piece None kept new = new ≡ None
Gathers piece (Some old) kept new = (front : List ℕ) × (piece ≡ front ++ kept) × (new ≡ Some (old ++ front))

-- What a sink tells more after a call is what its writer took in it, if it is known what the writer holds.
abbrev pub TellsWritten : List ℕ → List ℕ → Option (List ℕ) → Option (List ℕ) → Type 0
TellsWritten told told_after held held_after = (bytes : List ℕ) × (told_after ≡ told ++ bytes) × Appends held held_after bytes
