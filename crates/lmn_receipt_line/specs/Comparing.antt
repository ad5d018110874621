-- Words of private functions alone: what was compared with a text.
use Rattle.std.specs.Prelude.{ℕ, ◌≡◌, ◌<◌, ◌≤◌, List, [], ◌∷◌, ◌++◌, Option, Some, None, length, slice_get}
use Rattle.lmn_io.specs.Counts.{Faults}

-- a text, the bytes that were compared with it, and the counts of a sink
pub record Compared : Type 0 where
  pub text : List ℕ
  pub taken : List ℕ
  pub faults : Faults

-- a byte behind others, if there is one
abbrev pub followed_by : List ℕ → Option ℕ → List ℕ
followed_by bytes None = bytes
followed_by bytes (Some byte) = bytes ++ byte ∷ []

-- What such a sink tells. The text stands before what it took, and its length before the text, so that both can be read of it:
-- a call that writes into any sink speaks of this alone.
abbrev pub told_of : Compared → List ℕ
told_of c = length c.text ∷ (c.text ++ c.taken)

-- So many bytes of the text were met. Behind them was met another one than that of the text, and then a put failed; or none did.
abbrev pub IsComparison : List ℕ → ℕ → Option ℕ → ℕ → Type 0
IsComparison text at None failures = (at ≤ length text) × (failures ≡ 0)
IsComparison text at (Some byte) failures = (at ≤ length text) × (0 < failures) × ¬ (slice_get text at ≡ Some byte)
