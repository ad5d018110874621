-- What a shelf tells of its texts, if it tells them, and what its calls may answer.
use Rattle.std.specs.Prelude.{◌≡◌, ℕ, ◌<◌, ◌≤◌, List, [], ◌∷◌, ◌++◌, drop, length, take, Option, Some, None, IfSome, IsSomeAnd, if◌then◌else◌}
use Rattle.std.specs.Str.{bytes_eq}
use Rattle.lmn_io.specs.declared.shelf.Fetched.{Fetched}
use Rattle.lmn_io.specs.declared.shelf.Fetched.TheVariants.{Whole, TooLong}
use Rattle.lmn_io.specs.declared.shelf.Measured.{Measured}
use Rattle.lmn_io.specs.declared.shelf.Measured.TheVariants as measured

-- what a fetch found is what the shelf tells under the name
abbrev pub IsFetched : Option (List ℕ → Option (List ℕ)) → List ℕ → ℕ → Fetched → Type 0
IsFetched told name most (Whole bytes) = (length bytes ≤ most) × IfSome told (λ text. text name ≡ Some bytes)
IsFetched told name most TooLong = IfSome told (λ text. IsSomeAnd (text name) (λ bytes. most < length bytes))

-- what a text was measured at is the length of what the shelf tells under the name
abbrev pub IsMeasured : Option (List ℕ → Option (List ℕ)) → List ℕ → ℕ → Measured → Type 0
IsMeasured told name most (measured.Length count) = (count ≤ most) × IfSome told (λ text. IsSomeAnd (text name) (λ bytes. length bytes ≡ count))
IsMeasured told name most measured.TooLong = IfSome told (λ text. IsSomeAnd (text name) (λ bytes. most < length bytes))

-- these bytes are what the shelf tells under the name from a place on, at most so many
abbrev pub IsPart : Option (List ℕ → Option (List ℕ)) → List ℕ → ℕ → ℕ → List ℕ → Type 0
IsPart told name from most part = (length part ≤ most) × IfSome told (λ text. IsSomeAnd (text name) (λ bytes. part ≡ take most (drop from bytes)))

-- a shelf was asked for the text under this name, if it has at most so many bytes
pub record Fetch : Type 0 where
  pub name : List ℕ
  pub most : ℕ

-- and for this one behind the others
abbrev pub asked_once_more : List ℕ → ℕ → List Fetch → List Fetch
asked_once_more name most asked = asked ++ (record { name = name; most = most } ∷ [])

-- the text beside the first place where the name stands
abbrev pub text_named : List (List ℕ) → List (List ℕ) → List ℕ → Option (List ℕ)
text_named [] texts name = None
text_named (n ∷ names) [] name = None
text_named (n ∷ names) (t ∷ texts) name = if bytes_eq n name then Some t else text_named names texts name

-- Examples: under each name stand two bytes.
abbrev pub two_bytes : Option (List ℕ → Option (List ℕ))
two_bytes = Some (λ name. Some (97 ∷ (98 ∷ [])))

-- they are measured as two, and not as one
abbrev pub TwoBytesAreMeasured : Type 0
TwoBytesAreMeasured = IsMeasured two_bytes [] 2 (measured.Length 2) × ¬ (IsMeasured two_bytes [] 2 (measured.Length 1))

-- the part from place 1 on is the second byte, also where more is asked for
abbrev pub SecondByteIsPart : Type 0
SecondByteIsPart = IsPart two_bytes [] 1 5 (98 ∷ []) × ¬ (IsPart two_bytes [] 1 5 [])
