-- What numbers, integers and functors look like in a listing.
use Rattle.lmn_base.specs.Limits.{longest_name, most_links}
use Rattle.std.specs.Prelude.{ℕ, ℤ, pos, negsuc, ◌≡◌, ◌≢◌, ◌<◌, ◌≤◌, ◌^◌, ◌⊎◌, List, [], ◌++◌, codes, length, slice_index_or}
use Rattle.std.specs.List.{AllByRecursion}
use Rattle.std.specs.Fmt.{decimal, signed_decimal}
use Rattle.lmn_base.specs.declared.functor.Label.{Label}
use Rattle.lmn_base.specs.declared.functor.Label.TheVariants.{Name, Int}
use Rattle.lmn_base.specs.Links.{Numbers}
use Rattle.lmn_lexer.specs.NameText.{name_text}

-- an integer of 64 bits
abbrev pub IsIn64Bits : ℤ → Type 0
IsIn64Bits (pos n) = n < 2 ^ 63
IsIn64Bits (negsuc n) = n < 2 ^ 63

-- the text of a name of at most 255 bytes, or of an integer of 64 bits
abbrev pub IsLabelText : List ℕ → Type 0
IsLabelText text =
    ((name : List ℕ) × (length name ≤ longest_name) × (name_text name ≡ text)) ⊎ ((z : ℤ) × IsIn64Bits z × (signed_decimal z ≡ text))

-- the name of a label has at most 255 bytes
abbrev pub IsShortLabel : List (List ℕ) → Label → Type 0
IsShortLabel names (Name n) = length (slice_index_or names n []) ≤ longest_name
IsShortLabel names (Int z) = Unit {0}

-- the text of a functor with such a label and an arity of at most 255
abbrev pub IsFunctorText : List ℕ → Type 0
IsFunctorText text = (label : List ℕ) × (arity : ℕ) × IsLabelText label × (arity ≤ most_links) × (label ++ (codes "/" ++ decimal arity) ≡ text)

-- The list has at most n names more, behind all that it had.
pub record AddsNames (n : ℕ) (before later : List (List ℕ)) : Type 0 where
  pub more : List (List ℕ)
  pub are : later ≡ before ++ more
  pub few : length more ≤ n

-- Names are put in order, one after the other: each of these numbers is that of a name which was held then, or the next one, and a name
-- was put. So many names are held at the end as stand in the later list, and none was put besides.
abbrev pub NumbersNames : List (List ℕ) → List ℕ → List (List ℕ) → Type 0
NumbersNames before ns later = Numbers (length before) ns (length later)

-- no byte of a text is a `/`
abbrev pub HasNoSlash : List ℕ → Type 0
HasNoSlash text = AllByRecursion (λ b. b ≢ 47) text
