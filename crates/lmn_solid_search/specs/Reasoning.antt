-- On which images of a head a failure rests. Only private functions' contracts cite these words.
use Rattle.std.specs.Prelude.{ℕ, ◌≡◌, ◌^◌, List, Some, length, slice_get, min}
use Rattle.std.specs.Int.Bits.{bit_or}
use Rattle.lmn_solid_search.specs.declared.numbers.Numbers.{Numbers}
use Rattle.lmn_solid_search.specs.declared.numbers.Numbers.TheVariants.{All, These}
use Rattle.lmn_solid_search.specs.declared.placed.Placed.{Placed}
use Rattle.lmn_solid_search.specs.declared.reasons.Reasons.{Reasons}

-- the bit of a number: from the 127th on numbers have one in common
abbrev pub bit : ℕ → ℕ
bit k = 2 ^ (min k 127)

-- these numbers are among those
abbrev pub Within : Numbers → Numbers → Type 0
Within d All = Unit {0}
Within All (These e) = ⊥
Within (These d) (These e) = bit_or d e ≡ e

abbrev pub IsAmong : ℕ → Numbers → Type 0
IsAmong k = Within (These (bit k))

abbrev pub RestsOnLess : Reasons → Reasons → Type 0
RestsOnLess d e = Within d.atoms e.atoms × Within d.membranes e.membranes

-- images with these numbers are the same
abbrev pub SameImages : Numbers → List ℕ → List ℕ → Type 0
SameImages e xs ys = (k a : ℕ) → slice_get xs k ≡ Some a → IsAmong k e → slice_get ys k ≡ Some a

-- as many items are placed, and the images on which a failure rests are the same
pub record Agrees (e : Reasons) (p q : Placed) : Type 0 where
  pub home : q.home ≡ p.home
  pub atoms_long : length q.atoms ≡ length p.atoms
  pub membranes_long : length q.membranes ≡ length p.membranes
  pub atoms : SameImages e.atoms p.atoms q.atoms
  pub membranes : SameImages e.membranes p.membranes q.membranes
