-- Solids whose lines have one line feed, the last byte. Contracts of private functions alone cite these words.
use Rattle.std.specs.Prelude.{ℕ, ◌≡◌, ⊤, ◌==◌, if◌then◌else◌, Bool, true, false, List, [], ◌∷◌, Some, slice_get}
use Rattle.std.specs.List.{AllByRecursion}
use Rattle.lmn_congruence.specs.Regions.{Region, Regions, SolidAtom, no_region, region, region_and}
use Rattle.lmn_congruence.specs.Rules.{Name, Rule}
use Rattle.lmn_receipt_chain.specs.Bytes.{NoFeed}
use Rattle.lmn_flatten_plain.specs.Words.{label_piece, piece_text, rule_pieces, text_of}

-- a line feed is among these bytes
abbrev pub has_feed : List ℕ → Bool
has_feed [] = false
has_feed (b ∷ bs) = if b == 10 then true else has_feed bs

-- no name of a list has one
abbrev pub NamesWithout : List Name → Type 0
NamesWithout names = (n : ℕ) (name : Name) → slice_get names n ≡ Some name → NoFeed name

-- the label of each atom of a solid, and each of its rules, is written without one
abbrev mutual
  pub IsQuiet : Region → Type 0
  IsQuiet (region xs ms rs) = AllByRecursion (λ (x : SolidAtom). NoFeed (piece_text (label_piece x.label))) xs × AreQuiet ms × AllByRecursion (λ (r : Rule). NoFeed (text_of (rule_pieces r))) rs

  pub AreQuiet : Regions → Type 0
  AreQuiet no_region = ⊤
  AreQuiet (region_and m ms) = IsQuiet m × AreQuiet ms
