-- The line of a region, in the folded form and in the plain one.
use Rattle.std.specs.Prelude.{ℕ, ◌≡◌, List, Bool, true, false}
use Rattle.lmn_base.specs.Links.{NumbersLinks}
use Rattle.lmn_congruence.specs.Orders.{Among}
use Rattle.lmn_congruence.specs.Regions.{Region}
use Rattle.lmn_flatten_plain.specs.SolidLines.{as_level}
use Rattle.lmn_flatten_plain.specs.Words.{level_pieces, line_of_items}
use Rattle.lmn_print_folded.specs.Terms.{Folded, folded_links, renamed_folded}
use Rattle.lmn_print_folded.specs.Folding.{Folds}
use Rattle.lmn_print_folded.specs.Words.{folded_pieces}

-- The line of a region in the folded form: the words of its folded form, with a number for each link, different ones for different
-- links, which are those by first occurrence over the whole line.
pub record IsFoldedLine (S : Region) (line : List ℕ) : Type 0 where
  pub to : ℕ → ℕ
  pub one_to_one : (x y : ℕ) → to x ≡ to y → x ≡ y
  pub form : Folded
  pub folds : Folds to S form
  pub count : ℕ
  pub by_first_occurrence : NumbersLinks (folded_links form) count
  pub is : line ≡ line_of_items (folded_pieces form)

-- the line of a region, in the folded form where that is asked, and else in the plain one
abbrev pub IsLine : Bool → Region → List ℕ → Type 0
IsLine true S line = IsFoldedLine S line
IsLine false S line = line ≡ line_of_items (level_pieces (as_level S))

-- ---- words for lemmas

-- A folded form with other numbers for its printed links, different ones for different links, by first occurrence.
pub record IsNumberedForm (given numbered : Folded) : Type 0 where
  pub to : ℕ → ℕ
  pub one_to_one : (x y : ℕ) → Among x (folded_links given) → Among y (folded_links given) → to x ≡ to y → x ≡ y
  pub is : numbered ≡ renamed_folded to given
  pub count : ℕ
  pub by_first_occurrence : NumbersLinks (folded_links numbered) count
