-- A next solid, as it is found beside a text.
use Rattle.std.specs.Prelude.{ℕ, ◌≡◌, ◌<◌, ◌≤◌, ◌++◌, ◌∷◌, Bool, false, List, None, IfSome, IsTrue, get_or, length}
use Rattle.lmn_base.specs.declared.solid.Solid.{Solid}
use Rattle.lmn_congruence.specs.Regions.{Region}
use Rattle.lmn_adequacy.specs.Choice.{NextFrom, paths}
use Rattle.lmn_adequacy.specs.Numbered.{IsNumbered}
use Rattle.lmn_adequacy.specs.Next.{NextAt}
use Rattle.lmn_flatten_plain.specs.SolidLines.{as_level}
use Rattle.lmn_flatten_plain.specs.Words.{text_of, top_pieces}
use Rattle.lmn_receipt_chain.specs.Bytes.{NoFeed}
use Rattle.lmn_receipt_chain.specs.Chains.{line_of_solid}
use Rattle.lmn_receipt_chain.specs.Laws.{IsAcceptedSolid}
use Rattle.lmn_receipt_chain.specs.declared.next.NextSolid.{NextSolid}

-- It is the next solid from each number of a membrane up to its reach.
abbrev pub IsNextTo : Region → (from reach : ℕ) → Region → Type 0
IsNextTo S from reach S' = (k : ℕ) → from ≤ k → k ≤ reach → NextFrom k S S'

-- A solid that is made fits, its links are numbered in printed order, and it is the next one.
abbrev pub IsNextMade : (Solid → Type 0) → (Solid → Region) → Region → (from reach : ℕ) → Solid → Type 0
IsNextMade fits region S from reach s = fits s × IsNumbered (region s) × IsNextTo S from reach (region s)

-- The text begins with the line of no next solid from a number up to the reach.
abbrev pub NoneBegins : Region → (from reach : ℕ) → List ℕ → Type 0
NoneBegins S from reach text = (k : ℕ) → from ≤ k → k ≤ reach → (S' : Region) (more : List ℕ) → NextFrom k S S' → ¬ (text ≡ line_of_solid S' ++ more)

-- What is found of the next solid of S where membranes are asked from a number on. `region` reads solids, and `fits` holds of those that are
-- made.
--   reached  its reach is the number of a membrane, from the one that was asked on
--   made     where it is made it is the next one up to its reach
--   other    where it isn't, the text doesn't begin with its line
pub record IsNextFound (fits : Solid → Type 0) (region : Solid → Region) (S : Region) (from : ℕ) (text : List ℕ) (next : NextSolid) : Type 0 where
  pub reached : (from ≤ next.reach) × (next.reach < length (paths S))
  pub made : IfSome next.solid (IsNextMade fits region S from next.reach)
  pub other : next.solid ≡ None → IsAcceptedSolid S → NoneBegins S from next.reach text

-- S' comes from S by a firing in a membrane whose number is marked.
pub record FiresAmong (marks : List Bool) (S S' : Region) : Type 0 where
  pub path : List ℕ
  pub number : ℕ
  pub positions : List ℕ
  pub next : NextAt path number positions S S'
  pub earlier : List (List ℕ)
  pub later : List (List ℕ)
  pub all : paths S ≡ earlier ++ path ∷ later
  pub marked : IsTrue (get_or marks (length earlier) false)

-- The text begins with the line of no solid that comes from S by a firing in a marked membrane, where this line has one line feed, its last byte.
abbrev pub AreLeftOut : Region → List ℕ → List Bool → Type 0
AreLeftOut S text marks = (S' : Region) (more : List ℕ) → FiresAmong marks S S' → NoFeed (text_of (top_pieces (as_level S'))) → ¬ (text ≡ line_of_solid S' ++ more)
