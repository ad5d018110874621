-- What is seen of a trace that is read from a shelf, line by line.
use Rattle.std.specs.Prelude.{◌≡◌, ◌<◌, ◌≤◌, ◌⊎◌, ℕ, ◌+◌, ◌-◌, List, ◌++◌, drop, length, Option, Some, None, IfSome}
use Rattle.lmn_io.specs.Counts.{Rose}
use Rattle.lmn_io.specs.Texts.{Fetch}
use Rattle.lmn_receipt_reading.specs.Windows.{AtHand, HasLine}

-- What the shelf tells, was asked for and counts; the name of the text, how much of it was read, how long it is, and what is at hand.
pub record Reading : Type 0 where
  pub told : Option (List ℕ → Option (List ℕ))
  pub asked : Option (List Fetch)
  pub faults : List ℕ → ℕ
  pub name : List ℕ
  pub read : ℕ
  pub length : ℕ
  pub at_hand : AtHand

-- the text under a name, where it is told
abbrev pub text_told : Option (List ℕ → Option (List ℕ)) → List ℕ → Option (List ℕ)
text_told None name = None
text_told (Some text) name = text name

-- how many bytes may still come
abbrev pub left_of : Reading → ℕ
left_of r = (r.length - r.read) + length r.at_hand.ahead

-- What may be left: what is ahead, and no more than may still come; where the text is told, what wasn't read of it.
pub record IsRest (r : Reading) (rest : List ℕ) : Type 0 where
  pub more : List ℕ
  pub is : rest ≡ r.at_hand.ahead ++ more
  pub few : length more ≤ r.length - r.read
  pub told : IfSome (text_told r.told r.name) (λ all. more ≡ drop r.read all)

-- The text isn't longer than it is held for, and no more was read.
pub record IsMeasuredRight (r : Reading) : Type 0 where
  pub within : r.read ≤ r.length
  pub whole : IfSome (text_told r.told r.name) (λ all. length all ≤ r.length)

-- and all of it is at hand, or a line with a byte behind it is ahead
pub record IsReady (r : Reading) : Type 0 where
  pub right : IsMeasuredRight r
  pub ahead : (r.read ≡ r.length) ⊎ HasLine r.at_hand.ahead

-- Two readings of one text; what the shelf tells and was asked for is the same, and no count fell.
pub record IsOfSame (before after : Reading) : Type 0 where
  pub told : after.told ≡ before.told
  pub asked : after.asked ≡ before.asked
  pub later : (name : List ℕ) → before.faults name ≤ after.faults name
  pub name : after.name ≡ before.name

-- the count of the text rose
abbrev pub ReadFailed : Reading → Reading → Type 0
ReadFailed before after = Rose (before.faults before.name) (after.faults before.name)

-- More was read, and nothing met.
pub record ReadsOn (before after : Reading) : Type 0 where
  pub right : IsMeasuredRight after
  pub last : after.at_hand.last ≡ before.at_hand.last
  pub rest : (rest : List ℕ) → IsRest after rest → IsRest before rest
  pub left : left_of after ≤ left_of before
