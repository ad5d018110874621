-- Examples of windows and readings.
use Rattle.std.specs.Prelude.{◌≡◌, ℕ, List, [], ◌∷◌, Some, None}
use Rattle.lmn_receipt_reading.specs.Windows.{AtHand, HasLine, IsWindow}
use Rattle.lmn_receipt_reading.specs.Readings.{IsMeasuredRight, IsOfSame, IsReady, IsRest, ReadFailed, Reading, ReadsOn, left_of}

-- `a`, a line feed and `b`
abbrev pub line_and_byte : List ℕ
line_and_byte = 97 ∷ (10 ∷ (98 ∷ []))

-- the line feed has a byte behind it, and one at the end hasn't
abbrev pub ByteIsBehind : Type 0
ByteIsBehind = HasLine line_and_byte × ¬ (HasLine (97 ∷ (10 ∷ [])))

-- and so they may stand for a longer text, where one may be cut
abbrev pub CutIsWindow : Type 0
CutIsWindow = IsWindow (Unit {0}) (97 ∷ (10 ∷ (98 ∷ (99 ∷ [])))) line_and_byte × ¬ (IsWindow ⊥ (97 ∷ (10 ∷ (98 ∷ (99 ∷ [])))) line_and_byte)

-- these bytes under every name, of which so many were read, and this is ahead
abbrev pub reading : ℕ → List ℕ → Reading
reading read ahead = record {
  told = Some (λ name. Some line_and_byte);
  asked = None;
  faults = λ name. 0;
  name = [];
  read = read;
  length = 3;
  at_hand = record { last = []; ahead = ahead };
}

-- before the beginning nothing is ready and all is left; where all was read it is
abbrev pub AllIsReady : Type 0
AllIsReady = IsRest (reading 0 []) line_and_byte × ¬ (IsRest (reading 0 []) []) × (left_of (reading 0 []) ≡ 3) × IsMeasuredRight (reading 0 []) × ¬ (IsReady (reading 0 [])) × IsReady (reading 3 line_and_byte)

-- what was read is ahead, and no less
abbrev pub NothingIsLost : Type 0
NothingIsLost = ReadsOn (reading 0 []) (reading 3 line_and_byte) × ¬ (ReadsOn (reading 0 []) (reading 3 (97 ∷ [])))

-- readings of one text have one name, and where no count rose none failed
abbrev pub NameIsKept : Type 0
NameIsKept = IsOfSame (reading 0 []) (reading 3 []) × ¬ (IsOfSame (reading 0 []) (record (reading 0 []) { name = 97 ∷ [] })) × ¬ (ReadFailed (reading 0 []) (reading 3 []))
