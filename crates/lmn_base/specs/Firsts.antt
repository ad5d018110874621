-- The first of some places, and the first of the rows of a table of refusals that applies.
use Rattle.std.specs.Prelude.{ℕ, ◌≡◌, ◌-◌, ◌^◌, min, List, [], ◌∷◌, length, Option, Some, None, MatchOption, Result, MatchResult, All, Contains, IsTrue, if◌then◌else◌}
use Rattle.lmn_base.specs.declared.refusal.Pos.{Pos}
use Rattle.lmn_base.specs.declared.refusal.Refusal.{Refusal}
use Rattle.lmn_base.specs.declared.question.Found.{Found}
use Rattle.lmn_base.specs.PlaceOrder.{not_after}

-- it is one of the places, and none of them is before it
pub record FirstAt (ps : List Pos) (p : Pos) : Type 0 where
  pub one_of_them : Contains ps p
  pub none_before : All (λ q. IsTrue (not_after p q)) ps

-- the first of the places, where there is one
abbrev pub IsFirst : List Pos → Option Pos → Type 0
IsFirst ps first = MatchOption first (ps ≡ []) (FirstAt ps)

-- the first of some places, and how many they are
pub record IsFound (ps : List Pos) (found : Found) : Type 0 where
  pub first : IsFirst ps found.first
  pub count : found.count ≡ min (length ps) (2 ^ 64 - 1)

-- the earlier of two places, where there are any
abbrev pub earlier : Option Pos → Option Pos → Option Pos
earlier None q = q
earlier (Some p) None = Some p
earlier (Some p) (Some q) = Some (if not_after p q then p else q)

-- a row of a table of refusals: a code, and the places where it applies
pub record Row : Type 0 where
  pub code : ℕ
  pub places : List Pos

-- The refusal by some rows in their order: the code of the first row that applies somewhere, at the first of its
-- places.
pub data RefusedBy : List Row → Refusal → Type 0 where
  by_this : {code : ℕ} {ps : List Pos} {rows : List Row} {p : Pos} → FirstAt ps p →
      RefusedBy (record { code = code; places = ps } ∷ rows) (record { code = code; pos = p })
  by_later : {code : ℕ} {rows : List Row} {refusal : Refusal} →
      RefusedBy rows refusal → RefusedBy (record { code = code; places = [] } ∷ rows) refusal

-- no row applies anywhere
abbrev pub NoneApplies : List Row → Type 0
NoneApplies rows = All (λ row. row.places ≡ []) rows

-- what is answered by some rows
abbrev pub AnswersBy : {A : Type 0} → List Row → Result A Refusal → Type 0
AnswersBy rows answer = MatchResult answer (λ accepted. NoneApplies rows) (RefusedBy rows)
