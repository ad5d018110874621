-- The laws of scripts.
use Rattle.std.specs.Prelude.{ℕ, ◌≡◌, ◌⊎◌, List, length}
use Rattle.lmn_base.specs.declared.refusal.Refusal.{Refusal}
use Rattle.lmn_base.specs.Names.{IsNames}
use Rattle.lmn_instr_reading.specs.Reading.{AddsNames}
use Rattle.lmn_debug_script.specs.declared.order.Order.{Order}
use Rattle.lmn_debug_script.specs.Scripts.{AreOrdersOf, IsFirstWrong}

-- By one list of names a text has one list of orders at most.
abbrev pub OrdersAreOnce : Type 0
OrdersAreOnce = (names : List (List ℕ)) (text : List ℕ) (orders others : List Order) → IsNames names →
    AreOrdersOf names text orders → AreOrdersOf names text others → orders ≡ others

-- Where names are put behind those of a list, a text has by them the orders that it had.
abbrev pub OrdersStay : Type 0
OrdersStay = (k : ℕ) (names later : List (List ℕ)) (text : List ℕ) (orders : List Order) → AddsNames k names later →
    AreOrdersOf names text orders → AreOrdersOf later text orders

-- A text that has orders has no wrong line.
abbrev pub OrderedIsNotWrong : Type 0
OrderedIsNotWrong = (names : List (List ℕ)) (text : List ℕ) (orders : List Order) (refusal : Refusal) →
    AreOrdersOf names text orders → ¬ (IsFirstWrong text refusal)

-- A text has one refusal at most.
abbrev pub OneIsFirstWrong : Type 0
OneIsFirstWrong = (text : List ℕ) (refusal other : Refusal) → IsFirstWrong text refusal → IsFirstWrong text other → refusal ≡ other

-- Where names are put behind those of a list, at most as many as the text has bytes, it has orders.
pub record HasOrders (names : List (List ℕ)) (text : List ℕ) : Type 0 where
  pub later : List (List ℕ)
  pub added : AddsNames (length text) names later
  pub are : IsNames later
  pub orders : List Order
  pub ordered : AreOrdersOf later text orders

-- A text has orders or a first wrong line.
abbrev pub SomeOrdersOrWrong : Type 0
SomeOrdersOrWrong = (names : List (List ℕ)) (text : List ℕ) → IsNames names → HasOrders names text ⊎ ((refusal : Refusal) × IsFirstWrong text refusal)
