-- What a list of orders does, and what is written of it. Nothing here speaks of a store.
use Rattle.std.specs.Prelude.{ℕ, ◌≡◌, ◌≢◌, ◌<◌, ◌-◌, List, [], ◌∷◌, ◌++◌, codes, decimal}
use Rattle.std.specs.List.{concat}
use Rattle.lmn_base.specs.declared.functor.Functor.{Functor}
use Rattle.lmn_base.specs.declared.guard.Cmp.{Cmp}
use Rattle.lmn_congruence.specs.Regions.{Region}
use Rattle.lmn_congruence.specs.Rules.{Name}
use Rattle.lmn_flatten_plain.specs.SolidLines.{as_level}
use Rattle.lmn_flatten_plain.specs.Words.{line_of}
use Rattle.lmn_debug.specs.Courses.{Course, IsAt, Stepped, Waited, wish}
use Rattle.lmn_debug.specs.declared.session.Stop.{Stop}
use Rattle.lmn_debug.specs.declared.session.Stop.TheVariants.{Done, Irreducible, Full, Met, Limit, NoMemory}
use Rattle.lmn_debug_script.specs.declared.order.Order.{Order}
use Rattle.lmn_debug_script.specs.declared.order.Order.TheVariants.{Step, Back, Until, Show}

-- what the line of an order has behind the number of commits
abbrev pub stop_mark : Stop → List ℕ
stop_mark Done = []
stop_mark Irreducible = codes " irreducible"
stop_mark Full = codes " full"
stop_mark Met = codes " met"
stop_mark Limit = codes " limit"
stop_mark NoMemory = []

-- as `% at 2 met`
abbrev pub line_at : ℕ → Stop → List ℕ
line_at t stop = concat (codes "% at " ∷ decimal t ∷ stop_mark stop ∷ codes "\n" ∷ [])

-- An order at the number t of the trace that a course gives: its line, and the number behind it.
--   stepped    turns, up to the first that doesn't commit
--   went_back  to the number that is less by so many, or to 0
--   waited     turns, up to the first solid that meets the wish
--   shown      the plain line of the solid
pub data Obeys (names : List Name) (g : Course) (t : ℕ) : Order → List ℕ → ℕ → Type 0 where
  stepped : {n t' : ℕ} {stop : Stop} → stop ≢ NoMemory → Stepped g t n stop t' → Obeys names g t (Step n) (line_at t' stop) t'
  went_back : {n : ℕ} → Obeys names g t (Back n) (line_at (t - n) Done) (t - n)
  waited : {f : Functor} {op : Cmp} {n t' : ℕ} {stop : Stop} → stop ≢ NoMemory → Waited names g (wish f op n) t stop t' →
      Obeys names g t (Until f op n) (line_at t' stop) t'
  shown : {S : Region} {line : List ℕ} → IsAt g t S → line ≡ line_of (as_level S) → Obeys names g t Show line t

-- Orders one behind the other, the first of them at the number 0: their lines, and the number behind the last.
pub data ObeysAll (names : List Name) (g : Course) : List Order → List (List ℕ) → ℕ → Type 0 where
  begun : ObeysAll names g [] [] 0
  obeyed : {orders : List Order} {lines : List (List ℕ)} {t : ℕ} {order : Order} {line : List ℕ} {t' : ℕ} →
      ObeysAll names g orders lines t → Obeys names g t order line t' → ObeysAll names g (orders ++ order ∷ []) (lines ++ line ∷ []) t'

-- No memory was found for an order at the number t: for a commit that the trace has, or to go back to a lesser number.
abbrev pub LacksMemory : List Name → Course → ℕ → Order → Type 0
LacksMemory names g t (Step n) = (t' : ℕ) × Stepped g t n NoMemory t'
LacksMemory names g t (Back n) = t - n < t
LacksMemory names g t (Until f op n) = (t' : ℕ) × Waited names g (wish f op n) t NoMemory t'
LacksMemory names g t Show = ⊥

-- All orders were carried out, and this was written.
pub record ObeyedAll (names : List Name) (g : Course) (orders : List Order) (written : List ℕ) : Type 0 where
  pub lines : List (List ℕ)
  pub last : ℕ
  pub obeys : ObeysAll names g orders lines last
  pub is : written ≡ concat lines

-- Those up to one for which no memory was found were carried out, and this was written.
pub record ObeyedSome (names : List Name) (g : Course) (orders : List Order) (written : List ℕ) : Type 0 where
  pub done : List Order
  pub next : Order
  pub others : List Order
  pub are : orders ≡ done ++ next ∷ others
  pub lines : List (List ℕ)
  pub at : ℕ
  pub obeys : ObeysAll names g done lines at
  pub lacks : LacksMemory names g at next
  pub is : written ≡ concat lines

-- Those up to one whose line wasn't taken whole were carried out: this was written or due.
pub record ObeyedUpTo (names : List Name) (g : Course) (orders : List Order) (due : List ℕ) : Type 0 where
  pub done : List Order
  pub others : List Order
  pub are : orders ≡ done ++ others
  pub lines : List (List ℕ)
  pub last : ℕ
  pub obeys : ObeysAll names g done lines last
  pub is : due ≡ concat lines
