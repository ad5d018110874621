-- Orders have one outcome, but for want of memory, and lead along the trace.
use Rattle.std.specs.Prelude.{ℕ, ◌≡◌, List}
use Rattle.lmn_adequacy.specs.Accepted.{Accepted, Throughout}
use Rattle.lmn_adequacy.specs.Embedding.{AllRules}
use Rattle.lmn_congruence.specs.Process.{Closed}
use Rattle.lmn_congruence.specs.Regions.{Region, region_process}
use Rattle.lmn_congruence.specs.Rules.{Name}
use Rattle.lmn_debug.specs.Courses.{Course, IsAt, Stepped}
use Rattle.lmn_debug.specs.declared.session.Stop.TheVariants.{Done}
use Rattle.lmn_debug_script.specs.declared.order.Order.{Order}
use Rattle.lmn_debug_script.specs.declared.order.Order.TheVariants.{Back}
use Rattle.lmn_debug.specs.Orders.{ObeyedAll, Obeys, ObeysAll}

-- Three laws of a course whose first solid is closed and has accepted rules, those in rules too, as that of an accepted text. It has one solid at
-- a number.
abbrev pub SolidsAreOne : Type 0
SolidsAreOne = (g : Course) (t : ℕ) (S S' : Region) → Closed (region_process g.first) → AllRules (Throughout Accepted) g.first → IsAt g t S → IsAt g t S' → S ≡ S'

-- An order that is carried out at a number has one line, and leads to one number.
abbrev pub OrdersAreOne : Type 0
OrdersAreOne = (names : List Name) (g : Course) (t : ℕ) (order : Order) (line line' : List ℕ) (t' t'' : ℕ) → Closed (region_process g.first) → AllRules (Throughout Accepted) g.first →
    Obeys names g t order line t' → Obeys names g t order line' t'' → (line ≡ line') × (t' ≡ t'')

-- What is written of orders that are all carried out is one text.
abbrev pub WritingIsOne : Type 0
WritingIsOne = (names : List Name) (g : Course) (orders : List Order) (written written' : List ℕ) → Closed (region_process g.first) → AllRules (Throughout Accepted) g.first →
    ObeyedAll names g orders written → ObeyedAll names g orders written' → written ≡ written'

-- Orders lead to a number at which the trace has a solid.
abbrev pub OrdersStayInTrace : Type 0
OrdersStayInTrace = (names : List Name) (g : Course) (orders : List Order) (lines : List (List ℕ)) (t : ℕ) → ObeysAll names g orders lines t → (S : Region) × IsAt g t S

-- `back n` leads to where so many turns began that all committed.
abbrev pub BackUndoesStep : Type 0
BackUndoesStep = (names : List Name) (g : Course) (t n t' t'' : ℕ) (line : List ℕ) → Stepped g t n Done t' → Obeys names g t' (Back n) line t'' → t'' ≡ t
