-- What `debug` does with a script beside a program.
use Rattle.std.specs.Prelude.{◌≤◌, ℕ, List}
use Rattle.lmn_adequacy.specs.Numbered.{IsNumbered}
use Rattle.lmn_congruence.specs.Plains.{SolidOf}
use Rattle.lmn_congruence.specs.Regions.{Region, item_count_of_region}
use Rattle.lmn_congruence.specs.Translation.{top_of}
use Rattle.lmn_debug.specs.Courses.{course}
use Rattle.lmn_debug.specs.Orders.{ObeyedAll, ObeyedSome, ObeyedUpTo}
use Rattle.lmn_order.specs.declared.order.Order.TheVariants.{First}
use Rattle.lmn_order.specs.Orders.{chosen}
use Rattle.lmn_debug_script.specs.declared.order.Order.{Order}
use Rattle.lmn_debug_script.specs.Scripts.{AreOrdersOf}
use Rattle.lmn_app_single.specs.declared.ending.Ending.{Ending}
use Rattle.lmn_app_single.specs.declared.ending.Ending.TheVariants.{Done, NoMemory, WriteFault}
use Rattle.lmn_app.specs.Seconds.{ReadsBoth}

-- the most items of a process of a session
abbrev pub session_size : ℕ
session_size = 16777216

-- A session: it begins with the solid of the program's plain, its links numbered in printed order, which has few enough items, and the
-- script orders what is done.
pub record IsSession (program script : List ℕ) : Type 0 where
  pub of : ReadsBoth program script
  pub solid : Region
  pub of_plain : SolidOf (top_of of.names of.plain) solid
  pub numbered : IsNumbered solid
  pub few : item_count_of_region solid ≤ session_size
  pub orders : List Order
  pub are : AreOrdersOf of.later script orders

-- What is written of a session that ended so: the lines of all its orders; where memory was wanting, of those up to one for which it
-- was; where `out` failed, of those whose lines were due. The orders lead over the trace in which the root is asked first.
abbrev pub IsDebugged : Ending → List ℕ → List ℕ → List ℕ → Type 0
IsDebugged Done program script written =
    (s : IsSession program script) × (let of = s.of in ObeyedAll of.later (course (chosen First) session_size s.solid) s.orders written)
IsDebugged NoMemory program script written =
    (s : IsSession program script) × (let of = s.of in ObeyedSome of.later (course (chosen First) session_size s.solid) s.orders written)
IsDebugged WriteFault program script written =
    (s : IsSession program script) × (let of = s.of in ObeyedUpTo of.later (course (chosen First) session_size s.solid) s.orders written)
IsDebugged _ program script written = ⊥
