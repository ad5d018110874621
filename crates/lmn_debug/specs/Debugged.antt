-- How orders end, and what a sink took of them.
use Rattle.std.specs.Prelude.{ℕ, List, Option, Result}
use Rattle.std.specs.Result.{MatchResult}
use Rattle.lmn_congruence.specs.Rules.{Name}
use Rattle.lmn_io.specs.Counts.{FailedLast, Faults, NoneFailed}
use Rattle.lmn_io.specs.Taking.{Takes, TakesPrefix}
use Rattle.lmn_debug.specs.Courses.{Course}
use Rattle.lmn_debug_script.specs.declared.order.Order.{Order}
use Rattle.lmn_debug.specs.declared.debugging.DebugFault.{DebugFault}
use Rattle.lmn_debug.specs.declared.debugging.DebugFault.TheVariants.{NoMemory, Failed}
use Rattle.lmn_debug.specs.Orders.{ObeyedAll, ObeyedSome, ObeyedUpTo}

-- what the sink took of orders that weren't all carried out and written
abbrev pub FailedSo : List Name → Course → List Order → DebugFault → Option (List ℕ) → Option (List ℕ) → Type 0
FailedSo names g orders NoMemory old new = (written : List ℕ) × ObeyedSome names g orders written × Takes written old new
FailedSo names g orders Failed old new = (due : List ℕ) × ObeyedUpTo names g orders due × TakesPrefix due old new

-- what it took of orders that ended so
abbrev pub Debugged : {A : Type 0} → List Name → Course → List Order → Result A DebugFault → Option (List ℕ) → Option (List ℕ) → Type 0
Debugged names g orders result old new =
    MatchResult result (λ done. (written : List ℕ) × ObeyedAll names g orders written × Takes written old new) (λ fault. FailedSo names g orders fault old new)

-- what it counts of them
abbrev pub CountsFault : DebugFault → Faults → Faults → Type 0
CountsFault NoMemory before after = NoneFailed before after
CountsFault Failed before after = FailedLast before after

abbrev pub CountsObeyed : {A : Type 0} → Result A DebugFault → Faults → Faults → Type 0
CountsObeyed result before after = MatchResult result (λ done. NoneFailed before after) (λ fault. CountsFault fault before after)
