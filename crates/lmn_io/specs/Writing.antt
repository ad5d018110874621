-- What a call that writes a text leaves in its sink.
use Rattle.std.specs.Prelude.{ℕ, ◌≡◌, ◌≤◌, List, Option, Result, OnOk, OnErr}
use Rattle.lmn_io.specs.Counts.{FailedLast, Faults, NoneFailed}
use Rattle.lmn_io.specs.Taking.{Takes, TakesPrefix}

-- A call was to write the text that `IsText` tells. With Ok the sink took all of it and no put failed, with Err it took a prefix,
-- and one put failed, the last. What the sink tells of its bytes, and what it counts, are those before and those after.
pub record Writes {A E : Type 0} (IsText : List ℕ → Type 0) (result : Result A E) (told : Option (List ℕ)) (faults : Faults) (told_after : Option (List ℕ)) (faults_after : Faults) : Type 0 where
  pub took : (text : List ℕ) → IsText text → OnOk result (Takes text told told_after)
  pub prefix : (text : List ℕ) → IsText text → OnErr result (TakesPrefix text told told_after)
  pub later : faults.count ≤ faults_after.count
  pub same : OnOk result (NoneFailed faults faults_after)
  pub rose : OnErr result (FailedLast faults faults_after)

-- the text that was to be written is this one
abbrev pub WritesText : {A E : Type 0} → List ℕ → Result A E → Option (List ℕ) → Faults → Option (List ℕ) → Faults → Type 0
WritesText written = Writes (λ text. text ≡ written)
