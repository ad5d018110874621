-- Output that is gathered for a sink.
use Rattle.std.specs.Prelude.{◌≡◌, ◌≤◌, ℕ, Bool, true, false, List, [], ◌++◌, Option}
use Rattle.std.specs.List.{flat_map}
use Rattle.std.specs.Borrow.{Bor}
use Rattle.lmn_io.specs.Counts.{FailedLast, Faults, NoneFailed}
use Rattle.lmn_io.specs.Taking.{TakesPrefix, Gathers}

-- the bytes that are kept back, and whether a put failed
pub record Pending : Type 0 where
  pub kept : List ℕ
  pub failed : Bool

abbrev pub nothing_pending : Pending
nothing_pending = record { kept = []; failed = false }

-- what is pending, and what the sink tells and counts
pub record SinkState : Type 0 where
  pub pending : Pending
  pub told : Option (List ℕ)
  pub faults : Faults

abbrev pub output : Pending → Option (List ℕ) → Faults → SinkState
output pending told faults = record { pending = pending; told = told; faults = faults }

-- A piece was added. Once a put has failed nothing changes any more; where one fails now, a prefix of what was due
-- is taken, and this put is the last. Where none fails the count stays.
abbrev pub AddsWhere : Bool → Bool → List ℕ → SinkState → SinkState → Type 0
AddsWhere true failed piece before after = after ≡ before
AddsWhere false true piece before after = TakesPrefix (before.pending.kept ++ piece) before.told after.told × FailedLast before.faults after.faults
AddsWhere false false piece before after = Gathers (before.pending.kept ++ piece) before.told after.pending.kept after.told × NoneFailed before.faults after.faults

pub record Adds (piece : List ℕ) (before after : SinkState) : Type 0 where
  pub added : AddsWhere before.pending.failed after.pending.failed piece before after
  pub later : before.faults.count ≤ after.faults.count

-- the bytes of pieces, one behind the other
abbrev pub all_of : List (Bor (List ℕ)) → List ℕ
all_of pieces = flat_map (λ piece. piece.now) pieces
