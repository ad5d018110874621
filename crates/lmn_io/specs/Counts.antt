-- Counts of faults, which never fall and stop at the last value of 64 bits.
use Rattle.std.specs.Prelude.{◌≡◌, ℕ, ◌+◌, ◌-◌, ◌^◌, ◌<◌, ◌≤◌, ◌⊎◌, min}

-- a count that rises once more, up to the last value of a counter
abbrev pub one_more : ℕ → ℕ
one_more count = min (count + 1) (2 ^ 64 - 1)

-- The count rose in a call: at its exit it is greater than at its entry, or stands at the last value.
abbrev pub Rose : ℕ → ℕ → Type 0
Rose before after = one_more before ≤ after

-- What a sink counts: how many puts failed, and how many it was asked for since the last of them, or since its beginning.
pub record Faults : Type 0 where
  pub count : ℕ
  pub since : ℕ

-- and with one put more that took its piece
abbrev pub one_more_put : Faults → Faults
one_more_put f = record { count = f.count; since = one_more f.since }

-- and with one put more that failed
abbrev pub one_more_fault : Faults → Faults
one_more_fault f = record { count = one_more f.count; since = 0 }

-- No put failed in a call.
abbrev pub NoneFailed : Faults → Faults → Type 0
NoneFailed before after = (after.count ≡ before.count) × (before.since ≤ after.since)

-- One put failed in a call, the last that was asked for.
abbrev pub FailedLast : Faults → Faults → Type 0
FailedLast before after = after ≡ one_more_fault before

-- Behind a put that failed none was asked for in a call.
abbrev pub NoneBehindFailed : Faults → Faults → Type 0
NoneBehindFailed before after = NoneFailed before after ⊎ FailedLast before after

-- the last value of a counter
abbrev pub last_count : ℕ
last_count = 2 ^ 64 - 1

-- A sink of which a put failed and that was asked again tells it, below the last value of its counts.
abbrev pub AskedAgainIsTold : Type 0
AskedAgainIsTold = (f : Faults) → f.count + 1 < last_count → ¬ (NoneBehindFailed f (one_more_put (one_more_fault f))) × ¬ (NoneBehindFailed f (one_more_fault (one_more_fault f)))
