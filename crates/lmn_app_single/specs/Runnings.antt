-- How a call ends whose run ended so, and one without a text. Contracts of private functions, and of what is handed to the crate above, alone cite these words.
use Rattle.std.specs.Prelude.{◌≡◌, ◌<◌, ⊤, ℕ, List, Option, length}
use Rattle.lmn_app_drive.specs.declared.driving.RunEnd.{RunEnd}
use Rattle.lmn_app_drive.specs.declared.driving.RunEnd.TheVariants as run
use Rattle.lmn_app_single.specs.declared.ending.Ending.{Ending}
use Rattle.lmn_app_single.specs.declared.ending.Ending.TheVariants.{Done, Budget, Refused, ReadFault, WriteFault, NoMemory, Full}
use Rattle.lmn_io.specs.Counts.{Rose}
use Rattle.lmn_app_single.specs.Texts.{at_start, text_bytes}
use Rattle.lmn_app_single.specs.Writing.{IsToldAnd}

abbrev pub ended_as : RunEnd → Ending
ended_as run.Irreducible = Done
ended_as run.Budget = Budget
ended_as run.Full = Full
ended_as run.NoMemory = NoMemory
ended_as run.Failed = WriteFault

-- A call ends so without a program: it is too long, or can't be read, or memory was wanting.
abbrev pub EndsUnread : Ending → Option (Option (List ℕ)) → ℕ → ℕ → Type 0
EndsUnread (Refused r) told before after = (r ≡ at_start 1) × IsToldAnd told (λ bytes. text_bytes < length bytes)
EndsUnread ReadFault told before after = Rose before after
EndsUnread NoMemory told before after = ⊤
EndsUnread _ told before after = ⊥
