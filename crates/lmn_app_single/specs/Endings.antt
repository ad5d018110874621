-- How a call ends: its status, and the line that `err` takes.
use Rattle.std.specs.Prelude.{◌≡◌, ◌≢◌, ℕ, ◌⊎◌, List, [], ◌∷◌, Option, codes, decimal, nat_lt, if◌then◌else◌}
use Rattle.std.specs.List.{concat}
use Rattle.lmn_base.specs.declared.refusal.Refusal.{Refusal}
use Rattle.lmn_app_single.specs.declared.ending.Ending.{Ending}
use Rattle.lmn_app_single.specs.declared.ending.Ending.TheVariants.{Done, Budget, Refused, Words, ReadFault, WriteFault, NoMemory, Full, SecondRefused}
use Rattle.lmn_io.specs.Counts.{FailedLast, Faults, NoneFailed}
use Rattle.lmn_io.specs.Taking.{Takes, TakesPrefix}
use Rattle.lmn_base.specs.Codes.{words_of_number}
use Rattle.lmn_app_words.specs.declared.command.PairKind.{PairKind}
use Rattle.lmn_app_words.specs.declared.command.PairKind.TheVariants.{Bound, Check, Debug, Exec}

-- the status of a refusal of a second text
abbrev pub second_status : PairKind → ℕ
second_status Check = 8
second_status Debug = 9
second_status Exec = 10
second_status Bound = 11

-- the status of each ending
abbrev pub status_of : Ending → ℕ
status_of Done = 0
status_of Budget = 1
status_of (Refused refusal) = 2
status_of Words = 3
status_of ReadFault = 4
status_of WriteFault = 5
status_of NoMemory = 6
status_of Full = 7
status_of (SecondRefused kind refusal) = second_status kind

-- the line of a refusal: the code, whose number has two digits, the line and the column of the place, and the words
abbrev pub refusal_line : Refusal → List ℕ
refusal_line refusal =
    concat ((if nat_lt refusal.code 10 then codes "E0" else codes "E") ∷ decimal refusal.code ∷ codes " " ∷ decimal refusal.pos.line ∷ codes ":" ∷ decimal refusal.pos.column
    ∷ codes " " ∷ words_of_number refusal.code ∷ codes "\n" ∷ [])

-- the line of an ending, or nothing
abbrev pub line_of_ending : Ending → List ℕ
line_of_ending (Refused refusal) = refusal_line refusal
line_of_ending (SecondRefused kind refusal) = refusal_line refusal
line_of_ending Words = codes "lmn: words not understood\n"
line_of_ending ReadFault = codes "lmn: read failed\n"
line_of_ending WriteFault = codes "lmn: write failed\n"
line_of_ending NoMemory = codes "lmn: out of memory\n"
line_of_ending ending = []

-- The answer to an ending, beside what `err` took and what it counts before and after:
-- the ending's status where `err` took the whole line, and else 5; `err` fails only where a line is due.
abbrev pub Concludes : Ending → ℕ → Option (List ℕ) → Option (List ℕ) → Faults → Faults → Type 0
Concludes ending status old new before after =
    ((status ≡ status_of ending) × Takes (line_of_ending ending) old new × NoneFailed before after) ⊎ ((status ≡ 5) × TakesPrefix (line_of_ending ending) old new × FailedLast before after × (line_of_ending ending ≢ []))
