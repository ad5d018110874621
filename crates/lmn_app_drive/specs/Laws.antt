-- What an answer says of the trace, and that a run has one text.
use Rattle.std.specs.Prelude.{ℕ, ◌≡◌, List, Option}
use Rattle.lmn_congruence.specs.Process.{Closed}
use Rattle.lmn_congruence.specs.Regions.{region_process}
use Rattle.lmn_store_heap.specs.Heap.{Heap}
use Rattle.lmn_adequacy.specs.Accepted.{Accepted, Throughout}
use Rattle.lmn_adequacy.specs.Embedding.{AllRules}
use Rattle.lmn_adequacy.specs.Runs.{End, irreducible, budget_done, full}
use Rattle.lmn_app_drive.specs.declared.driving.RunEnd.{RunEnd}
use Rattle.lmn_app_drive.specs.declared.driving.RunEnd.TheVariants.{Irreducible, Budget, Full, NoMemory, Failed}
use Rattle.lmn_app_drive.specs.Driving.{RunInput, Ran, EndsSo, GoesOn, text, RunEnded}

-- the answer for an end of a trace
abbrev pub answer_of : End → RunEnd
answer_of irreducible = Irreducible
answer_of budget_done = Budget
answer_of full = Full

-- Where the trace ends, an answer names this end and no other, and where it goes on the answer is `NoMemory`. `Failed` alone
-- may stand in the place of each.
abbrev pub AnswersAreExact : Type 0
AnswersAreExact = (g : RunInput) (n : ℕ) (h : Heap) (r : Ran g n h) (answer : RunEnd) (old new : Option (List ℕ)) → RunEnded r answer old new → ¬ (answer ≡ Failed) →
    ((e : End) → EndsSo r e → answer ≡ answer_of e) × (GoesOn r → answer ≡ NoMemory)

-- What is given to a run, and how many commits it did, say what is written of it with a word, whatever heaps hold its solids. The first
-- solid is closed and has accepted rules, as that of an accepted text.
abbrev pub TextsAreOne : Type 0
TextsAreOne = (g : RunInput) (n : ℕ) (h h' : Heap) (r : Ran g n h) (s : Ran g n h') → Closed (region_process g.first) → AllRules (Throughout Accepted) g.first →
    (word : List ℕ) → text r word ≡ text s word
