-- The run of a closure that says which membrane is asked first, whatever its answers are.
use Rattle.std.specs.Prelude.{ℕ, ◌≡◌, ◌≤◌, ◌+◌, List, [], ◌∷◌, ◌++◌, Option, None, Some, length, slice_get, slice_index_or}
use Rattle.lmn_store_heap.specs.Heap.{Heap}
use Rattle.lmn_congruence.specs.Regions.{Region}
use Rattle.lmn_adequacy.specs.Choice.{asked_paths, paths}
use Rattle.lmn_adequacy.specs.Runs.{Chooser}
use Rattle.lmn_schedule_strategy.specs.Counting.{RisesWithin}
use Rattle.lmn_adequacy_choices.specs.Counting.{AsksRulesOf}
use Rattle.lmn_app_drive.specs.declared.driving.RunEnd.{RunEnd}
use Rattle.lmn_app_runs.specs.declared.stop.Stop.{Stop}
use Rattle.lmn_app_drive.specs.Driving.{RunInput, Ran, Drove, Going, Stopped, Broke}

-- the chooser that gives the answers of a list in turn, one for each number of commits
abbrev pub in_turn : List ℕ → Chooser
in_turn answers = λ commits membranes. slice_index_or answers commits 0

-- the solids of a run, up to the last one
abbrev pub solids : {g : RunInput} {commits : ℕ} {h : Heap} → Ran g commits h → List Region
solids r = r.before ++ r.last ∷ []

-- Each answer of a list is one that a closure may give: for the number of commits that is its place, and the number of membranes of the
-- solid that has this number.
abbrev pub AreAllowed : (ℕ → ℕ → ℕ → Type 0) → List Region → List ℕ → Type 0
AreAllowed Answers Ss answers = (n from : ℕ) → slice_get answers n ≡ Some from → (S : Region) × (slice_get Ss n ≡ Some S) × Answers n (length (paths S)) from

-- So many rules are asked of some solids one after the other: of each those of its membranes from the number on that a chooser gives for
-- its place, until one embeds.
pub data AsksSolids (c : Chooser) : List Region → ℕ → Type 0 where
  asks_no_solid : AsksSolids c [] 0
  asks_next : {Ss : List Region} {S : Region} {n k : ℕ} → AsksSolids c Ss n → AsksRulesOf S (asked_paths (c (length Ss) (length (paths S))) S) k → AsksSolids c (Ss ++ S ∷ []) (n + k)

-- A count of steps rises by the rules that are asked of some solids at most.
pub record CountsSolids (c : Chooser) (Ss : List Region) (begun counted : ℕ) : Type 0 where
  pub rules : ℕ
  pub asks : AsksSolids c Ss rules
  pub rises : RisesWithin rules begun counted

-- So it is with some answers of a closure, each of which it may give, one at least for each commit: what is said of choosers holds of the
-- one that gives them in turn. A count of steps rises by the rules that are asked of the first solids at most, those that were asked.
pub record ByAnswers (Answers : ℕ → ℕ → ℕ → Type 0) (g : Chooser → RunInput) (commits : ℕ) (h : Heap) (begun counted : ℕ) (Is : Chooser → Type 0) (ran : (c : Chooser) → Is c → Ran (g c) commits h) : Type 0 where
  pub answers : List ℕ
  pub is : Is (in_turn answers)
  pub allowed : AreAllowed Answers (solids (ran (in_turn answers) is)) answers
  pub enough : commits ≤ length answers
  pub asked : List Region
  pub others : List Region
  pub first : solids (ran (in_turn answers) is) ≡ asked ++ others
  pub steps : CountsSolids (in_turn answers) asked begun counted

-- a run that ended so, by some answers of a closure
abbrev pub DroveByAnswers : (ℕ → ℕ → ℕ → Type 0) → (Chooser → RunInput) → ℕ → Heap → RunEnd → Option (List ℕ) → Option (List ℕ) → ℕ → ℕ → Type 0
DroveByAnswers Answers g commits h end old new begun counted = ByAnswers Answers g commits h begun counted (λ c. Drove (g c) commits h end old new) (λ c d. d.ran)

-- one that stopped, and one that failed
abbrev pub StoppedByAnswers : (ℕ → ℕ → ℕ → Type 0) → (Chooser → RunInput) → ℕ → Heap → Stop → Option (List ℕ) → Option (List ℕ) → ℕ → ℕ → Type 0
StoppedByAnswers Answers g commits h why old new begun counted = ByAnswers Answers g commits h begun counted (λ c. Stopped (g c) commits h why old new) (λ c s. s.going.ran)

abbrev pub BrokeByAnswers : (ℕ → ℕ → ℕ → Type 0) → (Chooser → RunInput) → ℕ → Heap → Option (List ℕ) → Option (List ℕ) → ℕ → ℕ → Type 0
BrokeByAnswers Answers g commits h old new begun counted = ByAnswers Answers g commits h begun counted (λ c. Broke (g c) commits h old new) (λ c b. b.ran)

-- While it goes on there is one answer for each commit, and the last solid isn't asked.
pub record GoingByAnswers (Answers : ℕ → ℕ → ℕ → Type 0) (g : Chooser → RunInput) (commits : ℕ) (h : Heap) (old new : Option (List ℕ)) (begun counted : ℕ) : Type 0 where
  pub answers : List ℕ
  pub going : Going (g (in_turn answers)) commits h old new
  pub allowed : AreAllowed Answers going.ran.before answers
  pub many : length answers ≡ commits
  pub steps : CountsSolids (in_turn answers) going.ran.before begun counted

-- a step that didn't fail
abbrev pub StepsOnByAnswers : (ℕ → ℕ → ℕ → Type 0) → (Chooser → RunInput) → ℕ → Heap → Option (List ℕ) → Option (List ℕ) → ℕ → ℕ → Option Stop → Type 0
StepsOnByAnswers Answers g commits h old new begun counted None = GoingByAnswers Answers g commits h old new begun counted
StepsOnByAnswers Answers g commits h old new begun counted (Some why) = StoppedByAnswers Answers g commits h why old new begun counted
