-- What a session goes over, and where its commands lead. Nothing here speaks of a store.
use Rattle.std.specs.Prelude.{ℕ, ◌≡◌, ◌<◌, ◌≤◌, ◌+◌, ◌-◌, ◌^◌, List, length, drop, All}
use Rattle.lmn_base.specs.declared.functor.Functor.{Functor}
use Rattle.lmn_base.specs.declared.guard.Cmp.{Cmp}
use Rattle.lmn_congruence.specs.Regions.{Region, item_count_of_region}
use Rattle.lmn_congruence.specs.Rules.{Name}
use Rattle.lmn_adequacy.specs.Runs.{Chooser, Trace, Turn, End, Ends, irreducible, full}
use Rattle.lmn_debug.specs.Breaks.{StandsSo}
use Rattle.lmn_debug.specs.Counts.{IsCount}
use Rattle.lmn_debug.specs.declared.session.Stop.{Stop}
use Rattle.lmn_debug.specs.declared.session.Stop.TheVariants.{Done, Irreducible, Full, Met, Limit, NoMemory}

-- What a session goes over: what the chooser answers, the size, and the first solid. They give one trace, that without a budget that a
-- session could reach.
pub record Course : Type 0 where
  pub chooser : Chooser
  pub size : ℕ
  pub first : Region

abbrev pub course : Chooser → ℕ → Region → Course
course chooser size first = record { chooser = chooser; size = size; first = first }

-- more commits than a session does
abbrev pub most_commits : ℕ
most_commits = 2 ^ 63 - 1

-- the most turns of one `until`
abbrev pub most_turns : ℕ
most_turns = 1000000

-- the trace has the solid S at the number t, counted from 0
pub record IsAt (g : Course) (t : ℕ) (S : Region) : Type 0 where
  pub before : List Region
  pub trace : Trace g.chooser most_commits g.size g.first before S
  pub count : length before ≡ t

-- the trace ends so at the number t, and it has a solid behind that
abbrev pub EndsSo : Course → ℕ → Region → End → Type 0
EndsSo g t S e = Ends g.chooser most_commits g.size t S e

abbrev pub GoesOn : Course → ℕ → Region → Type 0
GoesOn g t S = (S' : Region) × Turn g.chooser t S S' × (item_count_of_region S' ≤ g.size)

-- at least t, and fewer than n more
abbrev pub Within : (t n t' : ℕ) → Type 0
Within t n t' = (t ≤ t') × (t' < t + n)

-- Where n turns from the number t on stop, and what is answered: they are done; or the trace ends before; or no memory was found for a
-- commit that the trace has.
abbrev pub StepsTo : Course → (t n : ℕ) → Stop → (t' : ℕ) → Region → Type 0
StepsTo g t n Done t' S = t' ≡ t + n
StepsTo g t n Irreducible t' S = Within t n t' × EndsSo g t' S irreducible
StepsTo g t n Full t' S = Within t n t' × EndsSo g t' S full
StepsTo g t n Met t' S = ⊥
StepsTo g t n Limit t' S = ⊥
StepsTo g t n NoMemory t' S = Within t n t' × GoesOn g t' S

-- `step n` from the number t on
pub record Stepped (g : Course) (t n : ℕ) (stop : Stop) (t' : ℕ) : Type 0 where
  pub solid : Region
  pub is : IsAt g t' solid
  pub stops : StepsTo g t n stop t' solid

-- what `until` waits for: the number of atoms with a functor stands so to n
pub record Wish : Type 0 where
  pub functor : Functor
  pub op : Cmp
  pub number : ℕ

abbrev pub wish : Functor → Cmp → ℕ → Wish
wish f op n = record { functor = f; op = op; number = n }

abbrev pub Meets : List Name → Wish → Region → Type 0
Meets names w S = (k : ℕ) × IsCount names w.functor S k × StandsSo w.op k w.number

-- Where `until` stops from the number t on: at the first solid that meets the wish; after all turns that it may take; or where the trace
-- ends before; or no memory was found for a commit that the trace has.
abbrev pub WaitsTo : List Name → Course → Wish → ℕ → Stop → (t' : ℕ) → Region → Type 0
WaitsTo names g w t Done t' S = ⊥
WaitsTo names g w t Irreducible t' S = Within t most_turns t' × ¬ (Meets names w S) × EndsSo g t' S irreducible
WaitsTo names g w t Full t' S = Within t most_turns t' × ¬ (Meets names w S) × EndsSo g t' S full
WaitsTo names g w t Met t' S = (t ≤ t') × (t' ≤ t + most_turns) × Meets names w S
WaitsTo names g w t Limit t' S = (t' ≡ t + most_turns) × ¬ (Meets names w S)
WaitsTo names g w t NoMemory t' S = Within t most_turns t' × ¬ (Meets names w S) × GoesOn g t' S

-- `until` from the number t on: no solid from there on before that at which it stops meets the wish
pub record Waited (names : List Name) (g : Course) (w : Wish) (t : ℕ) (stop : Stop) (t' : ℕ) : Type 0 where
  pub solid : Region
  pub is : IsAt g t' solid
  pub none_before : All (λ S. ¬ (Meets names w S)) (drop t is.before)
  pub stops : WaitsTo names g w t stop t' solid
