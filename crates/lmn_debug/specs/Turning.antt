-- What the turns of a session's calls do. The contracts of private functions alone cite this.
use Rattle.std.specs.Prelude.{ℕ, ◌≡◌, List, [], ◌∷◌, ◌++◌, Option, Some, None, drop, All}
use Rattle.lmn_base.specs.declared.rule.RuleTree.{RuleTree}
use Rattle.lmn_store_heap.specs.Heap.{Heap}
use Rattle.lmn_congruence.specs.Regions.{Region}
use Rattle.lmn_congruence.specs.Rules.{Name}
use Rattle.lmn_adequacy.specs.Runs.{irreducible, full}
use Rattle.lmn_debug.specs.Courses.{Course, EndsSo, GoesOn, Meets, Wish}
use Rattle.lmn_debug.specs.Sessions.{StandsAt, StandsWaited}
use Rattle.lmn_debug.specs.declared.session.Stop.{Stop}
use Rattle.lmn_debug.specs.declared.session.Stop.TheVariants.{Done, Irreducible, Full, Met, Limit, NoMemory}

-- how many commits a turn makes that stops so, or goes on
abbrev pub counted : Option Stop → ℕ
counted None = 1
counted (Some stop) = 0

-- why a turn doesn't commit at the solid S, number t
abbrev pub Refuses : Course → ℕ → Region → Stop → Type 0
Refuses g t S Done = ⊥
Refuses g t S Irreducible = EndsSo g t S irreducible
Refuses g t S Full = EndsSo g t S full
Refuses g t S Met = ⊥
Refuses g t S Limit = ⊥
Refuses g t S NoMemory = GoesOn g t S

-- What a turn does at the solid S, which has the solids `before` behind it: it goes on to the next one, or stands still and says why.
abbrev pub TurnsTo : List Name → List RuleTree → Course → Region → List Region → Option Stop → ℕ → Heap → Type 0
TurnsTo names table g S before None t' h = (s : StandsAt names table g t' h) × (s.is.before ≡ before ++ S ∷ [])
TurnsTo names table g S before (Some why) t' h = (s : StandsAt names table g t' h) × (s.is.before ≡ before) × (s.solid ≡ S) × Refuses g t' s.solid why

-- It stands at t', and no solid from t on before that meets the wish.
pub record Waits (names : List Name) (table : List RuleTree) (g : Course) (w : Wish) (t t' : ℕ) (h : Heap) : Type 0 where
  pub stands : StandsAt names table g t' h
  pub none_before : All (λ S. ¬ (Meets names w S)) (drop t stands.is.before)

-- a turn of `until`: it goes on, or stops
abbrev pub WaitsOn : List Name → List RuleTree → Course → Wish → ℕ → Option Stop → ℕ → Heap → Type 0
WaitsOn names table g w t None t' h = Waits names table g w t t' h
WaitsOn names table g w t (Some why) t' h = StandsWaited names table g w t why t' h
