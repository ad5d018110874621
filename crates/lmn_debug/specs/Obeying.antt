-- Words that contracts of private functions alone cite.
use Rattle.std.specs.Prelude.{ℕ, ◌≡◌, ◌≢◌, List, Option, Result}
use Rattle.std.specs.List.{concat}
use Rattle.std.specs.Result.{MatchResult}
use Rattle.lmn_base.specs.declared.rule.Plain.{Plain}
use Rattle.lmn_base.specs.declared.rule.RuleTree.{RuleTree}
use Rattle.lmn_base.specs.declared.solid.Solid.{Solid}
use Rattle.lmn_adequacy.specs.Runs.{Chooser}
use Rattle.lmn_congruence.specs.Regions.{Region}
use Rattle.lmn_congruence.specs.Rules.{Name}
use Rattle.lmn_congruence.specs.SolidsOfPlains.{IsSolidOf}
use Rattle.lmn_congruence.specs.Translation.{region_of}
use Rattle.lmn_store_heap.specs.Heap.{Heap}
use Rattle.lmn_io.specs.Taking.{Takes, TakesPrefix}
use Rattle.lmn_schedule.specs.Held.{AreNames}
use Rattle.lmn_schedule.specs.Turning.{Gives}
use Rattle.lmn_debug_script.specs.declared.order.Order.{Order}
use Rattle.lmn_debug.specs.Courses.{Course, course}
use Rattle.lmn_debug.specs.Sessions.{StandsAt}
use Rattle.lmn_debug.specs.declared.session.Stop.{Stop}
use Rattle.lmn_debug.specs.declared.session.Stop.TheVariants as stop
use Rattle.lmn_debug.specs.declared.debugging.DebugFault.{DebugFault}
use Rattle.lmn_debug.specs.declared.debugging.DebugFault.TheVariants.{NoMemory, Failed}
use Rattle.lmn_debug.specs.Orders.{LacksMemory, Obeys, ObeysAll, line_at}

-- the most commits that one order asks for
abbrev pub most_asked : ℕ
most_asked = 1000000

-- the region is the solid of the plain, by these names
abbrev pub IsRegionOf : List Name → Plain → Region → Type 0
IsRegionOf names plain S = (s : Solid) × IsSolidOf plain s × (S ≡ region_of names plain.rules s)

-- So it is with each course that begins with the solid of the plain, has this size, and a function that gives what the closure answers.
abbrev pub OfEachCourse : {F : Type 0} → (F → ℕ → ℕ → ℕ → Type 0) → F → List Name → Plain → ℕ → (Course → Type 0) → Type 0
OfEachCourse post f names plain size Q = (c : Chooser) → Gives post f c → AreNames names plain → (S : Region) → IsRegionOf names plain S → Q (course c size S)

-- An order was carried out and its line written, and the session stands behind it.
pub record Obeyed (names : List Name) (table : List RuleTree) (g : Course) (t : ℕ) (order : Order) (t' : ℕ) (h : Heap) (old new : Option (List ℕ)) : Type 0 where
  pub line : List ℕ
  pub obeys : Obeys names g t order line t'
  pub took : Takes line old new
  pub stands : StandsAt names table g t' h

-- It wasn't: no memory was found for it, and nothing was written. Or a prefix of its line was.
abbrev pub Unobeyed : List Name → Course → ℕ → Order → DebugFault → Option (List ℕ) → Option (List ℕ) → Type 0
Unobeyed names g t order NoMemory old new = LacksMemory names g t order × (new ≡ old)
Unobeyed names g t order Failed old new = (line : List ℕ) × (t' : ℕ) × Obeys names g t order line t' × TakesPrefix line old new

-- what a call does that carries an order out: where the session stands at t, and at t' behind it
abbrev pub CarriesOut : {F A : Type 0} → (F → ℕ → ℕ → ℕ → Type 0) → F → List Name → Plain → ℕ → Order → ℕ → Heap → ℕ → Heap → Option (List ℕ) → Option (List ℕ) → Result A DebugFault → Type 0
CarriesOut post f names plain size order t h t' h' old new result =
    OfEachCourse post f names plain size
    (λ g. StandsAt names plain.rules g t h → MatchResult result (λ done. Obeyed names plain.rules g t order t' h' old new) (λ fault. Unobeyed names g t order fault old new))

-- the line of an order that stopped so wasn't written: for want of memory it isn't due, or a prefix of it was written
abbrev pub LineUntold : ℕ → Stop → DebugFault → Option (List ℕ) → Option (List ℕ) → Type 0
LineUntold commits why NoMemory old new = (why ≡ stop.NoMemory) × (new ≡ old)
LineUntold commits why Failed old new = (why ≢ stop.NoMemory) × TakesPrefix (line_at commits why) old new

-- a call that is to write the line of an order that stopped so
abbrev pub LineTold : {A : Type 0} → ℕ → Stop → Option (List ℕ) → Option (List ℕ) → Result A DebugFault → Type 0
LineTold commits why old new result = MatchResult result (λ done. (why ≢ stop.NoMemory) × Takes (line_at commits why) old new) (λ fault. LineUntold commits why fault old new)

-- Orders were carried out and their lines written, and the session stands behind them.
pub record ObeyedSo (names : List Name) (table : List RuleTree) (g : Course) (orders : List Order) (t : ℕ) (h : Heap) (old new : Option (List ℕ)) : Type 0 where
  pub lines : List (List ℕ)
  pub obeys : ObeysAll names g orders lines t
  pub took : Takes (concat lines) old new
  pub stands : StandsAt names table g t h
