-- The laws of reduction.
use Rattle.std.specs.Prelude.{ℕ, ℤ, ◌≡◌, ◌↔◌, List, All, Option, Some}
use Rattle.lmn_base.specs.declared.guard.Expr.{Expr}
use Rattle.lmn_base.specs.Names.{expression_names}
use Rattle.lmn_congruence.specs.Process.{Process, Linked, Closed}
use Rattle.lmn_congruence.specs.Congruence.{Congruent}
use Rattle.lmn_congruence.specs.Rules.{Level, Name}
use Rattle.lmn_congruence.specs.Fused.{NoConnector}
use Rattle.lmn_congruence.specs.LinkMaps.{ReadsByMap}
use Rattle.lmn_congruence.specs.Regions.{Region, region_process}
use Rattle.lmn_congruence.specs.Same.{IsRenamed}
use Rattle.lmn_congruence.specs.Translation.{name_of, expression_of}
use Rattle.lmn_guards.specs.Values.{value}
use Rattle.lmn_reduction.specs.Assignments.{Assignment}
use Rattle.lmn_reduction.specs.Parts.{IsInteger}
use Rattle.lmn_reduction.specs.Values.{Value}
use Rattle.lmn_congruence.specs.Plains.{level_process, SolidOf}
use Rattle.lmn_reduction.specs.Steps.{Step, SettlingStep}
use Rattle.lmn_reduction.specs.Commits.{Settled, Settles, Commit, Irreducible}
use Rattle.lmn_reduction.specs.Redexes.{ShowsRedex}

-- both sides of a step, and of a settling step, are linked
abbrev pub StepsAreLinked : Type 0
StepsAreLinked = (P Q : Process) → Step P Q → Linked P × Linked Q

abbrev pub SettlingStepsAreLinked : Type 0
SettlingStepsAreLinked = (P Q : Process) → SettlingStep P Q → Linked P × Linked Q

-- a process without connectors is settled
abbrev pub SettledWithoutConnectors : Type 0
SettledWithoutConnectors = (P : Process) → NoConnector P → Settled P

-- the process of a solid is settled
abbrev pub SolidsSettled : Type 0
SolidsSettled = (S : Region) → Settled (region_process S)

-- a closed process settles
abbrev pub ClosedSettles : Type 0
ClosedSettles = (P : Process) → Closed P → (Q : Process) × Settles P Q

-- and in one way, up to congruence
abbrev pub SettlesOnce : Type 0
SettlesOnce = (P Q Q' : Process) → Closed P → Settles P Q → Settles P Q' → Congruent Q Q'

-- a plain with a closed top has a solid
abbrev pub PlainHasSolid : Type 0
PlainHasSolid = (top : Level) → Closed (level_process top) → (S : Region) × SolidOf top S

-- and one alone, up to the numbers of links: another one has the same lists in the same order
abbrev pub SolidIsOne : Type 0
SolidIsOne = (top : Level) (S S' : Region) → SolidOf top S → SolidOf top S' → IsRenamed S S'

-- the process of a plain's top settles to that of its solid
abbrev pub PlainSettles : Type 0
PlainSettles = (top : Level) (S : Region) → SolidOf top S → Settles (level_process top) (region_process S)

-- a linked process is congruent to one without connectors exactly where one map of links reads it so
abbrev pub CongruentByOneMap : Type 0
CongruentByOneMap = (P N : Process) → Linked P → Linked N → NoConnector N → Congruent P N ↔ ReadsByMap P N

-- where a step is possible, some congruent process has a redex
abbrev pub StepsShowRedexes : Type 0
StepsShowRedexes = (P Q : Process) → Step P Q → ShowsRedex P

-- congruence keeps all that is said of reduction
abbrev pub KeepsSettled : Type 0
KeepsSettled = (P P' : Process) → Congruent P P' → Settled P → Settled P'

abbrev pub KeepsSettles : Type 0
KeepsSettles = (P P' Q Q' : Process) → Congruent P P' → Congruent Q Q' → Settles P Q → Settles P' Q'

abbrev pub KeepsCommit : Type 0
KeepsCommit = (P P' Q Q' : Process) → Congruent P P' → Congruent Q Q' → Commit P Q → Commit P' Q'

abbrev pub KeepsIrreducible : Type 0
KeepsIrreducible = (P P' : Process) → Congruent P P' → Irreducible P → Irreducible P'

-- The value of an expression of the program is that of its tree, where each name in it is given the integer of its atom:
-- so the guard of a rule as it is kept and that of its tree speak of one value.
abbrev pub ValuesAgree : Type 0
ValuesAgree = (names : List Name) (t : Assignment) (given : ℕ → Option ℤ) (e : Expr) (z : ℤ) →
    All (λ x. (n : ℤ) → (given x ≡ Some n) ↔ IsInteger n (t.typed_of (name_of names x))) (expression_names e) →
    (value given e ≡ Some z) ↔ Value t (expression_of names e) z
