-- Settled processes, settling, commits and irreducible processes.
use Rattle.lmn_congruence.specs.Process.{Process}
use Rattle.lmn_congruence.specs.Congruence.{Congruent}
use Rattle.lmn_reduction.specs.Firing.{Firing}
use Rattle.lmn_reduction.specs.Steps.{Derived, Settling}

-- No connector can cross a membrane. A settling step includes congruence, so this speaks of each congruent
-- process. Of a process that isn't linked it says nothing, since no derivation has one.
abbrev pub Settled : Process → Type 0
Settled P = (Q : Process) → ¬ (Derived Settling P Q)

-- P goes to Q by finitely many settling steps; by none where P and Q are congruent
pub data SettlesTowards : Process → Process → Type 0 where
  already : {P Q : Process} → Congruent P Q → SettlesTowards P Q
  step_and : {P Q S : Process} → Derived Settling P Q → SettlesTowards Q S → SettlesTowards P S

-- Q is settled, and P goes to it by settling steps
pub record Settles (P Q : Process) : Type 0 where
  pub settled : Settled Q
  pub towards : SettlesTowards P Q

-- one rule fires, and then connectors settle
pub record Commit (P Q : Process) : Type 0 where
  pub between : Process
  pub step : Derived Firing P between
  pub settles : Settles between Q

-- no rule can fire, and no connector can cross a membrane
abbrev pub Irreducible : Process → Type 0
Irreducible P = ((Q : Process) → ¬ (Derived Firing P Q)) × ((Q : Process) → ¬ (Derived Settling P Q))
