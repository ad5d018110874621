-- Rules beside instances of their heads.
use Rattle.lmn_congruence.specs.Process.{Process, pair, membrane, rule}
use Rattle.lmn_congruence.specs.Congruence.{Congruent}
use Rattle.lmn_congruence.specs.Rules.{Rule}
use Rattle.lmn_reduction.specs.Firing.{Matches}

-- a rule stands beside an instance of its head, at the top or in a membrane
pub data HasRedex : Process → Type 0 where
  at_top : {r : Rule} {A P : Process} → Matches r A → HasRedex (pair (pair A (rule r)) P)
  in_membrane : {P Q : Process} → HasRedex P → HasRedex (pair (membrane P) Q)

-- a process that is congruent to P and has a redex
pub record ShowsRedex (P : Process) : Type 0 where
  pub process : Process
  pub congruent : Congruent P process
  pub redex : HasRedex process
