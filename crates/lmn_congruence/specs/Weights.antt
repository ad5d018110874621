-- What stands outside membranes, weighed: each atom by its label, and each membrane alike.
use Rattle.std.specs.Prelude.{◌≡◌, ◌+◌, ℕ}
use Rattle.lmn_congruence.specs.Process.{Process, nothing, connector, atom, pair, membrane, rule}
use Rattle.lmn_congruence.specs.Congruence.{Congruent}
use Rattle.lmn_congruence.specs.Rules.{Label}

abbrev pub process_weight : (Label → ℕ) → ℕ → Process → ℕ
process_weight f m nothing = 0
process_weight f m (connector x y) = 0
process_weight f m (atom a xs) = f a
process_weight f m (pair P Q) = process_weight f m P + process_weight f m Q
process_weight f m (membrane P) = m
process_weight f m (rule r) = 0

-- congruent processes weigh the same
abbrev pub SameWeight : Type 0
SameWeight = (f : Label → ℕ) (m : ℕ) (P Q : Process) → Congruent P Q → process_weight f m P ≡ process_weight f m Q
