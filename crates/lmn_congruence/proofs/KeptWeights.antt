-- Congruence keeps what stands outside membranes, whatever it weighs.
use Rattle.std.proofs.Common.{ℕ, ◌≡◌, refl, sym, ◌∙◌, arith}
use Rattle.lmn_congruence.specs.Process.{Process, nothing, connector, atom, pair, membrane, rule, substitute}
use Rattle.lmn_congruence.specs.Congruence.{Congruent, unit, swap, regroup, rename, beside, inside, loop, turn, absorb, pass, same, back, chain}
use Rattle.lmn_congruence.specs.Rules.{Label}
use Rattle.lmn_congruence.specs.Weights.{process_weight, SameWeight}

substituted_weight : (f : Label → ℕ) (m new old : ℕ) (P : Process) → process_weight f m (substitute new old P) ≡ process_weight f m P
substituted_weight f m new old nothing = refl
substituted_weight f m new old (connector x y) = refl
substituted_weight f m new old (atom a xs) = refl
substituted_weight f m new old (pair P Q) = omega (arith, substituted_weight f m new old P, substituted_weight f m new old Q)
substituted_weight f m new old (membrane P) = refl
substituted_weight f m new old (rule r) = refl

-- congruent processes have one weight, where connectors weigh nothing
pub kept_weight : (f : Label → ℕ) (m : ℕ) {P Q : Process} → Congruent P Q → process_weight f m P ≡ process_weight f m Q
kept_weight f m (unit l) = omega arith
kept_weight f m (swap l) = omega arith
kept_weight f m (regroup l) = omega arith
kept_weight f m (rename {P = P} x y l g h) = sym (substituted_weight f m y x P)
kept_weight f m (beside d l l') = omega (arith, kept_weight f m d)
kept_weight f m (inside d) = refl
kept_weight f m loop = refl
kept_weight f m turn = refl
kept_weight f m (absorb {P = P} x y e g l) = omega (arith, substituted_weight f m y x P)
kept_weight f m (pass x y e l) = omega arith
kept_weight f m (same l) = refl
kept_weight f m (back d) = sym (kept_weight f m d)
kept_weight f m (chain d e) = kept_weight f m d ∙ kept_weight f m e

-- so it is for each weight of labels and membranes
pub same_weight : SameWeight
same_weight f m P Q c = kept_weight f m c
