-- Congruence and settling keep the weight of a process.
use Rattle.std.proofs.Common.{ℕ, ◌≡◌, refl, sym, ap, ◌∙◌, arith}
use Rattle.std.proofs.lemmas.List.{length-map}
use Rattle.lmn_congruence.specs.Congruence.{Congruent, unit, swap, regroup, rename, beside, inside, loop, turn, absorb, pass, same, back, chain}
use Rattle.lmn_congruence.specs.Process.{Process, nothing, connector, atom, pair, membrane, renamed, rule, replace, substitute}
use Rattle.lmn_reduction.specs.Commits.{SettlesTowards, already, step_and}
use Rattle.lmn_reduction.specs.Steps.{Settling, SettlingStep, leaf, out, into, beside as derived_beside, inside as derived_inside, up_to}
use Rattle.lmn_weight.specs.Laws.{CongruenceKeepsWeight, SettlingKeepsWeight}
use Rattle.lmn_weight.specs.Weights.{Weighing, atom_weight, weight}

module _ (w : Weighing) where
  -- the numbers of links are nothing to the weight
  pub renamed_weight : (f : ℕ → ℕ) (P : Process) → weight w (renamed f P) ≡ weight w P
  renamed_weight f nothing = refl
  renamed_weight f (connector x y) = refl
  renamed_weight f (atom a xs) = ap (atom_weight w a) (length-map xs f)
  renamed_weight f (pair P Q) = omega (arith, renamed_weight f P, renamed_weight f Q)
  renamed_weight f (membrane P) = omega (arith, renamed_weight f P)
  renamed_weight f (rule r) = refl

  substituted_weight : (new old : ℕ) (P : Process) → weight w (substitute new old P) ≡ weight w P
  substituted_weight new old nothing = refl
  substituted_weight new old (connector x y) = refl
  substituted_weight new old (atom a xs) = ap (atom_weight w a) (length-map xs (replace new old))
  substituted_weight new old (pair P Q) = omega (arith, substituted_weight new old P, substituted_weight new old Q)
  substituted_weight new old (membrane P) = omega (arith, substituted_weight new old P)
  substituted_weight new old (rule r) = refl

  -- congruent processes weigh the same
  pub kept_weight : {P Q : Process} → Congruent P Q → weight w P ≡ weight w Q
  kept_weight (unit l) = omega arith
  kept_weight (swap l) = omega arith
  kept_weight (regroup l) = omega arith
  kept_weight (rename {P = P} x y l g h) = sym (substituted_weight y x P)
  kept_weight (beside d l l') = omega (arith, kept_weight d)
  kept_weight (inside d) = omega (arith, kept_weight d)
  kept_weight loop = refl
  kept_weight turn = refl
  kept_weight (absorb {P = P} x y e g l) = omega (arith, substituted_weight y x P)
  kept_weight (pass x y e l) = omega arith
  kept_weight (same l) = refl
  kept_weight (back d) = sym (kept_weight d)
  kept_weight (chain d e) = kept_weight d ∙ kept_weight e

  settling_weight : {P Q : Process} → Settling P Q → weight w P ≡ weight w Q
  settling_weight (out x y d f g) = omega arith
  settling_weight (into x y d f g) = omega arith

  -- a settling step keeps the weight
  settling_step_weight : {P Q : Process} → SettlingStep P Q → weight w P ≡ weight w Q
  settling_step_weight (leaf s l l') = settling_weight s
  settling_step_weight (derived_beside d l l') = omega (arith, settling_step_weight d)
  settling_step_weight (derived_inside d) = omega (arith, settling_step_weight d)
  settling_step_weight (up_to c d e) = kept_weight c ∙ (settling_step_weight d ∙ kept_weight e)

  -- and so do any number of them
  pub towards_weight : {P Q : Process} → SettlesTowards P Q → weight w P ≡ weight w Q
  towards_weight (already c) = kept_weight c
  towards_weight (step_and s t) = settling_step_weight s ∙ towards_weight t

-- so congruence keeps the weight
pub congruence_keeps : CongruenceKeepsWeight
congruence_keeps w P Q c = kept_weight w c

-- and so does settling
pub settling_keeps : SettlingKeepsWeight
settling_keeps w P Q s = towards_weight w s.towards
