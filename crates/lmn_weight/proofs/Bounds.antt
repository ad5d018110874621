-- The weight bounds the commits.
use Rattle.std.proofs.Common.{ℕ, List, map, arith, ◌+◌, ◌≤◌, ◌<◌, [], ◌∷◌}
use Rattle.lmn_congruence.proofs.KeptRules.{AllRules, kept_rules}
use Rattle.lmn_congruence.specs.Plains.{leaf_process, level_process, levels_processes}
use Rattle.lmn_congruence.specs.Process.{Process, together}
use Rattle.lmn_congruence.specs.Rules.{Leaf, Level, Levels, Rule, atom_leaf, connector_leaf, level, level_and, no_level, typed_leaf}
use Rattle.lmn_reduction.specs.Chains.{Commits, no_step, step_after}
use Rattle.lmn_reduction.specs.Commits.{Commit, SettlesTowards, already, step_and}
use Rattle.lmn_reduction.specs.Firing.{Firing, fires}
use Rattle.lmn_reduction.specs.Steps.{Settling, SettlingStep, Step, leaf, out, into, beside, inside, up_to}
use Rattle.lmn_adequacy.specs.Accepted.{Accepted, Throughout, ThroughoutLevel, ThroughoutLevels}
use Rattle.lmn_weight.proofs.FiredWeight.{fired_weight}
use Rattle.lmn_weight.proofs.KeptLowered.{fired_rules, own, rules_made}
use Rattle.lmn_weight.proofs.KeptWeight.{kept_weight, towards_weight}
use Rattle.lmn_weight.specs.Laws.{WeightBoundsCommits}
use Rattle.lmn_weight.specs.Lowered.{Lowered}
use Rattle.lmn_weight.specs.Weights.{Weighing, weight}

-- ---- settling keeps the rules

settling_rules : (H : Rule → Type 0) {P Q : Process} → Settling P Q → AllRules H P → AllRules H Q
settling_rules H (out x y d f g) h = h
settling_rules H (into x y d f g) h = h

settling_step_rules : (H : Rule → Type 0) {P Q : Process} → SettlingStep P Q → AllRules H P → AllRules H Q
settling_step_rules H (leaf s l l') h = settling_rules H s h
settling_step_rules H (beside d l l') h = (settling_step_rules H d h.0, h.1)
settling_step_rules H (inside d) h = settling_step_rules H d h
settling_step_rules H (up_to c d e) h = (kept_rules H e).0 (settling_step_rules H d ((kept_rules H c).0 h))

towards_rules : (H : Rule → Type 0) {P Q : Process} → SettlesTowards P Q → AllRules H P → AllRules H Q
towards_rules H (already c) h = (kept_rules H c).0 h
towards_rules H (step_and s t) h = towards_rules H t (settling_step_rules H s h)

-- ---- the rules of a top

module _ (H : Rule → Type 0) where
  leaves_rules : (ls : List Leaf) → AllRules (Throughout H) (together (map leaf_process ls))
  leaves_rules [] = tt
  leaves_rules (atom_leaf a xs ∷ ls) = (tt, leaves_rules ls)
  leaves_rules (connector_leaf x y ∷ ls) = (tt, leaves_rules ls)
  leaves_rules (typed_leaf p x ∷ ls) = (tt, leaves_rules ls)

  mutual
    top_rules : (l : Level) → ThroughoutLevel H l → AllRules (Throughout H) (level_process l)
    top_rules (level leaves membranes contexts rule_contexts rules) h = (leaves_rules leaves, (membranes_rules membranes h.0, rules_made H rules h.1))

    membranes_rules : (ls : Levels) → ThroughoutLevels H ls → AllRules (Throughout H) (together (levels_processes ls))
    membranes_rules no_level h = tt
    membranes_rules (level_and l ls) h = (top_rules l h.0, membranes_rules ls h.1)

-- ---- steps

module _ (w : Weighing) where
  abbrev IsLowered : Rule → Type 0
  IsLowered r = Accepted r × Lowered w r

  -- a process of which each rule is accepted and lowered, those in rules too
  abbrev AllLowered : Process → Type 0
  AllLowered = AllRules (Throughout IsLowered)

  firing_lowers : {P Q : Process} → Firing P Q → AllLowered P → (weight w Q < weight w P) × AllLowered Q
  firing_lowers (fires {r = r} f) h =
      let g = own IsLowered r h.1 in
      let i = fired_weight w g.0 g.1 f in
      (omega (arith, i), (fired_rules IsLowered g.0 h.1 f h.0, h.1))

  -- a step lowers the weight, and keeps the rules
  step_lowers : {P Q : Process} → Step P Q → AllLowered P → (weight w Q < weight w P) × AllLowered Q
  step_lowers (leaf s l l') h = firing_lowers s h
  step_lowers (beside d l l') h = let i = step_lowers d h.0 in (omega (arith, i.0), (i.1, h.1))
  step_lowers (inside d) h = let i = step_lowers d h in (omega (arith, i.0), i.1)
  step_lowers (up_to c d e) h =
      let i = step_lowers d ((kept_rules (Throughout IsLowered) c).0 h) in
      (omega (arith, i.0, kept_weight w c, kept_weight w e), (kept_rules (Throughout IsLowered) e).0 i.1)

  commit_lowers : {P Q : Process} → Commit P Q → AllLowered P → (weight w Q < weight w P) × AllLowered Q
  commit_lowers c h =
      let i = step_lowers c.step h in
      (omega (arith, i.0, towards_weight w c.settles.towards), towards_rules (Throughout IsLowered) c.settles.towards i.1)

  -- n commits lower the weight by n at least
  commits_lower : {P Q : Process} {n : ℕ} → Commits n P Q → AllLowered P → (n + weight w Q ≤ weight w P) × AllLowered Q
  commits_lower no_step h = (omega arith, h)
  commits_lower (step_after c s) h =
      let i = commits_lower c h in
      let j = commit_lowers s i.1 in
      (omega (arith, i.0, j.0), j.1)

-- so the weight of a process bounds the commits from what it settles to
pub weight_bounds : WeightBoundsCommits
weight_bounds w top h first last n s c =
    let i = commits_lower w c (towards_rules (Throughout (λ r. Accepted r × Lowered w r)) s.towards (top_rules (λ r. Accepted r × Lowered w r) top h)) in
    omega (arith, i.0, towards_weight w s.towards)
