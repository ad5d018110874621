-- The weight of a plain bounds the commits of its process.
use Rattle.std.proofs.Common.{ℕ, zero, suc, ◌≡◌, ◌<◌, ◌≤◌, ◌+◌, false, List, [], ◌∷◌, ◌++◌, Some, All, map, length, get_or, slice_get, refl, sym, subst, ◌∙◌, arith}
use Rattle.std.specs.List.{flat_map, AllZip}
use Rattle.std.proofs.lemmas.List.Elements.{All-weaker, recursion_from_All}
use Rattle.std.proofs.lemmas.Option.{same_Some}
use Rattle.lmn_adequacy.specs.Accepted.{Accepted, Throughout, ThroughoutLevel, ThroughoutLevels, ThroughoutRules}
use Rattle.lmn_base.proofs.Lists.{all_of_left, all_of_right, get_there}
use Rattle.lmn_base.specs.declared.level.Level.{Level}
use Rattle.lmn_base.specs.declared.level.Level.TheFolds.{fold-roll-Level, ind-Level}
use Rattle.lmn_base.specs.declared.rule.Plain.{Plain}
use Rattle.lmn_base.specs.declared.rule.RuleTree.{RuleTree}
use Rattle.lmn_base.specs.Levels.{leaves_of, rules_of}
use Rattle.lmn_base.specs.Names.{level_names, rule_names}
use Rattle.lmn_base.specs.WellMade.{FitsArity, IsWellMade, IsWellMadeRule}
use Rattle.lmn_congruence.proofs.NumberedRules.{rule_has_number}
use Rattle.lmn_congruence.specs.Rules as tree
use Rattle.lmn_congruence.specs.Translation.{level_of, level_step, levels, numbered_rule, plain_process, rules, top_of}
use Rattle.lmn_guards.specs.Accepted.{IsAcceptedRule}
use Rattle.lmn_guards.specs.declared.plan.GuardPlan.{GuardPlan}
use Rattle.lmn_guards.specs.Plans.{IsPlan}
use Rattle.lmn_app_accepted.proofs.AcceptedRules.{accepted_tree}
use Rattle.lmn_app_accepted.proofs.PlanKinds.{at_index}
use Rattle.lmn_weight.proofs.AlikePlains.{rule_known}
use Rattle.lmn_weight.proofs.Bounds.{weight_bounds}
use Rattle.lmn_weight.specs.Lowered.{Lowered}
use Rattle.lmn_weight.specs.declared.weights.Weights.{Weights}
use Rattle.lmn_weight.specs.Plains.{EachLowered, level_weight}
use Rattle.lmn_weight.specs.Weights.{Weighing, weight}
use Rattle.lmn_weight.proofs.LoweredTrees.{all_fit, level_known, lowered_tree}
use Rattle.lmn_weight.proofs.WeightsAgree.{level_agrees, process_weighs, weighing}
use Rattle.lmn_weight.specs.Bounding.{IsAcceptedPlain, IsLoweredTree, LoweredPlains, WeightsBound}

-- ---- what holds of each rule of a table holds throughout the top

module _ (H : tree.Rule → Type 0) (names : List tree.Name) (p : Plain) (well : IsWellMade p) where
  abbrev ρ : ℕ → tree.Rule
  ρ = numbered_rule names p.rules

  abbrev T : ℕ → Type 0
  T k = Throughout H (ρ k)

  each_throughout : (ks : List ℕ) → All T ks → ThroughoutRules H (rules (map ρ ks))
  each_throughout [] h = tt
  each_throughout (k ∷ ks) h = (h zero k (omega arith), each_throughout ks (all_of_right T (k ∷ []) ks h))

  abbrev below_rules : List Level → List ℕ
  below_rules ls = flat_map (λ inner. inner) (map rules_of ls)

  abbrev LevelSo : Level → Type 0
  LevelSo l = All T (rules_of l) → ThroughoutLevel H (level_of names ρ l)

  below_so : (ls : List ((l : Level) × LevelSo l)) → All T (below_rules (map (λ e. e.0) ls)) → ThroughoutLevels H (levels (map (level_of names ρ) (map (λ e. e.0) ls)))
  below_so [] h = tt
  below_so (e ∷ ls) h =
      let rest = below_rules (map (λ (e : (l : Level) × LevelSo l). e.0) ls) in
      (e.1 (all_of_left T (rules_of e.0) rest h), below_so ls (all_of_right T (rules_of e.0) rest h))

  level_so : (l : Level) → LevelSo l
  level_so = ind-Level LevelSo (λ y z is h.
      let here = subst (All T) (fold-roll-Level (List ℕ) (λ l. l.rules ++ flat_map (λ inner. inner) l.membranes) y) h in
      let inside = subst (λ l. All T (below_rules l.membranes) → ThroughoutLevels H (levels (map (level_of names ρ) l.membranes))) is (below_so z.membranes) in
      rw (fold-roll-Level tree.Level (level_step names ρ) y)
      (inside (all_of_right T y.rules (below_rules y.membranes) here), each_throughout y.rules (all_of_left T y.rules (below_rules y.membranes) here)))

  module _ (each : (k : ℕ) → k < length p.rules → H (ρ k)) where
    throughout : (m k : ℕ) → length p.rules ≤ k + m → k < length p.rules → T k
    throughout zero k h l = absurd (omega (arith, h, l))
    throughout (suc m) k h l =
        let found = get_there p.rules k l in
        let t = found.0 in
        let inside = well.rules_in_rules k t found.1 in
        let all : All T (rules_of t.head ++ rules_of t.body) =
        (λ i d b. let j = inside i d b in throughout m (get_or (rules_of t.head ++ rules_of t.body) i d) (omega (arith, h, j.0)) j.1) in
        let is = rule_has_number names p k t well found.1 in
        let R : tree.Rule → Type 0 = Throughout H in
        subst R (sym is) (subst H is (each k l), level_so t.body (all_of_right T (rules_of t.head) (rules_of t.body) all))

    pub top_so : ThroughoutLevel H (top_of names p)
    top_so = level_so p.top (λ i d b. throughout (length p.rules) (get_or (rules_of p.top) i d) (omega arith) (well.rules_at_top i d b))

-- ---- a plain

-- what stands beside an item of two lists that go together
pub pair_there : {A B : Type 0} (R : A → B → Type 0) (xs : List A) (ys : List B) (k : ℕ) (x : A) → AllZip R xs ys → slice_get xs k ≡ Some x → (y : B) × (slice_get ys k ≡ Some y) × R x y
pair_there R [] [] zero x h e = absurd (cc)
pair_there R [] [] (suc k) x h e = absurd (cc)
pair_there R [] (y ∷ ys) k x h e = absurd h
pair_there R (w ∷ xs) [] k x h e = absurd h
pair_there R (w ∷ xs) (y ∷ ys) zero x h e = (y, refl, subst (λ z. R z y) (same_Some w x e) h.0)
pair_there R (w ∷ xs) (y ∷ ys) (suc k) x h e = pair_there R xs ys k x h.1 e

module _ (names : List tree.Name) (p : Plain) (plans : List GuardPlan) (w : Weights) (a : IsAcceptedPlain names p plans) (each : EachLowered w p plans) where
  abbrev v : Weighing
  v = weighing names w

  abbrev ρ' : ℕ → tree.Rule
  ρ' = numbered_rule names p.rules

  abbrev H : tree.Rule → Type 0
  H r = Accepted r × Lowered v r

  rule_lowered : (k : ℕ) → k < length p.rules → H (ρ' k)
  rule_lowered k l =
      let found = get_there p.rules k l in
      let r = found.0 in
      let e = found.1 in
      let plan = pair_there IsPlan p.rules plans k r a.planned e in
      let accepted = at_index (IsAcceptedRule p.rules) p.rules k r a.rules e in
      let known = rule_known (λ n. n < length names) p.rules k r (all_of_right (λ n. n < length names) (level_names p.top) (flat_map rule_names p.rules) a.named.1) e in
      let made : IsWellMadeRule r = one_made k r e in
      let numbers = All-weaker (λ j. (k < j) × (j < length p.rules)) (λ j. j < length p.rules) (λ j h. h.1) (rules_of r.head)
      (all_of_left (λ j. (k < j) × (j < length p.rules)) (rules_of r.head) (rules_of r.body) (a.made.rules_in_rules k r e)) in
      subst H (sym (rule_has_number names p k r a.made e)) (
        accepted_tree names ρ' a.named.0 p.rules r accepted made numbers known,
        lowered_tree names a.named.0 w p.rules ρ' r plan.0 accepted made known plan.2 (each k r plan.0 e plan.1),
      )
    where
      one_made : (k : ℕ) (r : RuleTree) → slice_get p.rules k ≡ Some r → IsWellMadeRule r
      one_made k r e = at_index IsWellMadeRule p.rules k r (recursion_from_All IsWellMadeRule p.rules a.made.each_rule) e

  top_weighs : weight v (plain_process names p) ≡ level_weight w [] [] p.top
  top_weighs =
      let known = level_known names p.top (recursion_from_All (λ n. n < length names) (level_names p.top) (all_of_left (λ n. n < length names) (level_names p.top) (flat_map rule_names p.rules) a.named.1)) in
      let fits = all_fit names (leaves_of p.top) known.leaves (recursion_from_All FitsArity (leaves_of p.top) a.made.arities) in
      process_weighs v (top_of names p) ∙ level_agrees names a.named.0 w (λ n. false) [] [] (λ n l. refl) ρ' p.top fits

  lowered : IsLoweredTree names p w
  lowered = record { by = v; throughout = top_so H names p a.made rule_lowered; weighs = top_weighs }

-- a plain whose rules are lowered is a tree whose rules are
pub lowered_plains : LoweredPlains
lowered_plains = lowered

-- so its weight bounds the commits
pub weights_bound : WeightsBound
weights_bound names p plans w a each first last n s c =
    let t = lowered names p plans w a each in
    let bound = weight_bounds t.by (top_of names p) t.throughout first last n s c in
    let is = t.weighs in
    omega (arith, bound, is)
