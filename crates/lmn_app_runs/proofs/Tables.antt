-- What holds of each rule of a table holds throughout each of them, and of the rules of a solid.
use Rattle.std.proofs.Common.{ℕ, zero, suc, ◌+◌, ◌<◌, ◌≤◌, List, [], ◌∷◌, ◌++◌, map, length, get_or, All, sym, ap, ◌∙◌, subst, arith}
use Rattle.std.specs.List.{flat_map}
use Rattle.lmn_base.specs.declared.level.Level.{Level}
use Rattle.lmn_base.specs.declared.level.Level.TheFolds.{fold-roll-Level, ind-Level}
use Rattle.lmn_base.specs.declared.rule.Plain.{Plain}
use Rattle.lmn_base.specs.declared.solid.Solid.{Solid}
use Rattle.lmn_base.specs.declared.solid.Region.{Region}
use Rattle.lmn_base.specs.declared.solid.Region.TheFolds.{fold-roll-Region, ind-Region}
use Rattle.lmn_base.specs.Levels.{rules_of}
use Rattle.lmn_base.specs.Solids.{rules_step, HasEachRule}
use Rattle.lmn_base.specs.WellMade.{IsWellMade}
use Rattle.lmn_congruence.specs.Regions as solid
use Rattle.lmn_congruence.specs.Rules as tree
use Rattle.lmn_congruence.specs.SolidsOfPlains.{IsSolidOf}
use Rattle.lmn_congruence.specs.Translation.{level_of, level_step, levels, rules, regions, region_step, region_of, numbered_rule, numbered_region}
use Rattle.lmn_congruence.proofs.NumberedRules.{rule_has_number}
use Rattle.lmn_flatten_plain.proofs.SolidNumbers.{there}
use Rattle.lmn_adequacy.specs.Accepted.{Throughout, ThroughoutLevel, ThroughoutLevels, ThroughoutRules}
use Rattle.lmn_adequacy.specs.Embedding.{AllRules, AllRulesIn, EachRule}
use Rattle.lmn_base.proofs.Common.{rules as numbers}
use Rattle.lmn_congruence.proofs.Common.{rules_kept, all_rules}
use Rattle.lmn_base.proofs.Lists.{all_of_left, all_of_right}

-- ---- the rules of a solid are those of its plain

-- a solid has rules of its plain's table
pub solid_has_rules : (p : Plain) (s : Solid) → IsWellMade p → IsSolidOf p s → HasEachRule p.rules s
solid_has_rules p s well i =
    let P : ℕ → Type 0 = λ k. k < length p.rules in
    subst (All P) (sym (ap numbers i.is ∙ rules_kept i.to p.top)) well.rules_at_top

module _ (H : tree.Rule → Type 0) (names : List tree.Name) (p : Plain) (well : IsWellMade p) where
  abbrev ρ : ℕ → tree.Rule
  ρ = numbered_rule names p.rules

  abbrev T : ℕ → Type 0
  T k = Throughout H (ρ k)

  -- ---- levels of the table

  each_throughout : (ks : List ℕ) → All T ks → ThroughoutRules H (rules (map ρ ks))
  each_throughout [] h = tt
  each_throughout (k ∷ ks) h = (h zero k (omega arith), each_throughout ks (all_of_right T (k ∷ []) ks h))

  abbrev below_rules : List Level → List ℕ
  below_rules ls = flat_map (λ inner. inner) (map rules_of ls)

  abbrev LevelSo : Level → Type 0
  LevelSo l = All T (rules_of l) → ThroughoutLevel H (level_of names ρ l)

  below_so : (ls : List ((l : Level) × LevelSo l)) → All T (below_rules (map (λ e. e.0) ls)) → ThroughoutLevels H (levels (map (level_of names ρ) (map (λ e. e.0) ls)))
  below_so [] h = tt
  below_so (e ∷ ls) h =
      let rest = below_rules (map (λ (e : (l : Level) × LevelSo l). e.0) ls) in
      (e.1 (all_of_left T (rules_of e.0) rest h), below_so ls (all_of_right T (rules_of e.0) rest h))

  level_so : (l : Level) → LevelSo l
  level_so = ind-Level LevelSo (λ y z is h.
      let here = subst (All T) (fold-roll-Level (List ℕ) (λ l. l.rules ++ flat_map (λ inner. inner) l.membranes) y) h in
      let inside = subst (λ l. All T (below_rules l.membranes) → ThroughoutLevels H (levels (map (level_of names ρ) l.membranes))) is (below_so z.membranes) in
      rw (fold-roll-Level tree.Level (level_step names ρ) y)
      (inside (all_of_right T y.rules (below_rules y.membranes) here), each_throughout y.rules (all_of_left T y.rules (below_rules y.membranes) here)))

  module _ (each : (k : ℕ) → k < length p.rules → H (ρ k)) where
    throughout : (m k : ℕ) → length p.rules ≤ k + m → k < length p.rules → T k
    throughout zero k h l = absurd (omega (arith, h, l))
    throughout (suc m) k h l =
        let found = there p.rules k l in
        let t = found.0 in
        let inside = well.rules_in_rules k t found.1 in
        let all : All T (rules_of t.head ++ rules_of t.body) =
        (λ i d b. let j = inside i d b in throughout m (get_or (rules_of t.head ++ rules_of t.body) i d) (omega (arith, h, j.0)) j.1) in
        let is = rule_has_number names p k t well found.1 in
        let R : tree.Rule → Type 0 = Throughout H in
        subst R (sym is) (subst H is (each k l), level_so t.body (all_of_right T (rules_of t.head) (rules_of t.body) all))

    -- ---- regions

    each_rule : (ks : List ℕ) → All T ks → EachRule (Throughout H) (map ρ ks)
    each_rule [] h = tt
    each_rule (k ∷ ks) h = (h zero k (omega arith), each_rule ks (all_of_right T (k ∷ []) ks h))

    abbrev RegionSo : Region → Type 0
    RegionSo r = All T (numbers r) → AllRules (Throughout H) (numbered_region names ρ r)

    inner_so : (rs : List ((r : Region) × RegionSo r)) → All T (all_rules (map (λ e. e.0) rs)) → AllRulesIn (Throughout H) (regions (map (numbered_region names ρ) (map (λ e. e.0) rs)))
    inner_so [] h = tt
    inner_so (e ∷ rs) h =
        let rest = all_rules (map (λ (e : (r : Region) × RegionSo r). e.0) rs) in
        (e.1 (all_of_left T (numbers e.0) rest h), inner_so rs (all_of_right T (numbers e.0) rest h))

    region_so : (r : Region) → RegionSo r
    region_so = ind-Region RegionSo (λ y z is h.
        let here = subst (All T) (fold-roll-Region (List ℕ) rules_step y) h in
        let inside = subst (λ r. All T (all_rules r.membranes) → AllRulesIn (Throughout H) (regions (map (numbered_region names ρ) r.membranes))) is (inner_so z.membranes) in
        rw (fold-roll-Region solid.Region (region_step names ρ) y)
        (each_rule y.rules (all_of_left T y.rules (all_rules y.membranes) here), inside (all_of_right T y.rules (all_rules y.membranes) here)))

    -- each rule of a solid whose rules are of the table
    pub solid_rules : (s : Solid) → HasEachRule p.rules s → AllRules (Throughout H) (region_of names p.rules s)
    solid_rules s has = region_so s.root (λ i d l. throughout (length p.rules) (get_or (numbers s.root) i d) (omega arith) (has i d l))
