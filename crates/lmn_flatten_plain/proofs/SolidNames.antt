-- A list that has the names of a solid and of its rules, by their numbers, has those of its tree.
use Rattle.std.proofs.Common.{◌≡◌, ℕ, zero, suc, ◌+◌, ◌<◌, ◌≤◌, List, [], ◌∷◌, ◌++◌, map, length, get_or, slice_get, Some, All, sym, subst, arith}
use Rattle.std.specs.List.{flat_map, AllByRecursion}
use Rattle.std.proofs.lemmas.Grind.{flat_map-append}
use Rattle.std.proofs.lemmas.Option.{same_Some}
use Rattle.lmn_base.specs.declared.functor.Label.{Label}
use Rattle.lmn_base.specs.declared.functor.Label.TheVariants.{Name, Int}
use Rattle.lmn_base.specs.declared.level.Level.{Level}
use Rattle.lmn_base.specs.declared.rule.Plain.{Plain}
use Rattle.lmn_base.specs.declared.rule.RuleTree.{RuleTree}
use Rattle.lmn_base.specs.declared.solid.Solid.{Solid}
use Rattle.lmn_base.specs.declared.solid.SolidAtom.{SolidAtom}
use Rattle.lmn_base.specs.declared.solid.Region.{Region}
use Rattle.lmn_base.specs.declared.solid.Region.TheFolds.{fold-Region, fold-roll-Region, ind-Region}
use Rattle.lmn_base.specs.Levels.{leaves_of, contexts_of, rule_contexts_of, rules_of}
use Rattle.lmn_base.specs.Names.{label_names, leaf_names, context_names, level_names, condition_names, rule_names, NamesSolid}
use Rattle.lmn_base.specs.Solids.{atoms_of_region, atoms_step, rules_step, HasEachRule}
use Rattle.lmn_base.specs.WellMade.{IsWellMade}
use Rattle.lmn_congruence.specs.Regions as solid
use Rattle.lmn_congruence.specs.Rules as tree
use Rattle.lmn_congruence.specs.Translation.{label_of, solid_atom_of, regions, region_step, numbered_rule, rules as as_rules, numbered_region}
use Rattle.lmn_congruence.proofs.NumberedRules.{rule_has_number}
use Rattle.lmn_flatten_plain.specs.NamesHeld.{LeafHeld, LevelHeld, LevelsHeld, RuleHeld, RulesHeld}
use Rattle.lmn_flatten_plain.specs.SolidLines.{atom_as_leaf, as_level, as_levels, level_of_solid}
use Rattle.lmn_flatten_plain.proofs.HeldSolids.{Have, Has, held, first, level_held, guard_held}
use Rattle.lmn_flatten_plain.proofs.SolidNumbers.{there}
use Rattle.lmn_base.proofs.Lists.{all_of_left, all_of_right}

module _ (names : List tree.Name) where
  -- the rules of a well made plain

  level_has : (ρ : ℕ → tree.Rule) (l : Level) → Have names (level_names l) → All (λ k. RuleHeld names (ρ k)) (rules_of l) → Has names ρ l
  level_has ρ l h r =
      let ls = flat_map leaf_names (leaves_of l) in
      let cs = context_names (contexts_of l) in
      let os = context_names (rule_contexts_of l) in
      let front = all_of_left (λ n. n < length names) (ls ++ cs) os h in
      record {
        leaves = all_of_left (λ n. n < length names) ls cs front;
        contexts = all_of_right (λ n. n < length names) ls cs front;
        rule_contexts = all_of_right (λ n. n < length names) (ls ++ cs) os h;
        rule_numbers = r;
      }

  one_rule : (ts : List RuleTree) (k : ℕ) (t : RuleTree) → slice_get ts k ≡ Some t → Have names (flat_map rule_names ts) → Have names (rule_names t)
  one_rule [] k t e h = absurd (cc)
  one_rule (u ∷ ts) zero t e h =
      let P : RuleTree → Type 0 = λ x. Have names (rule_names x) in
      subst P (same_Some u t e) (all_of_left (λ n. n < length names) (rule_names u) (flat_map rule_names ts) h)
  one_rule (u ∷ ts) (suc k) t e h = one_rule ts k t e (all_of_right (λ n. n < length names) (rule_names u) (flat_map rule_names ts) h)

  rule_is_held : (p : Plain) → IsWellMade p → Have names (flat_map rule_names p.rules) → (m k : ℕ) → length p.rules ≤ k + m → k < length p.rules
      → RuleHeld names (numbered_rule names p.rules k)
  rule_is_held p well have zero k h l = absurd (omega (arith, h, l))
  rule_is_held p well have (suc m) k h l =
      let found = there p.rules k l in
      let t = found.0 in
      let inside = well.rules_in_rules k t found.1 in
      let ρ = numbered_rule names p.rules in
      let all : All (λ j. RuleHeld names (numbered_rule names p.rules j)) (rules_of t.head ++ rules_of t.body) =
      (λ i d b. let j = inside i d b in rule_is_held p well have m (get_or (rules_of t.head ++ rules_of t.body) i d) (omega (arith, h, j.0)) j.1) in
      let own = one_rule p.rules k t found.1 have in
      let front = all_of_left (λ n. n < length names) (level_names t.head ++ flat_map condition_names t.guard) (level_names t.body) own in
      let R : tree.Rule → Type 0 = RuleHeld names in
      subst R (sym (rule_has_number names p k t well found.1)) (
        level_held names ρ t.head (level_has ρ t.head (all_of_left (λ n. n < length names) (level_names t.head) (flat_map condition_names t.guard) front)
            (all_of_left (λ j. RuleHeld names (numbered_rule names p.rules j)) (rules_of t.head) (rules_of t.body) all)),
        guard_held names t.guard (all_of_right (λ n. n < length names) (level_names t.head) (flat_map condition_names t.guard) front),
        level_held names ρ t.body (level_has ρ t.body (all_of_right (λ n. n < length names) (level_names t.head ++ flat_map condition_names t.guard) (level_names t.body) own)
            (all_of_right (λ j. RuleHeld names (numbered_rule names p.rules j)) (rules_of t.head) (rules_of t.body) all)),
      )

  -- the region

  label_held : (l : Label) (xs : List ℕ) → Have names (label_names l) → LeafHeld names (tree.atom_leaf (label_of names l) xs)
  label_held (Name n) xs h = held names n (first names n [] h)
  label_held (Int z) xs h = tt

  abbrev atom_names : SolidAtom → List ℕ
  atom_names a = label_names a.functor.label

  atoms_held : (xs : List SolidAtom) → Have names (flat_map atom_names xs) → AllByRecursion (LeafHeld names) (map atom_as_leaf (map (solid_atom_of names) xs))
  atoms_held [] h = tt
  atoms_held (a ∷ xs) h =
      (label_held a.functor.label a.links (all_of_left (λ n. n < length names) (atom_names a) (flat_map atom_names xs) h), atoms_held xs (all_of_right (λ n. n < length names) (atom_names a) (flat_map atom_names xs) h))

  module _ (ρ : ℕ → tree.Rule) where
    abbrev IsHeld : ℕ → Type 0
    IsHeld k = RuleHeld names (ρ k)

    rules_held : (ks : List ℕ) → All IsHeld ks → RulesHeld names (as_rules (map ρ ks))
    rules_held [] h = tt
    rules_held (k ∷ ks) h = (h zero k (omega arith), rules_held ks (all_of_right IsHeld (k ∷ []) ks h))

    abbrev numbers : Region → List ℕ
    numbers = fold-Region (List ℕ) rules_step

    abbrev RegionHeld : Region → Type 0
    RegionHeld r = Have names (flat_map atom_names (atoms_of_region r)) → All IsHeld (numbers r) → LevelHeld names (as_level (numbered_region names ρ r))

    two_atoms : (xs ys : List SolidAtom) → Have names (flat_map atom_names (xs ++ ys)) → Have names (flat_map atom_names xs) × Have names (flat_map atom_names ys)
    two_atoms xs ys h =
        let k = subst (Have names) (flat_map-append atom_names xs ys) h in
        (all_of_left (λ n. n < length names) (flat_map atom_names xs) (flat_map atom_names ys) k, all_of_right (λ n. n < length names) (flat_map atom_names xs) (flat_map atom_names ys) k)

    below_held : (rs : List ((r : Region) × RegionHeld r)) → Have names (flat_map atom_names (flat_map (λ inner. inner) (map atoms_of_region (map (λ e. e.0) rs))))
        → All IsHeld (flat_map (λ inner. inner) (map numbers (map (λ e. e.0) rs))) → LevelsHeld names (as_levels (regions (map (numbered_region names ρ) (map (λ e. e.0) rs))))
    below_held [] h k = tt
    below_held (e ∷ rs) h k =
        let others = map (λ (e : (r : Region) × RegionHeld r). e.0) rs in
        let a = two_atoms (atoms_of_region e.0) (flat_map (λ inner. inner) (map atoms_of_region others)) h in
        let b = flat_map (λ inner. inner) (map numbers others) in
        (e.1 a.0 (all_of_left IsHeld (numbers e.0) b k), below_held rs a.1 (all_of_right IsHeld (numbers e.0) b k))

    region_held : (r : Region) → RegionHeld r
    region_held = ind-Region RegionHeld (λ y z is h k.
        let P : List SolidAtom → Type 0 = λ xs. Have names (flat_map atom_names xs) in
        let a = two_atoms y.atoms (flat_map (λ inner. inner) (map atoms_of_region y.membranes)) (subst P (fold-roll-Region (List SolidAtom) atoms_step y) h) in
        let d = subst (All IsHeld) (fold-roll-Region (List ℕ) rules_step y) k in
        let b = flat_map (λ inner. inner) (map numbers y.membranes) in
        let inside = subst (λ r. Have names (flat_map atom_names (flat_map (λ inner. inner) (map atoms_of_region r.membranes)))
        → All IsHeld (flat_map (λ inner. inner) (map numbers r.membranes)) → LevelsHeld names (as_levels (regions (map (numbered_region names ρ) r.membranes)))) is (below_held z.membranes) in
        rw (fold-roll-Region solid.Region (region_step names ρ) y)
        (atoms_held y.atoms a.0, inside a.1 (all_of_right IsHeld y.rules b d), tt, tt, rules_held y.rules (all_of_left IsHeld y.rules b d)))

-- where a solid's names are those of a list its level has them
pub solid_held : (names : List tree.Name) (p : Plain) (s : Solid) → IsWellMade p → HasEachRule p.rules s → NamesSolid names p.rules s → LevelHeld names (level_of_solid names p.rules s)
solid_held names p s well has h =
    region_held names (numbered_rule names p.rules) s.root h.2
    (λ i d l. rule_is_held names p well h.1 (length p.rules) (get_or (fold-Region (List ℕ) rules_step s.root) i d) (omega arith) (has i d l))
