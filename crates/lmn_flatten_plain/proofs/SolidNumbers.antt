-- The links of a solid, and of its rules, are numbered by first occurrence as trees too.
use Rattle.std.proofs.Common.{◌≡◌, ℕ, zero, suc, ◌+◌, ◌<◌, ◌≤◌, List, [], ◌∷◌, ◌++◌, map, length, get_or, slice_get, Some, All, refl, sym, ap, ◌∙◌, subst, arith}
use Rattle.std.specs.List.{flat_map}
use Rattle.std.proofs.lemmas.Grind.{flat_map-append}
use Rattle.std.proofs.lemmas.List.{append-nil, map-append}
use Rattle.std.proofs.lemmas.Option.{get_or_from_slice_get}
use Rattle.lmn_base.specs.declared.functor.Label.{Label}
use Rattle.lmn_base.specs.declared.functor.Label.TheVariants.{Name, Int}
use Rattle.lmn_base.specs.declared.level.Leaf.{Leaf}
use Rattle.lmn_base.specs.declared.level.Leaf.TheVariants.{Atom, Typed}
use Rattle.lmn_base.specs.declared.level.Level.{Level}
use Rattle.lmn_base.specs.declared.level.Level.TheFolds.{fold-roll-Level, ind-Level}
use Rattle.lmn_base.specs.declared.level.Occ.{Occ}
use Rattle.lmn_base.specs.declared.rule.Plain.{Plain}
use Rattle.lmn_base.specs.declared.rule.RuleTree.{RuleTree}
use Rattle.lmn_base.specs.declared.solid.Solid.{Solid}
use Rattle.lmn_base.specs.declared.solid.SolidAtom.{SolidAtom}
use Rattle.lmn_base.specs.declared.solid.Region.{Region}
use Rattle.lmn_base.specs.declared.solid.Region.TheFolds.{fold-Region, fold-roll-Region, ind-Region}
use Rattle.lmn_base.specs.Levels.{leaves_of, rules_of, occurrences_of_leaf, links_of, links_of_leaves}
use Rattle.lmn_base.specs.Links.{NumbersLinks}
use Rattle.lmn_base.specs.Solids.{atoms_of_region, atoms_step, rules_step, IsSolid, HasEachRule}
use Rattle.lmn_base.specs.WellMade.{IsWellMadeRule, IsWellMade}
use Rattle.lmn_congruence.specs.Regions as solid
use Rattle.lmn_congruence.specs.Rules as tree
use Rattle.lmn_congruence.specs.Translation.{atom_or_connector, leaf_of, level_of, level_step, levels, rules, solid_atom_of, regions, region_step, numbered_rule, numbered_region}
use Rattle.lmn_congruence.proofs.NumberedRules.{rule_has_number}
use Rattle.lmn_flatten_plain.specs.LinkNumbers.{leaf_links, leaves_links, level_links, levels_links, RulesNumbered, AllRulesNumbered, RuleNumbered, EachNumbered}
use Rattle.lmn_flatten_plain.specs.SolidLines.{atom_as_leaf, as_level, as_levels, level_of_solid}
use Rattle.lmn_base.proofs.Lists.{all_of_left, all_of_right}

-- Solids.

atoms_links : (names : List tree.Name) (xs : List SolidAtom) → leaves_links (map atom_as_leaf (map (solid_atom_of names) xs)) ≡ flat_map (λ (a : SolidAtom). a.links) xs
atoms_links names [] = refl
atoms_links names (a ∷ xs) = ap (λ ys. a.links ++ ys) (atoms_links names xs)

module _ (names : List tree.Name) (ρ : ℕ → tree.Rule) where
  abbrev SameLinks : Region → Type 0
  SameLinks r = level_links (as_level (numbered_region names ρ r)) ≡ flat_map (λ (a : SolidAtom). a.links) (atoms_of_region r)

  inner_links : (rs : List ((r : Region) × SameLinks r))
      → levels_links (as_levels (regions (map (numbered_region names ρ) (map (λ e. e.0) rs)))) ≡ flat_map (λ (a : SolidAtom). a.links) (flat_map (λ inner. inner) (map atoms_of_region (map (λ e. e.0) rs)))
  inner_links [] = refl
  inner_links (e ∷ rs) =
      ap (λ xs. xs ++ levels_links (as_levels (regions (map (numbered_region names ρ) (map (λ e. e.0) rs))))) e.1
      ∙ ap (λ xs. flat_map (λ (a : SolidAtom). a.links) (atoms_of_region e.0) ++ xs) (inner_links rs)
      ∙ sym (flat_map-append (λ (a : SolidAtom). a.links) (atoms_of_region e.0) (flat_map (λ inner. inner) (map atoms_of_region (map (λ e. e.0) rs))))

  region_links : (r : Region) → SameLinks r
  region_links = ind-Region SameLinks (λ y z is.
      let inside = subst (λ r. levels_links (as_levels (regions (map (numbered_region names ρ) r.membranes))) ≡ flat_map (λ (a : SolidAtom). a.links) (flat_map (λ inner. inner) (map atoms_of_region r.membranes))) is (inner_links z.membranes) in
      rw (fold-roll-Region solid.Region (region_step names ρ) y, fold-roll-Region (List SolidAtom) atoms_step y)
      (ap (λ xs. xs ++ levels_links (as_levels (regions (map (numbered_region names ρ) y.membranes)))) (atoms_links names y.atoms)
      ∙ ap (λ xs. flat_map (λ (a : SolidAtom). a.links) y.atoms ++ xs) inside
      ∙ sym (flat_map-append (λ (a : SolidAtom). a.links) y.atoms (flat_map (λ inner. inner) (map atoms_of_region y.membranes)))))

  each_numbered : (ks : List ℕ) → All (λ k. RuleNumbered (ρ k)) ks → EachNumbered (rules (map ρ ks))
  each_numbered [] h = tt
  each_numbered (k ∷ ks) h = (h zero k (omega arith), each_numbered ks (all_of_right (λ k. RuleNumbered (ρ k)) (k ∷ []) ks h))

  abbrev inner_rules : List Region → List ℕ
  inner_rules rs = flat_map (λ inner. inner) (map (fold-Region (List ℕ) rules_step) rs)

  abbrev RegionNumbered : Region → Type 0
  RegionNumbered r = All (λ k. RuleNumbered (ρ k)) (fold-Region (List ℕ) rules_step r) → RulesNumbered (as_level (numbered_region names ρ r))

  inner_numbered : (rs : List ((r : Region) × RegionNumbered r)) → All (λ k. RuleNumbered (ρ k)) (inner_rules (map (λ e. e.0) rs))
      → AllRulesNumbered (as_levels (regions (map (numbered_region names ρ) (map (λ e. e.0) rs))))
  inner_numbered [] h = tt
  inner_numbered (e ∷ rs) h =
      let first = fold-Region (List ℕ) rules_step e.0 in
      let rest = inner_rules (map (λ e. e.0) rs) in
      (e.1 (all_of_left (λ k. RuleNumbered (ρ k)) first rest h), inner_numbered rs (all_of_right (λ k. RuleNumbered (ρ k)) first rest h))

  region_numbered : (r : Region) → RegionNumbered r
  region_numbered = ind-Region RegionNumbered (λ y z is h.
      let here = subst (All (λ k. RuleNumbered (ρ k))) (fold-roll-Region (List ℕ) rules_step y) h in
      let inside = subst (λ r. All (λ k. RuleNumbered (ρ k)) (inner_rules r.membranes) → AllRulesNumbered (as_levels (regions (map (numbered_region names ρ) r.membranes)))) is (inner_numbered z.membranes) in
      rw (fold-roll-Region solid.Region (region_step names ρ) y)
      (inside (all_of_right (λ k. RuleNumbered (ρ k)) y.rules (inner_rules y.membranes) here), each_numbered y.rules (all_of_left (λ k. RuleNumbered (ρ k)) y.rules (inner_rules y.membranes) here)))

  -- Levels of the table.

  atom_links : (l : Label) (xs : List ℕ) → leaf_links (atom_or_connector names l xs) ≡ xs
  atom_links (Name zero) [] = refl
  atom_links (Name zero) (a ∷ []) = refl
  atom_links (Name zero) (a ∷ (b ∷ [])) = refl
  atom_links (Name zero) (a ∷ (b ∷ (c ∷ xs))) = refl
  atom_links (Name (suc n)) xs = refl
  atom_links (Int z) xs = refl

  links_both : (ks ls : List Leaf) → links_of_leaves (ks ++ ls) ≡ links_of_leaves ks ++ links_of_leaves ls
  links_both ks ls = ap (map (λ (o : Occ). o.link)) (flat_map-append occurrences_of_leaf ks ls) ∙ map-append (λ (o : Occ). o.link) (flat_map occurrences_of_leaf ks) (flat_map occurrences_of_leaf ls)

  one_leaf : (l : Leaf) → leaf_links (leaf_of names l) ≡ links_of_leaves (l ∷ [])
  one_leaf (Atom f os p) = atom_links f.label (map (λ (o : Occ). o.link) os) ∙ ap (map (λ (o : Occ). o.link)) (sym (append-nil os))
  one_leaf (Typed n o p) = refl

  many_leaves : (ls : List Leaf) → leaves_links (map (leaf_of names) ls) ≡ links_of_leaves ls
  many_leaves [] = refl
  many_leaves (l ∷ ls) =
      ap (λ xs. xs ++ leaves_links (map (leaf_of names) ls)) (one_leaf l) ∙ ap (λ xs. links_of_leaves (l ∷ []) ++ xs) (many_leaves ls) ∙ sym (links_both (l ∷ []) ls)

  abbrev SameLevel : Level → Type 0
  SameLevel l = level_links (level_of names ρ l) ≡ links_of_leaves (leaves_of l)

  below_links : (ls : List ((l : Level) × SameLevel l))
      → levels_links (levels (map (level_of names ρ) (map (λ e. e.0) ls))) ≡ links_of_leaves (flat_map (λ inner. inner) (map leaves_of (map (λ e. e.0) ls)))
  below_links [] = refl
  below_links (e ∷ ls) =
      ap (λ xs. xs ++ levels_links (levels (map (level_of names ρ) (map (λ e. e.0) ls)))) e.1 ∙ ap (λ xs. links_of_leaves (leaves_of e.0) ++ xs) (below_links ls)
      ∙ sym (links_both (leaves_of e.0) (flat_map (λ inner. inner) (map leaves_of (map (λ e. e.0) ls))))

  same_level_links : (l : Level) → SameLevel l
  same_level_links = ind-Level SameLevel (λ y z is.
      let inside = subst (λ l. levels_links (levels (map (level_of names ρ) l.membranes)) ≡ links_of_leaves (flat_map (λ inner. inner) (map leaves_of l.membranes))) is (below_links z.membranes) in
      rw (fold-roll-Level tree.Level (level_step names ρ) y, fold-roll-Level (List Leaf) (λ l. l.leaves ++ flat_map (λ inner. inner) l.membranes) y)
      (ap (λ xs. xs ++ levels_links (levels (map (level_of names ρ) y.membranes))) (many_leaves y.leaves) ∙ ap (λ xs. links_of_leaves y.leaves ++ xs) inside
      ∙ sym (links_both y.leaves (flat_map (λ inner. inner) (map leaves_of y.membranes)))))

  abbrev below_rules : List Level → List ℕ
  below_rules ls = flat_map (λ inner. inner) (map rules_of ls)

  abbrev LevelNumbered : Level → Type 0
  LevelNumbered l = All (λ k. RuleNumbered (ρ k)) (rules_of l) → RulesNumbered (level_of names ρ l)

  below_numbered : (ls : List ((l : Level) × LevelNumbered l)) → All (λ k. RuleNumbered (ρ k)) (below_rules (map (λ e. e.0) ls))
      → AllRulesNumbered (levels (map (level_of names ρ) (map (λ e. e.0) ls)))
  below_numbered [] h = tt
  below_numbered (e ∷ ls) h =
      let rest = below_rules (map (λ e. e.0) ls) in
      (e.1 (all_of_left (λ k. RuleNumbered (ρ k)) (rules_of e.0) rest h), below_numbered ls (all_of_right (λ k. RuleNumbered (ρ k)) (rules_of e.0) rest h))

  level_numbered : (l : Level) → LevelNumbered l
  level_numbered = ind-Level LevelNumbered (λ y z is h.
      let here = subst (All (λ k. RuleNumbered (ρ k))) (fold-roll-Level (List ℕ) (λ l. l.rules ++ flat_map (λ inner. inner) l.membranes) y) h in
      let inside = subst (λ l. All (λ k. RuleNumbered (ρ k)) (below_rules l.membranes) → AllRulesNumbered (levels (map (level_of names ρ) l.membranes))) is (below_numbered z.membranes) in
      rw (fold-roll-Level tree.Level (level_step names ρ) y)
      (inside (all_of_right (λ k. RuleNumbered (ρ k)) y.rules (below_rules y.membranes) here), each_numbered y.rules (all_of_left (λ k. RuleNumbered (ρ k)) y.rules (below_rules y.membranes) here)))

-- Rules of a well made plain.

-- a table has a rule at each number below its length
pub there : (ts : List RuleTree) (k : ℕ) → k < length ts → (t : RuleTree) × (slice_get ts k ≡ Some t)
there [] k l = absurd (omega (arith, l))
there (t ∷ ts) zero l = (t, refl)
there (t ∷ ts) (suc k) l = there ts k (omega (arith, l))

module _ (names : List tree.Name) (p : Plain) (well : IsWellMade p) where
  abbrev rule_at : ℕ → tree.Rule
  rule_at = numbered_rule names p.rules

  rule_numbered : (m k : ℕ) → length p.rules ≤ k + m → k < length p.rules → RuleNumbered (rule_at k)
  rule_numbered zero k h l = absurd (omega (arith, h, l))
  rule_numbered (suc m) k h l =
      let found = there p.rules k l in
      let t = found.0 in
      let P : RuleTree → Type 0 = IsWellMadeRule in
      let made = subst P (get_or_from_slice_get p.rules k t t found.1) (well.each_rule k t l) in
      let table_is = made.table in
      let inside = well.rules_in_rules k t found.1 in
      let all : All (λ j. RuleNumbered (rule_at j)) (rules_of t.head ++ rules_of t.body) =
      (λ i d b. let j = inside i d b in rule_numbered m (get_or (rules_of t.head ++ rules_of t.body) i d) (omega (arith, h, j.0)) j.1) in
      let Q : List ℕ → Type 0 = λ xs. NumbersLinks xs (length t.links) in
      let same : flat_map links_of (t.head ∷ t.body ∷ []) ≡ level_links (level_of names rule_at t.head) ++ level_links (level_of names rule_at t.body) =
      ap (λ xs. links_of t.head ++ xs) (append-nil (links_of t.body)) ∙ ap (λ xs. xs ++ links_of t.body) (sym (same_level_links names rule_at t.head))
      ∙ ap (λ xs. level_links (level_of names rule_at t.head) ++ xs) (sym (same_level_links names rule_at t.body)) in
      let R : tree.Rule → Type 0 = RuleNumbered in
      subst R (sym (rule_has_number names p k t well found.1)) (
        (length t.links, subst Q same table_is.numbered),
        level_numbered names rule_at t.head (all_of_left (λ j. RuleNumbered (rule_at j)) (rules_of t.head) (rules_of t.body) all),
        level_numbered names rule_at t.body (all_of_right (λ j. RuleNumbered (rule_at j)) (rules_of t.head) (rules_of t.body) all),
      )

-- the links of a solid are numbered as they are printed
pub solid_numbers : (names : List tree.Name) (made : Plain) (s : Solid) → IsSolid s → (n : ℕ) × NumbersLinks (level_links (level_of_solid names made.rules s)) n
solid_numbers names made s h =
    let numbered = h.numbered in
    let P : List ℕ → Type 0 = λ xs. NumbersLinks xs numbered.0 in
    (numbered.0, subst P (sym (region_links names (numbered_rule names made.rules) s.root)) numbered.1)

-- and so are those of its rules
pub solid_rules_numbered : (names : List tree.Name) (made : Plain) (s : Solid) → IsWellMade made → HasEachRule made.rules s → RulesNumbered (level_of_solid names made.rules s)
solid_rules_numbered names made s well has =
    region_numbered names (numbered_rule names made.rules) s.root (λ i d l. rule_numbered names made well (length made.rules) _ (omega arith) (has i d l))
