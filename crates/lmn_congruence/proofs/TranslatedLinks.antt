-- The links of what the program keeps, and those of its translation.
use Rattle.std.proofs.Common.{ℕ, ◌≡◌, ◌+◌, ◌==◌, zero, suc, List, [], ◌∷◌, ◌++◌, map, All, count_by, refl, sym, ◌∙◌, subst, arith}
use Rattle.std.specs.List.{flat_map}
use Rattle.std.proofs.lemmas.List.{append-nil, map-append}
use Rattle.std.proofs.lemmas.List.Recursion.{is_count_by}
use Rattle.std.proofs.lemmas.Grind.{flat_map-append}
use Rattle.lmn_base.specs.declared.functor.Label.{Label}
use Rattle.lmn_base.specs.declared.functor.Label.TheVariants.{Name, Int}
use Rattle.lmn_base.specs.declared.level.Leaf.{Leaf}
use Rattle.lmn_base.specs.declared.level.Leaf.TheVariants.{Atom, Typed}
use Rattle.lmn_base.specs.declared.level.Level.{Level}
use Rattle.lmn_base.specs.declared.level.Level.TheFolds.{fold-roll-Level, ind-Level}
use Rattle.lmn_base.specs.Levels.{leaves_of, occurrences_of_leaf as base_occurrences, links_of, links_of_leaves}
use Rattle.lmn_base.specs.WellMade.{IsAtomLeaf}
use Rattle.lmn_base.specs.declared.solid.SolidAtom.{SolidAtom}
use Rattle.lmn_base.specs.declared.solid.Region.{Region}
use Rattle.lmn_base.specs.declared.solid.Region.TheFolds.{fold-Region, fold-roll-Region, ind-Region}
use Rattle.lmn_base.specs.Solids.{atoms_of_region, atoms_step, links_of_region as solid_links}
use Rattle.lmn_congruence.specs.Links.{places}
use Rattle.lmn_congruence.specs.Process.{Process, occurrences, together, rule}
use Rattle.lmn_congruence.specs.Plains.{leaf_process, level_process, levels_processes}
use Rattle.lmn_congruence.specs.Regions as solid
use Rattle.lmn_congruence.specs.Rules as tree
use Rattle.lmn_congruence.specs.LinkedRules.{leaf_occurrences, leaves_occurrences, level_occurrences, levels_occurrences}
use Rattle.lmn_congruence.specs.Translation.{atom_or_connector, leaf_of, level_of, level_step, levels, rules, solid_atom_of, regions, region_step, numbered_rule}
use Rattle.lmn_congruence.specs.TranslationLaws.{LevelLinksKept, TopLinksKept, SolidLinksKept, LinkedRulesKept, SolidsClosed, PlainsClosed}
use Rattle.lmn_base.proofs.Truth.{cond_plus}
use Rattle.lmn_base.proofs.Common.{inner_leaves}
use Rattle.lmn_base.proofs.Lists.{all_of_left, all_of_right}

-- a number has the places of both lists joined
pub places_append : (x : ℕ) (xs ys : List ℕ) → places x (xs ++ ys) ≡ places x xs + places x ys
places_append x [] ys = omega arith
places_append x (z ∷ xs) ys = omega (arith, places_append x xs ys)

places_both : (x : ℕ) (ks ls : List Leaf) → places x (links_of_leaves (ks ++ ls)) ≡ places x (links_of_leaves ks) + places x (links_of_leaves ls)
places_both x ks ls = rw (flat_map-append base_occurrences ks ls, map-append (λ o. o.link) (flat_map base_occurrences ks) (flat_map base_occurrences ls)) (places_append x (links_of_leaves ks) (links_of_leaves ls))

-- of an atom's tree, and of its process
atom_places : (names : List tree.Name) (x : ℕ) (l : Label) (ys : List ℕ) → (leaf_occurrences x (atom_or_connector names l ys) ≡ places x ys) × (occurrences x (leaf_process (atom_or_connector names l ys)) ≡ places x ys)
atom_places names x (Name zero) [] = (refl, refl)
atom_places names x (Name zero) (a ∷ []) = (refl, refl)
atom_places names x (Name zero) (a ∷ (b ∷ [])) = (omega arith, omega arith)
atom_places names x (Name zero) (a ∷ (b ∷ (c ∷ ys))) = (refl, refl)
atom_places names x (Name (suc n)) ys = (refl, refl)
atom_places names x (Int z) ys = (refl, refl)

leaf_places : (names : List tree.Name) (x : ℕ) (l : Leaf) → leaf_occurrences x (leaf_of names l) ≡ places x (links_of_leaves (l ∷ []))
leaf_places names x (Atom f os p) = rw (append-nil os) (atom_places names x f.label (map (λ o. o.link) os)).0
leaf_places names x (Typed n o p) = omega arith

leaves_places : (names : List tree.Name) (x : ℕ) (ls : List Leaf) → leaves_occurrences x (map (leaf_of names) ls) ≡ places x (links_of_leaves ls)
leaves_places names x [] = refl
leaves_places names x (l ∷ ls) = omega (arith, leaf_places names x l, leaves_places names x ls, places_both x (l ∷ []) ls)

module _ (names : List tree.Name) (rule : ℕ → tree.Rule) (x : ℕ) where
  abbrev Counted : Level → Type 0
  Counted l = level_occurrences x (level_of names rule l) ≡ places x (links_of_leaves (leaves_of l))

  inner_places : (ls : List ((l : Level) × Counted l)) →
      levels_occurrences x (levels (map (level_of names rule) (map (λ e. e.0) ls))) ≡ places x (links_of_leaves (flat_map (λ inner. inner) (map leaves_of (map (λ e. e.0) ls))))
  inner_places [] = refl
  inner_places (e ∷ ls) = omega (arith, e.1, inner_places ls, places_both x (leaves_of e.0) (flat_map (λ inner. inner) (map leaves_of (map (λ e. e.0) ls))))

  pub level_places : (l : Level) → Counted l
  level_places = ind-Level Counted (λ y z is.
      let inside = subst (λ l. levels_occurrences x (levels (map (level_of names rule) l.membranes)) ≡ places x (links_of_leaves (flat_map (λ inner. inner) (map leaves_of l.membranes)))) is (inner_places z.membranes) in
      rw (fold-roll-Level tree.Level (level_step names rule) y, fold-roll-Level (List Leaf) (λ l. l.leaves ++ flat_map (λ inner. inner) l.membranes) y)
      (omega (arith, leaves_places names x y.leaves, inside, places_both x y.leaves (flat_map (λ inner. inner) (map leaves_of y.membranes)))))

-- ---- the process of a top without contexts

leaf_alone : (names : List tree.Name) (x : ℕ) (l : Leaf) → IsAtomLeaf l → occurrences x (leaf_process (leaf_of names l)) ≡ places x (links_of_leaves (l ∷ []))
leaf_alone names x (Atom f os p) h = rw (append-nil os) (atom_places names x f.label (map (λ o. o.link) os)).1
leaf_alone names x (Typed n o p) h = absurd h

leaves_alone : (names : List tree.Name) (x : ℕ) (ls : List Leaf) → All IsAtomLeaf ls → occurrences x (together (map leaf_process (map (leaf_of names) ls))) ≡ places x (links_of_leaves ls)
leaves_alone names x [] h = refl
leaves_alone names x (l ∷ ls) h = omega (arith, leaf_alone names x l (h zero l (omega arith)), leaves_alone names x ls (all_of_right IsAtomLeaf (l ∷ []) ls h), places_both x (l ∷ []) ls)

-- no link occurs in rules
pub no_link_in_rules : (x : ℕ) (rs : List tree.Rule) → occurrences x (together (map rule rs)) ≡ 0
no_link_in_rules x [] = refl
no_link_in_rules x (r ∷ rs) = omega (arith, no_link_in_rules x rs)

module _ (names : List tree.Name) (number : ℕ → tree.Rule) (x : ℕ) where
  abbrev inner_process : List Level → Process
  inner_process ls = together (levels_processes (levels (map (level_of names number) ls)))

  abbrev Shown : Level → Type 0
  Shown l = All IsAtomLeaf (leaves_of l) → occurrences x (level_process (level_of names number l)) ≡ places x (links_of_leaves (leaves_of l))

  inner_shown : (ls : List ((l : Level) × Shown l)) → All IsAtomLeaf (inner_leaves (map (λ e. e.0) ls)) →
      occurrences x (inner_process (map (λ e. e.0) ls)) ≡ places x (links_of_leaves (inner_leaves (map (λ e. e.0) ls)))
  inner_shown [] h = refl
  inner_shown (e ∷ ls) h =
      let behind = inner_leaves (map (λ e. e.0) ls) in
      omega (arith, e.1 (all_of_left IsAtomLeaf (leaves_of e.0) behind h), inner_shown ls (all_of_right IsAtomLeaf (leaves_of e.0) behind h), places_both x (leaves_of e.0) behind)

  pub top_places : (l : Level) → Shown l
  top_places = ind-Level Shown (λ y z is h.
      let split = fold-roll-Level (List Leaf) (λ l. l.leaves ++ flat_map (λ inner. inner) l.membranes) y in
      let here = subst (All IsAtomLeaf) split h in
      let inside = subst (λ l. All IsAtomLeaf (inner_leaves l.membranes) → occurrences x (inner_process l.membranes) ≡ places x (links_of_leaves (inner_leaves l.membranes))) is (inner_shown z.membranes) in
      rw (fold-roll-Level tree.Level (level_step names number) y, split)
      (omega (
        arith,
        leaves_alone names x y.leaves (all_of_left IsAtomLeaf y.leaves (inner_leaves y.membranes) here),
        inside (all_of_right IsAtomLeaf y.leaves (inner_leaves y.membranes) here),
        no_link_in_rules x (tree.rules_list (rules (map number y.rules))),
        places_both x y.leaves (inner_leaves y.membranes),
      )))

-- ---- solids

atoms_places : (names : List tree.Name) (x : ℕ) (ks : List SolidAtom) → occurrences x (together (map solid.atom_process (map (solid_atom_of names) ks))) ≡ places x (flat_map (λ a. a.links) ks)
atoms_places names x [] = refl
atoms_places names x (a ∷ ks) = omega (arith, atoms_places names x ks, places_append x a.links (flat_map (λ a. a.links) ks))

both_atoms : (x : ℕ) (ks ls : List SolidAtom) → places x (flat_map (λ a. a.links) (ks ++ ls)) ≡ places x (flat_map (λ a. a.links) ks) + places x (flat_map (λ a. a.links) ls)
both_atoms x ks ls = rw (flat_map-append (λ a. a.links) ks ls) (places_append x (flat_map (λ a. a.links) ks) (flat_map (λ a. a.links) ls))

module _ (names : List tree.Name) (number : ℕ → tree.Rule) (x : ℕ) where
  abbrev region : Region → solid.Region
  region = fold-Region solid.Region (region_step names number)

  abbrev inner_atoms : List Region → List SolidAtom
  inner_atoms rs = flat_map (λ inner. inner) (map atoms_of_region rs)

  abbrev inner_regions : List Region → Process
  inner_regions rs = together (solid.regions_processes (regions (map region rs)))

  abbrev Solidly : Region → Type 0
  Solidly r = occurrences x (solid.region_process (region r)) ≡ places x (flat_map (λ a. a.links) (atoms_of_region r))

  inner_solidly : (rs : List ((r : Region) × Solidly r)) → occurrences x (inner_regions (map (λ e. e.0) rs)) ≡ places x (flat_map (λ a. a.links) (inner_atoms (map (λ e. e.0) rs)))
  inner_solidly [] = refl
  inner_solidly (e ∷ rs) = omega (arith, e.1, inner_solidly rs, both_atoms x (atoms_of_region e.0) (inner_atoms (map (λ e. e.0) rs)))

  pub region_places : (r : Region) → Solidly r
  region_places = ind-Region Solidly (λ y z is.
      let inside = subst (λ r. occurrences x (inner_regions r.membranes) ≡ places x (flat_map (λ a. a.links) (inner_atoms r.membranes))) is (inner_solidly z.membranes) in
      rw (fold-roll-Region solid.Region (region_step names number) y, fold-roll-Region (List SolidAtom) atoms_step y)
      (omega (arith, atoms_places names x y.atoms, inside, no_link_in_rules x (map number y.rules), both_atoms x y.atoms (inner_atoms y.membranes))))

-- ---- how often a link occurs

-- to count the numbers that are x is to count the places of x
pub counted : (x : ℕ) (xs : List ℕ) → count_by (λ y. x == y) xs ≡ places x xs
counted x xs = sym (is_count_by (places x) (λ y. x == y) refl (λ y ys. cond_plus (x == y) (places x ys)) xs)

-- a link occurs in the process of a level as often as in the level
pub level_links : LevelLinksKept
level_links names number l x = level_places names number x l ∙ sym (counted x (links_of l))

-- and in that of a plain's top
pub top_links : TopLinksKept
top_links names p w x = top_places names (numbered_rule names p.rules) x p.top w.only_atoms ∙ sym (counted x (links_of p.top))

-- a link occurs in the process of a solid as often as in the solid
pub solid_links_kept : SolidLinksKept
solid_links_kept names table s x = region_places names (numbered_rule names table) x s.root ∙ sym (counted x (solid_links s.root))

-- ---- closed processes, linked rules

-- a rule is linked exactly where its tree is
pub linked_rules : LinkedRulesKept
linked_rules names number r = ((λ h x. rw (both_parts x) (h x)), (λ h x. rw (← both_parts x) (h x)))
  where
    both_parts : (x : ℕ) → level_occurrences x (level_of names number r.head) + level_occurrences x (level_of names number r.body) ≡ count_by (λ y. x == y) (links_of r.head ++ links_of r.body)
    both_parts x = omega (arith, level_links names number r.head x, level_links names number r.body x, counted x (links_of r.head), counted x (links_of r.body), counted x (links_of r.head ++ links_of r.body), places_append x (links_of r.head) (links_of r.body))

-- the process of a solid is closed
pub solids_closed : SolidsClosed
solids_closed names table s k = λ x. rw (solid_links_kept names table s x) (k.closed x)

-- that of a plain is closed exactly where each link of its top stands there twice
pub plains_closed : PlainsClosed
plains_closed names p w = ((λ h x. rw (top_links names p w x) (h x)), (λ h x. rw (← top_links names p w x) (h x)))
