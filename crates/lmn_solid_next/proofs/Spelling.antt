-- A level of the calculus that is spelled by a raw region with connectors settles to its solid.
use Rattle.std.proofs.Common.{ℕ, ◌≡◌, ◌+◌, ◌⊎◌, inl, inr, List, [], ◌∷◌, ◌++◌, map, refl, sym, ap, subst, ◌∙◌, arith}
use Rattle.lmn_base.specs.declared.rule.RuleTree.{RuleTree}
use Rattle.lmn_base.specs.declared.solid.Region.TheFolds.{fold-roll-Region}
use Rattle.lmn_base.specs.declared.solid.Solid.{Solid}
use Rattle.lmn_base.specs.declared.solid.SolidAtom.{SolidAtom}
use Rattle.lmn_base.proofs.Lists.{map_itself}
use Rattle.lmn_congruence.specs.Fused.{Joins}
use Rattle.lmn_congruence.specs.Links.{places}
use Rattle.lmn_congruence.specs.Plains.{SolidOf, fused_leaves, fused_level, fused_levels, leaf_process, level_process, levels_processes}
use Rattle.lmn_congruence.specs.Process.{Closed, occurrences, together}
use Rattle.lmn_congruence.specs.Regions as solid
use Rattle.lmn_congruence.specs.Rules as tree
use Rattle.lmn_congruence.specs.Same.{renamed_atom, renamed_region, renamed_regions}
use Rattle.lmn_congruence.specs.Translation.{numbered_region, numbered_rule, region_of, region_step, regions, solid_atom_of}
use Rattle.lmn_congruence.proofs.TranslatedLinks.{places_append, region_places, solids_closed}
use Rattle.lmn_congruence_splice.specs.Splice.{IsOneOf, both_links}
use Rattle.lmn_solid_settle.specs.Raw.{CanSettle, IsSettled, RawRegion, RawRegions, no_raw, raw, raw_and, raw_links, settled, settled_all, settled_atom}
use Rattle.lmn_solid_settle.proofs.SettledLinks.{links_settled, places_renamed}
use Rattle.lmn_solid_firing.specs.Spelled.{Spells, leaf_connectors, level_connectors, levels_connectors, mapped_pair}
use Rattle.lmn_solid_next.specs.Settling.{SettlesToSolid, SpelledLevelsSettle}
use Rattle.lmn_congruence.proofs.Common.{rules_join}
use Rattle.lmn_congruence_splice.proofs.Common.{in_back as one_right, in_front as one_left}

-- ---- the places of links

both_append : (x : ℕ) (es fs : List (ℕ × ℕ)) → places x (both_links (es ++ fs)) ≡ places x (both_links es) + places x (both_links fs)
both_append x [] fs = omega arith
both_append x (e ∷ es) fs = omega (arith, both_append x es fs)

both_mapped : (f : ℕ → ℕ) (es : List (ℕ × ℕ)) → both_links (map (mapped_pair f) es) ≡ map f (both_links es)
both_mapped f [] = refl
both_mapped f (e ∷ es) = ap (λ ys. f e.0 ∷ f e.1 ∷ ys) (both_mapped f es)

-- a link of a level stands in its connectors, or in the region without them
leaves_split : (x : ℕ) (ls : List tree.Leaf) → occurrences x (together (map leaf_process ls)) ≡ places x (both_links (leaf_connectors ls)) + occurrences x (together (map solid.atom_process (fused_leaves (λ y. y) ls)))
leaves_split x [] = refl
leaves_split x (tree.atom_leaf a xs ∷ ls) = omega (arith, leaves_split x ls, ap (places x) (map_itself xs))
leaves_split x (tree.connector_leaf y z ∷ ls) = omega (arith, leaves_split x ls)
leaves_split x (tree.typed_leaf p y ∷ ls) = omega (arith, leaves_split x ls)

mutual
  level_split : (x : ℕ) (l : tree.Level) → occurrences x (level_process l) ≡ places x (both_links (level_connectors l)) + occurrences x (solid.region_process (fused_level (λ y. y) l))
  level_split x (tree.level leaves membranes contexts rule_contexts rules) = omega (
    arith,
    leaves_split x leaves,
    levels_split x membranes,
    both_append x (leaf_connectors leaves) (levels_connectors membranes),
  )

  levels_split : (x : ℕ) (ls : tree.Levels) → occurrences x (together (levels_processes ls)) ≡ places x (both_links (levels_connectors ls)) + occurrences x (together (solid.regions_processes (fused_levels (λ y. y) ls)))
  levels_split x tree.no_level = refl
  levels_split x (tree.level_and l ls) = omega (arith, level_split x l, levels_split x ls, both_append x (level_connectors l) (levels_connectors ls))

-- ---- connectors that a map joins

leaves_join : (v : ℕ → ℕ) (ls : List tree.Leaf) → ((e : ℕ × ℕ) → IsOneOf e (leaf_connectors ls) → v e.0 ≡ v e.1) → Joins v (together (map leaf_process ls))
leaves_join v [] j = tt
leaves_join v (tree.atom_leaf a xs ∷ ls) j = (tt, leaves_join v ls j)
leaves_join v (tree.connector_leaf y z ∷ ls) j = (j (y, z) (inl refl), leaves_join v ls (λ e i. j e (inr i)))
leaves_join v (tree.typed_leaf p y ∷ ls) j = (tt, leaves_join v ls j)

mutual
  level_join : (v : ℕ → ℕ) (l : tree.Level) → ((e : ℕ × ℕ) → IsOneOf e (level_connectors l) → v e.0 ≡ v e.1) → Joins v (level_process l)
  level_join v (tree.level leaves membranes contexts rule_contexts rules) j = (
    leaves_join v leaves (λ e i. j e (one_left e (leaf_connectors leaves) (levels_connectors membranes) i)),
    (levels_join v membranes (λ e i. j e (one_right e (leaf_connectors leaves) (levels_connectors membranes) i)), rules_join v (tree.rules_list rules)),
  )

  levels_join : (v : ℕ → ℕ) (ls : tree.Levels) → ((e : ℕ × ℕ) → IsOneOf e (levels_connectors ls) → v e.0 ≡ v e.1) → Joins v (together (levels_processes ls))
  levels_join v tree.no_level j = tt
  levels_join v (tree.level_and l ls) j = (
    level_join v l (λ e i. j e (one_left e (level_connectors l) (levels_connectors ls) i)),
    levels_join v ls (λ e i. j e (one_right e (level_connectors l) (levels_connectors ls) i)),
  )

-- one of the mapped pairs is the image of a pair
pair_of_mapped : (f : ℕ → ℕ) (es : List (ℕ × ℕ)) (e : ℕ × ℕ) → IsOneOf e (map (mapped_pair f) es) → (d : ℕ × ℕ) × IsOneOf d es × (mapped_pair f d ≡ e)
pair_of_mapped f [] e i = absurd i
pair_of_mapped f (d ∷ es) e (inl q) = (d, inl refl, q)
pair_of_mapped f (d ∷ es) e (inr i) = let u = pair_of_mapped f es e i in (u.0, inr u.1, u.2)

-- ---- links at their images

map_composed : (g f v : ℕ → ℕ) → ((x : ℕ) → g (f x) ≡ v x) → (xs : List ℕ) → map g (map f xs) ≡ map v xs
map_composed g f v same [] = refl
map_composed g f v same (x ∷ xs) = λ i. same x i ∷ map_composed g f v same xs i

-- a level fused by a map is the level without connectors, each link at its image
leaves_fused : (g : ℕ → ℕ) (ls : List tree.Leaf) → map (renamed_atom g) (fused_leaves (λ y. y) ls) ≡ fused_leaves g ls
leaves_fused g [] = refl
leaves_fused g (tree.atom_leaf a xs ∷ ls) = λ i. record { label = a; links = map g (map_itself xs i) } ∷ leaves_fused g ls i
leaves_fused g (tree.connector_leaf y z ∷ ls) = leaves_fused g ls
leaves_fused g (tree.typed_leaf p y ∷ ls) = leaves_fused g ls

mutual
  level_fused : (g : ℕ → ℕ) (l : tree.Level) → renamed_region g (fused_level (λ y. y) l) ≡ fused_level g l
  level_fused g (tree.level leaves membranes contexts rule_contexts rules) = λ i. solid.region (leaves_fused g leaves i) (levels_fused g membranes i) (tree.rules_list rules)

  levels_fused : (g : ℕ → ℕ) (ls : tree.Levels) → renamed_regions g (fused_levels (λ y. y) ls) ≡ fused_levels g ls
  levels_fused g tree.no_level = refl
  levels_fused g (tree.level_and l ls) = λ i. solid.region_and (level_fused g l i) (levels_fused g ls i)

module _ (names : List tree.Name) (number : ℕ → tree.Rule) (g f v : ℕ → ℕ) (same : (x : ℕ) → g (f x) ≡ v x) where
  atoms_read : (xs : List SolidAtom) → map (renamed_atom g) (map (solid_atom_of names) (map (settled_atom f) xs)) ≡ map (solid_atom_of names) (map (settled_atom v) xs)
  atoms_read [] = refl
  atoms_read (a ∷ xs) = λ i. record { label = (solid_atom_of names a).label; links = map_composed g f v same a.links i } ∷ atoms_read xs i

  mutual
    region_read : (r : RawRegion) → renamed_region g (numbered_region names number (settled f r)) ≡ numbered_region names number (settled v r)
    region_read (raw xs ms rs) =
        ap (renamed_region g) (fold-roll-Region solid.Region (region_step names number) _)
        ∙ (λ i. solid.region (atoms_read xs i) (regions_read ms i) (map number rs))
        ∙ sym (fold-roll-Region solid.Region (region_step names number) _)

    regions_read : (ms : RawRegions) → renamed_regions g (regions (map (numbered_region names number) (settled_all f ms))) ≡ regions (map (numbered_region names number) (settled_all v ms))
    regions_read no_raw = refl
    regions_read (raw_and m ms) = λ i. solid.region_and (region_read m i) (regions_read ms i)

-- ---- the law

module _ (names : List tree.Name) (table : List RuleTree) (L : tree.Level) (r : RawRegion) (connectors : List (ℕ × ℕ)) (n : ℕ) (s : Spells names table L r connectors n) (closed : Closed (level_process L)) where
  abbrev number : ℕ → tree.Rule
  number = numbered_rule names table

  -- a number stands as often as the link for which it stands
  often : (z : ℕ) → places z (both_links connectors ++ raw_links r) ≡ occurrences (s.from z) (level_process L)
  often z =
      let one : (xs : List ℕ) → places (s.from z) (map s.from xs) ≡ places z xs = λ xs. places_renamed s.from z xs (λ x i e. sym (s.back x) ∙ ap s.to e ∙ s.back z) in
      let a = one (both_links connectors) in
      let b = one (raw_links r) in
      let pairs : places (s.from z) (both_links (level_connectors L)) ≡ places (s.from z) (map s.from (both_links connectors)) = ap (λ es. places (s.from z) (both_links es)) s.joins ∙ ap (places (s.from z)) (both_mapped s.from connectors) in
      let atoms : occurrences (s.from z) (solid.region_process (fused_level (λ y. y) L)) ≡ places (s.from z) (map s.from (raw_links r)) =
      ap (λ w. occurrences (s.from z) (solid.region_process w)) (sym s.level) ∙ region_places names number (s.from z) (settled s.from r) ∙ ap (places (s.from z)) (links_settled s.from r) in
      let split = level_split (s.from z) L in
      omega (arith, places_append z (both_links connectors) (raw_links r), a, b, pairs, atoms, split)

  can_settle : CanSettle r connectors n
  can_settle = record {
    arities = s.arities;
    no_connector = s.no_connector;
    twice = λ z. subst (λ k. (k ≡ 0) ⊎ (k ≡ 2)) (sym (often z)) (closed (s.from z));
    links_below = s.links_below;
    pairs_below = s.pairs_below;
  }

  module _ (x : Solid) (t : IsSettled r connectors x) where
    abbrev to : ℕ → ℕ
    to y = t.to (s.to y)

    to_from : (y : ℕ) → to (s.from y) ≡ t.to y
    to_from y = ap t.to (s.back y)

    joined : (e : ℕ × ℕ) → IsOneOf e (level_connectors L) → to e.0 ≡ to e.1
    joined e i =
        let u = pair_of_mapped s.from connectors e (subst (IsOneOf e) s.joins i) in
        subst (λ (d : ℕ × ℕ). to d.0 ≡ to d.1) u.2 (to_from u.0.0 ∙ t.joins u.0 u.1 ∙ sym (to_from u.0.1))

    solid_is : SolidOf L (region_of names table x)
    solid_is = record {
      closed_top = closed;
      to = to;
      joins = level_join to L joined;
      is = ap (numbered_region names number) t.is ∙ sym (region_read names number to s.from t.to to_from r) ∙ ap (renamed_region to) s.level ∙ level_fused to L;
      closed = solids_closed names table x t.is_solid;
    }

  settles : SettlesToSolid names table L r connectors n
  settles = record { can_settle = can_settle; solid = solid_is }

-- a spelled level settles to its solid
pub spelled_levels_settle : SpelledLevelsSettle
spelled_levels_settle names table L r connectors n s closed = settles names table L r connectors n s closed
