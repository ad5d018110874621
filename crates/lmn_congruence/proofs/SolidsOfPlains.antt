-- The solid of a plain by numbers has the region of the top.
use Rattle.std.proofs.Common.{ℕ, zero, suc, ◌≡◌, ◌==◌, false, List, [], ◌∷◌, ◌++◌, map, length, All, refl, sym, ◌∙◌, ap, subst, arith}
use Rattle.std.specs.List.{flat_map}
use Rattle.lmn_base.specs.declared.functor.Label.{Label}
use Rattle.lmn_base.specs.declared.functor.Label.TheVariants.{Name, Int}
use Rattle.lmn_base.specs.declared.level.Leaf.{Leaf}
use Rattle.lmn_base.specs.declared.level.Leaf.TheVariants.{Atom, Typed}
use Rattle.lmn_base.specs.declared.level.Level.{Level}
use Rattle.lmn_base.specs.declared.level.Occ.{Occ}
use Rattle.lmn_base.specs.declared.refusal.Pos.{Pos}
use Rattle.std.proofs.lemmas.Bool.Decides.{nat_tests}
use Rattle.lmn_base.specs.declared.level.Level.TheFolds.{fold-roll-Level, ind-Level}
use Rattle.lmn_base.specs.declared.solid.Region.{Region}
use Rattle.lmn_base.specs.declared.solid.Region.TheFolds.{fold-Region, fold-roll-Region}
use Rattle.lmn_base.specs.Levels.{leaves_of}
use Rattle.lmn_base.specs.WellMade.{FitsArity}
use Rattle.lmn_congruence.specs.Rules as tree
use Rattle.lmn_congruence.specs.Regions as solid
use Rattle.lmn_congruence.specs.Process.{together, rule}
use Rattle.lmn_congruence.specs.Fused.{Joins}
use Rattle.lmn_congruence.specs.Plains.{leaf_process, level_process, levels_processes, fused_leaves, fused_level, fused_levels}
use Rattle.lmn_congruence.specs.Translation.{label_of, leaf_of, level_of, level_step, levels, rules, solid_atom_of, regions, region_step, numbered_rule, numbered_region}
use Rattle.lmn_congruence.specs.SolidsOfPlains.{fused_leaf, fused_step, fused_region, JoinsLeaf}
use Rattle.lmn_congruence.specs.TranslationLaws.{SolidsOfPlains}
use Rattle.lmn_congruence.proofs.TranslatedLinks.{plains_closed, solids_closed}
use Rattle.lmn_base.proofs.Lists.{map_append, all_of_left, all_of_right}
use Rattle.lmn_base.proofs.Common.{inner_leaves}

-- ---- one leaf

-- the images of the links of some occurrences
pub twice_mapped : (v : ℕ → ℕ) (os : List Occ) → map (λ o. v o.link) os ≡ map v (map (λ o. o.link) os)
twice_mapped v [] = refl
twice_mapped v (o ∷ os) = ap (λ ys. v o.link ∷ ys) (twice_mapped v os)

not_two : (n k : ℕ) → suc (suc (suc k)) ≡ n → (n == 2) ≡ false
not_two n k e = grind (arith, nat_tests, e)

leaf_cases : (names : List tree.Name) (v : ℕ → ℕ) (l : Label) (n : ℕ) (os : List Occ) (p : Pos) → length os ≡ n →
    map (solid_atom_of names) (fused_leaf v (Atom (record { label = l; arity = n }) os p)) ≡ fused_leaves v (leaf_of names (Atom (record { label = l; arity = n }) os p) ∷ [])
leaf_cases names v (Int z) n os p h = ap (λ ls. record { label = tree.integer z; links = ls } ∷ []) (twice_mapped v os)
leaf_cases names v (Name (suc m)) n os p h = ap (λ ls. record { label = label_of names (Name (suc m)); links = ls } ∷ []) (twice_mapped v os)
leaf_cases names v (Name zero) n [] p h = rw (sym h) refl
leaf_cases names v (Name zero) n (a ∷ []) p h = rw (sym h) refl
leaf_cases names v (Name zero) n (a ∷ b ∷ []) p h = rw (sym h) refl
leaf_cases names v (Name zero) n (a ∷ b ∷ c ∷ os) p h = rw (not_two n (length os) h) (ap (λ ls. record { label = label_of names (Name zero); links = v a.link ∷ v b.link ∷ v c.link ∷ ls } ∷ []) (twice_mapped v os))

leaf_fused : (names : List tree.Name) (v : ℕ → ℕ) (l : Leaf) → FitsArity l → map (solid_atom_of names) (fused_leaf v l) ≡ fused_leaves v (leaf_of names l ∷ [])
leaf_fused names v (Typed n o p) h = refl
leaf_fused names v (Atom f os p) h = leaf_cases names v f.label f.arity os p h

fused_both : (v : ℕ → ℕ) (l : tree.Leaf) (ls : List tree.Leaf) → fused_leaves v (l ∷ ls) ≡ fused_leaves v (l ∷ []) ++ fused_leaves v ls
fused_both v (tree.atom_leaf a xs) ls = refl
fused_both v (tree.connector_leaf x y) ls = refl
fused_both v (tree.typed_leaf p x) ls = refl

leaves_fused : (names : List tree.Name) (v : ℕ → ℕ) (ls : List Leaf) → All FitsArity ls → map (solid_atom_of names) (flat_map (fused_leaf v) ls) ≡ fused_leaves v (map (leaf_of names) ls)
leaves_fused names v [] h = refl
leaves_fused names v (l ∷ ls) h =
    map_append (solid_atom_of names) (fused_leaf v l) (flat_map (fused_leaf v) ls)
    ∙ both (leaf_fused names v l (h zero l (omega arith))) (leaves_fused names v ls (all_of_right FitsArity (l ∷ []) ls h))
    ∙ sym (fused_both v (leaf_of names l) (map (leaf_of names) ls))
  where
    both : {xs xs' ys ys' : List solid.SolidAtom} → xs ≡ xs' → ys ≡ ys' → xs ++ ys ≡ xs' ++ ys'
    both e d = rw (e, d) refl

rules_back : (f : ℕ → tree.Rule) (ks : List ℕ) → map f ks ≡ tree.rules_list (rules (map f ks))
rules_back f [] = refl
rules_back f (k ∷ ks) = ap (λ rs. f k ∷ rs) (rules_back f ks)

-- ---- levels

module _ (names : List tree.Name) (number : ℕ → tree.Rule) (v : ℕ → ℕ) where
  abbrev Fused : Level → Type 0
  Fused l = All FitsArity (leaves_of l) → numbered_region names number (fused_region v l) ≡ fused_level v (level_of names number l)

  inner_fused : (ls : List ((l : Level) × Fused l)) → All FitsArity (inner_leaves (map (λ e. e.0) ls)) →
      regions (map (numbered_region names number) (map (fused_region v) (map (λ e. e.0) ls))) ≡ fused_levels v (levels (map (level_of names number) (map (λ e. e.0) ls)))
  inner_fused [] h = refl
  inner_fused (e ∷ ls) h =
      let behind = inner_leaves (map (λ e. e.0) ls) in
      rw (e.1 (all_of_left FitsArity (leaves_of e.0) behind h), inner_fused ls (all_of_right FitsArity (leaves_of e.0) behind h)) refl

  pub fused : (l : Level) → Fused l
  fused = ind-Level Fused (λ y z is h.
      let split = fold-roll-Level (List Leaf) (λ l. l.leaves ++ flat_map (λ inner. inner) l.membranes) y in
      let here = subst (All FitsArity) split h in
      let inside = subst (λ l. All FitsArity (inner_leaves l.membranes) → regions (map (numbered_region names number) (map (fused_region v) l.membranes)) ≡ fused_levels v (levels (map (level_of names number) l.membranes))) is (inner_fused z.membranes) in
      rw (
        fold-roll-Level Region (fused_step v) y,
        fold-roll-Region solid.Region (region_step names number) _,
        fold-roll-Level tree.Level (level_step names number) y,
        leaves_fused names v y.leaves (all_of_left FitsArity y.leaves (inner_leaves y.membranes) here),
        inside (all_of_right FitsArity y.leaves (inner_leaves y.membranes) here),
        sym (rules_back number y.rules),
      ) refl)

  -- ---- connectors

  joined_cases : (l : Label) (n : ℕ) (os : List Occ) (p : Pos) → JoinsLeaf v (Atom (record { label = l; arity = n }) os p) → Joins v (leaf_process (leaf_of names (Atom (record { label = l; arity = n }) os p)))
  joined_cases (Int z) n os p h = tt
  joined_cases (Name (suc m)) n os p h = tt
  joined_cases (Name zero) n [] p h = tt
  joined_cases (Name zero) n (a ∷ []) p h = tt
  joined_cases (Name zero) n (a ∷ b ∷ []) p h = h refl
  joined_cases (Name zero) n (a ∷ b ∷ c ∷ os) p h = tt

  leaf_joined : (l : Leaf) → JoinsLeaf v l → Joins v (leaf_process (leaf_of names l))
  leaf_joined (Typed n o p) h = tt
  leaf_joined (Atom f os p) h = joined_cases f.label f.arity os p h

  leaves_joined : (ls : List Leaf) → All (JoinsLeaf v) ls → Joins v (together (map leaf_process (map (leaf_of names) ls)))
  leaves_joined [] h = tt
  leaves_joined (l ∷ ls) h = (leaf_joined l (h zero l (omega arith)), leaves_joined ls (all_of_right (JoinsLeaf v) (l ∷ []) ls h))

  rules_join : (rs : List tree.Rule) → Joins v (together (map rule rs))
  rules_join [] = tt
  rules_join (r ∷ rs) = (tt, rules_join rs)

  abbrev Joined : Level → Type 0
  Joined l = All (JoinsLeaf v) (leaves_of l) → Joins v (level_process (level_of names number l))

  inner_joined : (ls : List ((l : Level) × Joined l)) → All (JoinsLeaf v) (inner_leaves (map (λ e. e.0) ls)) →
      Joins v (together (levels_processes (levels (map (level_of names number) (map (λ e. e.0) ls)))))
  inner_joined [] h = tt
  inner_joined (e ∷ ls) h =
      let behind = inner_leaves (map (λ e. e.0) ls) in
      (e.1 (all_of_left (JoinsLeaf v) (leaves_of e.0) behind h), inner_joined ls (all_of_right (JoinsLeaf v) (leaves_of e.0) behind h))

  pub joined : (l : Level) → Joined l
  joined = ind-Level Joined (λ y z is h.
      let split = fold-roll-Level (List Leaf) (λ l. l.leaves ++ flat_map (λ inner. inner) l.membranes) y in
      let here = subst (All (JoinsLeaf v)) split h in
      let inside = subst (λ l. All (JoinsLeaf v) (inner_leaves l.membranes) → Joins v (together (levels_processes (levels (map (level_of names number) l.membranes))))) is (inner_joined z.membranes) in
      rw (fold-roll-Level tree.Level (level_step names number) y)
      (leaves_joined y.leaves (all_of_left (JoinsLeaf v) y.leaves (inner_leaves y.membranes) here), (inside (all_of_right (JoinsLeaf v) y.leaves (inner_leaves y.membranes) here), rules_join (tree.rules_list (rules (map number y.rules))))))

-- the solid of a plain has the region of its top, by whatever names
pub solids_of_plains : SolidsOfPlains
solids_of_plains names p s w i =
    let number = numbered_rule names p.rules in
    record {
      closed_top = (plains_closed names p w).0 i.closed;
      to = i.to;
      joins = joined names number i.to p.top i.joins;
      is = ap (fold-Region solid.Region (region_step names number)) i.is ∙ fused names number i.to p.top w.arities;
      closed = solids_closed names p.rules s i.is_solid;
    }
