-- Levels with their links renamed.
use Rattle.std.proofs.Common.{◌≡◌, ℕ, List, [], ◌∷◌, ◌++◌, map, refl, sym, ap, ◌∙◌, subst}
use Rattle.std.specs.List.{flat_map}
use Rattle.std.proofs.lemmas.List.{map-append}
use Rattle.lmn_base.specs.declared.level.Leaf.{Leaf}
use Rattle.lmn_base.specs.declared.level.Leaf.TheVariants.{Atom, Typed}
use Rattle.lmn_base.specs.declared.level.Level.{Level}
use Rattle.lmn_base.specs.declared.level.Level.TheFolds.{fold-roll-Level, ind-Level}
use Rattle.lmn_base.specs.declared.level.Level.TheViews.{roll-Level}
use Rattle.lmn_base.specs.declared.level.Occ.{Occ}
use Rattle.lmn_base.specs.Levels.{leaves_of, occurrences_of_leaf, links_of, link_numbers}
use Rattle.lmn_flatten_numbers.specs.Renumbered.{renumbered_occurrence, renumbered_leaf, renumbered_step, renumbered}

-- ---- the links of a renamed level

module _ (to : ℕ → ℕ) where
  abbrev Leaves : Level → Type 0
  Leaves l = leaves_of (renumbered to l) ≡ map (renumbered_leaf to) (leaves_of l)

  inside_leaves : (ls : List ((l : Level) × Leaves l)) →
      flat_map (λ inner. inner) (map leaves_of (map (renumbered to) (map (λ e. e.0) ls))) ≡ map (renumbered_leaf to) (flat_map (λ inner. inner) (map leaves_of (map (λ e. e.0) ls)))
  inside_leaves [] = refl
  inside_leaves (e ∷ ls) =
      ap (λ xs. xs ++ flat_map (λ inner. inner) (map leaves_of (map (renumbered to) (map (λ e. e.0) ls)))) e.1
      ∙ ap (λ xs. map (renumbered_leaf to) (leaves_of e.0) ++ xs) (inside_leaves ls)
      ∙ sym (map-append (renumbered_leaf to) (leaves_of e.0) (flat_map (λ inner. inner) (map leaves_of (map (λ e. e.0) ls))))

  renumbered_leaves : (l : Level) → Leaves l
  renumbered_leaves = ind-Level Leaves (λ y z is.
      let inside = subst (λ l. flat_map (λ inner. inner) (map leaves_of (map (renumbered to) l.membranes)) ≡ map (renumbered_leaf to) (flat_map (λ inner. inner) (map leaves_of l.membranes))) is (inside_leaves z.membranes) in
      ap leaves_of (fold-roll-Level Level (renumbered_step to) y)
      ∙ fold-roll-Level (List Leaf) (λ l. l.leaves ++ flat_map (λ inner. inner) l.membranes) _
      ∙ ap (λ xs. map (renumbered_leaf to) y.leaves ++ xs) inside
      ∙ sym (ap (map (renumbered_leaf to)) (fold-roll-Level (List Leaf) (λ l. l.leaves ++ flat_map (λ inner. inner) l.membranes) y)
      ∙ map-append (renumbered_leaf to) y.leaves (flat_map (λ inner. inner) (map leaves_of y.membranes))))

  renumbered_links_in : (os : List Occ) → link_numbers (map (renumbered_occurrence to) os) ≡ map to (link_numbers os)
  renumbered_links_in [] = refl
  renumbered_links_in (o ∷ os) = ap (λ ks. to o.link ∷ ks) (renumbered_links_in os)

  leaf_links : (l : Leaf) → link_numbers (occurrences_of_leaf (renumbered_leaf to l)) ≡ map to (link_numbers (occurrences_of_leaf l))
  leaf_links (Atom functor links pos) = renumbered_links_in links
  leaf_links (Typed name link pos) = refl

  leaves_links : (ls : List Leaf) → link_numbers (flat_map occurrences_of_leaf (map (renumbered_leaf to) ls)) ≡ map to (link_numbers (flat_map occurrences_of_leaf ls))
  leaves_links [] = refl
  leaves_links (l ∷ ls) =
      map-append (λ (o : Occ). o.link) (occurrences_of_leaf (renumbered_leaf to l)) (flat_map occurrences_of_leaf (map (renumbered_leaf to) ls))
      ∙ ap (λ ks. ks ++ link_numbers (flat_map occurrences_of_leaf (map (renumbered_leaf to) ls))) (leaf_links l)
      ∙ ap (λ ks. map to (link_numbers (occurrences_of_leaf l)) ++ ks) (leaves_links ls)
      ∙ sym (ap (map to) (map-append (λ (o : Occ). o.link) (occurrences_of_leaf l) (flat_map occurrences_of_leaf ls)) ∙ map-append to (link_numbers (occurrences_of_leaf l)) (link_numbers (flat_map occurrences_of_leaf ls)))

  -- they are those of the level, renamed
  pub renumbered_links : (l : Level) → links_of (renumbered to l) ≡ map to (links_of l)
  renumbered_links l = ap (λ ls. link_numbers (flat_map occurrences_of_leaf ls)) (renumbered_leaves l) ∙ leaves_links (leaves_of l)

-- ---- renamed twice

module _ (f g : ℕ → ℕ) where
  abbrev both : ℕ → ℕ
  both k = g (f k)

  occurrences_twice : (os : List Occ) → map (renumbered_occurrence g) (map (renumbered_occurrence f) os) ≡ map (renumbered_occurrence both) os
  occurrences_twice [] = refl
  occurrences_twice (o ∷ os) = ap (λ ps. renumbered_occurrence both o ∷ ps) (occurrences_twice os)

  leaf_twice : (l : Leaf) → renumbered_leaf g (renumbered_leaf f l) ≡ renumbered_leaf both l
  leaf_twice (Atom functor links pos) = ap (λ os. Atom functor os pos) (occurrences_twice links)
  leaf_twice (Typed name link pos) = refl

  leaves_twice : (ls : List Leaf) → map (renumbered_leaf g) (map (renumbered_leaf f) ls) ≡ map (renumbered_leaf both) ls
  leaves_twice [] = refl
  leaves_twice (l ∷ ls) = ap (λ x. x ∷ map (renumbered_leaf g) (map (renumbered_leaf f) ls)) (leaf_twice l) ∙ ap (λ xs. renumbered_leaf both l ∷ xs) (leaves_twice ls)

  abbrev Twice : Level → Type 0
  Twice l = renumbered g (renumbered f l) ≡ renumbered both l

  inside_twice : (ls : List ((l : Level) × Twice l)) → map (renumbered g) (map (renumbered f) (map (λ e. e.0) ls)) ≡ map (renumbered both) (map (λ e. e.0) ls)
  inside_twice [] = refl
  inside_twice (e ∷ ls) = ap (λ x. x ∷ map (renumbered g) (map (renumbered f) (map (λ e. e.0) ls))) e.1 ∙ ap (λ xs. renumbered both e.0 ∷ xs) (inside_twice ls)

  pub renumbered_twice : (l : Level) → Twice l
  renumbered_twice = ind-Level Twice (λ y z is.
      let inside = subst (λ l. map (renumbered g) (map (renumbered f) l.membranes) ≡ map (renumbered both) l.membranes) is (inside_twice z.membranes) in
      ap (renumbered g) (fold-roll-Level Level (renumbered_step f) y)
      ∙ fold-roll-Level Level (renumbered_step g) _
      ∙ ap (λ ls. roll-Level (record { leaves = ls; membranes = map (renumbered g) (map (renumbered f) y.membranes); contexts = y.contexts; rule_contexts = y.rule_contexts; rules = y.rules })) (leaves_twice y.leaves)
      ∙ ap (λ ls. roll-Level (record { leaves = map (renumbered_leaf both) y.leaves; membranes = ls; contexts = y.contexts; rule_contexts = y.rule_contexts; rules = y.rules })) inside
      ∙ sym (fold-roll-Level Level (renumbered_step both) y))
