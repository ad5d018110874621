-- What stands in a level with numbers.
use Rattle.std.proofs.Common.{◌≡◌, ℕ, zero, suc, List, [], ◌∷◌, ◌++◌, map, All, refl, sym, ap, ◌∙◌, subst, arith}
use Rattle.std.specs.List.{flat_map}
use Rattle.std.proofs.lemmas.List.{append_assoc, map-append, length-map}
use Rattle.lmn_base.specs.declared.level.Leaf as base
use Rattle.lmn_base.specs.declared.level.Level as base_level
use Rattle.lmn_base.specs.declared.level.Level.TheFolds.{fold-roll-Level}
use Rattle.lmn_base.specs.declared.level.Occ.{Occ}
use Rattle.lmn_base.specs.Levels.{leaves_of, rules_of, occurrences_of_leaf, links_of}
use Rattle.lmn_base.specs.WellMade.{FitsArity}
use Rattle.lmn_congruence.specs.Rules as tree
use Rattle.lmn_flatten_plain.specs.Links.{Link, Use}
use Rattle.lmn_flatten_plain.specs.Expanded as expanded
use Rattle.lmn_flatten_plain.specs.Expanded.{ExpandedLeaf, atom_leaf, typed_leaf, ExpandedLevel, level, ExpandedLevels, no_level, level_and, use_links, expanded_leaf_links, expanded_leaves_links, expanded_links_in}
use Rattle.lmn_flatten_plain.specs.Plains.{numbered_use, numbered_leaf, numbered, all_numbered}
use Rattle.lmn_flatten_plain.proofs.Fitting.{rule_numbers, numbers_in}

-- the leaves of a level, at every depth
abbrev mutual
  pub all_leaves : ExpandedLevel → List ExpandedLeaf
  all_leaves (level leaves membranes contexts rule_contexts rules) = leaves ++ leaves_below membranes

  pub leaves_below : ExpandedLevels → List ExpandedLeaf
  leaves_below no_level = []
  leaves_below (level_and l ls) = all_leaves l ++ leaves_below ls

abbrev below : {A : Type 0} → (base_level.Level → List A) → List base_level.Level → List A
below f ls = flat_map (λ inner. inner) (map f ls)

module _ (names : List tree.Name) (number : Link → ℕ) where
  mutual
    pub leaves_numbered : (l : ExpandedLevel) → leaves_of (numbered names number l) ≡ map (numbered_leaf names number) (all_leaves l)
    leaves_numbered (level leaves membranes contexts rule_contexts rules) =
        fold-roll-Level (List base.Leaf) (λ l. l.leaves ++ flat_map (λ inner. inner) l.membranes) _
        ∙ ap (λ ls. map (numbered_leaf names number) leaves ++ ls) (leaves_below_numbered membranes)
        ∙ sym (map-append (numbered_leaf names number) leaves (leaves_below membranes))

    leaves_below_numbered : (ls : ExpandedLevels) → below leaves_of (all_numbered names number ls) ≡ map (numbered_leaf names number) (leaves_below ls)
    leaves_below_numbered no_level = refl
    leaves_below_numbered (level_and l ls) =
        ap (λ ks. ks ++ below leaves_of (all_numbered names number ls)) (leaves_numbered l)
        ∙ ap (λ ks. map (numbered_leaf names number) (all_leaves l) ++ ks) (leaves_below_numbered ls)
        ∙ sym (map-append (numbered_leaf names number) (all_leaves l) (leaves_below ls))

  mutual
    pub rules_numbered : (l : ExpandedLevel) → rules_of (numbered names number l) ≡ rule_numbers l
    rules_numbered (level leaves membranes contexts rule_contexts rules) =
        fold-roll-Level (List ℕ) (λ l. l.rules ++ flat_map (λ inner. inner) l.membranes) _ ∙ ap (λ ns. rules ++ ns) (rules_below_numbered membranes)

    rules_below_numbered : (ls : ExpandedLevels) → below rules_of (all_numbered names number ls) ≡ numbers_in ls
    rules_below_numbered no_level = refl
    rules_below_numbered (level_and l ls) =
        ap (λ ns. ns ++ below rules_of (all_numbered names number ls)) (rules_numbered l) ∙ ap (λ ns. rule_numbers l ++ ns) (rules_below_numbered ls)

  -- links

  leaf_numbers : (l : ExpandedLeaf) → map (λ (o : Occ). o.link) (occurrences_of_leaf (numbered_leaf names number l)) ≡ map number (expanded_leaf_links l)
  leaf_numbers (atom_leaf l us pos) = uses us
    where
      uses : (us : List Use) → map (λ (o : Occ). o.link) (map (numbered_use names number) us) ≡ map number (use_links us)
      uses [] = refl
      uses (u ∷ us) = ap (λ ns. number u.link ∷ ns) (uses us)
  leaf_numbers (typed_leaf n u pos) = refl

  leaves_numbers : (ls : List ExpandedLeaf) → map (λ (o : Occ). o.link) (flat_map occurrences_of_leaf (map (numbered_leaf names number) ls)) ≡ map number (expanded_leaves_links ls)
  leaves_numbers [] = refl
  leaves_numbers (l ∷ ls) =
      map-append (λ (o : Occ). o.link) (occurrences_of_leaf (numbered_leaf names number l)) (flat_map occurrences_of_leaf (map (numbered_leaf names number) ls))
      ∙ ap (λ ns. ns ++ map (λ (o : Occ). o.link) (flat_map occurrences_of_leaf (map (numbered_leaf names number) ls))) (leaf_numbers l)
      ∙ ap (λ ns. map number (expanded_leaf_links l) ++ ns) (leaves_numbers ls)
      ∙ sym (map-append number (expanded_leaf_links l) (expanded_leaves_links ls))

  leaves_links_append : (ls ms : List ExpandedLeaf) → expanded_leaves_links (ls ++ ms) ≡ expanded_leaves_links ls ++ expanded_leaves_links ms
  leaves_links_append [] ms = refl
  leaves_links_append (l ∷ ls) ms = ap (λ xs. expanded_leaf_links l ++ xs) (leaves_links_append ls ms) ∙ sym (append_assoc (expanded_leaf_links l) (expanded_leaves_links ls) (expanded_leaves_links ms))

  mutual
    all_links : (l : ExpandedLevel) → expanded_leaves_links (all_leaves l) ≡ expanded.expanded_links l
    all_links (level leaves membranes contexts rule_contexts rules) =
        leaves_links_append leaves (leaves_below membranes) ∙ ap (λ xs. expanded_leaves_links leaves ++ xs) (links_below membranes)

    links_below : (ls : ExpandedLevels) → expanded_leaves_links (leaves_below ls) ≡ expanded_links_in ls
    links_below no_level = refl
    links_below (level_and l ls) =
        leaves_links_append (all_leaves l) (leaves_below ls) ∙ ap (λ xs. xs ++ expanded_leaves_links (leaves_below ls)) (all_links l) ∙ ap (λ xs. expanded.expanded_links l ++ xs) (links_below ls)

  pub links_numbered : (l : ExpandedLevel) → links_of (numbered names number l) ≡ map number (expanded.expanded_links l)
  links_numbered l =
      ap (λ ls. map (λ (o : Occ). o.link) (flat_map occurrences_of_leaf ls)) (leaves_numbered l) ∙ leaves_numbers (all_leaves l) ∙ ap (map number) (all_links l)

  -- arities

  leaf_arity : (l : ExpandedLeaf) → FitsArity (numbered_leaf names number l)
  leaf_arity (atom_leaf l us pos) = length-map us (numbered_use names number)
  leaf_arity (typed_leaf n u pos) = tt

  leaves_arity : (ls : List ExpandedLeaf) → All FitsArity (map (numbered_leaf names number) ls)
  leaves_arity [] k d l = absurd (omega (arith, l))
  leaves_arity (x ∷ ls) zero d l = leaf_arity x
  leaves_arity (x ∷ ls) (suc k) d l = leaves_arity ls k d (omega (arith, l))

  pub level_arity : (l : ExpandedLevel) → All FitsArity (leaves_of (numbered names number l))
  level_arity l = let P : List base.Leaf → Type 0 = All FitsArity in subst P (sym (leaves_numbered l)) (leaves_arity (all_leaves l))
