-- Levels whose links have numbers by one relation, and by another.
use Rattle.std.proofs.Common.{◌≡◌, ℕ, List, [], ◌∷◌, ◌++◌, map, refl, sym, ap, ◌∙◌, subst}
use Rattle.std.specs.List.{flat_map, AllZip}
use Rattle.std.proofs.lemmas.List.{append_assoc, map-append, length-map}
use Rattle.lmn_base.specs.declared.level.CtxUse.{CtxUse}
use Rattle.lmn_base.specs.declared.level.Leaf as base
use Rattle.lmn_base.specs.declared.level.Leaf.TheVariants.{Atom, Typed}
use Rattle.lmn_base.specs.declared.level.Level as base_level
use Rattle.lmn_base.specs.declared.level.Level.TheOpen.{Level-F}
use Rattle.lmn_base.specs.declared.level.Level.TheViews.{roll-Level}
use Rattle.lmn_base.specs.declared.level.Level.TheFolds.{fold-roll-Level}
use Rattle.lmn_base.specs.declared.level.Occ.{Occ}
use Rattle.lmn_base.specs.declared.refusal.Pos.{Pos}
use Rattle.lmn_base.specs.Levels as level_specs
use Rattle.lmn_base.specs.Levels.{occurrences_of_leaf, leaves_of}
use Rattle.lmn_congruence.specs.Rules as tree
use Rattle.lmn_flatten_numbers.specs.Renumbered.{renumbered, renumbered_leaf, renumbered_occurrence, renumbered_step}
use Rattle.lmn_flatten_plain.specs.Links.{Link, Use}
use Rattle.lmn_flatten_plain.specs.Expanded as expanded
use Rattle.lmn_flatten_plain.specs.Expanded.{ExpandedLeaf, atom_leaf, typed_leaf, ExpandedLevel, level, ExpandedLevels, no_level, level_and, expanded_levels, renamed_use, renamed_leaf, renamed_level, all_renamed, use_links, expanded_leaf_links, expanded_leaves_links}
use Rattle.lmn_flatten_plain.specs.Plains.{numbered_label, numbered, all_numbered, numbered_leaf, numbered_use}
use Rattle.lmn_flatten.specs.Built.{IsUse, IsLeaf, IsLevel, AreLevels}
use Rattle.lmn_flatten.specs.Copies as copies
use Rattle.lmn_flatten.proofs.EachLemmas.{each_append, each_by}

module _ (names : List tree.Name) where
  -- another relation of which the first is a case
  module _ (R S : Link → ℕ → Type 0) (more : (a : Link) (x : ℕ) → R a x → S a x) where
    pub uses_by : (us : List Use) (os : List Occ) → AllZip (IsUse names R) us os → AllZip (IsUse names S) us os
    uses_by us os h = each_by (IsUse names R) (IsUse names S) (λ u o e. (more u.link o.link e.0, e.1)) us os h

    pub leaf_by : (l : ExpandedLeaf) (x : base.Leaf) → IsLeaf names R l x → IsLeaf names S l x
    leaf_by (atom_leaf l us pos) x h = (h.0, h.1, uses_by us h.0 h.2)
    leaf_by (typed_leaf n u pos) x h = (h.0, h.1, (more u.link h.0.link h.2.0, h.2.1))

    pub leaves_by : (ls : List ExpandedLeaf) (xs : List base.Leaf) → AllZip (IsLeaf names R) ls xs → AllZip (IsLeaf names S) ls xs
    leaves_by ls xs h = each_by (IsLeaf names R) (IsLeaf names S) leaf_by ls xs h

    mutual
      pub level_by : (l : ExpandedLevel) (x : base_level.Level) → IsLevel names R l x → IsLevel names S l x
      level_by (level leaves membranes contexts rule_contexts rules) x h =
          (h.0, h.1, leaves_by leaves h.0.leaves h.2, levels_by membranes h.0.membranes h.3, h.4, h.5, h.6)

      pub levels_by : (ls : ExpandedLevels) (xs : List base_level.Level) → AreLevels names R ls xs → AreLevels names S ls xs
      levels_by no_level xs h = h
      levels_by (level_and l ls) xs h = (h.0, h.1, h.2, level_by l h.0 h.3, levels_by ls h.1 h.4)

  -- links renamed in the tree
  module _ (R S : Link → ℕ → Type 0) (f : Link → Link) (more : (a : Link) (x : ℕ) → R a x → S (f a) x) where
    pub renamed_leaf_by : (l : ExpandedLeaf) (x : base.Leaf) → IsLeaf names R l x → IsLeaf names S (renamed_leaf f l) x
    renamed_leaf_by (atom_leaf l us pos) x h = (
      h.0,
      h.1 ∙ ap (λ n. Atom (record { label = numbered_label names (λ a. 0) l; arity = n }) h.0 pos) (sym (length-map us (renamed_use f))),
      uses us h.0 h.2,
    )
      where
        uses : (us : List Use) (os : List Occ) → AllZip (IsUse names R) us os → AllZip (IsUse names S) (map (renamed_use f) us) os
        uses [] [] h = tt
        uses [] (o ∷ os) h = absurd h
        uses (u ∷ us) [] h = absurd h
        uses (u ∷ us) (o ∷ os) h = ((more u.link o.link h.0.0, h.0.1), uses us os h.1)
    renamed_leaf_by (typed_leaf n u pos) x h = (h.0, h.1, (more u.link h.0.link h.2.0, h.2.1))

    pub renamed_leaves_by : (ls : List ExpandedLeaf) (xs : List base.Leaf) → AllZip (IsLeaf names R) ls xs → AllZip (IsLeaf names S) (map (renamed_leaf f) ls) xs
    renamed_leaves_by [] [] h = tt
    renamed_leaves_by [] (x ∷ xs) h = absurd h
    renamed_leaves_by (l ∷ ls) [] h = absurd h
    renamed_leaves_by (l ∷ ls) (x ∷ xs) h = (renamed_leaf_by l x h.0, renamed_leaves_by ls xs h.1)

    mutual
      pub renamed_by : (l : ExpandedLevel) (x : base_level.Level) → IsLevel names R l x → IsLevel names S (renamed_level f l) x
      renamed_by (level leaves membranes contexts rule_contexts rules) x h =
          (h.0, h.1, renamed_leaves_by leaves h.0.leaves h.2, all_renamed_by membranes h.0.membranes h.3, h.4, h.5, h.6)

      pub all_renamed_by : (ls : ExpandedLevels) (xs : List base_level.Level) → AreLevels names R ls xs → AreLevels names S (all_renamed f ls) xs
      all_renamed_by no_level xs h = h
      all_renamed_by (level_and l ls) xs h = (h.0, h.1, h.2, renamed_by l h.0 h.3, all_renamed_by ls h.1 h.4)

  -- links renumbered in the level
  module _ (R S : Link → ℕ → Type 0) (to : ℕ → ℕ) (more : (a : Link) (x : ℕ) → R a x → S a (to x)) where
    pub renumbered_leaf_by : (l : ExpandedLeaf) (x : base.Leaf) → IsLeaf names R l x → IsLeaf names S l (renumbered_leaf to x)
    renumbered_leaf_by (atom_leaf l us pos) x h = (map (renumbered_occurrence to) h.0, ap (renumbered_leaf to) h.1, uses us h.0 h.2)
      where
        uses : (us : List Use) (os : List Occ) → AllZip (IsUse names R) us os → AllZip (IsUse names S) us (map (renumbered_occurrence to) os)
        uses [] [] h = tt
        uses [] (o ∷ os) h = absurd h
        uses (u ∷ us) [] h = absurd h
        uses (u ∷ us) (o ∷ os) h = ((more u.link o.link h.0.0, h.0.1), uses us os h.1)
    renumbered_leaf_by (typed_leaf n u pos) x h = (renumbered_occurrence to h.0, ap (renumbered_leaf to) h.1, (more u.link h.0.link h.2.0, h.2.1))

    pub renumbered_leaves_by : (ls : List ExpandedLeaf) (xs : List base.Leaf) → AllZip (IsLeaf names R) ls xs → AllZip (IsLeaf names S) ls (map (renumbered_leaf to) xs)
    renumbered_leaves_by [] [] h = tt
    renumbered_leaves_by [] (x ∷ xs) h = absurd h
    renumbered_leaves_by (l ∷ ls) [] h = absurd h
    renumbered_leaves_by (l ∷ ls) (x ∷ xs) h = (renumbered_leaf_by l x h.0, renumbered_leaves_by ls xs h.1)

    mutual
      pub renumbered_by : (l : ExpandedLevel) (x : base_level.Level) → IsLevel names R l x → IsLevel names S l (renumbered to x)
      renumbered_by (level leaves membranes contexts rule_contexts rules) x h = (
        record {
          leaves = map (renumbered_leaf to) h.0.leaves;
          membranes = map (renumbered to) h.0.membranes;
          contexts = h.0.contexts;
          rule_contexts = h.0.rule_contexts;
          rules = h.0.rules;
        },
        ap (renumbered to) h.1 ∙ fold-roll-Level base_level.Level (renumbered_step to) h.0,
        renumbered_leaves_by leaves h.0.leaves h.2,
        all_renumbered_by membranes h.0.membranes h.3,
        h.4,
        h.5,
        h.6,
      )

      pub all_renumbered_by : (ls : ExpandedLevels) (xs : List base_level.Level) → AreLevels names R ls xs → AreLevels names S ls (map (renumbered to) xs)
      all_renumbered_by no_level xs h = ap (map (renumbered to)) h
      all_renumbered_by (level_and l ls) xs h =
          (renumbered to h.0, map (renumbered to) h.1, ap (map (renumbered to)) h.2, renumbered_by l h.0 h.3, all_renumbered_by ls h.1 h.4)

  -- membranes by lists
  pub levels_each : (R : Link → ℕ → Type 0) (ls : List ExpandedLevel) (xs : List base_level.Level) → AllZip (IsLevel names R) ls xs → AreLevels names R (expanded_levels ls) xs
  levels_each R [] [] h = refl
  levels_each R [] (x ∷ xs) h = absurd h
  levels_each R (l ∷ ls) [] h = absurd h
  levels_each R (l ∷ ls) (x ∷ xs) h = (x, xs, refl, h.0, levels_each R ls xs h.1)

  -- the links, in order
  module _ (R : Link → ℕ → Type 0) where
    leaf_links_by : (l : ExpandedLeaf) (x : base.Leaf) → IsLeaf names R l x → AllZip R (expanded_leaf_links l) (map (λ (o : Occ). o.link) (occurrences_of_leaf x))
    leaf_links_by (atom_leaf l us pos) x h =
        subst (λ z. AllZip R (use_links us) (map (λ (o : Occ). o.link) (occurrences_of_leaf z))) (sym h.1) (uses us h.0 h.2)
      where
        uses : (us : List Use) (os : List Occ) → AllZip (IsUse names R) us os → AllZip R (use_links us) (map (λ (o : Occ). o.link) os)
        uses [] [] h = tt
        uses [] (o ∷ os) h = absurd h
        uses (u ∷ us) [] h = absurd h
        uses (u ∷ us) (o ∷ os) h = (h.0.0, uses us os h.1)
    leaf_links_by (typed_leaf n u pos) x h =
        subst (λ z. AllZip R (u.link ∷ []) (map (λ (o : Occ). o.link) (occurrences_of_leaf z))) (sym h.1) (h.2.0, tt)

    pub leaves_links_by : (ls : List ExpandedLeaf) (xs : List base.Leaf) → AllZip (IsLeaf names R) ls xs → AllZip R (expanded_leaves_links ls) (level_specs.links_of_leaves xs)
    leaves_links_by [] [] h = tt
    leaves_links_by [] (x ∷ xs) h = absurd h
    leaves_links_by (l ∷ ls) [] h = absurd h
    leaves_links_by (l ∷ ls) (x ∷ xs) h =
        subst (AllZip R (expanded_leaf_links l ++ expanded_leaves_links ls)) (sym (map-append (λ (o : Occ). o.link) (occurrences_of_leaf x) (flat_map occurrences_of_leaf xs)))
        (each_append R (expanded_leaf_links l) (expanded_leaves_links ls) (map (λ (o : Occ). o.link) (occurrences_of_leaf x)) (level_specs.links_of_leaves xs) (leaf_links_by l x h.0)
        (leaves_links_by ls xs h.1))

    leaves_links_append : (xs ys : List base.Leaf) → level_specs.links_of_leaves (xs ++ ys) ≡ level_specs.links_of_leaves xs ++ level_specs.links_of_leaves ys
    leaves_links_append [] ys = refl
    leaves_links_append (x ∷ xs) ys =
        map-append (λ (o : Occ). o.link) (occurrences_of_leaf x) (flat_map occurrences_of_leaf (xs ++ ys))
        ∙ ap (λ zs. map (λ (o : Occ). o.link) (occurrences_of_leaf x) ++ zs) (leaves_links_append xs ys)
        ∙ sym (append_assoc (map (λ (o : Occ). o.link) (occurrences_of_leaf x)) (level_specs.links_of_leaves xs) (level_specs.links_of_leaves ys))
        ∙ ap (λ zs. zs ++ level_specs.links_of_leaves ys) (sym (map-append (λ (o : Occ). o.link) (occurrences_of_leaf x) (flat_map occurrences_of_leaf xs)))

    -- the links of membranes, by those of their leaves
    flat : (xs : List base_level.Level) → level_specs.links_of_leaves (flat_map (λ inner. inner) (map leaves_of xs)) ≡ copies.links_of_levels xs
    flat [] = refl
    flat (x ∷ xs) =
        leaves_links_append (leaves_of x) (flat_map (λ inner. inner) (map leaves_of xs)) ∙ ap (λ ys. level_specs.links_of x ++ ys) (flat xs)

    pub links_apart : (x : base_level.Level) (l : Level-F base_level.Level) → x ≡ roll-Level l
        → level_specs.links_of x ≡ level_specs.links_of_leaves l.leaves ++ copies.links_of_levels l.membranes
    links_apart x l e =
        ap (λ z. level_specs.links_of_leaves (leaves_of z)) e
        ∙ ap (λ z. level_specs.links_of_leaves z) (fold-roll-Level (List base.Leaf) (λ l. l.leaves ++ flat_map (λ inner. inner) l.membranes) l)
        ∙ leaves_links_append l.leaves (flat_map (λ inner. inner) (map leaves_of l.membranes))
        ∙ ap (λ ys. level_specs.links_of_leaves l.leaves ++ ys) (flat l.membranes)

    mutual
      pub links_by : (l : ExpandedLevel) (x : base_level.Level) → IsLevel names R l x → AllZip R (expanded.expanded_links l) (level_specs.links_of x)
      links_by (level leaves membranes contexts rule_contexts rules) x h =
          subst (AllZip R (expanded_leaves_links leaves ++ expanded.expanded_links_in membranes)) (sym (links_apart x h.0 h.1))
          (each_append R (expanded_leaves_links leaves) (expanded.expanded_links_in membranes) (level_specs.links_of_leaves h.0.leaves) (copies.links_of_levels h.0.membranes)
          (leaves_links_by leaves h.0.leaves h.2) (links_in_by membranes h.0.membranes h.3))

      pub links_in_by : (ls : ExpandedLevels) (xs : List base_level.Level) → AreLevels names R ls xs → AllZip R (expanded.expanded_links_in ls) (copies.links_of_levels xs)
      links_in_by no_level xs h = subst (λ z. AllZip R [] (copies.links_of_levels z)) (sym h) tt
      links_in_by (level_and l ls) xs h =
          subst (λ z. AllZip R (expanded.expanded_links l ++ expanded.expanded_links_in ls) (copies.links_of_levels z)) (sym h.2)
          (each_append R (expanded.expanded_links l) (expanded.expanded_links_in ls) (level_specs.links_of h.0) (copies.links_of_levels h.1) (links_by l h.0 h.3)
          (links_in_by ls h.1 h.4))

  -- a level whose links are numbered by a function
  module _ (number : Link → ℕ) where
    use_is : (u : Use) (o : Occ) → IsUse names (λ a x. number a ≡ x) u o → o ≡ numbered_use names number u
    use_is u o h = ap (λ n. record { link = n; pos = o.pos }) (sym h.0) ∙ ap (λ (p : Pos). record { link = number u.link; pos = p }) h.1

    uses_are : (us : List Use) (os : List Occ) → AllZip (IsUse names (λ a x. number a ≡ x)) us os → os ≡ map (numbered_use names number) us
    uses_are [] [] h = refl
    uses_are [] (o ∷ os) h = absurd h
    uses_are (u ∷ us) [] h = absurd h
    uses_are (u ∷ us) (o ∷ os) h = ap (λ z. z ∷ os) (use_is u o h.0) ∙ ap (λ zs. numbered_use names number u ∷ zs) (uses_are us os h.1)

    leaf_is : (l : ExpandedLeaf) (x : base.Leaf) → IsLeaf names (λ a x. number a ≡ x) l x → x ≡ numbered_leaf names number l
    leaf_is (atom_leaf l us pos) x h = h.1 ∙ ap (λ os. Atom _ os pos) (uses_are us h.0 h.2)
    leaf_is (typed_leaf n u pos) x h = h.1 ∙ ap (λ o. Typed _ o pos) (use_is u h.0 h.2)

    leaves_are : (ls : List ExpandedLeaf) (xs : List base.Leaf) → AllZip (IsLeaf names (λ a x. number a ≡ x)) ls xs → xs ≡ map (numbered_leaf names number) ls
    leaves_are [] [] h = refl
    leaves_are [] (x ∷ xs) h = absurd h
    leaves_are (l ∷ ls) [] h = absurd h
    leaves_are (l ∷ ls) (x ∷ xs) h = ap (λ z. z ∷ xs) (leaf_is l x h.0) ∙ ap (λ zs. numbered_leaf names number l ∷ zs) (leaves_are ls xs h.1)

    layer : (vs bs : List base.Leaf) (cs ds : List base_level.Level) (es fs gs hs : List CtxUse) (is js : List ℕ) → vs ≡ bs → cs ≡ ds → es ≡ fs → gs ≡ hs → is ≡ js
        → roll-Level (record { leaves = vs; membranes = cs; contexts = es; rule_contexts = gs; rules = is })
        ≡ roll-Level (record { leaves = bs; membranes = ds; contexts = fs; rule_contexts = hs; rules = js })
    layer vs bs cs ds es fs gs hs is js a b c d e =
        ap (λ x. roll-Level (record { leaves = x; membranes = cs; contexts = es; rule_contexts = gs; rules = is })) a
        ∙ ap (λ x. roll-Level (record { leaves = bs; membranes = x; contexts = es; rule_contexts = gs; rules = is })) b
        ∙ ap (λ x. roll-Level (record { leaves = bs; membranes = ds; contexts = x; rule_contexts = gs; rules = is })) c
        ∙ ap (λ x. roll-Level (record { leaves = bs; membranes = ds; contexts = fs; rule_contexts = x; rules = is })) d
        ∙ ap (λ x. roll-Level (record { leaves = bs; membranes = ds; contexts = fs; rule_contexts = hs; rules = x })) e

    mutual
      pub level_is : (l : ExpandedLevel) (x : base_level.Level) → IsLevel names (λ a x. number a ≡ x) l x → x ≡ numbered names number l
      level_is (level leaves membranes contexts rule_contexts rules) x h =
          h.1 ∙ layer h.0.leaves _ h.0.membranes _ h.0.contexts _ h.0.rule_contexts _ h.0.rules _ (leaves_are leaves h.0.leaves h.2) (levels_are membranes h.0.membranes h.3) h.4 h.5 h.6

      levels_are : (ls : ExpandedLevels) (xs : List base_level.Level) → AreLevels names (λ a x. number a ≡ x) ls xs → xs ≡ all_numbered names number ls
      levels_are no_level xs h = h
      levels_are (level_and l ls) xs h =
          h.2 ∙ ap (λ z. z ∷ h.1) (level_is l h.0 h.3) ∙ ap (λ zs. numbered names number l ∷ zs) (levels_are ls h.1 h.4)
