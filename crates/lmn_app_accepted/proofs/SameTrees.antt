-- A level with the numbers of two lists of names is one tree of names.
use Rattle.std.proofs.Common.{◌≡◌, List, [], ◌∷◌, map, refl, sym, ap, ◌∙◌, ℕ}
use Rattle.std.specs.List.{AllByRecursion}
use Rattle.lmn_base.specs.declared.functor.Label.TheVariants.{Name}
use Rattle.lmn_base.specs.declared.level.Level.TheFolds.{fold-roll-Level}
use Rattle.lmn_base.specs.declared.level.Occ.{Occ}
use Rattle.lmn_base.specs.Names.{IsNames}
use Rattle.lmn_congruence.specs.Rules as tree
use Rattle.lmn_congruence.specs.Translation.{atom_or_connector, leaf_of, name_of, names_of, context_with, context_tree, levels, rules, level_step, level_of}
use Rattle.lmn_flatten_plain.specs.Links.{Link, Use}
use Rattle.lmn_flatten_plain.specs.Expanded as expanded
use Rattle.lmn_flatten_plain.specs.Expanded.{ExpandedLeaf, atom_leaf, typed_leaf, Context, ExpandedLevel, level, ExpandedLevels, no_level, level_and, use_links, expanded_leaf_links, expanded_leaves_links, expanded_links_in}
use Rattle.lmn_flatten_plain.specs.Plains.{number_of, numbered_use, numbered_leaf, numbered_context, numbered, all_numbered}
use Rattle.lmn_app_accepted.proofs.NumbersBack.{Numbered, name_same, atom_same}
use Rattle.lmn_app_accepted.proofs.HeldLevels.{LeafHeld, ContextHeld, LevelHeld, LevelsHeld}
use Rattle.lmn_base.proofs.Lists.{all_left as all_front, all_right as all_back}

module _ (names others : List tree.Name) (is : IsNames names) (are : IsNames others) where
  same : (n : tree.Name) → Numbered names n → Numbered others n → name_of names (number_of names n) ≡ name_of others (number_of others n)
  same n h g = name_same names others is are n h g

  module _ (f g : Link → ℕ) where
    abbrev Agree : List Link → Type 0
    Agree xs = AllByRecursion (λ a. f a ≡ g a) xs

    uses_same : (us : List Use) → Agree (use_links us)
        → map (λ (o : Occ). o.link) (map (numbered_use names f) us) ≡ map (λ (o : Occ). o.link) (map (numbered_use others g) us)
    uses_same [] a = refl
    uses_same (u ∷ us) a = let first = a.0 in let more = uses_same us a.1 in λ i. first i ∷ more i

    leaf_same : (l : ExpandedLeaf) → LeafHeld names l → LeafHeld others l → Agree (expanded_leaf_links l) → leaf_of names (numbered_leaf names f l) ≡ leaf_of others (numbered_leaf others g l)
    leaf_same (atom_leaf (tree.named n) us pos) h k a =
        atom_same names others is are n h k (map (λ (o : Occ). o.link) (map (numbered_use names f) us))
        ∙ ap (atom_or_connector others (Name (number_of others n))) (uses_same us a)
    leaf_same (atom_leaf (tree.integer z) us pos) h k a = ap (tree.atom_leaf (tree.integer z)) (uses_same us a)
    leaf_same (typed_leaf n u pos) h k a = let name = same n h k in let link = a.0 in λ i. tree.typed_leaf (name i) (link i)

    leaves_same : (ls : List ExpandedLeaf) → AllByRecursion (LeafHeld names) ls → AllByRecursion (LeafHeld others) ls → Agree (expanded_leaves_links ls)
        → map (leaf_of names) (map (numbered_leaf names f) ls) ≡ map (leaf_of others) (map (numbered_leaf others g) ls)
    leaves_same [] h k a = refl
    leaves_same (l ∷ ls) h k a =
        let first = leaf_same l h.0 k.0 (all_front (λ b. f b ≡ g b) (expanded_leaf_links l) (expanded_leaves_links ls) a) in
        let more = leaves_same ls h.1 k.1 (all_back (λ b. f b ≡ g b) (expanded_leaf_links l) (expanded_leaves_links ls) a) in
        λ i. first i ∷ more i

    contexts_same : (cs : List Context) → AllByRecursion (ContextHeld names) cs → AllByRecursion (ContextHeld others) cs
        → names_of names (map (numbered_context names f) cs) ≡ names_of others (map (numbered_context others g) cs)
    contexts_same [] h k = refl
    contexts_same (c ∷ cs) h k = let first = same c.name h.0 k.0 in let more = contexts_same cs h.1 k.1 in λ i. first i ∷ more i

    untyped_same : (cs : List Context) → AllByRecursion (ContextHeld names) cs → AllByRecursion (ContextHeld others) cs
        → map (context_tree names) (map (numbered_context names f) cs) ≡ map (context_tree others) (map (numbered_context others g) cs)
    untyped_same [] h k = refl
    untyped_same (c ∷ cs) h k = let first = same c.name h.0 k.0 in let more = untyped_same cs h.1 k.1 in λ i. context_with c.closed (first i) ∷ more i

    -- the rules with one number are one
    module _ (rule other : ℕ → tree.Rule) (rules_same : rule ≡ other) where
      mutual
        pub level_same : (l : ExpandedLevel) → LevelHeld names l → LevelHeld others l → Agree (expanded.expanded_links l)
            → level_of names rule (numbered names f l) ≡ level_of others other (numbered others g l)
        level_same (level ls ms cs os rs) h k a =
            let leaves = leaves_same ls h.0 k.0 (all_front (λ b. f b ≡ g b) (expanded_leaves_links ls) (expanded_links_in ms) a) in
            let membranes = levels_same ms h.1 k.1 (all_back (λ b. f b ≡ g b) (expanded_leaves_links ls) (expanded_links_in ms) a) in
            let contexts = untyped_same cs h.2 k.2 in
            let rule_contexts = contexts_same os h.3 k.3 in
            let parts : tree.level (map (leaf_of names) (map (numbered_leaf names f) ls)) (levels (map (level_of names rule) (all_numbered names f ms)))
            (map (context_tree names) (map (numbered_context names f) cs)) (names_of names (map (numbered_context names f) os)) (rules (map rule rs))
            ≡ tree.level (map (leaf_of others) (map (numbered_leaf others g) ls)) (levels (map (level_of others other) (all_numbered others g ms)))
            (map (context_tree others) (map (numbered_context others g) cs)) (names_of others (map (numbered_context others g) os)) (rules (map other rs)) =
            λ i. tree.level (leaves i) (membranes i) (contexts i) (rule_contexts i) (rules (map (rules_same i) rs)) in
            fold-roll-Level tree.Level (level_step names rule) _ ∙ parts ∙ sym (fold-roll-Level tree.Level (level_step others other) _)

        levels_same : (ls : ExpandedLevels) → LevelsHeld names ls → LevelsHeld others ls → Agree (expanded_links_in ls)
            → levels (map (level_of names rule) (all_numbered names f ls)) ≡ levels (map (level_of others other) (all_numbered others g ls))
        levels_same no_level h k a = refl
        levels_same (level_and l ls) h k a =
            let first = level_same l h.0 k.0 (all_front (λ b. f b ≡ g b) (expanded.expanded_links l) (expanded_links_in ls) a) in
            let more = levels_same ls h.1 k.1 (all_back (λ b. f b ≡ g b) (expanded.expanded_links l) (expanded_links_in ls) a) in
            λ i. tree.level_and (first i) (more i)
