-- A list of names that holds those of a level with numbers holds those of the level itself.
use Rattle.std.proofs.Common.{◌≡◌, ◌<◌, List, [], ◌∷◌, ◌++◌, length, map, subst, ℕ}
use Rattle.std.specs.Prelude.{⊤}
use Rattle.std.specs.List.{AllByRecursion, flat_map}
use Rattle.lmn_base.specs.declared.level.CtxUse.{CtxUse}
use Rattle.lmn_base.specs.declared.level.Leaf as base
use Rattle.lmn_base.specs.declared.level.Level as base_level
use Rattle.lmn_base.specs.declared.level.Level.TheFolds.{fold-roll-Level}
use Rattle.lmn_base.specs.Levels.{leaves_of, contexts_of, rule_contexts_of}
use Rattle.lmn_base.specs.Names.{leaf_names, context_names, level_names}
use Rattle.lmn_congruence.specs.Rules as tree
use Rattle.lmn_flatten_plain.specs.Expanded.{ExpandedLeaf, atom_leaf, typed_leaf, Context, ExpandedLevel, level, ExpandedLevels, no_level, level_and}
use Rattle.lmn_flatten_plain.specs.Plains.{numbered, all_numbered, numbered_leaf, numbered_context}
use Rattle.lmn_app_accepted.proofs.NumbersBack.{Numbered}
use Rattle.lmn_base.proofs.Lists.{all_left as all_front, all_right as all_back}
use Rattle.lmn_app_reading.proofs.NamedPlains.{AllBelow, UseBelow}
use Rattle.lmn_flatten_plain.specs.Links.{Link}

module _ (names : List tree.Name) where
  abbrev pub LabelHeld : tree.Label → Type 0
  LabelHeld (tree.named n) = Numbered names n
  LabelHeld (tree.integer z) = ⊤

  abbrev pub LeafHeld : ExpandedLeaf → Type 0
  LeafHeld (atom_leaf l us pos) = LabelHeld l
  LeafHeld (typed_leaf n u pos) = Numbered names n

  abbrev pub ContextHeld : Context → Type 0
  ContextHeld c = Numbered names c.name

  -- the list holds each name of the level
  abbrev mutual
    pub LevelHeld : ExpandedLevel → Type 0
    LevelHeld (level leaves membranes contexts rule_contexts rules) =
        AllByRecursion LeafHeld leaves × LevelsHeld membranes × AllByRecursion ContextHeld contexts × AllByRecursion ContextHeld rule_contexts

    pub LevelsHeld : ExpandedLevels → Type 0
    LevelsHeld no_level = ⊤
    LevelsHeld (level_and l ls) = LevelHeld l × LevelsHeld ls

  abbrev LeafBelow : base.Leaf → Type 0
  LeafBelow l = AllBelow names (leaf_names l)

  leaves_one_by_one : (ls : List base.Leaf) → AllBelow names (flat_map leaf_names ls) → AllByRecursion LeafBelow ls
  leaves_one_by_one [] h = tt
  leaves_one_by_one (l ∷ ls) h =
      (all_front (λ n. n < length names) (leaf_names l) (flat_map leaf_names ls) h, leaves_one_by_one ls (all_back (λ n. n < length names) (leaf_names l) (flat_map leaf_names ls) h))

  uses_one_by_one : (us : List CtxUse) → AllBelow names (context_names us) → AllByRecursion (UseBelow names) us
  uses_one_by_one [] h = tt
  uses_one_by_one (u ∷ us) h = (h.0, uses_one_by_one us h.1)

  module _ (number : Link → ℕ) where
    leaves_held : (ls : List ExpandedLeaf) → AllByRecursion LeafBelow (map (numbered_leaf names number) ls) → AllByRecursion LeafHeld ls
    leaves_held [] h = tt
    leaves_held (atom_leaf (tree.named n) us pos ∷ ls) h = let one = h.0 in (one.0, leaves_held ls h.1)
    leaves_held (atom_leaf (tree.integer z) us pos ∷ ls) h = (tt, leaves_held ls h.1)
    leaves_held (typed_leaf n u pos ∷ ls) h = let one = h.0 in (one.0, leaves_held ls h.1)

    contexts_held : (cs : List Context) → AllByRecursion (UseBelow names) (map (numbered_context names number) cs) → AllByRecursion ContextHeld cs
    contexts_held [] h = tt
    contexts_held (c ∷ cs) h = (h.0, contexts_held cs h.1)

    abbrev inside : {A : Type 0} → (base_level.Level → List A) → ExpandedLevels → List A
    inside f ls = flat_map (λ inner. inner) (map f (all_numbered names number ls))

    mutual
      items_held : (l : ExpandedLevel) → AllByRecursion LeafBelow (leaves_of (numbered names number l)) → AllByRecursion (UseBelow names) (contexts_of (numbered names number l))
          → AllByRecursion (UseBelow names) (rule_contexts_of (numbered names number l)) → LevelHeld l
      items_held (level ls ms cs os rs) h c o =
          let P : List base.Leaf → Type 0 = AllByRecursion LeafBelow in
          let Q : List CtxUse → Type 0 = AllByRecursion (UseBelow names) in
          let leaves = subst P (fold-roll-Level (List base.Leaf) (λ l. l.leaves ++ flat_map (λ inner. inner) l.membranes) _) h in
          let contexts = subst Q (fold-roll-Level (List CtxUse) (λ l. l.contexts ++ flat_map (λ inner. inner) l.membranes) _) c in
          let rule_contexts = subst Q (fold-roll-Level (List CtxUse) (λ l. l.rule_contexts ++ flat_map (λ inner. inner) l.membranes) _) o in
          let own_leaves = map (numbered_leaf names number) ls in
          let own_contexts = map (numbered_context names number) cs in
          let own_rule_contexts = map (numbered_context names number) os in (
            leaves_held ls (all_front LeafBelow own_leaves (inside leaves_of ms) leaves),
            items_in_held ms (all_back LeafBelow own_leaves (inside leaves_of ms) leaves) (all_back (UseBelow names) own_contexts (inside contexts_of ms) contexts)
                (all_back (UseBelow names) own_rule_contexts (inside rule_contexts_of ms) rule_contexts),
            contexts_held cs (all_front (UseBelow names) own_contexts (inside contexts_of ms) contexts),
            contexts_held os (all_front (UseBelow names) own_rule_contexts (inside rule_contexts_of ms) rule_contexts),
          )

      items_in_held : (ls : ExpandedLevels) → AllByRecursion LeafBelow (inside leaves_of ls) → AllByRecursion (UseBelow names) (inside contexts_of ls)
          → AllByRecursion (UseBelow names) (inside rule_contexts_of ls) → LevelsHeld ls
      items_in_held no_level h c o = tt
      items_in_held (level_and l ls) h c o =
          let n = numbered names number l in (
            items_held l (all_front LeafBelow (leaves_of n) (inside leaves_of ls) h) (all_front (UseBelow names) (contexts_of n) (inside contexts_of ls) c)
                (all_front (UseBelow names) (rule_contexts_of n) (inside rule_contexts_of ls) o),
            items_in_held ls (all_back LeafBelow (leaves_of n) (inside leaves_of ls) h) (all_back (UseBelow names) (contexts_of n) (inside contexts_of ls) c)
                (all_back (UseBelow names) (rule_contexts_of n) (inside rule_contexts_of ls) o),
          )

    pub level_held : (l : ExpandedLevel) (b : base_level.Level) → b ≡ numbered names number l → AllBelow names (level_names b) → LevelHeld l
    level_held l b e h =
        let P : base_level.Level → Type 0 = λ b. AllBelow names (level_names b) in
        let n = numbered names number l in
        let all = subst P e h in
        let leaves = flat_map leaf_names (leaves_of n) in
        let contexts = context_names (contexts_of n) in
        let rule_contexts = context_names (rule_contexts_of n) in
        let front = all_front (λ n. n < length names) (leaves ++ contexts) rule_contexts all in
        items_held l (leaves_one_by_one (leaves_of n) (all_front (λ n. n < length names) leaves contexts front))
        (uses_one_by_one (contexts_of n) (all_back (λ n. n < length names) leaves contexts front))
        (uses_one_by_one (rule_contexts_of n) (all_back (λ n. n < length names) (leaves ++ contexts) rule_contexts all))
