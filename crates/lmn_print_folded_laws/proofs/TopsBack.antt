-- The top of a plain whose tree gives a region, with the plain's numbers for its links, is the level of this region.
use Rattle.std.proofs.Common.{◌≡◌, ℕ, List, [], ◌∷◌, ◌++◌, map, All, refl, sym, ap, ◌∙◌, subst}
use Rattle.std.specs.List.{flat_map, AllByRecursion, AllZip}
use Rattle.std.proofs.lemmas.List.{map-append}
use Rattle.lmn_base.specs.declared.refusal.Pos.{Pos}
use Rattle.lmn_base.specs.declared.level.CtxUse.{CtxUse}
use Rattle.lmn_base.specs.declared.level.Leaf as base_leaf
use Rattle.lmn_base.specs.declared.level.Level as base_level
use Rattle.lmn_base.specs.declared.level.Level.TheFolds.{fold-roll-Level}
use Rattle.lmn_base.specs.declared.level.Occ.{Occ}
use Rattle.lmn_base.specs.declared.rule.Plain.{Plain}
use Rattle.lmn_base.specs.Levels.{contexts_of, rule_contexts_of}
use Rattle.lmn_base.specs.Names.{IsNames}
use Rattle.lmn_base.specs.WellMade.{IsAtomLeaf, IsWellMade}
use Rattle.lmn_congruence.specs.Regions.{SolidAtom, Region, region, Regions, no_region, region_and}
use Rattle.lmn_congruence.specs.Rules as tree
use Rattle.lmn_congruence.specs.Same.{renamed_atom}
use Rattle.lmn_congruence.specs.Translation as translated
use Rattle.lmn_congruence.specs.Translation.{atom_or_connector, context_tree, leaf_of, level_step, names_of, numbered_rule, top_of, rules}
use Rattle.lmn_lexer.specs.Laying.{Word}
use Rattle.lmn_parser.specs.Syntax.{Clauses}
use Rattle.lmn_flatten_plain.specs.Agreement.{RulesAre}
use Rattle.lmn_flatten_plain.specs.Expanded.{ExpandedLeaf, atom_leaf, typed_leaf, ExpandedLevel, level, ExpandedLevels, no_level, level_and, use_links, ExpandedRule}
use Rattle.lmn_flatten_plain.specs.Expansion.{parts_of}
use Rattle.lmn_flatten_plain.specs.LinkNumbers.{RulesNumbered, AllRulesNumbered, RuleNumbered, EachNumbered}
use Rattle.lmn_flatten_plain.specs.Links.{Link, Use}
use Rattle.lmn_flatten_plain.specs.NamesHeld.{LeafHeld, LevelHeld, LevelsHeld, RuleHeld, RulesHeld}
use Rattle.lmn_flatten_plain.specs.Parts.{level_from_parts}
use Rattle.lmn_flatten_plain.specs.Plains.{numbered_use, numbered_label, numbered_leaf, numbered_context, numbered, all_numbered, IsPlainOf, IsRuleOf}
use Rattle.lmn_flatten_plain.specs.SolidLines.{atom_as_leaf, as_level, as_levels}
use Rattle.lmn_flatten_plain.specs.Spelled.{LeafSpelled, LevelSpelled, LevelsSpelled, SpellsNoConnector, RuleSpelled, RulesSpelled}
use Rattle.lmn_flatten_plain.proofs.HeldLabels.{atom_back}
use Rattle.lmn_flatten_plain.proofs.NumberedLevels.{all_leaves, leaves_below, leaves_numbered}
use Rattle.lmn_flatten_plain.proofs.ReadBack.{level_back}
use Rattle.lmn_flatten_plain.proofs.WellMadePlains.{NoContext, plain_well_made}
use Rattle.lmn_print_folded_laws.specs.Numbered.{AtomNumbered, RegionNumbered, RegionsNumbered}
use Rattle.lmn_print_folded_laws.proofs.Kept.{Everywhere, EverywhereIn}
use Rattle.lmn_base.proofs.Lists.{all_append}
use Rattle.std.proofs.lemmas.List.Elements.{All-from_recursion}

module _ (names : List tree.Name) where
  -- What is asked of each atom and of each rule.

  abbrev pub AtomFine : SolidAtom → Type 0
  AtomFine a = LeafHeld names (atom_as_leaf a) × SpellsNoConnector a.label a.links

  abbrev pub RuleFine : tree.Rule → Type 0
  RuleFine r = RuleHeld names r × RuleSpelled r × RuleNumbered r

  atoms_fine : (xs : List SolidAtom) → AllByRecursion (LeafHeld names) (map atom_as_leaf xs) → AllByRecursion LeafSpelled (map atom_as_leaf xs) → AllByRecursion AtomFine xs
  atoms_fine [] h s = tt
  atoms_fine (a ∷ xs) h s = ((h.0, s.0.1), atoms_fine xs h.1 s.1)

  rules_fine : (rs : List tree.Rule) → RulesHeld names (rules rs) → RulesSpelled (rules rs) → EachNumbered (rules rs) → AllByRecursion RuleFine rs
  rules_fine [] h s n = tt
  rules_fine (r ∷ rs) h s n = ((h.0, s.0, n.0), rules_fine rs h.1 s.1 n.1)

  mutual
    pub region_fine : (S : Region) → LevelHeld names (as_level S) → LevelSpelled (as_level S) → RulesNumbered (as_level S) → Everywhere AtomFine RuleFine S
    region_fine (region xs ms rs) h s n = (atoms_fine xs h.0 s.0, regions_fine ms h.1 s.1 n.0, rules_fine rs h.4 s.4 n.1)

    regions_fine : (ms : Regions) → LevelsHeld names (as_levels ms) → LevelsSpelled (as_levels ms) → AllRulesNumbered (as_levels ms) → EverywhereIn AtomFine RuleFine ms
    regions_fine no_region h s n = tt
    regions_fine (region_and m ms) h s n = (region_fine m h.0 s.0 n.0, regions_fine ms h.1 s.1 n.1)

  -- It holds with other numbers of links too.

  other_links : (f : ℕ → ℕ) (l : tree.Label) (xs : List ℕ) → LeafHeld names (tree.atom_leaf l xs) → LeafHeld names (tree.atom_leaf l (map f xs))
  other_links f (tree.named n) xs h = h
  other_links f (tree.integer z) xs h = tt

  no_connector : (f : ℕ → ℕ) (l : tree.Label) (xs : List ℕ) → SpellsNoConnector l xs → SpellsNoConnector l (map f xs)
  no_connector f (tree.named n) [] h = tt
  no_connector f (tree.named n) (x ∷ []) h = tt
  no_connector f (tree.named n) (x ∷ y ∷ []) h = h
  no_connector f (tree.named n) (x ∷ y ∷ z ∷ xs) h = tt
  no_connector f (tree.integer z) xs h = tt

  pub still_fine : (f : ℕ → ℕ) (a b : SolidAtom) → renamed_atom f a ≡ b → AtomFine a → AtomFine b
  still_fine f a b e h = subst AtomFine e (other_links f a.label a.links h.0, no_connector f a.label a.links h.1)

  -- Rules by themselves.

  rules_held : (rs : List tree.Rule) → AllByRecursion RuleFine rs → RulesHeld names (rules rs)
  rules_held [] h = tt
  rules_held (r ∷ rs) h = (h.0.0, rules_held rs h.1)

  rules_spelled : (rs : List tree.Rule) → AllByRecursion RuleFine rs → RulesSpelled (rules rs)
  rules_spelled [] h = tt
  rules_spelled (r ∷ rs) h = (h.0.1, rules_spelled rs h.1)

  rules_numbered : (rs : List tree.Rule) → AllByRecursion RuleFine rs → EachNumbered (rules rs)
  rules_numbered [] h = tt
  rules_numbered (r ∷ rs) h = (h.0.2, rules_numbered rs h.1)

  -- Atoms.

  uses_back : (f : Link → ℕ) (us : List Use) → map (λ (o : Occ). o.link) (map (numbered_use names f) us) ≡ map f (use_links us)
  uses_back f [] = refl
  uses_back f (u ∷ us) = ap (λ ns. f u.link ∷ ns) (uses_back f us)

  label_back : (is : IsNames names) (f : Link → ℕ) (l : tree.Label) (xs : List ℕ) → LeafHeld names (tree.atom_leaf l xs) → SpellsNoConnector l xs
      → atom_or_connector names (numbered_label names f l) xs ≡ tree.atom_leaf l xs
  label_back is f (tree.named n) xs h c = atom_back names is n xs h c
  label_back is f (tree.integer z) xs h c = refl

  same_leaves : (a b : tree.Leaf) (ls ms : List tree.Leaf) → a ≡ b → ls ≡ ms → a ∷ ls ≡ b ∷ ms
  same_leaves a b ls ms e f = cc

  same_level : (a b : List tree.Leaf) (c d : tree.Levels) (e f : List tree.Context) (g h : List tree.Name) (i j : tree.Rules)
      → a ≡ b → c ≡ d → e ≡ f → g ≡ h → i ≡ j → tree.level a c e g i ≡ tree.level b d f h j
  same_level a b c d e f g h i j k l m n o = cc

  same_levels : (a b : tree.Level) (c d : tree.Levels) → a ≡ b → c ≡ d → tree.level_and a c ≡ tree.level_and b d
  same_levels a b c d e f = cc

  rules_in : (a b : List tree.Leaf) (c d : tree.Levels) (e f : List tree.Context) (g h : List tree.Name) (i j : tree.Rules) → tree.level a c e g i ≡ tree.level b d f h j → i ≡ j
  rules_in a b c d e f g h i j k = cc

  module _ (words : List Word) (places : List Pos) (is : IsNames names) (table : List ExpandedRule) (f : Link → ℕ) where
    leaf_back : (a : SolidAtom) (l : ExpandedLeaf) → AtomNumbered words places table f a l → AtomFine a → leaf_of names (numbered_leaf names f l) ≡ atom_as_leaf a
    leaf_back a (typed_leaf n u pos) h fine = absurd h
    leaf_back a (atom_leaf l us pos) h fine =
        ap (λ k. atom_or_connector names (numbered_label names f k) (map (λ (o : Occ). o.link) (map (numbered_use names f) us))) h.0
        ∙ ap (atom_or_connector names (numbered_label names f a.label)) (uses_back f us ∙ h.1) ∙ label_back is f a.label a.links fine.0 fine.1

    leaves_back : (xs : List SolidAtom) (ls : List ExpandedLeaf) → AllZip (AtomNumbered words places table f) xs ls → AllByRecursion AtomFine xs
        → map (leaf_of names) (map (numbered_leaf names f) ls) ≡ map atom_as_leaf xs
    leaves_back [] [] h fine = refl
    leaves_back [] (l ∷ ls) h fine = absurd h
    leaves_back (a ∷ xs) [] h fine = absurd h
    leaves_back (a ∷ xs) (l ∷ ls) h fine = same_leaves _ _ _ _ (leaf_back a l h.0 fine.0) (leaves_back xs ls h.1 fine.1)

    -- Whole levels.
    module _ (p : Plain) (made : IsWellMade p) (each : AllZip (IsRuleOf words places names) table p.rules) where
      abbrev ρ : ℕ → tree.Rule
      ρ = numbered_rule names p.rules

      rules_back : (rs : List tree.Rule) (ks : List ℕ) → RulesAre words places table ks (rules rs) → AllByRecursion RuleFine rs → translated.rules (map ρ ks) ≡ rules rs
      rules_back rs ks h fine =
          rules_in _ _ _ _ _ _ _ _ _ _ (sym (fold-roll-Level tree.Level (level_step names ρ) _)
          ∙ level_back words places names is p made table each (tree.level [] tree.no_level [] [] (rules rs)) (level [] no_level [] [] ks) f (tt, tt, refl, refl, h) tt
          (tt, tt, tt, tt, rules_held rs fine) (tt, tt, tt, tt, rules_spelled rs fine) (tt, rules_numbered rs fine))

      mutual
        pub region_back : (T : Region) (a : ExpandedLevel) → RegionNumbered words places table f T a → Everywhere AtomFine RuleFine T
            → translated.level_of names ρ (numbered names f a) ≡ as_level T
        region_back (region xs ms rs) (level ls ns cs os ks) h fine =
            fold-roll-Level tree.Level (level_step names ρ) _
            ∙ same_level _ _ _ _ _ _ _ _ _ _ (leaves_back xs ls h.0 fine.0) (regions_back ms ns h.1 fine.1)
            (ap (λ us. map (context_tree names) (map (numbered_context names f) us)) h.2) (ap (λ us. names_of names (map (numbered_context names f) us)) h.3)
            (rules_back rs ks h.4 fine.2)

        regions_back : (ms : Regions) (ns : ExpandedLevels) → RegionsNumbered words places table f ms ns → EverywhereIn AtomFine RuleFine ms
            → translated.levels (map (translated.level_of names ρ) (all_numbered names f ns)) ≡ as_levels ms
        regions_back no_region no_level h fine = refl
        regions_back no_region (level_and n ns) h fine = absurd h
        regions_back (region_and m ms) no_level h fine = absurd h
        regions_back (region_and m ms) (level_and n ns) h fine = same_levels _ _ _ _ (region_back m n h.0 fine.0) (regions_back ms ns h.1 fine.1)

    -- No context stands there.

    are_atoms : (xs : List SolidAtom) (ls : List ExpandedLeaf) → AllZip (AtomNumbered words places table f) xs ls → AllByRecursion IsAtomLeaf (map (numbered_leaf names f) ls)
    are_atoms [] [] h = tt
    are_atoms [] (l ∷ ls) h = absurd h
    are_atoms (a ∷ xs) [] h = absurd h
    are_atoms (a ∷ xs) (typed_leaf n u pos ∷ ls) h = absurd h.0
    are_atoms (a ∷ xs) (atom_leaf l us pos ∷ ls) h = (tt, are_atoms xs ls h.1)

    mutual
      all_atoms : (T : Region) (a : ExpandedLevel) → RegionNumbered words places table f T a → AllByRecursion IsAtomLeaf (map (numbered_leaf names f) (all_leaves a))
      all_atoms (region xs ms rs) (level ls ns cs os ks) h =
          let P : List base_leaf.Leaf → Type 0 = AllByRecursion IsAtomLeaf in
          subst P (sym (map-append (numbered_leaf names f) ls (leaves_below ns)))
          (all_append IsAtomLeaf (map (numbered_leaf names f) ls) (map (numbered_leaf names f) (leaves_below ns)) (are_atoms xs ls h.0) (atoms_below ms ns h.1))

      atoms_below : (ms : Regions) (ns : ExpandedLevels) → RegionsNumbered words places table f ms ns → AllByRecursion IsAtomLeaf (map (numbered_leaf names f) (leaves_below ns))
      atoms_below no_region no_level h = tt
      atoms_below no_region (level_and n ns) h = absurd h
      atoms_below (region_and m ms) no_level h = absurd h
      atoms_below (region_and m ms) (level_and n ns) h =
          let P : List base_leaf.Leaf → Type 0 = AllByRecursion IsAtomLeaf in
          subst P (sym (map-append (numbered_leaf names f) (all_leaves n) (leaves_below ns)))
          (all_append IsAtomLeaf (map (numbered_leaf names f) (all_leaves n)) (map (numbered_leaf names f) (leaves_below ns)) (all_atoms m n h.0) (atoms_below ms ns h.1))

    mutual
      no_contexts : (T : Region) (a : ExpandedLevel) → RegionNumbered words places table f T a → contexts_of (numbered names f a) ≡ []
      no_contexts (region xs ms rs) (level ls ns cs os ks) h =
          fold-roll-Level (List CtxUse) (λ l. l.contexts ++ flat_map (λ inner. inner) l.membranes) _
          ∙ ap (λ us. map (numbered_context names f) us ++ flat_map (λ inner. inner) (map contexts_of (all_numbered names f ns))) h.2
          ∙ no_contexts_below ms ns h.1

      no_contexts_below : (ms : Regions) (ns : ExpandedLevels) → RegionsNumbered words places table f ms ns
          → flat_map (λ inner. inner) (map contexts_of (all_numbered names f ns)) ≡ []
      no_contexts_below no_region no_level h = refl
      no_contexts_below no_region (level_and n ns) h = absurd h
      no_contexts_below (region_and m ms) no_level h = absurd h
      no_contexts_below (region_and m ms) (level_and n ns) h =
          ap (λ us. us ++ flat_map (λ inner. inner) (map contexts_of (all_numbered names f ns))) (no_contexts m n h.0) ∙ no_contexts_below ms ns h.1

    mutual
      no_rule_contexts : (T : Region) (a : ExpandedLevel) → RegionNumbered words places table f T a → rule_contexts_of (numbered names f a) ≡ []
      no_rule_contexts (region xs ms rs) (level ls ns cs os ks) h =
          fold-roll-Level (List CtxUse) (λ l. l.rule_contexts ++ flat_map (λ inner. inner) l.membranes) _
          ∙ ap (λ us. map (numbered_context names f) us ++ flat_map (λ inner. inner) (map rule_contexts_of (all_numbered names f ns))) h.3
          ∙ no_rule_contexts_below ms ns h.1

      no_rule_contexts_below : (ms : Regions) (ns : ExpandedLevels) → RegionsNumbered words places table f ms ns
          → flat_map (λ inner. inner) (map rule_contexts_of (all_numbered names f ns)) ≡ []
      no_rule_contexts_below no_region no_level h = refl
      no_rule_contexts_below no_region (level_and n ns) h = absurd h
      no_rule_contexts_below (region_and m ms) no_level h = absurd h
      no_rule_contexts_below (region_and m ms) (level_and n ns) h =
          ap (λ us. us ++ flat_map (λ inner. inner) (map rule_contexts_of (all_numbered names f ns))) (no_rule_contexts m n h.0) ∙ no_rule_contexts_below ms ns h.1

    pub none_outside : (T : Region) (a : ExpandedLevel) → RegionNumbered words places table f T a → NoContext (numbered names f a)
    none_outside T a h =
        let P : List base_leaf.Leaf → Type 0 = All IsAtomLeaf in
        record {
          only_atoms = subst P (sym (leaves_numbered names f a)) (All-from_recursion IsAtomLeaf (map (numbered_leaf names f) (all_leaves a)) (all_atoms T a h));
          no_context = no_contexts T a h;
          no_rule_context = no_rule_contexts T a h;
        }

-- the top of the plain that is read has the region that was printed
pub top_back : (words : List Word) (places : List Pos) (names : List tree.Name) (is : IsNames names) (t : Clauses) (p : Plain) (plain : IsPlainOf words places names t p) (T : Region)
    → (let parts = parts_of words places t in RegionNumbered words places parts.table plain.number T (level_from_parts parts)) → Everywhere (AtomFine names) (RuleFine names) T
    → top_of names p ≡ as_level T
top_back words places names is t p plain T h fine =
    let parts = parts_of words places t in
    let f = plain.number in
    let P : base_level.Level → Type 0 = NoContext in
    let made = plain_well_made words places names t p plain (subst P (sym plain.top) (none_outside names words places is parts.table f T (level_from_parts parts) h)) in
    ap (translated.level_of names (numbered_rule names p.rules)) plain.top ∙ region_back names words places is parts.table f p made plain.rules T (level_from_parts parts) h fine
