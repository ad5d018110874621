-- The plain of a tree whose expansion agrees with a level of the calculus is that level.
use Rattle.std.proofs.Common.{◌≡◌, ℕ, Bool, true, false, zero, suc, ◌<◌, List, [], ◌∷◌, ◌++◌, map, length, slice_get, slice_index_or, Some, refl, sym, ap, ◌∙◌, subst, arith}
use Rattle.std.specs.Prelude.{codes, Contains}
use Rattle.std.specs.List.{flat_map, AllByRecursion, AllZip}
use Rattle.std.proofs.lemmas.Option.{same_Some}
use Rattle.std.proofs.lemmas.List.{append-nil, length-map, map-append}
use Rattle.lmn_base.specs.declared.guard.Arith.{Arith}
use Rattle.lmn_base.specs.declared.guard.Cmp.{Cmp}
use Rattle.lmn_base.specs.declared.refusal.Pos.{Pos}
use Rattle.lmn_base.specs.declared.functor.Label.TheVariants.{Name, Int}
use Rattle.lmn_base.specs.declared.guard.Expr.{Expr}
use Rattle.lmn_base.specs.declared.guard.Expr.TheFolds.{fold-roll-Expr}
use Rattle.lmn_base.specs.declared.guard.Cond.{Cond}
use Rattle.lmn_base.specs.declared.guard.Cond.TheVariants as cond
use Rattle.lmn_base.specs.declared.level.Occ.{Occ}
use Rattle.lmn_base.specs.declared.level.Level.TheFolds.{fold-roll-Level}
use Rattle.lmn_base.specs.declared.rule.RuleTree.{RuleTree}
use Rattle.lmn_base.specs.Levels as base
use Rattle.lmn_base.specs.Links.{NumbersLinks, Numbers}
use Rattle.lmn_base.specs.Names.{IsNames}
use Rattle.lmn_congruence.specs.Rules as tree
use Rattle.lmn_congruence.specs.Translation.{name_of, names_of, context_with, context_tree, atom_or_connector, leaf_of, levels, rules, level_step, level_of, expression_step, expression_of, kind_of, condition_of, numbered_rule}
use Rattle.lmn_congruence.proofs.NumberedRules.{rule_has_number}
use Rattle.lmn_lexer.specs.Laying.{Word}
use Rattle.lmn_parser.specs.Syntax as syntax
use Rattle.lmn_flatten_plain.specs.Links.{Link, written, Use}
use Rattle.lmn_flatten_plain.specs.Expanded as expanded
use Rattle.lmn_flatten_plain.specs.Expanded.{ExpandedLeaf, atom_leaf, typed_leaf, Context, ExpandedLevel, level, ExpandedLevels, no_level, level_and, ExpandedRule, use_links, expanded_links_in}
use Rattle.lmn_flatten_plain.specs.Meanings.{name_at, place_at}
use Rattle.lmn_flatten_plain.specs.Plains.{number_of, numbered_use, numbered_label, numbered_leaf, numbered_context, numbered, all_numbered, OneToOne, context_use, IsExpr, IsCond, IsRuleOf}
use Rattle.lmn_flatten_plain.specs.Words.{link_name, kind_name}
use Rattle.lmn_flatten_plain.specs.Spelled.{LeafSpelled, ConditionSpelled, LevelSpelled, LevelsSpelled, RuleSpelled, RulesSpelled}
use Rattle.lmn_flatten_plain.specs.Agreement.{names_of_contexts as context_names, trees_of_contexts, link_by_number, LeafIs, ExprIs, CondIs, LevelIs, LevelsAre, RuleIs, RulesAre}
use Rattle.lmn_flatten_plain.specs.LinkNumbers.{leaf_links, leaves_links, level_links, levels_links, RulesNumbered, AllRulesNumbered, RuleNumbered, EachNumbered}
use Rattle.lmn_flatten_plain.specs.NamesHeld.{LeafHeld, ExpressionHeld, ConditionHeld, UntypedHeld, LevelHeld, LevelsHeld, RuleHeld, RulesHeld}
use Rattle.lmn_flatten_plain.proofs.Decimals.{numeral_same}
use Rattle.lmn_flatten_plain.proofs.HeldLabels.{held_back, atom_back, connector_back, kind_back, unknown_back}
use Rattle.lmn_flatten_plain.proofs.NumberedLevels.{links_numbered}
use Rattle.lmn_flatten_plain.proofs.SameNumbers.{numbers_agree}
use Rattle.lmn_base.proofs.Lists.{all_left as all_front, all_right as all_back, tail_is}
use Rattle.lmn_base.specs.declared.rule.Plain.{Plain}
use Rattle.lmn_base.specs.WellMade.{IsWellMade}

-- links

same_leaf_links : (a : ExpandedLeaf) (l : tree.Leaf) → LeafIs a l → expanded.expanded_leaf_links a ≡ map link_by_number (leaf_links l)
same_leaf_links (atom_leaf k us pos) (tree.atom_leaf m xs) h = h.1
same_leaf_links (atom_leaf k us pos) (tree.connector_leaf x y) h = h.1
same_leaf_links (atom_leaf k us pos) (tree.typed_leaf n x) h = absurd h
same_leaf_links (typed_leaf n u pos) (tree.atom_leaf m xs) h = absurd h
same_leaf_links (typed_leaf n u pos) (tree.connector_leaf x y) h = absurd h
same_leaf_links (typed_leaf n u pos) (tree.typed_leaf m x) h = ap (λ a. a ∷ []) h.1

same_leaves_links : (ks : List ExpandedLeaf) (ls : List tree.Leaf) → AllZip LeafIs ks ls → expanded.expanded_leaves_links ks ≡ map link_by_number (leaves_links ls)
same_leaves_links [] [] h = refl
same_leaves_links [] (l ∷ ls) h = absurd h
same_leaves_links (k ∷ ks) [] h = absurd h
same_leaves_links (k ∷ ks) (l ∷ ls) h =
    ap (λ xs. xs ++ expanded.expanded_leaves_links ks) (same_leaf_links k l h.0) ∙ ap (λ xs. map link_by_number (leaf_links l) ++ xs) (same_leaves_links ks ls h.1)
    ∙ sym (map-append link_by_number (leaf_links l) (leaves_links ls))

module _ (words : List Word) (places : List Pos) (table : List ExpandedRule) where
  mutual
    pub same_links : (a : ExpandedLevel) (l : tree.Level) → LevelIs words places table a l → expanded.expanded_links a ≡ map link_by_number (level_links l)
    same_links (level ks ms cs os rs) (tree.level ls ns ds es ts) h =
        ap (λ xs. xs ++ expanded_links_in ms) (same_leaves_links ks ls h.0) ∙ ap (λ xs. map link_by_number (leaves_links ls) ++ xs) (all_same_links ms ns h.1)
        ∙ sym (map-append link_by_number (leaves_links ls) (levels_links ns))

    all_same_links : (ks : ExpandedLevels) (ls : tree.Levels) → LevelsAre words places table ks ls → expanded_links_in ks ≡ map link_by_number (levels_links ls)
    all_same_links no_level tree.no_level h = refl
    all_same_links no_level (tree.level_and l ls) h = absurd h
    all_same_links (level_and k ks) tree.no_level h = absurd h
    all_same_links (level_and k ks) (tree.level_and l ls) h =
        ap (λ xs. xs ++ expanded_links_in ks) (same_links k l h.0) ∙ ap (λ xs. map link_by_number (level_links l) ++ xs) (all_same_links ks ls h.1)
        ∙ sym (map-append link_by_number (level_links l) (levels_links ls))

-- a number of a link, by its name
pub written_same : (m n : tree.Name) → written m ≡ written n → m ≡ n
written_same m n h = cc

-- links with one name have one number
pub name_same : (x y : ℕ) → link_by_number x ≡ link_by_number y → x ≡ y
name_same x y e = numeral_same x y (tail_is (written_same (link_name x) (link_name y) e))

mapped_get : {A B : Type 0} (f : A → B) (xs : List A) (k : ℕ) (x : A) → k < length xs → slice_index_or xs k x ≡ x → slice_index_or (map f xs) k (f x) ≡ f x
mapped_get f [] k x l e = absurd (omega (arith, l))
mapped_get f (y ∷ xs) zero x l e = ap f e
mapped_get f (y ∷ xs) (suc k) x l e = mapped_get f xs k x (omega (arith, l)) e

contains_mapped : {A B : Type 0} (f : A → B) (xs : List A) (x : A) → Contains xs x → Contains (map f xs) (f x)
contains_mapped f xs x h = let size = length-map xs f in (h.0, omega (arith, h.1), mapped_get f xs h.0 x h.1 h.2)

-- a plain's numbers are those of the level, where both number by first occurrence
pub plain_numbers : (number : Link → ℕ) (ys : List ℕ) (m n : ℕ) → OneToOne number (map link_by_number ys)
    → NumbersLinks (map number (map link_by_number ys)) m → NumbersLinks ys n → AllByRecursion (λ y. number (link_by_number y) ≡ y) ys
plain_numbers number ys m n one p q =
    let P : List ℕ → Type 0 = λ zs. Numbers 0 zs m in
    let Q : List ℕ → Type 0 = λ zs. Numbers 0 zs n in
    numbers_agree (λ y. number (link_by_number y)) (λ y. y) ys m n
    (λ a b i j e. name_same a b
    (one (link_by_number a) (link_by_number b) (contains_mapped link_by_number ys a i) (contains_mapped link_by_number ys b j) e))
    (λ a b i j e. e) (subst P (map_map number link_by_number ys) p) (subst Q (sym (map_same ys)) q)
  where
    map_map : (f : Link → ℕ) (g : ℕ → Link) (ys : List ℕ) → map f (map g ys) ≡ map (λ y. f (g y)) ys
    map_map f g [] = refl
    map_map f g (y ∷ ys) = ap (λ zs. f (g y) ∷ zs) (map_map f g ys)

    map_same : (ys : List ℕ) → map (λ y. y) ys ≡ ys
    map_same [] = refl
    map_same (y ∷ ys) = ap (λ zs. y ∷ zs) (map_same ys)

-- Conditions.

module _ (words : List Word) (places : List Pos) (names : List tree.Name) (is : IsNames names) where
  context_back : (p : ℕ) (n : tree.Name) → name_at words places p ≡ n → Contains names n → name_of names (number_of names (name_at words places p)) ≡ n
  context_back p n e h = ap (λ m. name_of names (number_of names m)) e ∙ held_back names n h

  contexts_back : (ps : List ℕ) (ns : List tree.Name) → map (name_at words places) ps ≡ ns → AllByRecursion (Contains names) ns
      → names_of names (map (context_use words places names) ps) ≡ ns
  contexts_back [] [] e h = refl
  contexts_back [] (n ∷ ns) e h = absurd (cc)
  contexts_back (p ∷ ps) [] e h = absurd (cc)
  contexts_back (p ∷ ps) (n ∷ ns) e h = two _ _ _ _ (context_back p n (first _ _ _ _ e) h.0) (contexts_back ps ns (second _ _ _ _ e) h.1)
    where
      two : (a b : tree.Name) (ms ns : List tree.Name) → a ≡ b → ms ≡ ns → a ∷ ms ≡ b ∷ ns
      two a b ms ns e f = cc

      first : (a b : tree.Name) (ms ns : List tree.Name) → a ∷ ms ≡ b ∷ ns → a ≡ b
      first a b ms ns e = cc

      second : (a b : tree.Name) (ms ns : List tree.Name) → a ∷ ms ≡ b ∷ ns → ms ≡ ns
      second a b ms ns e = cc

  same_operation : (a b : Arith) (c d e f : tree.Expression) → a ≡ b → c ≡ d → e ≡ f → tree.operation a c e ≡ tree.operation b d f
  same_operation a b c d e f h i j = cc

  expression_back : (x : syntax.Expr) (e : Expr) (t : tree.Expression) → IsExpr words places names x e → ExprIs words places x t → ExpressionHeld names t
      → expression_of names e ≡ t
  expression_back (syntax.integer p) e (tree.number z) h g held =
      ap (expression_of names) h ∙ fold-roll-Expr tree.Expression (expression_step names) _ ∙ ap tree.number g
  expression_back (syntax.integer p) e (tree.value_of n) h g held = absurd g
  expression_back (syntax.integer p) e (tree.operation o a b) h g held = absurd g
  expression_back (syntax.value p) e (tree.value_of n) h g held =
      ap (expression_of names) h ∙ fold-roll-Expr tree.Expression (expression_step names) _ ∙ ap tree.value_of (context_back p n g held)
  expression_back (syntax.value p) e (tree.number z) h g held = absurd g
  expression_back (syntax.value p) e (tree.operation o a b) h g held = absurd g
  expression_back (syntax.operation op l r) e (tree.operation o a b) h g held =
      let left = h.0 in
      let right = h.1 in
      ap (expression_of names) h.2 ∙ fold-roll-Expr tree.Expression (expression_step names) _
      ∙ same_operation _ _ _ _ _ _ g.0 (expression_back l left.value a h.3 g.1 held.0) (expression_back r right.value b h.4 g.2 held.1)
  expression_back (syntax.operation op l r) e (tree.number z) h g held = absurd g
  expression_back (syntax.operation op l r) e (tree.value_of n) h g held = absurd g

  same_compares : (a b : Cmp) (c d e f : tree.Expression) → a ≡ b → c ≡ d → e ≡ f → tree.compares a c e ≡ tree.compares b d f
  same_compares a b c d e f h i j = cc

  same_equates : (a b : tree.Name) (c d : tree.Expression) → a ≡ b → c ≡ d → tree.equates a c ≡ tree.equates b d
  same_equates a b c d h i = cc

  same_differs : (a b c d : tree.Name) → a ≡ b → c ≡ d → tree.differs a c ≡ tree.differs b d
  same_differs a b c d h i = cc

  kind_of_back : (p : ℕ) (ps : List ℕ) (k : tree.Kind) (n : tree.Name) (pos : Pos) → name_at words places p ≡ kind_name k
      → map (name_at words places) ps ≡ n ∷ [] → Contains names n
      → condition_of names (cond.Kind (number_of names (name_at words places p)) (map (context_use words places names) ps) pos) ≡ tree.is_kind k n
  kind_of_back p [] k n pos e f held = absurd (cc)
  kind_of_back p (q ∷ []) k n pos e f held =
      ap (λ m. kind_of names (number_of names m) (context_use words places names q ∷ [])) e ∙ kind_back names is k (context_use words places names q)
      ∙ ap (λ m. tree.is_kind k m) (context_back q n (one _ _ f) held)
    where
      one : (a b : tree.Name) → a ∷ [] ≡ b ∷ [] → a ≡ b
      one a b e = cc
  kind_of_back p (q ∷ r ∷ ps) k n pos e f held = absurd (cc)

  condition_back : (x : syntax.WrittenCondition) (c : Cond) (t : tree.Condition) → IsCond words places names x c → CondIs words places x t → ConditionHeld names t
      → ConditionSpelled t → condition_of names c ≡ t
  condition_back (syntax.called p ps) c (tree.is_kind k n) h g held s = ap (condition_of names) h ∙ kind_of_back p ps k n (place_at words places p) g.0 g.1 held
  condition_back (syntax.called p ps) c (tree.unknown n ns) h g held s =
      ap (condition_of names) h ∙ ap (λ m. kind_of names (number_of names m) (map (context_use words places names) ps)) g.0
      ∙ unknown_back names is n (map (context_use words places names) ps) ns held.0 (contexts_back ps ns g.1 held.1) s.2
  condition_back (syntax.called p ps) c (tree.compares o a b) h g held s = absurd g
  condition_back (syntax.called p ps) c (tree.equates n a) h g held s = absurd g
  condition_back (syntax.called p ps) c (tree.differs m n) h g held s = absurd g
  condition_back (syntax.compared op l r q) c (tree.compares o a b) h g held s =
      ap (condition_of names) h.2 ∙ same_compares _ _ _ _ _ _ g.0 (expression_back l h.0 a h.3 g.1 held.0) (expression_back r h.1 b h.4 g.2 held.1)
  condition_back (syntax.compared op l r q) c (tree.is_kind k n) h g held s = absurd g
  condition_back (syntax.compared op l r q) c (tree.unknown n ns) h g held s = absurd g
  condition_back (syntax.compared op l r q) c (tree.equates n a) h g held s = absurd g
  condition_back (syntax.compared op l r q) c (tree.differs m n) h g held s = absurd g
  condition_back (syntax.equal p r q) c (tree.equates n a) h g held s =
      ap (condition_of names) h.1 ∙ same_equates _ _ _ _ (context_back p n g.0 held.0) (expression_back r h.0 a h.2 g.1 held.1)
  condition_back (syntax.equal p r q) c (tree.is_kind k n) h g held s = absurd g
  condition_back (syntax.equal p r q) c (tree.unknown n ns) h g held s = absurd g
  condition_back (syntax.equal p r q) c (tree.compares o a b) h g held s = absurd g
  condition_back (syntax.equal p r q) c (tree.differs m n) h g held s = absurd g
  condition_back (syntax.different p r q) c (tree.differs m n) h g held s =
      ap (condition_of names) h ∙ same_differs _ _ _ _ (context_back p m g.0 held.0) (context_back r n g.1 held.1)
  condition_back (syntax.different p r q) c (tree.is_kind k n) h g held s = absurd g
  condition_back (syntax.different p r q) c (tree.unknown n ns) h g held s = absurd g
  condition_back (syntax.different p r q) c (tree.compares o a b) h g held s = absurd g
  condition_back (syntax.different p r q) c (tree.equates n a) h g held s = absurd g

  guard_back : (xs : List syntax.WrittenCondition) (cs : List Cond) (ts : List tree.Condition) → AllZip (IsCond words places names) xs cs → AllZip (CondIs words places) xs ts
      → AllByRecursion (ConditionHeld names) ts → AllByRecursion ConditionSpelled ts → map (condition_of names) cs ≡ ts
  guard_back [] [] [] h g held s = refl
  guard_back [] [] (t ∷ ts) h g held s = absurd g
  guard_back [] (c ∷ cs) ts h g held s = absurd h
  guard_back (x ∷ xs) [] ts h g held s = absurd h
  guard_back (x ∷ xs) (c ∷ cs) [] h g held s = absurd g
  guard_back (x ∷ xs) (c ∷ cs) (t ∷ ts) h g held s = two _ _ _ _ (condition_back x c t h.0 g.0 held.0 s.0) (guard_back xs cs ts h.1 g.1 held.1 s.1)
    where
      two : (a b : tree.Condition) (ms ns : List tree.Condition) → a ≡ b → ms ≡ ns → a ∷ ms ≡ b ∷ ns
      two a b ms ns e f = cc

  -- Leaves.

  uses_back : (f : Link → ℕ) (us : List Use) → map (λ (o : Occ). o.link) (map (numbered_use names f) us) ≡ map f (use_links us)
  uses_back f [] = refl
  uses_back f (u ∷ us) = ap (λ ns. f u.link ∷ ns) (uses_back f us)

  numbers_back : (f : Link → ℕ) (ys : List ℕ) → AllByRecursion (λ y. f (link_by_number y) ≡ y) ys → map f (map link_by_number ys) ≡ ys
  numbers_back f [] h = refl
  numbers_back f (y ∷ ys) h = two _ _ _ _ h.0 (numbers_back f ys h.1)
    where
      two : (a b : ℕ) (ms ns : List ℕ) → a ≡ b → ms ≡ ns → a ∷ ms ≡ b ∷ ns
      two a b ms ns e f = cc

  links_back : (f : Link → ℕ) (us : List Use) (xs : List ℕ) → use_links us ≡ map link_by_number xs → AllByRecursion (λ y. f (link_by_number y) ≡ y) xs
      → map (λ (o : Occ). o.link) (map (numbered_use names f) us) ≡ xs
  links_back f us xs e h = uses_back f us ∙ ap (map f) e ∙ numbers_back f xs h

  same_typed : (a b : tree.Name) (c d : ℕ) → a ≡ b → c ≡ d → tree.typed_leaf a c ≡ tree.typed_leaf b d
  same_typed a b c d h i = cc

  leaf_back : (f : Link → ℕ) (a : ExpandedLeaf) (l : tree.Leaf) → LeafIs a l → AllByRecursion (λ y. f (link_by_number y) ≡ y) (leaf_links l) → LeafHeld names l → LeafSpelled l
      → leaf_of names (numbered_leaf names f a) ≡ l
  leaf_back f (atom_leaf k us pos) (tree.atom_leaf (tree.named m) xs) h e held s =
      ap (λ k. atom_or_connector names (numbered_label names f k) (map (λ (o : Occ). o.link) (map (numbered_use names f) us))) h.0
      ∙ ap (atom_or_connector names (Name (number_of names m))) (links_back f us xs h.1 e) ∙ atom_back names is m xs held s.1
  leaf_back f (atom_leaf k us pos) (tree.atom_leaf (tree.integer z) xs) h e held s =
      ap (λ k. atom_or_connector names (numbered_label names f k) (map (λ (o : Occ). o.link) (map (numbered_use names f) us))) h.0
      ∙ ap (atom_or_connector names (Int z)) (links_back f us xs h.1 e)
  leaf_back f (atom_leaf k us pos) (tree.connector_leaf x y) h e held s =
      ap (λ k. atom_or_connector names (numbered_label names f k) (map (λ (o : Occ). o.link) (map (numbered_use names f) us))) h.0
      ∙ ap (atom_or_connector names (Name (number_of names (codes "=")))) (links_back f us (x ∷ y ∷ []) h.1 e) ∙ connector_back names is x y
  leaf_back f (atom_leaf k us pos) (tree.typed_leaf n x) h e held s = absurd h
  leaf_back f (typed_leaf n u pos) (tree.atom_leaf k xs) h e held s = absurd h
  leaf_back f (typed_leaf n u pos) (tree.connector_leaf x y) h e held s = absurd h
  leaf_back f (typed_leaf n u pos) (tree.typed_leaf m x) h e held s =
      same_typed _ _ _ _ (ap (λ k. name_of names (number_of names k)) h.0 ∙ held_back names m held) (ap f h.1 ∙ e.0)

  leaves_back : (f : Link → ℕ) (ks : List ExpandedLeaf) (ls : List tree.Leaf) → AllZip LeafIs ks ls → AllByRecursion (λ y. f (link_by_number y) ≡ y) (leaves_links ls)
      → AllByRecursion (LeafHeld names) ls → AllByRecursion LeafSpelled ls → map (leaf_of names) (map (numbered_leaf names f) ks) ≡ ls
  leaves_back f [] [] h e held s = refl
  leaves_back f [] (l ∷ ls) h e held s = absurd h
  leaves_back f (k ∷ ks) [] h e held s = absurd h
  leaves_back f (k ∷ ks) (l ∷ ls) h e held s =
      two _ _ _ _ (leaf_back f k l h.0 (all_front (λ y. f (link_by_number y) ≡ y) (leaf_links l) (leaves_links ls) e) held.0 s.0)
      (leaves_back f ks ls h.1 (all_back (λ y. f (link_by_number y) ≡ y) (leaf_links l) (leaves_links ls) e) held.1 s.1)
    where
      two : (a b : tree.Leaf) (ms ns : List tree.Leaf) → a ≡ b → ms ≡ ns → a ∷ ms ≡ b ∷ ns
      two a b ms ns e f = cc

  names_back : (f : Link → ℕ) (cs : List Context) (ns : List tree.Name) → context_names cs ≡ ns → AllByRecursion (Contains names) ns
      → names_of names (map (numbered_context names f) cs) ≡ ns
  names_back f [] [] e h = refl
  names_back f [] (n ∷ ns) e h = absurd (cc)
  names_back f (c ∷ cs) [] e h = absurd (cc)
  names_back f (c ∷ cs) (n ∷ ns) e h =
      two _ _ _ _ (ap (λ m. name_of names (number_of names m)) (first _ _ _ _ e) ∙ held_back names n h.0) (names_back f cs ns (second _ _ _ _ e) h.1)
    where
      two : (a b : tree.Name) (ms ns : List tree.Name) → a ≡ b → ms ≡ ns → a ∷ ms ≡ b ∷ ns
      two a b ms ns e f = cc

      first : (a b : tree.Name) (ms ns : List tree.Name) → a ∷ ms ≡ b ∷ ns → a ≡ b
      first a b ms ns e = cc

      second : (a b : tree.Name) (ms ns : List tree.Name) → a ∷ ms ≡ b ∷ ns → ms ≡ ns
      second a b ms ns e = cc

  untyped_back : (closed : Bool) (m : tree.Name) (n : tree.Context) → context_with closed m ≡ n → UntypedHeld names n
      → context_with closed (name_of names (number_of names m)) ≡ n
  untyped_back true m (tree.closed_context p) e h = ap tree.closed_context (ap (λ z. name_of names (number_of names z)) (same_closed m p e) ∙ held_back names p h)
    where
      same_closed : (m p : tree.Name) → tree.closed_context m ≡ tree.closed_context p → m ≡ p
      same_closed m p e = cc
  untyped_back true m (tree.open_context p) e h = absurd (cc)
  untyped_back false m (tree.closed_context p) e h = absurd (cc)
  untyped_back false m (tree.open_context p) e h = ap tree.open_context (ap (λ z. name_of names (number_of names z)) (same_open m p e) ∙ held_back names p h)
    where
      same_open : (m p : tree.Name) → tree.open_context m ≡ tree.open_context p → m ≡ p
      same_open m p e = cc

  trees_back : (f : Link → ℕ) (cs : List Context) (ns : List tree.Context) → trees_of_contexts cs ≡ ns → AllByRecursion (UntypedHeld names) ns
      → map (context_tree names) (map (numbered_context names f) cs) ≡ ns
  trees_back f [] [] e h = refl
  trees_back f [] (n ∷ ns) e h = absurd (cc)
  trees_back f (c ∷ cs) [] e h = absurd (cc)
  trees_back f (c ∷ cs) (n ∷ ns) e h =
      two _ _ _ _ (untyped_back c.closed c.name n (first _ _ _ _ e) h.0) (trees_back f cs ns (second _ _ _ _ e) h.1)
    where
      two : (a b : tree.Context) (ms ns : List tree.Context) → a ≡ b → ms ≡ ns → a ∷ ms ≡ b ∷ ns
      two a b ms ns e f = cc

      first : (a b : tree.Context) (ms ns : List tree.Context) → a ∷ ms ≡ b ∷ ns → a ≡ b
      first a b ms ns e = cc

      second : (a b : tree.Context) (ms ns : List tree.Context) → a ∷ ms ≡ b ∷ ns → ms ≡ ns
      second a b ms ns e = cc

  -- Levels and rules.

  same_level : (a b : List tree.Leaf) (c d : tree.Levels) (e f : List tree.Context) (g h : List tree.Name) (i j : tree.Rules)
      → a ≡ b → c ≡ d → e ≡ f → g ≡ h → i ≡ j → tree.level a c e g i ≡ tree.level b d f h j
  same_level a b c d e f g h i j k l m n o = cc

  same_levels : (a b : tree.Level) (c d : tree.Levels) → a ≡ b → c ≡ d → tree.level_and a c ≡ tree.level_and b d
  same_levels a b c d e f = cc

  same_rules : (a b : tree.Rule) (c d : tree.Rules) → a ≡ b → c ≡ d → tree.rule_and a c ≡ tree.rule_and b d
  same_rules a b c d e f = cc

  same_rule : (a b : tree.Level) (c d : List tree.Condition) (e f : tree.Level) → a ≡ b → c ≡ d → e ≡ f → tree.rule_of a c e ≡ tree.rule_of b d f
  same_rule a b c d e f g h i = cc

  module _ (p : Plain) (made : IsWellMade p) (table : List ExpandedRule) (each : AllZip (IsRuleOf words places names) table p.rules) where
    abbrev ρ : ℕ → tree.Rule
    ρ = numbered_rule names p.rules

    rule_there : (rs : List ExpandedRule) (ts : List RuleTree) (k : ℕ) (r : ExpandedRule) → AllZip (IsRuleOf words places names) rs ts → slice_get rs k ≡ Some r
        → (t : RuleTree) × (slice_get ts k ≡ Some t) × IsRuleOf words places names r t
    rule_there [] ts k r h e = absurd (cc)
    rule_there (q ∷ rs) [] k r h e = absurd h
    rule_there (q ∷ rs) (t ∷ ts) zero r h e = let P : ExpandedRule → Type 0 = λ r. IsRuleOf words places names r t in (t, refl, subst P (same_Some q r e) h.0)
    rule_there (q ∷ rs) (t ∷ ts) (suc k) r h e = rule_there rs ts k r h.1 e

    -- the numbers of a rule's links
    rule_numbers_back : (r : ExpandedRule) (t : RuleTree) (is_rule : IsRuleOf words places names r t) (head body : tree.Level)
        → LevelIs words places table r.head head → LevelIs words places table r.body body
        → ((n : ℕ) × NumbersLinks (level_links head ++ level_links body) n)
        → AllByRecursion (λ y. is_rule.number (link_by_number y) ≡ y) (level_links head ++ level_links body)
    rule_numbers_back r t h head body a b numbers =
        let f = h.number in
        let ys = level_links head ++ level_links body in
        let same : expanded.expanded_links r.head ++ expanded.expanded_links r.body ≡ map link_by_number ys =
        ap (λ xs. xs ++ expanded.expanded_links r.body) (same_links words places table r.head head a)
        ∙ ap (λ xs. map link_by_number (level_links head) ++ xs) (same_links words places table r.body body b)
        ∙ sym (map-append link_by_number (level_links head) (level_links body)) in
        let P : List Link → Type 0 = OneToOne f in
        let Q : List ℕ → Type 0 = λ xs. NumbersLinks xs (length t.links) in
        let table_is = h.table in
        let all : flat_map base.links_of (t.head ∷ t.body ∷ []) ≡ map f (map link_by_number ys) =
        ap (λ xs. base.links_of t.head ++ xs) (append-nil (base.links_of t.body))
        ∙ ap (λ l. base.links_of l ++ base.links_of t.body) h.head ∙ ap (λ xs. xs ++ base.links_of t.body) (links_numbered names f r.head)
        ∙ ap (λ l. map f (expanded.expanded_links r.head) ++ base.links_of l) h.body ∙ ap (λ xs. map f (expanded.expanded_links r.head) ++ xs) (links_numbered names f r.body)
        ∙ sym (map-append f (expanded.expanded_links r.head) (expanded.expanded_links r.body)) ∙ ap (map f) same in
        plain_numbers f ys (length t.links) numbers.0
        (subst P same h.apart) (subst Q all table_is.numbered) numbers.1

    mutual
      pub level_back : (l : tree.Level) (a : ExpandedLevel) (f : Link → ℕ) → LevelIs words places table a l → AllByRecursion (λ y. f (link_by_number y) ≡ y) (level_links l)
          → LevelHeld names l → LevelSpelled l → RulesNumbered l → level_of names ρ (numbered names f a) ≡ l
      level_back (tree.level ls ns ds es ts) (level ks ms cs os rs) f h e held s n =
          fold-roll-Level tree.Level (level_step names ρ) _
          ∙ same_level _ _ _ _ _ _ _ _ _ _ (leaves_back f ks ls h.0 (all_front (λ y. f (link_by_number y) ≡ y) (leaves_links ls) (levels_links ns) e) held.0 s.0)
          (levels_back ns ms f h.1 (all_back (λ y. f (link_by_number y) ≡ y) (leaves_links ls) (levels_links ns) e) held.1 s.1 n.0)
          (trees_back f cs ds h.2 held.2) (names_back f os es h.3 held.3) (rules_back ts rs h.4 held.4 s.4 n.1)

      levels_back : (ls : tree.Levels) (ms : ExpandedLevels) (f : Link → ℕ) → LevelsAre words places table ms ls → AllByRecursion (λ y. f (link_by_number y) ≡ y) (levels_links ls)
          → LevelsHeld names ls → LevelsSpelled ls → AllRulesNumbered ls → levels (map (level_of names ρ) (all_numbered names f ms)) ≡ ls
      levels_back tree.no_level no_level f h e held s n = refl
      levels_back tree.no_level (level_and m ms) f h e held s n = absurd h
      levels_back (tree.level_and l ls) no_level f h e held s n = absurd h
      levels_back (tree.level_and l ls) (level_and m ms) f h e held s n =
          same_levels _ _ _ _ (level_back l m f h.0 (all_front (λ y. f (link_by_number y) ≡ y) (level_links l) (levels_links ls) e) held.0 s.0 n.0)
          (levels_back ls ms f h.1 (all_back (λ y. f (link_by_number y) ≡ y) (level_links l) (levels_links ls) e) held.1 s.1 n.1)

      rule_back : (r : tree.Rule) (k : ℕ) → RuleIs words places table k r → RuleHeld names r → RuleSpelled r → RuleNumbered r → ρ k ≡ r
      rule_back (tree.rule_of head guard body) k h held s n =
          let found = rule_there table p.rules k h.0 each h.1 in
          let t = found.0 in
          let is_rule = found.2 in
          let numbers = rule_numbers_back h.0 t is_rule head body h.2 h.4 n.0 in
          let P : ℕ → Type 0 = λ y. is_rule.number (link_by_number y) ≡ y in
          rule_has_number names p k t made found.1
          ∙ same_rule _ _ _ _ _ _
          (ap (level_of names ρ) is_rule.head
          ∙ level_back head (let r = h.0 in r.head) is_rule.number h.2 (all_front P (level_links head) (level_links body) numbers) held.0 s.0 n.1)
          (guard_back (let r = h.0 in r.guard) t.guard guard is_rule.guard h.3 held.1 s.1)
          (ap (level_of names ρ) is_rule.body
          ∙ level_back body (let r = h.0 in r.body) is_rule.number h.4 (all_back P (level_links head) (level_links body) numbers) held.2 s.2 n.2)

      rules_back : (ts : tree.Rules) (ks : List ℕ) → RulesAre words places table ks ts → RulesHeld names ts → RulesSpelled ts → EachNumbered ts
          → rules (map ρ ks) ≡ ts
      rules_back tree.no_rule [] h held s n = refl
      rules_back tree.no_rule (k ∷ ks) h held s n = absurd h
      rules_back (tree.rule_and t ts) [] h held s n = absurd h
      rules_back (tree.rule_and t ts) (k ∷ ks) h held s n = same_rules _ _ _ _ (rule_back t k h.0 held.0 s.0 n.0) (rules_back ts ks h.1 held.1 s.1 n.1)
