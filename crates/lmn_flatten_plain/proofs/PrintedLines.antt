-- Printed lines are read, and their plains are what was printed.
use Rattle.std.proofs.Common.{◌≡◌, ℕ, List, [], ◌∷◌, ◌++◌, map, length, All, refl, sym, ap, ◌∙◌, subst}
use Rattle.std.specs.List.{flat_map, AllByRecursion, AllZip}
use Rattle.std.proofs.lemmas.List.{append-nil, map-append}
use Rattle.lmn_base.specs.declared.refusal.Pos.{Pos}
use Rattle.lmn_base.specs.declared.level.CtxUse.{CtxUse}
use Rattle.lmn_base.specs.declared.level.Leaf as base_leaf
use Rattle.lmn_base.specs.declared.level.Level as base_level
use Rattle.lmn_base.specs.declared.level.Level.TheFolds.{fold-roll-Level}
use Rattle.lmn_base.specs.declared.rule.Plain.{Plain}
use Rattle.lmn_base.specs.Levels.{contexts_of, rule_contexts_of, links_of}
use Rattle.lmn_base.specs.Links.{NumbersLinks}
use Rattle.lmn_base.specs.Names.{IsNames}
use Rattle.lmn_base.specs.WellMade.{IsAtomLeaf}
use Rattle.lmn_congruence.specs.Rules as tree
use Rattle.lmn_congruence.specs.Translation.{top_of, numbered_rule}
use Rattle.lmn_congruence.specs.Translation as tree_level
use Rattle.lmn_lexer.specs.declared.token.Token.{Token}
use Rattle.lmn_lexer.specs.Laying.{Word, words_of, last_word}
use Rattle.lmn_lexer.proofs.LaidTexts.{laid_texts_are_cut}
use Rattle.lmn_lexer.proofs.OneCut.{one_cut}
use Rattle.lmn_parser.specs.Parsing.{kinds_of}
use Rattle.lmn_parser.specs.Readings.{Reads}
use Rattle.lmn_parser.specs.Syntax.{Clauses}
use Rattle.lmn_flatten_plain.specs.Links.{Link}
use Rattle.lmn_flatten_plain.specs.Expanded.{ExpandedLeaf, atom_leaf, typed_leaf, Context, ExpandedLevel, level, ExpandedLevels, no_level, level_and, ExpandedRule}
use Rattle.lmn_flatten_plain.specs.Expansion.{parts_of}
use Rattle.lmn_flatten_plain.specs.Parts.{level_from_parts}
use Rattle.lmn_flatten_plain.specs.Plains.{numbered_leaf, numbered_context, numbered, all_numbered, OneToOne, IsPlainOf}
use Rattle.lmn_flatten_plain.specs.Words.{line_of, top_pieces, words_in}
use Rattle.lmn_flatten_plain.specs.Spelled.{LevelSpelled}
use Rattle.lmn_flatten_plain.specs.Agreement.{names_of_contexts, trees_of_contexts, LeafIs, LevelIs, LevelsAre}
use Rattle.lmn_flatten_plain.specs.LinkNumbers.{level_links, RulesNumbered}
use Rattle.lmn_flatten_plain.specs.NamesHeld.{LevelHeld}
use Rattle.lmn_flatten_plain.specs.Outside.{NotTyped, NoContexts, AllWithout}
use Rattle.lmn_flatten_plain.specs.Laws.{PlainsAreWellMade, LinesAreRead}
use Rattle.lmn_flatten_plain.proofs.LaidLines.{line_laid}
use Rattle.lmn_flatten_plain.proofs.NumberedLevels.{all_leaves, leaves_below, leaves_numbered, links_numbered}
use Rattle.lmn_flatten_plain.proofs.ReadBack.{same_links, plain_numbers, level_back}
use Rattle.lmn_flatten_plain.proofs.ReadTop.{line_read}
use Rattle.lmn_flatten_plain.proofs.RightLines.{line_right, text_right}
use Rattle.lmn_flatten_plain.proofs.WellMadePlains.{NoContext, plain_well_made}
use Rattle.lmn_base.proofs.Lists.{all_append}
use Rattle.std.proofs.lemmas.List.Elements.{All-from_recursion}

-- No context stands outside the rules.

is_atom : (names : List tree.Name) (f : Link → ℕ) (a : ExpandedLeaf) (l : tree.Leaf) → LeafIs a l → NotTyped l → IsAtomLeaf (numbered_leaf names f a)
is_atom names f (atom_leaf k us pos) l h n = tt
is_atom names f (typed_leaf m u pos) (tree.atom_leaf k xs) h n = absurd h
is_atom names f (typed_leaf m u pos) (tree.connector_leaf x y) h n = absurd h
is_atom names f (typed_leaf m u pos) (tree.typed_leaf k x) h n = absurd n

are_atoms : (names : List tree.Name) (f : Link → ℕ) (ks : List ExpandedLeaf) (ls : List tree.Leaf) → AllZip LeafIs ks ls → AllByRecursion NotTyped ls
    → AllByRecursion IsAtomLeaf (map (numbered_leaf names f) ks)
are_atoms names f [] ls h n = tt
are_atoms names f (k ∷ ks) [] h n = absurd h
are_atoms names f (k ∷ ks) (l ∷ ls) h n = (is_atom names f k l h.0 n.0, are_atoms names f ks ls h.1 n.1)

no_trees : (cs : List Context) (ns : List tree.Context) → trees_of_contexts cs ≡ ns → ns ≡ [] → cs ≡ []
no_trees [] ns e f = refl
no_trees (c ∷ cs) ns e f = absurd (cc)

no_names : (cs : List Context) (ns : List tree.Name) → names_of_contexts cs ≡ ns → ns ≡ [] → cs ≡ []
no_names [] ns e f = refl
no_names (c ∷ cs) ns e f = absurd (cc)

module _ (words : List Word) (places : List Pos) (table : List ExpandedRule) (names : List tree.Name) (f : Link → ℕ) where
  mutual
    all_atoms : (a : ExpandedLevel) (l : tree.Level) → LevelIs words places table a l → NoContexts l → AllByRecursion IsAtomLeaf (map (numbered_leaf names f) (all_leaves a))
    all_atoms (level ks ms cs os rs) (tree.level ls ns ds es ts) h n =
        let P : List base_leaf.Leaf → Type 0 = AllByRecursion IsAtomLeaf in
        subst P (sym (map-append (numbered_leaf names f) ks (leaves_below ms)))
        (all_append IsAtomLeaf (map (numbered_leaf names f) ks) (map (numbered_leaf names f) (leaves_below ms)) (are_atoms names f ks ls h.0 n.0) (atoms_below ms ns h.1 n.1))

    atoms_below : (ks : ExpandedLevels) (ls : tree.Levels) → LevelsAre words places table ks ls → AllWithout ls → AllByRecursion IsAtomLeaf (map (numbered_leaf names f) (leaves_below ks))
    atoms_below no_level tree.no_level h n = tt
    atoms_below no_level (tree.level_and l ls) h n = absurd h
    atoms_below (level_and k ks) tree.no_level h n = absurd h
    atoms_below (level_and k ks) (tree.level_and l ls) h n =
        let P : List base_leaf.Leaf → Type 0 = AllByRecursion IsAtomLeaf in
        subst P (sym (map-append (numbered_leaf names f) (all_leaves k) (leaves_below ks)))
        (all_append IsAtomLeaf (map (numbered_leaf names f) (all_leaves k)) (map (numbered_leaf names f) (leaves_below ks)) (all_atoms k l h.0 n.0) (atoms_below ks ls h.1 n.1))

  mutual
    no_contexts : (a : ExpandedLevel) (l : tree.Level) → LevelIs words places table a l → NoContexts l → contexts_of (numbered names f a) ≡ []
    no_contexts (level ks ms cs os rs) (tree.level ls ns ds es ts) h n =
        fold-roll-Level (List CtxUse) (λ l. l.contexts ++ flat_map (λ inner. inner) l.membranes) _
        ∙ ap (λ us. map (numbered_context names f) us ++ flat_map (λ inner. inner) (map contexts_of (all_numbered names f ms))) (no_trees cs ds h.2 n.2)
        ∙ no_contexts_below ms ns h.1 n.1

    no_contexts_below : (ks : ExpandedLevels) (ls : tree.Levels) → LevelsAre words places table ks ls → AllWithout ls
        → flat_map (λ inner. inner) (map contexts_of (all_numbered names f ks)) ≡ []
    no_contexts_below no_level tree.no_level h n = refl
    no_contexts_below no_level (tree.level_and l ls) h n = absurd h
    no_contexts_below (level_and k ks) tree.no_level h n = absurd h
    no_contexts_below (level_and k ks) (tree.level_and l ls) h n =
        ap (λ us. us ++ flat_map (λ inner. inner) (map contexts_of (all_numbered names f ks))) (no_contexts k l h.0 n.0) ∙ no_contexts_below ks ls h.1 n.1

  mutual
    no_rule_contexts : (a : ExpandedLevel) (l : tree.Level) → LevelIs words places table a l → NoContexts l → rule_contexts_of (numbered names f a) ≡ []
    no_rule_contexts (level ks ms cs os rs) (tree.level ls ns ds es ts) h n =
        fold-roll-Level (List CtxUse) (λ l. l.rule_contexts ++ flat_map (λ inner. inner) l.membranes) _
        ∙ ap (λ us. map (numbered_context names f) us ++ flat_map (λ inner. inner) (map rule_contexts_of (all_numbered names f ms))) (no_names os es h.3 n.3)
        ∙ no_rule_contexts_below ms ns h.1 n.1

    no_rule_contexts_below : (ks : ExpandedLevels) (ls : tree.Levels) → LevelsAre words places table ks ls → AllWithout ls
        → flat_map (λ inner. inner) (map rule_contexts_of (all_numbered names f ks)) ≡ []
    no_rule_contexts_below no_level tree.no_level h n = refl
    no_rule_contexts_below no_level (tree.level_and l ls) h n = absurd h
    no_rule_contexts_below (level_and k ks) tree.no_level h n = absurd h
    no_rule_contexts_below (level_and k ks) (tree.level_and l ls) h n =
        ap (λ us. us ++ flat_map (λ inner. inner) (map rule_contexts_of (all_numbered names f ks))) (no_rule_contexts k l h.0 n.0) ∙ no_rule_contexts_below ks ls h.1 n.1

  none_outside : (a : ExpandedLevel) (l : tree.Level) → LevelIs words places table a l → NoContexts l → NoContext (numbered names f a)
  none_outside a l h n =
      let P : List base_leaf.Leaf → Type 0 = All IsAtomLeaf in
      record {
        only_atoms = subst P (sym (leaves_numbered names f a)) (All-from_recursion IsAtomLeaf (map (numbered_leaf names f) (all_leaves a)) (all_atoms a l h n));
        no_context = no_contexts a l h n;
        no_rule_context = no_rule_contexts a l h n;
      }

-- The plain of a tree whose expansion agrees with a level.
plain_back : (words : List Word) (places : List Pos) (names : List tree.Name) (t : Clauses) (l : tree.Level) (n : ℕ)
    → LevelIs words places (parts_of words places t).table (level_from_parts (parts_of words places t)) l → IsNames names → LevelHeld names l → LevelSpelled l
    → NumbersLinks (level_links l) n → RulesNumbered l → NoContexts l → (p : Plain) → IsPlainOf words places names t p → top_of names p ≡ l
plain_back words places names t l n h is held s numbers in_rules outside p plain =
    let parts = parts_of words places t in
    let f = plain.number in
    let P : base_level.Level → Type 0 = NoContext in
    let made = plain_well_made words places names t p plain
    (subst P (sym plain.top) (none_outside words places parts.table names f (level_from_parts parts) l h outside)) in
    let same = same_links words places parts.table (level_from_parts parts) l h in
    let Q : List Link → Type 0 = OneToOne f in
    let R : List ℕ → Type 0 = λ xs. NumbersLinks xs (length p.links) in
    let table_is = plain.table in
    let all = append-nil (links_of p.top) ∙ ap links_of plain.top ∙ links_numbered names f (level_from_parts parts) ∙ ap (map f) same in
    let back = plain_numbers f (level_links l) (length p.links) n (subst Q same plain.apart) (subst R all table_is.numbered) numbers in
    ap (tree_level.level_of names (numbered_rule names p.rules)) plain.top ∙ level_back words places names is p made parts.table plain.rules l (level_from_parts parts) f h back held s in_rules

-- the kinds of tokens are those of their words
pub same_kinds : (text : List ℕ) (tokens : List Token) → kinds_of tokens ≡ map (λ (w : Word). w.kind) (words_of text tokens)
same_kinds text [] = refl
same_kinds text (t ∷ ts) = ap (λ ks. t.kind ∷ ks) (same_kinds text ts)

-- what is printed of a level is read as that level
pub lines_are_read : LinesAreRead
lines_are_read names l n is held s numbers in_rules outside =
    let cut = laid_texts_are_cut (line_of l) (words_in (top_pieces l)) (line_laid l s) in
    let tokens = cut.0 in
    let places = map (λ (t : Token). t.pos) tokens in
    let read = line_read {tokens = tokens} {words = words_of (line_of l) tokens} places (record { kinds = same_kinds (line_of l) tokens }) l s cut.2 in (
      tokens,
      read.tree,
      record { cut = cut.1; is_tree = read.is_tree },
      λ short. cut.3 (text_right (words_in (top_pieces l)) (words_of (line_of l) tokens) cut.2 (line_right l s) short),
      λ p plain. plain_back (words_of (line_of l) tokens) places names read.tree l n read.is is held s numbers in_rules outside p plain,
    )

-- the plain of a tree is well made, where no context stands outside its rules
pub plains_are_well_made : PlainsAreWellMade
plains_are_well_made words places names t p plain a b c = plain_well_made words places names t p plain (record { only_atoms = a; no_context = b; no_rule_context = c })

-- the tokens of a printed line are its words
pub line_words : (l : tree.Level) → LevelSpelled l → (tokens : List Token) {t : Clauses} → Reads (line_of l) tokens t
    → words_of (line_of l) tokens ≡ words_in (top_pieces l) ++ last_word ∷ []
line_words l s tokens r =
    let cut = laid_texts_are_cut (line_of l) (words_in (top_pieces l)) (line_laid l s) in
    ap (words_of (line_of l)) (one_cut (line_of l) tokens cut.0 r.cut cut.1) ∙ cut.2
