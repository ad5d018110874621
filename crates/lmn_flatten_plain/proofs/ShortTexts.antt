-- What a short text reads as.
use Rattle.std.proofs.Common.{◌≡◌, ℕ, zero, suc, ◌+◌, List, [], ◌∷◌, ◌++◌, length, map, slice_get, slice_index_or, Some, refl, sym, ap, ◌∙◌, subst, inl, arith}
use Rattle.std.specs.Prelude.{Contains, codes, true}
use Rattle.std.proofs.lemmas.List.{length-map}
use Rattle.std.specs.List.{AllZip}
use Rattle.lmn_base.specs.declared.functor.Label.TheVariants.{Name as NameLabel}
use Rattle.lmn_base.specs.declared.guard.Cond.{Cond}
use Rattle.lmn_base.specs.declared.level.Level.TheFolds.{fold-roll-Level}
use Rattle.lmn_base.specs.declared.refusal.Pos.{Pos}
use Rattle.lmn_base.specs.declared.rule.Plain.{Plain}
use Rattle.lmn_base.specs.declared.rule.RuleTree.{RuleTree}
use Rattle.lmn_congruence.specs.Rules as tree
use Rattle.lmn_congruence.specs.Translation.{atom_or_connector, condition_of, label_of, level_of, level_step, no_such_rule, rules, rules_from, top_of}
use Rattle.lmn_lexer.specs.Laying.{Laid, Word, all_laid, last_word, separator, word, words_of}
use Rattle.lmn_lexer.specs.declared.token.Kind.{Kind}
use Rattle.lmn_lexer.specs.declared.token.Kind.TheVariants.{Arrow, Dot, End, Name}
use Rattle.lmn_lexer.specs.declared.token.Token.{Token}
use Rattle.lmn_lexer.proofs.LaidTexts.{laid_texts_are_cut}
use Rattle.lmn_parser.specs.Parsing.{kinds_of}
use Rattle.lmn_parser.specs.Syntax.{Clauses, Items, atom_item, clause_and, item_and, no_clause, no_item, no_term, process, rule}
use Rattle.lmn_parser.specs.Trees.{At, IsList, IsProgram, StandsAt, all_taken, is_atom_item, is_process, is_rule, last_item, more_clauses, no_clauses, no_guard, no_parentheses, some_list, unnamed_rule, with_name}
use Rattle.lmn_flatten_plain.specs.Expanded.{atom_leaf, level, no_level}
use Rattle.lmn_flatten_plain.specs.Expansion.{parts_of}
use Rattle.lmn_flatten_plain.specs.Links.{Link}
use Rattle.lmn_flatten_plain.specs.Meanings.{place_at}
use Rattle.lmn_flatten_plain.specs.Plains.{IsCond, IsPlainOf, IsRuleOf, number_of, numbered}
use Rattle.lmn_flatten_plain.specs.TextExamples.{ShortTextReads, alone}
use Rattle.lmn_flatten_plain.specs.Texts.{IntegersInRange}
use Rattle.lmn_flatten_plain.proofs.HeldLabels.{held_back}
use Rattle.lmn_flatten_plain.proofs.SomePlain.{some_plain}

abbrev pub name_word : List ℕ → Word
name_word bytes = record { kind = Name; bytes = bytes }

abbrev pub dot : Word
dot = record { kind = Dot; bytes = codes "." }

abbrev pub arrow : Word
arrow = record { kind = Arrow; bytes = codes ":-" }

abbrev pub its_text : List ℕ
its_text = codes "a. a :- b."

abbrev pub its_words : List Word
its_words = name_word (codes "a") ∷ dot ∷ name_word (codes "a") ∷ arrow ∷ name_word (codes "b") ∷ dot ∷ []

abbrev pub its_kinds : List Kind
its_kinds = Name ∷ Dot ∷ Name ∷ Arrow ∷ Name ∷ Dot ∷ End ∷ []

pub not_mod : (b : ℕ) → ¬ (b ∷ [] ≡ codes "mod")
not_mod b e = absurd (omega (arith, ap length e))

pub laid : Laid true its_text its_words
laid =
    word refl ((refl, tt), not_mod 97) refl (word refl refl tt (separator refl
    (word refl ((refl, tt), not_mod 97) refl (separator refl (word refl refl tt (separator refl (word refl ((refl, tt), not_mod 98) refl (word refl refl tt all_laid))))))))

-- ---- its tree

abbrev pub its_rule : tree.Rule
its_rule = tree.rule_of (tree.only_leaves (alone (codes "a"))) [] (tree.only_leaves (alone (codes "b")))

abbrev pub one_item : ℕ → Items
one_item n = item_and (atom_item n no_term) no_item

abbrev pub its_tree : Pos → Clauses
its_tree pos = clause_and (process (one_item 0)) (clause_and (rule no_item (one_item 2) [] (one_item 4) pos) no_clause)

pub kinds_same : (text : List ℕ) (ts : List Token) → map (λ (w : Word). w.kind) (words_of text ts) ≡ kinds_of ts
kinds_same text [] = refl
kinds_same text (t ∷ ts) = ap (λ ks. t.kind ∷ ks) (kinds_same text ts)

pub third : (ts : List Token) (j k l : Kind) (ks : List Kind) → kinds_of ts ≡ j ∷ k ∷ l ∷ ks → (pos : Pos) × StandsAt ts 2 pos
third [] j k l ks e = absurd (cc)
third (t ∷ []) j k l ks e = absurd (cc)
third (t ∷ u ∷ []) j k l ks e = absurd (cc)
third (t ∷ u ∷ v ∷ ts) j k l ks e = (v.pos, refl)

module _ (ts : List Token) (kinds : kinds_of ts ≡ its_kinds) where
  pub at : (p : ℕ) (k : Kind) → slice_get its_kinds p ≡ Some k → At ts p k
  at p k h = ap (λ ks. slice_get ks p) kinds ∙ h

  pub one_atom : (p : ℕ) → slice_get its_kinds p ≡ Some Name → IsList ts (one_item p) p (p + 1)
  one_atom p h = last_item (is_atom_item (with_name (inl (at p Name h)) no_parentheses))

  pub is_its_tree : (pos : Pos) → StandsAt ts 2 pos → IsProgram ts (its_tree pos)
  is_its_tree pos s = (
    6,
    more_clauses {m = 1} (is_process (one_atom 0 refl)) (at 1 Dot refl)
        (more_clauses {m = 5} (unnamed_rule (is_rule {m = 3} s (all_taken (some_list (one_atom 2 refl))) (at 3 Arrow refl) (no_guard (some_list (one_atom 4 refl))))) (at 5 Dot refl) no_clauses),
    at 6 End refl,
    sym (ap length kinds) ∙ length-map ts (λ t. t.kind),
  )

-- ---- its plain

-- its words with the last one
abbrev pub all_words : List Word
all_words = its_words ++ last_word ∷ []

pub in_range : IntegersInRange all_words
in_range = (λ e. absurd (cc), (λ e. absurd (cc), (λ e. absurd (cc), (λ e. absurd (cc), (λ e. absurd (cc), (λ e. absurd (cc), (λ e. absurd (cc), tt)))))))

module _ (names : List tree.Name) where
  pub leaf_back : (name : tree.Name) → Contains names name → atom_or_connector names (NameLabel (number_of names name)) [] ≡ tree.atom_leaf (tree.named name) []
  leaf_back name h = go (number_of names name) ∙ ap (λ n. tree.atom_leaf (tree.named n) []) (held_back names name h)
    where
      go : (n : ℕ) → atom_or_connector names (NameLabel n) [] ≡ tree.atom_leaf (label_of names (NameLabel n)) []
      go zero = refl
      go (suc n) = refl

  pub level_back : (name : tree.Name) → Contains names name → (rule_at : ℕ → tree.Rule) (number : Link → ℕ) (pos : Pos) (ks : List ℕ)
      → level_of names rule_at (numbered names number (level (atom_leaf (tree.named name) [] pos ∷ []) no_level [] [] ks)) ≡ tree.level (alone name) tree.no_level [] [] (rules (map rule_at ks))
  level_back name h rule_at number pos ks =
      fold-roll-Level tree.Level (level_step names rule_at) _ ∙ ap (λ l. tree.level (l ∷ []) tree.no_level [] [] (rules (map rule_at ks))) (leaf_back name h)

  module _ (a : Contains names (codes "a")) (b : Contains names (codes "b")) (places : List Pos) (pos : Pos) where
    pub no_conditions : (cs : List Cond) → AllZip (IsCond all_words places names) [] cs → cs ≡ []
    no_conditions [] h = refl
    no_conditions (c ∷ cs) h = absurd h

    pub rules_back : (rs : List RuleTree) → AllZip (IsRuleOf all_words places names) (parts_of all_words places (its_tree pos)).table rs → rules_from names 0 rs ≡ its_rule ∷ []
    rules_back [] h = absurd h
    rules_back (r ∷ s ∷ rs) h = absurd h.1
    rules_back (r ∷ []) h =
        let one = h.0 in
        let head = ap (level_of names (λ n. no_such_rule)) one.head ∙ level_back (codes "a") a (λ n. no_such_rule) one.number (place_at all_words places 2) [] in
        let body = ap (level_of names (λ n. no_such_rule)) one.body ∙ level_back (codes "b") b (λ n. no_such_rule) one.number (place_at all_words places 4) [] in
        let guard = no_conditions r.guard one.guard in
        λ i. tree.rule_of (head i) (map (condition_of names) (guard i)) (body i) ∷ []

    pub top_back : (p : Plain) → IsPlainOf all_words places names (its_tree pos) p
        → top_of names p ≡ tree.level (alone (codes "a")) tree.no_level [] [] (tree.rule_and its_rule tree.no_rule)
    top_back p is =
        (λ i. level_of names (λ n. slice_index_or (rules_back p.rules is.rules i) n no_such_rule) (is.top i))
        ∙ level_back (codes "a") a (λ n. slice_index_or (its_rule ∷ []) n no_such_rule) is.number (place_at all_words places 0) (0 ∷ [])

-- the text reads as the atom beside the rule
pub short_text_reads : ShortTextReads
short_text_reads alloc names a b =
    let cut = laid_texts_are_cut its_text its_words laid in
    let tokens = cut.0 in
    let kinds : kinds_of tokens ≡ its_kinds = sym (kinds_same its_text tokens) ∙ ap (map (λ (w : Word). w.kind)) cut.2 in
    let there = third tokens Name Dot Name (Arrow ∷ Name ∷ Dot ∷ End ∷ []) kinds in
    let places : List Pos = map (λ t. t.pos) tokens in
    let made = some_plain alloc (words_of its_text tokens) places names (its_tree there.0) in
    let is : IsPlainOf all_words places names (its_tree there.0) made.0 = subst (λ v. IsPlainOf v places names (its_tree there.0) made.0) cut.2 made.1 in (
      made.0,
      record {
        tokens = tokens;
        tree = its_tree there.0;
        reads = record { cut = cut.1; is_tree = is_its_tree tokens kinds there.0 there.1 };
        in_range = subst IntegersInRange (sym cut.2) in_range;
        plain = made.1;
      },
      top_back names a b places there.0 made.0 is,
    )
