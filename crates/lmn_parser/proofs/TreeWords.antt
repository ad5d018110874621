-- The tokens of a tree are derived by the grammar.
use Rattle.std.proofs.Common.{◌≡◌, ℕ, suc, ◌+◌, List, [], ◌∷◌, ◌++◌, length, drop, slice_get, Some, refl, sym, ◌∙◌, ap, arith, subst, inl, inr, append_assoc}
use Rattle.std.proofs.lemmas.List.{length-map}
use Rattle.lmn_base.specs.declared.guard.Arith.{Arith}
use Rattle.lmn_base.specs.declared.guard.Arith.TheVariants as arith
use Rattle.lmn_base.specs.declared.guard.Cmp.{Cmp}
use Rattle.lmn_base.specs.declared.guard.Cmp.TheVariants as compare
use Rattle.lmn_parser_grammar.specs.Grammar.{Exp, Tok, Seq, Alt, Opt, Many, Within, Ref, Bracket, Round, Square, Curly, opener, closer, Part, TermPart, SumPart, ClausePart, ClausesPart, part_expression, Derives, here, both, left, right, without, with, no_more, one_more, inside, by, some_of, more_of, name, arguments, atom, membrane, tlist, term, item, list, fact, product, sum, cmp, cond, guard, body, heads, rule, clause, clauses, program}
use Rattle.lmn_parser_grammar.specs.Factored.{contexts}
use Rattle.lmn_parser_grammar.proofs.Stops.{drop_here}
use Rattle.lmn_lexer.specs.declared.token.Kind.{Kind}
use Rattle.lmn_lexer.specs.declared.token.Kind.TheVariants.{Name, Quoted, Mod, Link, Int, Context, RuleCtx, End, RBracket, Comma, Dot, Arrow, AtAt, Bar, Backslash, Equal, Less, LessEq, Greater, GreaterEq, NumEq, NumNe, Differ, Plus, Minus, Star, Slash}
use Rattle.lmn_lexer.specs.declared.token.Token.{Token}
use Rattle.lmn_parser.specs.Parsing.{kinds_of}
use Rattle.lmn_parser.specs.Syntax as tree
use Rattle.lmn_parser.specs.Trees.{At, NameAt, TimesAt, PlusAt, CmpAt, IsSum, one_product, plus, IsProduct, one_factor, times, IsFactor, is_integer, is_value, in_parentheses, IsContexts, last_context, more_contexts, IsContextArguments, no_contexts, some_contexts, IsCondition, is_called, is_compared, is_equal, is_different, IsWrittenGuard, last_condition, more_conditions, IsClauses, no_clauses, last_clause, more_clauses, IsClause, named_rule, unnamed_rule, is_process, IsWrittenRule, is_rule, IsHeads, all_taken, some_kept, IsBody, no_guard, empty_guard, guarded, IsOptList, no_list, some_list, IsList, last_item, more_items, IsItem, is_atom_item, is_membrane_item, is_context_item, is_closed, is_bracketed, is_rule_context, is_plus_link, is_group, is_equation, IsMembrane, in_braces, IsWrittenAtom, with_name, with_integer, IsArguments, no_parentheses, no_arguments, some_arguments, IsTerms, last_term, more_terms, IsTerm, is_link, is_atom, is_context, is_membrane, is_list, IsTermList, empty_list, closed_list, open_list}
use Rattle.lmn_parser.specs.TreeLaws.{TreesDerive}
use Rattle.lmn_base.proofs.Lists.{plus_nothing}

-- The kinds from p up to q are a word of the expression.
pub record Spells (ks : List Kind) (e : Exp) (p q : ℕ) : Type 0 where
  pub word : List Kind
  pub split : drop p ks ≡ word ++ drop q ks
  pub derived : Derives e word

module _ (ks : List Kind) where
  pub drop_token : (p : ℕ) (k : Kind) → slice_get ks p ≡ Some k → drop p ks ≡ k ∷ drop (p + 1) ks
  drop_token p k h = let e : suc p ≡ p + 1 = omega arith in drop_here ks p k h ∙ ap (λ n. k ∷ drop n ks) e

  join : (p m q : ℕ) (x y : List Kind) → drop p ks ≡ x ++ drop m ks → drop m ks ≡ y ++ drop q ks → drop p ks ≡ (x ++ y) ++ drop q ks
  join p m q x y a b = a ∙ ap (λ z. x ++ z) b ∙ sym (append_assoc x y (drop q ks))

  nothing : {e : Exp} (p : ℕ) → Derives e [] → Spells ks e p p
  nothing p d = record { word = []; split = refl; derived = d }

  tok : {p : ℕ} (q : ℕ) (k : Kind) → slice_get ks p ≡ Some k → q ≡ p + 1 → Spells ks (Tok k) p q
  tok {p} q k h e = record { word = k ∷ []; split = drop_token p k h ∙ ap (λ n. k ∷ drop n ks) (sym e); derived = here k }

  into : {e f : Exp} {p q : ℕ} → ((w : List Kind) → Derives e w → Derives f w) → Spells ks e p q → Spells ks f p q
  into f s = record { word = s.word; split = s.split; derived = f s.word s.derived }

  seq : {a b : Exp} {p m q : ℕ} → Spells ks a p m → Spells ks b m q → Spells ks (Seq a b) p q
  seq {a} {b} {p} {m} {q} s t = record {
    word = s.word ++ t.word;
    split = join p m q s.word t.word s.split t.split;
    derived = both a b s.word t.word (s.word ++ t.word) refl s.derived t.derived;
  }

  within : {e : Exp} {p m : ℕ} (q : ℕ) (b : Bracket) → slice_get ks p ≡ Some (opener b) → Spells ks e (p + 1) m → slice_get ks m ≡ Some (closer b) → q ≡ m + 1 → Spells ks (Within b e) p q
  within {e} {p} {m} q b o s c h = record {
    word = opener b ∷ (s.word ++ closer b ∷ []);
    split = drop_token p (opener b) o ∙ ap (λ z. opener b ∷ z) (join (p + 1) m q s.word (closer b ∷ []) s.split (drop_token m (closer b) c ∙ ap (λ n. closer b ∷ drop n ks) (sym h)));
    derived = inside b e s.word _ refl s.derived;
  }

  -- a part, a token and another part, whose word another expression derives
  over : {a b c : Exp} {p m q : ℕ} (k : Kind) → ((x y : List Kind) → Derives a x → Derives b y → Derives c (x ++ k ∷ y)) → Spells ks a p m → slice_get ks m ≡ Some k → Spells ks b (m + 1) q → Spells ks c p q
  over {a} {b} {c} {p} {m} {q} k f s h t = record {
    word = s.word ++ k ∷ t.word;
    split = join p m q s.word (k ∷ t.word) s.split (drop_token m k h ∙ ap (λ z. k ∷ z) t.split);
    derived = f s.word t.word s.derived t.derived;
  }

  -- of two alternatives
  this : {a b : Exp} {p q : ℕ} → Spells ks a p q → Spells ks (Alt a b) p q
  this {a} {b} = into (λ w d. left a b w d)

  that : {a b : Exp} {p q : ℕ} → Spells ks b p q → Spells ks (Alt a b) p q
  that {a} {b} = into (λ w d. right a b w d)

  opt : {a : Exp} {p q : ℕ} → Spells ks a p q → Spells ks (Opt a) p q
  opt {a} = into (λ w d. with a w d)

  ref : {p q : ℕ} (n : Part) → Spells ks (part_expression n) p q → Spells ks (Ref n) p q
  ref n = into (λ w d. by n w d)

-- ---- words

one : (e : Exp) (w : List Kind) → Derives e w → Derives (some_of e) w
one e w d = both e (more_of e) w [] w (sym (plus_nothing w)) d (no_more _)

more : (e : Exp) (x y : List Kind) → Derives e x → Derives (some_of e) y → Derives (some_of e) (x ++ Comma ∷ y)
more e x _ d (both _ _ u v _ s a b) =
    both e (more_of e) x _ _ refl d (one_more (Seq (Tok Comma) e) (Comma ∷ u) v _ (ap (λ z. Comma ∷ z) s) (both (Tok Comma) e (Comma ∷ []) u (Comma ∷ u) refl (here Comma) a) b)

more_last : (a : Exp) (x y : List Kind) → Derives (Many a) x → Derives a y → Derives (Many a) (x ++ y)
more_last a _ y (no_more _) d = one_more a y [] y (sym (plus_nothing y)) d (no_more a)
more_last a _ y (one_more _ u v w s du dv) d = one_more a u (v ++ y) _ (ap (λ z. z ++ y) s ∙ append_assoc u v y) du (more_last a v y dv d)

-- an operand more behind an operator
operand : (ops e : Exp) (k : Kind) → Derives ops (k ∷ []) → (x y : List Kind) → Derives (Seq e (Many (Seq ops e))) x → Derives e y → Derives (Seq e (Many (Seq ops e))) (x ++ k ∷ y)
operand ops e k o _ y (both _ _ u v w s a b) d =
    both e (Many (Seq ops e)) u (v ++ k ∷ y) _ (ap (λ z. z ++ k ∷ y) s ∙ append_assoc u v (k ∷ y)) a (more_last (Seq ops e) v (k ∷ y) b (both ops e (k ∷ []) y (k ∷ y) refl o d))

-- clauses behind a clause and its full stop
dotted : (x y : List Kind) → Derives (Ref ClausePart) x → Derives clauses y → Derives clauses (x ++ Dot ∷ y)
dotted x _ d (without _) =
    with _ _ (both (Ref ClausePart) _ x (Dot ∷ []) _ refl d (both _ (Opt (Tok Dot)) [] (Dot ∷ []) (Dot ∷ []) refl (no_more _) (with _ _ (here Dot))))
dotted x y d (with _ _ (both _ _ u v _ s c (both _ _ m o _ t dm last))) =
    with _ _ (both (Ref ClausePart) _ x (Dot ∷ y) _ refl d
    (both (Many (Seq (Tok Dot) (Ref ClausePart))) (Opt (Tok Dot)) (Dot ∷ (u ++ m)) o (Dot ∷ y)
    (ap (λ z. Dot ∷ z) (s ∙ ap (λ z. u ++ z) t ∙ sym (append_assoc u m o)))
    (one_more _ (Dot ∷ u) m _ refl (both (Tok Dot) (Ref ClausePart) (Dot ∷ []) u (Dot ∷ u) refl (here Dot) c) dm) last))

-- ---- the words of each part

abbrev Words : List Token → Exp → ℕ → ℕ → Type 0
Words ts = Spells (kinds_of ts)

-- two on is one on twice
pub next_to : (p : ℕ) → p + 2 ≡ p + 1 + 1
next_to p = omega arith

name_words : (ts : List Token) (p : ℕ) → NameAt ts p → Words ts name p (p + 1)
name_words ts p (inl h) = this (kinds_of ts) (tok (kinds_of ts) (p + 1) Name h refl)
name_words ts p (inr (inl h)) = that (kinds_of ts) (this (kinds_of ts) (tok (kinds_of ts) (p + 1) Quoted h refl))
name_words ts p (inr (inr h)) = that (kinds_of ts) (that (kinds_of ts) (tok (kinds_of ts) (p + 1) Mod h refl))

one_words : (ts : List Token) {e : Exp} {p q : ℕ} → Words ts e p q → Words ts (some_of e) p q
one_words ts {e} s = into (kinds_of ts) (λ w d. one e w d) s

more_words : (ts : List Token) {e : Exp} {p m q : ℕ} → Words ts e p m → At ts m Comma → Words ts (some_of e) (m + 1) q → Words ts (some_of e) p q
more_words ts {e} s h t = over (kinds_of ts) Comma (more e) s h t

times_words : (ts : List Token) (op : Arith) {p m q : ℕ} → Words ts product p m → TimesAt ts m op → Words ts fact (m + 1) q → Words ts product p q
times_words ts arith.Mul s h t = over (kinds_of ts) Star (operand _ fact Star (left _ _ _ (here Star))) s h t
times_words ts arith.Div s h t = over (kinds_of ts) Slash (operand _ fact Slash (right _ _ _ (left _ _ _ (here Slash)))) s h t
times_words ts arith.Mod s h t = over (kinds_of ts) Mod (operand _ fact Mod (right _ _ _ (right _ _ _ (here Mod)))) s h t
times_words ts arith.Add s h t = absurd h
times_words ts arith.Sub s h t = absurd h

plus_words : (ts : List Token) (op : Arith) {p m q : ℕ} → Words ts sum p m → PlusAt ts m op → Words ts product (m + 1) q → Words ts sum p q
plus_words ts arith.Add s h t = over (kinds_of ts) Plus (operand _ product Plus (left _ _ _ (here Plus))) s h t
plus_words ts arith.Sub s h t = over (kinds_of ts) Minus (operand _ product Minus (right _ _ _ (here Minus))) s h t
plus_words ts arith.Mul s h t = absurd h
plus_words ts arith.Div s h t = absurd h
plus_words ts arith.Mod s h t = absurd h

cmp_words : (ts : List Token) (op : Cmp) (p : ℕ) → CmpAt ts p op → Words ts cmp p (p + 1)
cmp_words ts compare.Lt p h = let k = kinds_of ts in this k (tok k (p + 1) Less h refl)
cmp_words ts compare.Le p h = let k = kinds_of ts in that k (this k (tok k (p + 1) LessEq h refl))
cmp_words ts compare.Gt p h = let k = kinds_of ts in that k (that k (this k (tok k (p + 1) Greater h refl)))
cmp_words ts compare.Ge p h = let k = kinds_of ts in that k (that k (that k (this k (tok k (p + 1) GreaterEq h refl))))
cmp_words ts compare.Eq p h = let k = kinds_of ts in that k (that k (that k (that k (this k (tok k (p + 1) NumEq h refl)))))
cmp_words ts compare.Ne p h = let k = kinds_of ts in that k (that k (that k (that k (that k (tok k (p + 1) NumNe h refl)))))

mutual
  sum_words : (ts : List Token) {e : tree.Expr} {p q : ℕ} → IsSum ts e p q → Words ts sum p q
  sum_words ts (one_product d) = seq (kinds_of ts) (product_words ts d) (nothing (kinds_of ts) _ (no_more _))
  sum_words ts (plus op a h b) = plus_words ts op (sum_words ts a) h (product_words ts b)

  product_words : (ts : List Token) {e : tree.Expr} {p q : ℕ} → IsProduct ts e p q → Words ts product p q
  product_words ts (one_factor d) = seq (kinds_of ts) (factor_words ts d) (nothing (kinds_of ts) _ (no_more _))
  product_words ts (times op a h b) = times_words ts op (product_words ts a) h (factor_words ts b)

  factor_words : (ts : List Token) {e : tree.Expr} {p q : ℕ} → IsFactor ts e p q → Words ts fact p q
  factor_words ts (is_integer h) = this (kinds_of ts) (tok (kinds_of ts) _ Int h refl)
  factor_words ts (is_value h) = that (kinds_of ts) (this (kinds_of ts) (tok (kinds_of ts) _ Context h refl))
  factor_words ts (in_parentheses o d c) = that (kinds_of ts) (that (kinds_of ts) (within (kinds_of ts) _ Round o (ref (kinds_of ts) SumPart (sum_words ts d)) c refl))

contexts_words : (ts : List Token) {xs : List ℕ} {p q : ℕ} → IsContexts ts xs p q → Words ts (some_of (Tok Context)) p q
contexts_words ts (last_context h) = one_words ts (tok (kinds_of ts) _ Context h refl)
contexts_words ts (more_contexts {p = p} {q = q} h c d) =
    let W : ℕ → Type 0 = λ n. Words ts (some_of (Tok Context)) n q in
    more_words ts (tok (kinds_of ts) _ Context h refl) c (subst W (next_to p) (contexts_words ts d))

condition_words : (ts : List Token) {x : tree.WrittenCondition} {p q : ℕ} → IsCondition ts x p q → Words ts cond p q
condition_words ts (is_called h a) = let k = kinds_of ts in this k (seq k (name_words ts _ h) (arguments_word a))
  where
    arguments_word : {xs : List ℕ} {p q : ℕ} → IsContextArguments ts xs p q → Words ts (Opt contexts) p q
    arguments_word no_contexts = nothing (kinds_of ts) _ (without _)
    arguments_word (some_contexts o d c) = opt (kinds_of ts) (within (kinds_of ts) _ Round o (contexts_words ts d) c refl)
condition_words ts (is_compared op a h b) = let k = kinds_of ts in that k (this k (seq k (ref k SumPart (sum_words ts a)) (seq k (cmp_words ts op _ h) (ref k SumPart (sum_words ts b)))))
condition_words ts (is_equal {p = p} h e b) =
    let k = kinds_of ts in that k (that k (this k (seq k (tok k _ Context h refl) (seq k (tok k _ Equal e (next_to p)) (ref k SumPart (sum_words ts b))))))
condition_words ts (is_different {p = p} h e c) =
    let k = kinds_of ts in that k (that k (that k (seq k (tok k _ Context h refl) (seq k (tok k (p + 2) Differ e (next_to p)) (tok k _ Context c (omega arith))))))

-- the tokens of a guard are words of the grammar
pub guard_words : (ts : List Token) {xs : List tree.WrittenCondition} {p q : ℕ} → IsWrittenGuard ts xs p q → Words ts guard p q
guard_words ts (last_condition d) = one_words ts (condition_words ts d)
guard_words ts (more_conditions d h e) = more_words ts (condition_words ts d) h (guard_words ts e)

mutual
  clauses_words : (ts : List Token) {x : tree.Clauses} {p q : ℕ} → IsClauses ts x p q → Words ts clauses p q
  clauses_words ts no_clauses = nothing (kinds_of ts) _ (without _)
  clauses_words ts (last_clause d) = let k = kinds_of ts in
      opt k (seq k (ref k ClausePart (clause_words ts d)) (seq k (nothing k _ (no_more _)) (nothing k _ (without _))))
  clauses_words ts (more_clauses d h e) = let k = kinds_of ts in over k Dot dotted (ref k ClausePart (clause_words ts d)) h (clauses_words ts e)

  clause_words : (ts : List Token) {x : tree.Clause} {p q : ℕ} → IsClause ts x p q → Words ts clause p q
  clause_words ts (named_rule {p = p} h a d) = let k = kinds_of ts in
      this k (seq k (opt k (seq k (name_words ts _ h) (tok k _ AtAt a (next_to p)))) (rule_words ts d))
  clause_words ts (unnamed_rule d) = let k = kinds_of ts in this k (seq k (nothing k _ (without _)) (rule_words ts d))
  clause_words ts (is_process d) = that (kinds_of ts) (list_words ts d)

  rule_words : (ts : List Token) {s : ℕ} {x : tree.Clause} {p q : ℕ} → IsWrittenRule ts s x p q → Words ts rule p q
  rule_words ts (is_rule s d h e) = let k = kinds_of ts in seq k (heads_words ts d) (seq k (tok k _ Arrow h refl) (body_words ts e))

  heads_words : (ts : List Token) {x y : tree.Items} {p q : ℕ} → IsHeads ts x y p q → Words ts heads p q
  heads_words ts (all_taken d) = let k = kinds_of ts in seq k (opt_list_words ts d) (nothing k _ (without _))
  heads_words ts (some_kept d h e) = let k = kinds_of ts in seq k (opt_list_words ts d) (opt k (seq k (tok k _ Backslash h refl) (opt_list_words ts e)))

  body_words : (ts : List Token) {g : List tree.WrittenCondition} {x : tree.Items} {p q : ℕ} → IsBody ts g x p q → Words ts body p q
  body_words ts (no_guard d) = let k = kinds_of ts in seq k (nothing k _ (without _)) (opt_list_words ts d)
  body_words ts (empty_guard h d) = let k = kinds_of ts in seq k (opt k (seq k (nothing k _ (without _)) (tok k _ Bar h refl))) (opt_list_words ts d)
  body_words ts (guarded g h d) = let k = kinds_of ts in seq k (opt k (seq k (opt k (guard_words ts g)) (tok k _ Bar h refl))) (opt_list_words ts d)

  pub opt_list_words : (ts : List Token) {x : tree.Items} {p q : ℕ} → IsOptList ts x p q → Words ts (Opt list) p q
  opt_list_words ts no_list = nothing (kinds_of ts) _ (without _)
  opt_list_words ts (some_list d) = opt (kinds_of ts) (list_words ts d)

  list_words : (ts : List Token) {x : tree.Items} {p q : ℕ} → IsList ts x p q → Words ts list p q
  list_words ts (last_item d) = one_words ts (item_words ts d)
  list_words ts (more_items d h e) = more_words ts (item_words ts d) h (list_words ts e)

  item_words : (ts : List Token) {x : tree.Item} {p q : ℕ} → IsItem ts x p q → Words ts item p q
  item_words ts (is_atom_item d) = this (kinds_of ts) (atom_words ts d)
  item_words ts (is_membrane_item d) = let k = kinds_of ts in that k (this k (membrane_words ts d))
  item_words ts (is_context_item h) = let k = kinds_of ts in that k (that k (this k (tok k _ Context h refl)))
  item_words ts (is_closed {p = p} h o c) = let k = kinds_of ts in
      that k (that k (that k (this k (seq k (tok k _ Context h refl) (within k (p + 3) Square o (nothing k _ (without _)) (subst (λ n. At ts n RBracket) (next_to p) c) (omega arith))))))
  item_words ts (is_bracketed {p = p} h o d c) = let k = kinds_of ts in
      that k (that k (that k (this k (seq k (tok k _ Context h refl) (within k (p + 4) Square o (opt k (tok k (p + 3) Link (subst (λ n. At ts n Link) (next_to p) d) (omega arith))) c (omega arith))))))
  item_words ts (is_rule_context h) = let k = kinds_of ts in that k (that k (that k (that k (this k (tok k _ RuleCtx h refl)))))
  item_words ts (is_plus_link {p = p} h d) = let k = kinds_of ts in that k (that k (that k (that k (that k (this k (seq k (tok k _ Plus h refl) (tok k _ Link d (next_to p))))))))
  item_words ts (is_group o d c) = let k = kinds_of ts in that k (that k (that k (that k (that k (that k (this k (within k _ Round o (ref k ClausePart (clause_words ts d)) c refl)))))))
  item_words ts (is_equation a h b) = let k = kinds_of ts in
      that k (that k (that k (that k (that k (that k (that k (seq k (ref k TermPart (term_words ts a)) (seq k (tok k _ Equal h refl) (ref k TermPart (term_words ts b))))))))))

  membrane_words : (ts : List Token) {x : tree.Clauses} {p q : ℕ} → IsMembrane ts x p q → Words ts membrane p q
  membrane_words ts (in_braces o d c) = let k = kinds_of ts in within k _ Curly o (ref k ClausesPart (clauses_words ts d)) c refl

  atom_words : (ts : List Token) {n : ℕ} {x : tree.Terms} {p q : ℕ} → IsWrittenAtom ts n x p q → Words ts atom p q
  atom_words ts (with_name h d) = let k = kinds_of ts in seq k (this k (name_words ts _ h)) (arguments_words ts d)
  atom_words ts (with_integer h d) = let k = kinds_of ts in seq k (that k (tok k _ Int h refl)) (arguments_words ts d)

  arguments_words : (ts : List Token) {x : tree.Terms} {p q : ℕ} → IsArguments ts x p q → Words ts (Opt arguments) p q
  arguments_words ts no_parentheses = nothing (kinds_of ts) _ (without _)
  arguments_words ts (no_arguments {p = p} o c) = let k = kinds_of ts in opt k (within k _ Round o (nothing k _ (without _)) c (next_to p))
  arguments_words ts (some_arguments o d c) = let k = kinds_of ts in opt k (within k _ Round o (opt k (terms_words ts d)) c refl)

  terms_words : (ts : List Token) {x : tree.Terms} {p q : ℕ} → IsTerms ts x p q → Words ts (some_of (Ref TermPart)) p q
  terms_words ts (last_term d) = one_words ts (ref (kinds_of ts) TermPart (term_words ts d))
  terms_words ts (more_terms d h e) = more_words ts (ref (kinds_of ts) TermPart (term_words ts d)) h (terms_words ts e)

  pub term_words : (ts : List Token) {x : tree.Term} {p q : ℕ} → IsTerm ts x p q → Words ts term p q
  term_words ts (is_link h) = this (kinds_of ts) (tok (kinds_of ts) _ Link h refl)
  term_words ts (is_atom d) = let k = kinds_of ts in that k (this k (atom_words ts d))
  term_words ts (is_context h) = let k = kinds_of ts in that k (that k (this k (tok k _ Context h refl)))
  term_words ts (is_membrane d) = let k = kinds_of ts in that k (that k (that k (this k (membrane_words ts d))))
  term_words ts (is_list d) = let k = kinds_of ts in that k (that k (that k (that k (term_list_words ts d))))

  term_list_words : (ts : List Token) {x : tree.Term} {p q : ℕ} → IsTermList ts x p q → Words ts tlist p q
  term_list_words ts (empty_list {p = p} o c) = let k = kinds_of ts in within k _ Square o (nothing k _ (without _)) c (next_to p)
  term_list_words ts (closed_list o d c) = let k = kinds_of ts in within k _ Square o (opt k (seq k (terms_words ts d) (nothing k _ (without _)))) c refl
  term_list_words ts (open_list o d h e c) = let k = kinds_of ts in
      within k _ Square o (opt k (seq k (terms_words ts d) (opt k (seq k (tok k _ Bar h refl) (ref k TermPart (term_words ts e)))))) c refl

-- behind all nothing is left
pub drop_all : (ks : List Kind) → drop (length ks) ks ≡ []
drop_all [] = refl
drop_all (x ∷ ks) = drop_all ks

-- tokens that are a tree are a program of the grammar
pub trees_derive : TreesDerive
trees_derive ts x (q, d, h, e) = go (seq k (ref k ClausesPart (clauses_words ts d)) (tok k _ End h refl))
  where
    k : List Kind
    k = kinds_of ts

    go : Words ts program 0 (q + 1) → Derives program k
    go s = let end : drop (q + 1) k ≡ [] = ap (λ n. drop n k) (e ∙ sym (length-map ts (λ t. t.kind))) ∙ drop_all k in
        subst (Derives program) (sym (s.split ∙ ap (λ z. s.word ++ z) end ∙ plus_nothing s.word)) s.derived
