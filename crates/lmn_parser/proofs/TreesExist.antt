-- Tokens that the grammar derives are a tree.
use Rattle.std.proofs.Common.{◌≡◌, ℕ, suc, ◌+◌, List, [], ◌∷◌, ◌++◌, length, drop, slice_get, option_map, Option, Some, None, refl, sym, ◌∙◌, ap, arith, subst, ◌⊎◌, inl, inr, append_assoc, length-append}
use Rattle.std.proofs.lemmas.List.{length-map}
use Rattle.std.proofs.lemmas.Option.{slice_get-map}
use Rattle.lmn_base.specs.declared.guard.Arith.TheVariants as arith
use Rattle.lmn_base.specs.declared.guard.Cmp.{Cmp}
use Rattle.lmn_base.specs.declared.guard.Cmp.TheVariants as compare
use Rattle.lmn_base.specs.declared.refusal.Pos.{Pos}
use Rattle.lmn_parser_grammar.specs.Grammar as grammar
use Rattle.lmn_parser_grammar.specs.Grammar.{Exp, Tok, Seq, Alt, Opt, Many, Within, Ref, opener, closer, Part, TermPart, SumPart, ClausePart, ClausesPart, part_expression, Derives, here, both, left, right, without, with, no_more, one_more, inside, by, some_of, name}
use Rattle.lmn_parser_grammar.specs.Factored.{contexts}
use Rattle.lmn_parser_grammar.proofs.Spans.{drop_front, front_get}
use Rattle.lmn_lexer.specs.declared.token.Kind.{Kind}
use Rattle.lmn_lexer.specs.declared.token.Kind.TheVariants.{Mod, Link, Context, RParen, LBracket, RBracket, Comma, Dot, Arrow, AtAt, Bar, Equal, Differ, Plus, Minus, Star, Slash}
use Rattle.lmn_lexer.specs.declared.token.Token.{Token}
use Rattle.lmn_parser.specs.Parsing.{kinds_of}
use Rattle.lmn_parser.specs.Syntax.{Expr, integer, value, WrittenCondition, called, compared, equal, different, Term, link, atom, list, list_onto, context, membrane, Terms, no_term, term_and, Item, atom_item, membrane_item, context_item, closed_item, bracketed, rule_context, plus_link, group, equation, Items, no_item, item_and, Clause, process, rule, Clauses, no_clause, clause_and}
use Rattle.lmn_parser.specs.Trees.{At, NameAt, StandsAt, CmpAt, IsSum, one_product, plus, IsProduct, one_factor, times, IsFactor, is_integer, is_value, in_parentheses, IsContexts, last_context, more_contexts, IsContextArguments, no_contexts, some_contexts, IsCondition, is_called, is_compared, is_equal, is_different, IsWrittenGuard, last_condition, more_conditions, IsClauses, no_clauses, last_clause, more_clauses, IsClause, named_rule, unnamed_rule, is_process, IsWrittenRule, is_rule, IsHeads, all_taken, some_kept, IsBody, no_guard, empty_guard, guarded, IsOptList, no_list, some_list, IsList, last_item, more_items, IsItem, is_atom_item, is_membrane_item, is_context_item, is_closed, is_bracketed, is_rule_context, is_plus_link, is_group, is_equation, IsMembrane, in_braces, IsWrittenAtom, with_name, with_integer, IsArguments, no_parentheses, no_arguments, some_arguments, IsTerms, last_term, more_terms, IsTerm, is_link, is_atom, is_context, is_membrane, is_list, IsTermList, empty_list, closed_list, open_list, IsProgram}
use Rattle.lmn_parser.specs.TreeLaws.{DerivedIsTree}
use Rattle.lmn_parser.proofs.TreeTokens.{list_token}
use Rattle.lmn_base.proofs.Lists.{plus_nothing}

-- ---- what stands between two places, by the expression

data Chain (P : ℕ → ℕ → Type 0) : ℕ → ℕ → Type 0 where
  ended : {p : ℕ} → Chain P p p
  linked : {p m q : ℕ} → P p m → Chain P m q → Chain P p q

-- some part stands there
abbrev SomePart : List Token → Part → ℕ → ℕ → Type 0
SomePart ts TermPart p q = (t : Term) × IsTerm ts t p q
SomePart ts SumPart p q = (e : Expr) × IsSum ts e p q
SomePart ts ClausePart p q = (c : Clause) × IsClause ts c p q
SomePart ts ClausesPart p q = (cs : Clauses) × IsClauses ts cs p q

abbrev Parsed : List Token → Exp → ℕ → ℕ → Type 0
Parsed ts (Tok k) p q = At ts p k × (q ≡ p + 1)
Parsed ts (Seq a b) p q = (m : ℕ) × Parsed ts a p m × Parsed ts b m q
Parsed ts (Alt a b) p q = Parsed ts a p q ⊎ Parsed ts b p q
Parsed ts (Opt a) p q = (q ≡ p) ⊎ Parsed ts a p q
Parsed ts (Many a) p q = Chain (Parsed ts a) p q
Parsed ts (Within b a) p q = (m : ℕ) × At ts p (opener b) × Parsed ts a (p + 1) m × At ts m (closer b) × (q ≡ m + 1)
Parsed ts (Ref n) p q = SomePart ts n p q

-- ---- parts are made

-- a relation that holds up to q holds up to what q is
moved : {A : Type 0} (R : A → ℕ → Type 0) {a : A} {q r : ℕ} → q ≡ r → R a r → R a q
moved R {a} e d = subst (R a) (sym e) d

name_made : (ts : List Token) (p q : ℕ) → Parsed ts name p q → NameAt ts p × (q ≡ p + 1)
name_made ts p q (inl d) = (inl d.0, d.1)
name_made ts p q (inr (inl d)) = (inr (inl d.0), d.1)
name_made ts p q (inr (inr d)) = (inr (inr d.0), d.1)

-- terms

terms_made : (ts : List Token) {t : Term} {p m q : ℕ} → Chain (Parsed ts (Seq (Tok Comma) (Ref TermPart))) m q → IsTerm ts t p m → (xs : Terms) × IsTerms ts xs p q
terms_made ts {t} ended d = (term_and t no_term, last_term d)
terms_made ts {t} (linked {q = q} (n, c, u) s) d =
    let x = terms_made ts s u.1 in (term_and t x.0, more_terms d c.0 (subst (λ i. IsTerms ts x.0 i q) c.1 x.1))

some_terms_made : (ts : List Token) (p q : ℕ) → Parsed ts (some_of (Ref TermPart)) p q → (xs : Terms) × IsTerms ts xs p q
some_terms_made ts p q (m, t, s) = terms_made ts s t.1

arguments_made : (ts : List Token) (p q : ℕ) → Parsed ts (Opt grammar.arguments) p q → (xs : Terms) × IsArguments ts xs p q
arguments_made ts p q (inl e) = (no_term, moved (λ x n. IsArguments ts x p n) e no_parentheses)
arguments_made ts p q (inr (m, o, inl e, c, h)) =
    let c' = subst (λ n. At ts n RParen) e c in
    let two : q ≡ p + 2 = h ∙ ap (λ n. n + 1) e ∙ omega arith in (no_term, moved (λ x n. IsArguments ts x p n) two (no_arguments o c'))
arguments_made ts p q (inr (m, o, inr d, c, h)) = let x = some_terms_made ts (p + 1) m d in (x.0, moved (λ y n. IsArguments ts y p n) h (some_arguments o x.1 c))

atom_made : (ts : List Token) (p q : ℕ) → Parsed ts grammar.atom p q → (xs : Terms) × IsWrittenAtom ts p xs p q
atom_made ts p q (m, inl n, d) =
    let i = name_made ts p m n in
    let x = arguments_made ts m q d in (x.0, with_name i.0 (subst (λ n. IsArguments ts x.0 n q) i.1 x.1))
atom_made ts p q (m, inr n, d) = let x = arguments_made ts m q d in (x.0, with_integer n.0 (subst (λ i. IsArguments ts x.0 i q) n.1 x.1))

membrane_made : (ts : List Token) (p q : ℕ) → Parsed ts grammar.membrane p q → (cs : Clauses) × IsMembrane ts cs p q
membrane_made ts p q (m, o, d, c, h) = (d.0, moved (λ y n. IsMembrane ts y p n) h (in_braces o d.1 c))

term_list_made : (ts : List Token) (p q : ℕ) → Parsed ts grammar.tlist p q → (t : Term) × IsTermList ts t p q
term_list_made ts p q (m, o, inl e, c, h) =
    let c' = subst (λ n. At ts n RBracket) e c in
    let two : q ≡ p + 2 = h ∙ ap (λ n. n + 1) e ∙ omega arith in (list no_term, moved (λ x n. IsTermList ts x p n) two (empty_list o c'))
term_list_made ts p q (m, o, inr (n, d, inl e), c, h) =
    let x = some_terms_made ts (p + 1) n d in (list x.0, moved (λ y n. IsTermList ts y p n) h (closed_list o (moved (λ y n. IsTerms ts y (p + 1) n) e x.1) c))
term_list_made ts p q (m, o, inr (n, d, inr (i, b, t)), c, h) =
    let x = some_terms_made ts (p + 1) n d in (list_onto x.0 t.0, moved (λ y n. IsTermList ts y p n) h (open_list o x.1 b.0 (subst (λ n. IsTerm ts t.0 n m) b.1 t.1) c))

term_made : (ts : List Token) (p q : ℕ) → Parsed ts grammar.term p q → SomePart ts TermPart p q
term_made ts p q (inl h) = (link p, moved (λ y n. IsTerm ts y p n) h.1 (is_link h.0))
term_made ts p q (inr (inl d)) = let x = atom_made ts p q d in (atom p x.0, is_atom x.1)
term_made ts p q (inr (inr (inl h))) = (context p, moved (λ y n. IsTerm ts y p n) h.1 (is_context h.0))
term_made ts p q (inr (inr (inr (inl d)))) = let x = membrane_made ts p q d in (membrane x.0, is_membrane x.1)
term_made ts p q (inr (inr (inr (inr d)))) = let x = term_list_made ts p q d in (x.0, is_list x.1)

-- guards

factor_made : (ts : List Token) (p q : ℕ) → Parsed ts grammar.fact p q → (e : Expr) × IsFactor ts e p q
factor_made ts p q (inl h) = (integer p, moved (λ y n. IsFactor ts y p n) h.1 (is_integer h.0))
factor_made ts p q (inr (inl h)) = (value p, moved (λ y n. IsFactor ts y p n) h.1 (is_value h.0))
factor_made ts p q (inr (inr (m, o, d, c, h))) = (d.0, moved (λ y n. IsFactor ts y p n) h (in_parentheses o d.1 c))

factors_made : (ts : List Token) {p m q : ℕ} {e : Expr} → Chain (Parsed ts (Seq (Alt (Tok Star) (Alt (Tok Slash) (Tok Mod))) grammar.fact)) m q → IsProduct ts e p m → (f : Expr) × IsProduct ts f p q
factors_made ts {e} ended d = (e, d)
factors_made ts (linked {m = r} (n, inl h, x) s) d = let y = factor_made ts n r x in factors_made ts s (times arith.Mul d h.0 (subst (λ i. IsFactor ts y.0 i r) h.1 y.1))
factors_made ts (linked {m = r} (n, inr (inl h), x) s) d = let y = factor_made ts n r x in factors_made ts s (times arith.Div d h.0 (subst (λ i. IsFactor ts y.0 i r) h.1 y.1))
factors_made ts (linked {m = r} (n, inr (inr h), x) s) d = let y = factor_made ts n r x in factors_made ts s (times arith.Mod d h.0 (subst (λ i. IsFactor ts y.0 i r) h.1 y.1))

product_made : (ts : List Token) (p q : ℕ) → Parsed ts grammar.product p q → (e : Expr) × IsProduct ts e p q
product_made ts p q (m, d, s) = factors_made ts s (one_factor (factor_made ts p m d).1)

products_made : (ts : List Token) {p m q : ℕ} {e : Expr} → Chain (Parsed ts (Seq (Alt (Tok Plus) (Tok Minus)) grammar.product)) m q → IsSum ts e p m → (f : Expr) × IsSum ts f p q
products_made ts {e} ended d = (e, d)
products_made ts (linked {m = r} (n, inl h, x) s) d = let y = product_made ts n r x in products_made ts s (plus arith.Add d h.0 (subst (λ i. IsProduct ts y.0 i r) h.1 y.1))
products_made ts (linked {m = r} (n, inr h, x) s) d = let y = product_made ts n r x in products_made ts s (plus arith.Sub d h.0 (subst (λ i. IsProduct ts y.0 i r) h.1 y.1))

sum_made : (ts : List Token) (p q : ℕ) → Parsed ts grammar.sum p q → SomePart ts SumPart p q
sum_made ts p q (m, d, s) = products_made ts s (one_product (product_made ts p m d).1)

contexts_made : (ts : List Token) {p m q : ℕ} → Chain (Parsed ts (Seq (Tok Comma) (Tok Context))) m q → At ts p Context → m ≡ p + 1 → (xs : List ℕ) × IsContexts ts xs p q
contexts_made ts {p = p} ended h e = (p ∷ [], moved (λ y n. IsContexts ts y p n) e (last_context h))
contexts_made ts {p = p} (linked {q = q} (n, c, d) s) h e =
    let x = contexts_made ts s d.0 d.1 in
    let two : n ≡ p + 2 = c.1 ∙ ap (λ i. i + 1) e ∙ omega arith in
    (p ∷ x.0, more_contexts h (subst (λ i. At ts i Comma) e c.0) (subst (λ i. IsContexts ts x.0 i q) two x.1))

context_arguments_made : (ts : List Token) (p q : ℕ) → Parsed ts (Opt contexts) p q → (xs : List ℕ) × IsContextArguments ts xs p q
context_arguments_made ts p q (inl e) = ([], moved (λ y n. IsContextArguments ts y p n) e no_contexts)
context_arguments_made ts p q (inr (m, o, (n, d, s), c, h)) = let x = contexts_made ts s d.0 d.1 in (x.0, moved (λ y n. IsContextArguments ts y p n) h (some_contexts o x.1 c))

cmp_made : (ts : List Token) (p q : ℕ) → Parsed ts grammar.cmp p q → (op : Cmp) × CmpAt ts p op × (q ≡ p + 1)
cmp_made ts p q (inl d) = (compare.Lt, d.0, d.1)
cmp_made ts p q (inr (inl d)) = (compare.Le, d.0, d.1)
cmp_made ts p q (inr (inr (inl d))) = (compare.Gt, d.0, d.1)
cmp_made ts p q (inr (inr (inr (inl d)))) = (compare.Ge, d.0, d.1)
cmp_made ts p q (inr (inr (inr (inr (inl d))))) = (compare.Eq, d.0, d.1)
cmp_made ts p q (inr (inr (inr (inr (inr d))))) = (compare.Ne, d.0, d.1)

condition_made : (ts : List Token) (p q : ℕ) → Parsed ts grammar.cond p q → (x : WrittenCondition) × IsCondition ts x p q
condition_made ts p q (inl (m, n, d)) =
    let i = name_made ts p m n in
    let x = context_arguments_made ts m q d in (called p x.0, is_called i.0 (subst (λ i. IsContextArguments ts x.0 i q) i.1 x.1))
condition_made ts p q (inr (inl (m, a, (n, o, b)))) =
    let c = cmp_made ts m n o in (compared c.0 a.0 b.0 m, is_compared c.0 a.1 c.1 (subst (λ i. IsSum ts b.0 i q) c.2 b.1))
condition_made ts p q (inr (inr (inl (m, h, (n, e, b))))) =
    let two : n ≡ p + 2 = e.1 ∙ ap (λ i. i + 1) h.1 ∙ omega arith in
    (equal p b.0 (p + 1), is_equal h.0 (subst (λ i. At ts i Equal) h.1 e.0) (subst (λ i. IsSum ts b.0 i q) two b.1))
condition_made ts p q (inr (inr (inr (m, h, (n, e, g))))) =
    let two : n ≡ p + 2 = e.1 ∙ ap (λ i. i + 1) h.1 ∙ omega arith in
    let three : q ≡ p + 3 = g.1 ∙ ap (λ i. i + 1) two ∙ omega arith in
    (different p (p + 2) (p + 1), moved (λ y i. IsCondition ts y p i) three (is_different h.0 (subst (λ i. At ts i Differ) h.1 e.0) (subst (λ i. At ts i Context) two g.0)))

conditions_made : (ts : List Token) {m q p : ℕ} {c : WrittenCondition} → Chain (Parsed ts (Seq (Tok Comma) grammar.cond)) m q → IsCondition ts c p m → (cs : List WrittenCondition) × IsWrittenGuard ts cs p q
conditions_made ts {c} ended d = (c ∷ [], last_condition d)
conditions_made ts {c} (linked {m = r} {q = q} (n, h, x) s) d =
    let y = conditions_made ts s (condition_made ts n r x).1 in (c ∷ y.0, more_conditions d h.0 (subst (λ i. IsWrittenGuard ts y.0 i q) h.1 y.1))

guard_made : (ts : List Token) (p q : ℕ) → Parsed ts grammar.guard p q → (cs : List WrittenCondition) × IsWrittenGuard ts cs p q
guard_made ts p q (m, d, s) = conditions_made ts s (condition_made ts p m d).1

-- items

item_made : (ts : List Token) (p q : ℕ) → Parsed ts grammar.item p q → (x : Item) × IsItem ts x p q
item_made ts p q (inl d) = let x = atom_made ts p q d in (atom_item p x.0, is_atom_item x.1)
item_made ts p q (inr (inl d)) = let x = membrane_made ts p q d in (membrane_item x.0, is_membrane_item x.1)
item_made ts p q (inr (inr (inl h))) = (context_item p, moved (λ y n. IsItem ts y p n) h.1 (is_context_item h.0))
item_made ts p q (inr (inr (inr (inl (m, h, (n, o, inl l, c, e)))))) =
    let two : n ≡ p + 2 = l ∙ ap (λ i. i + 1) h.1 ∙ omega arith in
    let three : q ≡ p + 3 = e ∙ ap (λ i. i + 1) two ∙ omega arith in
    (closed_item p, moved (λ y i. IsItem ts y p i) three (is_closed h.0 (subst (λ i. At ts i LBracket) h.1 o) (subst (λ i. At ts i RBracket) two c)))
item_made ts p q (inr (inr (inr (inl (m, h, (n, o, inr l, c, e)))))) =
    let two : m + 1 ≡ p + 2 = ap (λ i. i + 1) h.1 ∙ omega arith in
    let three : n ≡ p + 3 = l.1 ∙ ap (λ i. i + 1) two ∙ omega arith in
    let four : q ≡ p + 4 = e ∙ ap (λ i. i + 1) three ∙ omega arith in (
      bracketed p (p + 2),
      moved (λ y i. IsItem ts y p i) four
          (is_bracketed h.0 (subst (λ i. At ts i LBracket) h.1 o) (subst (λ i. At ts i Link) two l.0) (subst (λ i. At ts i RBracket) three c)),
    )
item_made ts p q (inr (inr (inr (inr (inl h))))) = (rule_context p, moved (λ y n. IsItem ts y p n) h.1 (is_rule_context h.0))
item_made ts p q (inr (inr (inr (inr (inr (inl (m, h, l))))))) =
    let two : q ≡ p + 2 = l.1 ∙ ap (λ i. i + 1) h.1 ∙ omega arith in (plus_link p, moved (λ y n. IsItem ts y p n) two (is_plus_link h.0 (subst (λ i. At ts i Link) h.1 l.0)))
item_made ts p q (inr (inr (inr (inr (inr (inr (inl (m, o, d, c, h)))))))) = (group d.0, moved (λ y n. IsItem ts y p n) h (is_group o d.1 c))
item_made ts p q (inr (inr (inr (inr (inr (inr (inr (m, a, (n, h, b))))))))) = (equation a.0 m b.0, is_equation a.1 h.0 (subst (λ i. IsTerm ts b.0 i q) h.1 b.1))

items_made : (ts : List Token) {m q p : ℕ} {x : Item} → Chain (Parsed ts (Seq (Tok Comma) grammar.item)) m q → IsItem ts x p m → (xs : Items) × IsList ts xs p q
items_made ts {x} ended d = (item_and x no_item, last_item d)
items_made ts {x} (linked {m = r} {q = q} (n, c, u) s) d =
    let y = items_made ts s (item_made ts n r u).1 in (item_and x y.0, more_items d c.0 (subst (λ i. IsList ts y.0 i q) c.1 y.1))

list_made : (ts : List Token) (p q : ℕ) → Parsed ts grammar.list p q → (xs : Items) × IsList ts xs p q
list_made ts p q (m, d, s) = items_made ts s (item_made ts p m d).1

opt_list_made : (ts : List Token) (p q : ℕ) → Parsed ts (Opt grammar.list) p q → (xs : Items) × IsOptList ts xs p q
opt_list_made ts p q (inl e) = (no_item, moved (λ y n. IsOptList ts y p n) e no_list)
opt_list_made ts p q (inr d) = let x = list_made ts p q d in (x.0, some_list x.1)

-- rules and clauses

heads_made : (ts : List Token) (p q : ℕ) → Parsed ts grammar.heads p q → (xs : Items) × (ys : Items) × IsHeads ts xs ys p q
heads_made ts p q (m, d, inl e) = let x = opt_list_made ts p m d in (no_item, x.0, moved (λ y n. IsHeads ts no_item y p n) e (all_taken x.1))
heads_made ts p q (m, d, inr (n, h, b)) =
    let x = opt_list_made ts p m d in
    let y = opt_list_made ts n q b in (x.0, y.0, some_kept x.1 h.0 (subst (λ i. IsOptList ts y.0 i q) h.1 y.1))

body_made : (ts : List Token) (p q : ℕ) → Parsed ts grammar.body p q → (g : List WrittenCondition) × (xs : Items) × IsBody ts g xs p q
body_made ts p q (m, inl e, d) = let x = opt_list_made ts m q d in ([], x.0, no_guard (subst (λ i. IsOptList ts x.0 i q) e x.1))
body_made ts p q (m, inr (n, inl e, h), d) =
    let x = opt_list_made ts m q d in
    let next : m ≡ p + 1 = h.1 ∙ ap (λ i. i + 1) e in ([], x.0, empty_guard (subst (λ i. At ts i Bar) e h.0) (subst (λ i. IsOptList ts x.0 i q) next x.1))
body_made ts p q (m, inr (n, inr g, h), d) =
    let c = guard_made ts p n g in
    let x = opt_list_made ts m q d in (c.0, x.0, guarded c.1 h.0 (subst (λ i. IsOptList ts x.0 i q) h.1 x.1))

-- a token stands somewhere
pub some_place : (ts : List Token) (p : ℕ) {k : Kind} → At ts p k → (x : Pos) × StandsAt ts p x
some_place ts p {k} h = go (slice_get ts p) (sym (slice_get-map (λ t. t.kind) ts p) ∙ h)
  where
    go : (o : Option Token) → option_map (λ t. t.kind) o ≡ Some k → (x : Pos) × (option_map (λ t. t.pos) o ≡ Some x)
    go None e = cc
    go (Some t) e = (t.pos, refl)

name_place : (ts : List Token) (p : ℕ) → NameAt ts p → (x : Pos) × StandsAt ts p x
name_place ts p (inl h) = some_place ts p h
name_place ts p (inr (inl h)) = some_place ts p h
name_place ts p (inr (inr h)) = some_place ts p h

heads_place : (ts : List Token) {xs ys : Items} {p m : ℕ} → IsHeads ts xs ys p m → At ts m Arrow → (x : Pos) × StandsAt ts p x
heads_place ts {p = p} (all_taken no_list) h = some_place ts p h
heads_place ts {p = p} (all_taken (some_list d)) h = some_place ts p (list_token ts d).1
heads_place ts {p = p} (some_kept no_list b e) h = some_place ts p b
heads_place ts {p = p} (some_kept (some_list d) b e) h = some_place ts p (list_token ts d).1

named_made : (ts : List Token) (s p q : ℕ) → (x : Pos) × StandsAt ts s x → Parsed ts grammar.rule p q → (c : Clause) × IsWrittenRule ts s c p q
named_made ts s p q place (m, d, (n, h, b)) =
    let x = heads_made ts p m d in
    let y = body_made ts n q b in (rule x.0 x.1 y.0 y.1 place.0, is_rule place.1 x.2 h.0 (subst (λ i. IsBody ts y.0 y.1 i q) h.1 y.2))

rule_made : (ts : List Token) (p q : ℕ) → Parsed ts grammar.rule p q → (c : Clause) × IsWrittenRule ts p c p q
rule_made ts p q (m, d, (n, h, b)) = named_made ts p p q (heads_place ts (heads_made ts p m d).2 h.0) (m, d, (n, h, b))

clause_made : (ts : List Token) (p q : ℕ) → Parsed ts grammar.clause p q → SomePart ts ClausePart p q
clause_made ts p q (inl (m, inl e, d)) = let x = rule_made ts p q (subst (λ i. Parsed ts grammar.rule i q) e d) in (x.0, unnamed_rule x.1)
clause_made ts p q (inl (m, inr (n, a, b), d)) =
    let i = name_made ts p n a in
    let two : m ≡ p + 2 = b.1 ∙ ap (λ i. i + 1) i.1 ∙ omega arith in
    let x = named_made ts p (p + 2) q (name_place ts p i.0) (subst (λ i. Parsed ts grammar.rule i q) two d) in (x.0, named_rule i.0 (subst (λ i. At ts i AtAt) i.1 b.0) x.1)
clause_made ts p q (inr d) = let x = list_made ts p q d in (process x.0, is_process x.1)

more_clauses_made : (ts : List Token) {c : Clause} {p m n q : ℕ} → Chain (Parsed ts (Seq (Tok Dot) (Ref ClausePart))) m n → IsClause ts c p m → Parsed ts (Opt (Tok Dot)) n q → (cs : Clauses) × IsClauses ts cs p q
more_clauses_made ts {c} {p} ended d (inl e) = (clause_and c no_clause, moved (λ y i. IsClauses ts y p i) e (last_clause d))
more_clauses_made ts {c} {p} ended d (inr (h, e)) = (clause_and c no_clause, moved (λ y i. IsClauses ts y p i) e (more_clauses d h no_clauses))
more_clauses_made ts {c} {q = q} (linked (i, h, x) s) d l =
    let y = more_clauses_made ts s x.1 l in (clause_and c y.0, more_clauses d h.0 (subst (λ i. IsClauses ts y.0 i q) h.1 y.1))

clauses_made : (ts : List Token) (p q : ℕ) → Parsed ts grammar.clauses p q → SomePart ts ClausesPart p q
clauses_made ts p q (inl e) = (no_clause, moved (λ y n. IsClauses ts y p n) e no_clauses)
clauses_made ts p q (inr (m, c, (n, s, l))) = more_clauses_made ts s c.1 l

part_made : (ts : List Token) (n : Part) (p q : ℕ) → Parsed ts (part_expression n) p q → SomePart ts n p q
part_made ts TermPart = term_made ts
part_made ts SumPart = sum_made ts
part_made ts ClausePart = clause_made ts
part_made ts ClausesPart = clauses_made ts

-- ---- what is derived is parsed

parsed : (ts : List Token) {e : Exp} {w : List Kind} → Derives e w → (p q : ℕ) (rest : List Kind) → drop p (kinds_of ts) ≡ w ++ rest → q ≡ p + length w → Parsed ts e p q
parsed ts (here k) p q rest h e = (front_get (kinds_of ts) [] rest p p k h (omega arith), e)
parsed ts (both a b u v w s da db) p q rest h e =
    let h' : drop p (kinds_of ts) ≡ u ++ (v ++ rest) = h ∙ ap (λ z. z ++ rest) s ∙ append_assoc u v rest in
    let n = length-append u v in
    let e' : q ≡ p + (length u + length v) = e ∙ ap (λ z. p + length z) s ∙ ap (λ z. p + z) n in
    (p + length u, parsed ts da p (p + length u) (v ++ rest) h' refl, parsed ts db (p + length u) q rest (drop_front u (v ++ rest) (kinds_of ts) p h') (omega (arith, e')))
parsed ts (left a b w d) p q rest h e = inl (parsed ts d p q rest h e)
parsed ts (right a b w d) p q rest h e = inr (parsed ts d p q rest h e)
parsed ts (without a) p q rest h e = inl (omega (arith, e))
parsed ts (with a w d) p q rest h e = inr (parsed ts d p q rest h e)
parsed ts (no_more a) p q rest h e = let s : p ≡ q = omega (arith, e) in subst (λ n. Chain (Parsed ts a) p n) s ended
parsed ts (one_more a u v w s da db) p q rest h e =
    let h' : drop p (kinds_of ts) ≡ u ++ (v ++ rest) = h ∙ ap (λ z. z ++ rest) s ∙ append_assoc u v rest in
    let n = length-append u v in
    let e' : q ≡ p + (length u + length v) = e ∙ ap (λ z. p + length z) s ∙ ap (λ z. p + z) n in
    linked (parsed ts da p (p + length u) (v ++ rest) h' refl) (parsed ts db (p + length u) q rest (drop_front u (v ++ rest) (kinds_of ts) p h') (omega (arith, e')))
parsed ts (inside b a u w s d) p q rest h e =
    let k = kinds_of ts in
    let h' : drop p k ≡ opener b ∷ (u ++ closer b ∷ rest) = h ∙ ap (λ z. z ++ rest) s ∙ ap (λ z. opener b ∷ z) (append_assoc u (closer b ∷ []) rest) in
    let i : drop (p + 1) k ≡ u ++ closer b ∷ rest = drop_front (opener b ∷ []) (u ++ closer b ∷ rest) k p h' in
    let n = length-append u (closer b ∷ []) in
    let e' : q ≡ p + suc (length u + 1) = e ∙ ap (λ z. p + length z) s ∙ ap (λ z. p + suc z) n in (
      p + 1 + length u,
      front_get k [] (u ++ closer b ∷ rest) p p (opener b) h' (omega arith),
      parsed ts d (p + 1) (p + 1 + length u) (closer b ∷ rest) i refl,
      front_get k u rest (p + 1) (p + 1 + length u) (closer b) i refl,
      omega (arith, e'),
    )
parsed ts (by n w d) p q rest h e = part_made ts n p q (parsed ts d p q rest h e)

-- tokens that are a program of the grammar are a tree
pub trees_exist : DerivedIsTree
trees_exist ts d = go (parsed ts d 0 (length (kinds_of ts)) [] (sym (plus_nothing (kinds_of ts))) (omega arith))
  where
    go : Parsed ts grammar.program 0 (length (kinds_of ts)) → (tree : Clauses) × IsProgram ts tree
    go (m, x, y) = (x.0, (m, x.1, y.0, sym y.1 ∙ length-map ts (λ t. t.kind)))
