-- From one place on tokens are one part at most.
use Rattle.std.proofs.Common.{◌≡◌, ℕ, suc, ◌+◌, true, false, List, ◌∷◌, ◌++◌, drop, slice_get, nat_eq, Option, Some, None, refl, sym, ◌∙◌, ap, subst}
use Rattle.lmn_base.specs.declared.refusal.Pos.{Pos}
use Rattle.lmn_parser_grammar.specs.Grammar.{Opt, list as items, guard as conditions}
use Rattle.lmn_parser_grammar.specs.Reading.{may_follow_clause, is_end}
use Rattle.lmn_parser_grammar.proofs.Loose.{first_loose, calm_keeps}
use Rattle.lmn_parser_grammar.proofs.Stops.{drop_here, drop_past}
use Rattle.lmn_lexer.specs.declared.token.Kind.{Kind}
use Rattle.lmn_lexer.specs.declared.token.Kind.TheVariants.{End, RParen, RBracket, RBrace, Comma, Dot, Arrow, AtAt, Bar, Backslash, Equal}
use Rattle.lmn_lexer.specs.declared.token.Token.{Token}
use Rattle.lmn_parser.specs.Parsing.{kinds_of}
use Rattle.lmn_parser.specs.Syntax.{WrittenCondition, Term, atom, list, list_onto, membrane, Terms, term_and, Item, atom_item, membrane_item, group, equation, Items, item_and, Clause, process, rule, Clauses, clause_and}
use Rattle.lmn_parser.specs.Trees.{At, StandsAt, IsWrittenGuard, IsClauses, no_clauses, last_clause, more_clauses, IsClause, named_rule, unnamed_rule, is_process, IsWrittenRule, is_rule, IsHeads, all_taken, some_kept, IsBody, no_guard, empty_guard, guarded, IsOptList, no_list, some_list, IsList, last_item, more_items, IsItem, is_atom_item, is_membrane_item, is_context_item, is_closed, is_bracketed, is_rule_context, is_plus_link, is_group, is_equation, IsMembrane, in_braces, IsWrittenAtom, with_name, with_integer, IsArguments, no_parentheses, no_arguments, some_arguments, IsTerms, last_term, more_terms, IsTerm, is_link, is_atom, is_context, is_membrane, is_list, IsTermList, empty_list, closed_list, open_list}
use Rattle.lmn_parser.specs.TreeLaws.{OneProgram}
use Rattle.lmn_parser.proofs.OneGuard.{one_guard, no_bar}
use Rattle.lmn_parser.proofs.TreeTokens.{apart, Follow, follows, no_follow, weaken, after_term, after_terms, terms_term, other_sorts, after_item, after_list, item_term, list_item, clause_list, end_clause, sort, term_sort, item_sort, term_at, item_at, same_sort, no_terms as no_terms_at, no_list_at, list_no_follow, no_clause as no_clause_at, list_label, no_label_rule}
use Rattle.lmn_parser.proofs.TreeWords.{opt_list_words, guard_words}
use Rattle.lmn_base.proofs.Truth.{false_not_true as clash}
use Rattle.std.proofs.lemmas.Option.{same_Some}

-- ---- what stands at a place

one_place : (ts : List Token) (s : ℕ) (a b : Pos) → StandsAt ts s a → StandsAt ts s b → a ≡ b
one_place ts s a b h g = same_Some a b (sym h ∙ g)

-- ---- equal parts make equal trees

same_term_and : {a b : Term} {xs ys : Terms} → a ≡ b → xs ≡ ys → term_and a xs ≡ term_and b ys
same_term_and h g = cc

same_item_and : {a b : Item} {xs ys : Items} → a ≡ b → xs ≡ ys → item_and a xs ≡ item_and b ys
same_item_and h g = cc

same_clause_and : {a b : Clause} {xs ys : Clauses} → a ≡ b → xs ≡ ys → clause_and a xs ≡ clause_and b ys
same_clause_and h g = cc

same_atom : {n m : ℕ} {xs ys : Terms} → n ≡ m → xs ≡ ys → atom n xs ≡ atom m ys
same_atom h g = cc

same_atom_item : {n m : ℕ} {xs ys : Terms} → n ≡ m → xs ≡ ys → atom_item n xs ≡ atom_item m ys
same_atom_item h g = cc

same_onto : {xs ys : Terms} {a b : Term} → xs ≡ ys → a ≡ b → list_onto xs a ≡ list_onto ys b
same_onto h g = cc

same_equation : {a b c d : Term} {m n : ℕ} → a ≡ b → m ≡ n → c ≡ d → equation a m c ≡ equation b n d
same_equation h g k = cc

same_rule : {a b c d e f : Items} {g h : List WrittenCondition} {x y : Pos} → a ≡ b → c ≡ d → g ≡ h → e ≡ f → x ≡ y → rule a c g e x ≡ rule b d h f y
same_rule p q r s t = cc

-- ---- no tokens are a guard with its bar and a list

loose_bar : (k : Kind) (w : List Kind) → may_follow_clause k ≡ true → first_loose 0 (k ∷ w) ≡ Some Bar → ⊥
loose_bar RParen w h e = cc
loose_bar RBrace w h e = cc
loose_bar Dot w h e = cc
loose_bar End w h e = cc
loose_bar _ w h e = clash h

no_loose_bar : (ts : List Token) (q : ℕ) (o : Option Kind) → slice_get (kinds_of ts) q ≡ o → Follow ts may_follow_clause q → first_loose 0 (drop q (kinds_of ts)) ≡ Some Bar → ⊥
no_loose_bar ts q None h F e = nothing (sym (ap (first_loose 0) (drop_past (kinds_of ts) q h)) ∙ e)
  where
    nothing : None ≡ Some Bar → ⊥
    nothing x = cc
no_loose_bar ts q (Some k) h F e =
    let w = drop (suc q) (kinds_of ts) in loose_bar k w (F k h) (sym (ap (first_loose 0) (drop_here (kinds_of ts) q k h)) ∙ e)

no_bar_list : (ts : List Token) {xs : Items} {p q : ℕ} → IsOptList ts xs p q → At ts p Bar → Follow ts may_follow_clause q → ⊥
no_bar_list ts no_list h F = no_follow ts may_follow_clause _ F h refl
no_bar_list ts (some_list d) h F = no_list_at ts d h refl

guard_or_list : (ts : List Token) {g : List WrittenCondition} {xs : Items} {p m q : ℕ} → IsWrittenGuard ts g p m → At ts m Bar → IsOptList ts xs p q → Follow ts may_follow_clause q → ⊥
guard_or_list ts {p = p} {m = m} {q = q} g h d F =
    let k = kinds_of ts in
    let a = guard_words ts g in
    let b = opt_list_words ts d in
    let bar : first_loose 0 (drop p k) ≡ Some Bar =
    ap (first_loose 0) (a.split ∙ ap (λ z. a.word ++ z) (drop_here k m Bar h)) ∙ calm_keeps 0 conditions a.word a.derived refl (Bar ∷ drop (suc m) k) in
    let none : first_loose 0 (drop p k) ≡ first_loose 0 (drop q k) = ap (first_loose 0) b.split ∙ calm_keeps 0 (Opt items) b.word b.derived refl (drop q k) in
    no_loose_bar ts q (slice_get k q) refl F (sym none ∙ bar)

mutual
  one_clauses : (ts : List Token) {x y : Clauses} {p q r : ℕ} → IsClauses ts x p q → IsClauses ts y p r → Follow ts is_end q → Follow ts is_end r → (x ≡ y) × (q ≡ r)
  one_clauses ts no_clauses no_clauses F G = (refl, refl)
  one_clauses ts no_clauses (last_clause e) F G = absurd (no_clause_at ts e F)
  one_clauses ts no_clauses (more_clauses e h s) F G = absurd (no_clause_at ts e F)
  one_clauses ts (last_clause d) no_clauses F G = absurd (no_clause_at ts d G)
  one_clauses ts (more_clauses d h s) no_clauses F G = absurd (no_clause_at ts d G)
  one_clauses ts (last_clause d) (last_clause e) F G =
      let x = one_clause ts d e (weaken ts is_end may_follow_clause _ end_clause F) (weaken ts is_end may_follow_clause _ end_clause G) in (same_clause_and x.0 refl, x.1)
  one_clauses ts (last_clause d) (more_clauses e h s) F G =
      let x = one_clause ts d e (weaken ts is_end may_follow_clause _ end_clause F) (follows ts may_follow_clause _ h refl) in
      absurd (no_follow ts is_end _ F (subst (λ n. At ts n Dot) (sym x.1) h) refl)
  one_clauses ts (more_clauses d h s) (last_clause e) F G =
      let x = one_clause ts d e (follows ts may_follow_clause _ h refl) (weaken ts is_end may_follow_clause _ end_clause G) in
      absurd (no_follow ts is_end _ G (subst (λ n. At ts n Dot) x.1 h) refl)
  one_clauses ts (more_clauses d h s) (more_clauses {cs = cs} {q = r} e g s') F G =
      let x = one_clause ts d e (follows ts may_follow_clause _ h refl) (follows ts may_follow_clause _ g refl) in
      let y = one_clauses ts s (subst (λ n. IsClauses ts cs (n + 1) r) (sym x.1) s') F G in (same_clause_and x.0 y.0, y.1)

  one_clause : (ts : List Token) {x y : Clause} {p q r : ℕ} → IsClause ts x p q → IsClause ts y p r → Follow ts may_follow_clause q → Follow ts may_follow_clause r → (x ≡ y) × (q ≡ r)
  one_clause ts (named_rule n a d) (named_rule n' a' e) F G = one_rule ts d e F G
  one_clause ts (named_rule n a d) (unnamed_rule e) F G = absurd (no_label_rule ts e n a)
  one_clause ts (named_rule n a d) (is_process e) F G = absurd (no_follow ts may_follow_clause _ G (subst (λ m. At ts m AtAt) (sym (list_label ts e n a)) a) refl)
  one_clause ts (unnamed_rule d) (named_rule n a e) F G = absurd (no_label_rule ts d n a)
  one_clause ts (unnamed_rule d) (unnamed_rule e) F G = one_rule ts d e F G
  one_clause ts (unnamed_rule d) (is_process e) F G = absurd (rule_or_list ts d e G)
  one_clause ts (is_process d) (named_rule n a e) F G = absurd (no_follow ts may_follow_clause _ F (subst (λ m. At ts m AtAt) (sym (list_label ts d n a)) a) refl)
  one_clause ts (is_process d) (unnamed_rule (is_rule s (all_taken no_list) h b)) F G = absurd (no_list_at ts d h refl)
  one_clause ts (is_process d) (unnamed_rule (is_rule s (all_taken (some_list e)) h b)) F G =
      let x = one_list ts d e (weaken ts may_follow_clause after_list _ clause_list F) (follows ts after_list _ h refl) in absurd (no_follow ts may_follow_clause _ F (subst (λ n. At ts n Arrow) (sym x.1) h) refl)
  one_clause ts (is_process d) (unnamed_rule (is_rule s (some_kept no_list g t) h b)) F G = absurd (no_list_at ts d g refl)
  one_clause ts (is_process d) (unnamed_rule (is_rule s (some_kept (some_list e) g t) h b)) F G =
      let x = one_list ts d e (weaken ts may_follow_clause after_list _ clause_list F) (follows ts after_list _ g refl) in absurd (no_follow ts may_follow_clause _ F (subst (λ n. At ts n Backslash) (sym x.1) g) refl)
  one_clause ts (is_process d) (is_process e) F G = let x = one_list ts d e (weaken ts may_follow_clause after_list _ clause_list F) (weaken ts may_follow_clause after_list _ clause_list G) in (ap process x.0, x.1)

  rule_or_list : (ts : List Token) {s : ℕ} {x : Clause} {ys : Items} {p q r : ℕ} → IsWrittenRule ts s x p q → IsList ts ys p r → Follow ts may_follow_clause r → ⊥
  rule_or_list ts (is_rule s d h b) e G = heads_or_list ts d e h G

  heads_or_list : (ts : List Token) {xs zs ys : Items} {p m r : ℕ} → IsHeads ts xs zs p m → IsList ts ys p r → At ts m Arrow → Follow ts may_follow_clause r → ⊥
  heads_or_list ts (all_taken d) e h G = opt_or_list ts d e h refl refl refl G
  heads_or_list ts (some_kept d g s) e h G = opt_or_list ts d e g refl refl refl G

  opt_or_list : (ts : List Token) {xs ys : Items} {p m r : ℕ} {k : Kind} → IsOptList ts xs p m → IsList ts ys p r → At ts m k → after_list k ≡ true → sort k ≡ 0 → may_follow_clause k ≡ false → Follow ts may_follow_clause r → ⊥
  opt_or_list ts no_list e h a s c G = no_list_at ts e h s
  opt_or_list ts {k = k} (some_list d) e h a s c G =
      let x = one_list ts d e (follows ts after_list _ h a) (weaken ts may_follow_clause after_list _ clause_list G) in no_follow ts may_follow_clause _ G (subst (λ n. At ts n k) x.1 h) c

  one_rule : (ts : List Token) {s : ℕ} {x y : Clause} {p q r : ℕ} → IsWrittenRule ts s x p q → IsWrittenRule ts s y p r → Follow ts may_follow_clause q → Follow ts may_follow_clause r → (x ≡ y) × (q ≡ r)
  one_rule ts {s = s} (is_rule {pos = pos} t d h b) (is_rule {body = body} {guard = guard} {pos = pos'} {q = r} t' e h' b') F G =
      let x = one_heads ts d e h h' in
      let y = one_body ts b (subst (λ n. IsBody ts guard body (n + 1) r) (sym x.2) b') F G in
      (same_rule x.0 x.1 y.0 y.1 (one_place ts s pos pos' t t'), y.2)

  one_heads : (ts : List Token) {k k' t t' : Items} {p m n : ℕ} → IsHeads ts k t p m → IsHeads ts k' t' p n → At ts m Arrow → At ts n Arrow → (k ≡ k') × (t ≡ t') × (m ≡ n)
  one_heads ts (all_taken d) (all_taken e) h g = let x = one_opt_list ts d e (follows ts after_list _ h refl) (follows ts after_list _ g refl) in (refl, x.0, x.1)
  one_heads ts (all_taken d) (some_kept e b s) h g =
      let x = one_opt_list ts d e (follows ts after_list _ h refl) (follows ts after_list _ b refl) in absurd (apart ts _ (subst (λ n. At ts n Arrow) x.1 h) b refl)
  one_heads ts (some_kept d b s) (all_taken e) h g =
      let x = one_opt_list ts d e (follows ts after_list _ b refl) (follows ts after_list _ g refl) in absurd (apart ts _ (subst (λ n. At ts n Backslash) x.1 b) g refl)
  one_heads ts (some_kept d b s) (some_kept {ys = ys} {q = r} e b' s') h g =
      let x = one_opt_list ts d e (follows ts after_list _ b refl) (follows ts after_list _ b' refl) in
      let y = one_opt_list ts s (subst (λ n. IsOptList ts ys (n + 1) r) (sym x.1) s') (follows ts after_list _ h refl) (follows ts after_list _ g refl) in (x.0, y.0, y.1)

  one_body : (ts : List Token) {g g' : List WrittenCondition} {x y : Items} {p q r : ℕ} → IsBody ts g x p q → IsBody ts g' y p r → Follow ts may_follow_clause q → Follow ts may_follow_clause r → (g ≡ g') × (x ≡ y) × (q ≡ r)
  one_body ts (no_guard d) (no_guard e) F G =
      let x = one_opt_list ts d e (weaken ts may_follow_clause after_list _ clause_list F) (weaken ts may_follow_clause after_list _ clause_list G) in (refl, x.0, x.1)
  one_body ts (no_guard d) (empty_guard h e) F G = absurd (no_bar_list ts d h F)
  one_body ts (no_guard d) (guarded g h e) F G = absurd (guard_or_list ts g h d F)
  one_body ts (empty_guard h d) (no_guard e) F G = absurd (no_bar_list ts e h G)
  one_body ts (empty_guard h d) (empty_guard h' e) F G =
      let x = one_opt_list ts d e (weaken ts may_follow_clause after_list _ clause_list F) (weaken ts may_follow_clause after_list _ clause_list G) in (refl, x.0, x.1)
  one_body ts (empty_guard h d) (guarded g h' e) F G = absurd (no_bar ts g h)
  one_body ts (guarded g h d) (no_guard e) F G = absurd (guard_or_list ts g h e G)
  one_body ts (guarded g h d) (empty_guard h' e) F G = absurd (no_bar ts g h')
  one_body ts (guarded g h d) (guarded {xs = ys} {q = r} g' h' e) F G =
      let a = one_guard ts g g' h h' in
      let x = one_opt_list ts d (subst (λ n. IsOptList ts ys (n + 1) r) (sym a.1) e) (weaken ts may_follow_clause after_list _ clause_list F) (weaken ts may_follow_clause after_list _ clause_list G) in (a.0, x.0, x.1)

  one_opt_list : (ts : List Token) {x y : Items} {p q r : ℕ} → IsOptList ts x p q → IsOptList ts y p r → Follow ts after_list q → Follow ts after_list r → (x ≡ y) × (q ≡ r)
  one_opt_list ts no_list no_list F G = (refl, refl)
  one_opt_list ts no_list (some_list e) F G = absurd (list_no_follow ts e F)
  one_opt_list ts (some_list d) no_list F G = absurd (list_no_follow ts d G)
  one_opt_list ts (some_list d) (some_list e) F G = one_list ts d e F G

  one_list : (ts : List Token) {x y : Items} {p q r : ℕ} → IsList ts x p q → IsList ts y p r → Follow ts after_list q → Follow ts after_list r → (x ≡ y) × (q ≡ r)
  one_list ts {p = p} (last_item d) (last_item e) F G =
      let x = one_item ts d e (same_sort ts p (item_at ts d) (item_at ts e)) (weaken ts after_list after_item _ list_item F) (weaken ts after_list after_item _ list_item G) in (same_item_and x.0 refl, x.1)
  one_list ts {p = p} (last_item d) (more_items e c s) F G =
      let x = one_item ts d e (same_sort ts p (item_at ts d) (item_at ts e)) (weaken ts after_list after_item _ list_item F) (follows ts after_item _ c refl) in
      absurd (no_follow ts after_list _ F (subst (λ n. At ts n Comma) (sym x.1) c) refl)
  one_list ts {p = p} (more_items d c s) (last_item e) F G =
      let x = one_item ts d e (same_sort ts p (item_at ts d) (item_at ts e)) (follows ts after_item _ c refl) (weaken ts after_list after_item _ list_item G) in
      absurd (no_follow ts after_list _ G (subst (λ n. At ts n Comma) x.1 c) refl)
  one_list ts {p = p} (more_items d c s) (more_items {xs = xs} {q = r} e c' s') F G =
      let x = one_item ts d e (same_sort ts p (item_at ts d) (item_at ts e)) (follows ts after_item _ c refl) (follows ts after_item _ c' refl) in
      let y = one_list ts s (subst (λ n. IsList ts xs (n + 1) r) (sym x.1) s') F G in (same_item_and x.0 y.0, y.1)

  one_item : (ts : List Token) {x y : Item} {p q r : ℕ} (d : IsItem ts x p q) (e : IsItem ts y p r) → nat_eq (item_sort d) (item_sort e) ≡ true → Follow ts after_item q → Follow ts after_item r → (x ≡ y) × (q ≡ r)
  one_item ts (is_atom_item a) (is_atom_item b) s F G =
      let x = one_atom ts a b (weaken ts after_item after_term _ item_term F) (weaken ts after_item after_term _ item_term G) in (same_atom_item x.0 x.1, x.2)
  one_item ts (is_atom_item a) (is_equation (is_atom b) h u) s F G =
      let x = one_atom ts a b (weaken ts after_item after_term _ item_term F) (follows ts after_term _ h refl) in absurd (no_follow ts after_item _ F (subst (λ n. At ts n Equal) (sym x.2) h) refl)
  one_item ts (is_membrane_item a) (is_membrane_item b) s F G = let x = one_membrane ts a b in (ap membrane_item x.0, x.1)
  one_item ts (is_membrane_item a) (is_equation (is_membrane b) h u) s F G =
      let x = one_membrane ts a b in absurd (no_follow ts after_item _ F (subst (λ n. At ts n Equal) (sym x.1) h) refl)
  one_item ts (is_context_item g) (is_context_item h) s F G = (refl, refl)
  one_item ts (is_context_item g) (is_closed h o c) s F G = absurd (no_follow ts after_item _ F o refl)
  one_item ts (is_context_item g) (is_bracketed h o l c) s F G = absurd (no_follow ts after_item _ F o refl)
  one_item ts (is_context_item g) (is_equation (is_context c) h u) s F G = absurd (no_follow ts after_item _ F h refl)
  one_item ts (is_closed h o c) (is_context_item g) s F G = absurd (no_follow ts after_item _ G o refl)
  one_item ts (is_closed h o c) (is_closed h' o' c') s F G = (refl, refl)
  one_item ts (is_closed h o c) (is_bracketed h' o' l' c') s F G = absurd (apart ts _ c l' refl)
  one_item ts (is_closed h o c) (is_equation (is_context g) e u) s F G = absurd (apart ts _ o e refl)
  one_item ts (is_bracketed h o l c) (is_closed h' o' c') s F G = absurd (apart ts _ l c' refl)
  one_item ts (is_bracketed h o l c) (is_context_item g) s F G = absurd (no_follow ts after_item _ G o refl)
  one_item ts (is_bracketed h o l c) (is_bracketed h' o' l' c') s F G = (refl, refl)
  one_item ts (is_bracketed h o l c) (is_equation (is_context g) e u) s F G = absurd (apart ts _ o e refl)
  one_item ts (is_rule_context h) (is_rule_context g) s F G = (refl, refl)
  one_item ts (is_rule_context g) (is_equation t h u) s F G = absurd (clash (sym (other_sorts t).3 ∙ s))
  one_item ts (is_plus_link h l) (is_plus_link g k) s F G = (refl, refl)
  one_item ts (is_plus_link g l) (is_equation t h u) s F G = absurd (clash (sym (other_sorts t).4 ∙ s))
  one_item ts (is_group o d c) (is_group o' e c') s F G =
      let x = one_clause ts d e (follows ts may_follow_clause _ c refl) (follows ts may_follow_clause _ c' refl) in (ap group x.0, ap (λ n. n + 1) x.1)
  one_item ts (is_group o d c) (is_equation t h u) s F G = absurd (clash (sym (other_sorts t).5 ∙ s))
  one_item ts (is_equation t h u) (is_atom_item b) s F G =
      let x = one_term ts t (is_atom b) s (follows ts after_term _ h refl) (weaken ts after_item after_term _ item_term G) in absurd (no_follow ts after_item _ G (subst (λ n. At ts n Equal) x.1 h) refl)
  one_item ts (is_equation t h u) (is_membrane_item b) s F G =
      let x = one_term ts t (is_membrane b) s (follows ts after_term _ h refl) (weaken ts after_item after_term _ item_term G) in absurd (no_follow ts after_item _ G (subst (λ n. At ts n Equal) x.1 h) refl)
  one_item ts (is_equation t h u) (is_context_item g) s F G =
      let x = one_term ts t (is_context g) s (follows ts after_term _ h refl) (weaken ts after_item after_term _ item_term G) in absurd (no_follow ts after_item _ G (subst (λ n. At ts n Equal) x.1 h) refl)
  one_item ts (is_equation t h u) (is_closed g o c) s F G =
      let x = one_term ts t (is_context g) s (follows ts after_term _ h refl) (follows ts after_term _ o refl) in absurd (apart ts _ (subst (λ n. At ts n Equal) x.1 h) o refl)
  one_item ts (is_equation t h u) (is_bracketed g o l c) s F G =
      let x = one_term ts t (is_context g) s (follows ts after_term _ h refl) (follows ts after_term _ o refl) in absurd (apart ts _ (subst (λ n. At ts n Equal) x.1 h) o refl)
  one_item ts (is_equation t h u) (is_rule_context g) s F G = absurd (clash (sym (other_sorts t).0 ∙ s))
  one_item ts (is_equation t h u) (is_plus_link g l) s F G = absurd (clash (sym (other_sorts t).1 ∙ s))
  one_item ts (is_equation t h u) (is_group o e c) s F G = absurd (clash (sym (other_sorts t).2 ∙ s))
  one_item ts (is_equation {m = m} t h u) (is_equation {r = w} {q = r} t' h' u') s F G =
      let x = one_term ts t t' s (follows ts after_term _ h refl) (follows ts after_term _ h' refl) in
      let v = subst (λ n. IsTerm ts w (n + 1) r) (sym x.1) u' in
      let y = one_term ts u v (same_sort ts (m + 1) (term_at ts u) (term_at ts v)) (weaken ts after_item after_term _ item_term F) (weaken ts after_item after_term _ item_term G) in
      (same_equation x.0 x.1 y.0, y.1)
  one_item ts _ _ s F G = absurd (clash s)

  one_membrane : (ts : List Token) {x y : Clauses} {p q r : ℕ} → IsMembrane ts x p q → IsMembrane ts y p r → (x ≡ y) × (q ≡ r)
  one_membrane ts (in_braces o d c) (in_braces o' e c') = let x = one_clauses ts d e (follows ts is_end _ c refl) (follows ts is_end _ c' refl) in (x.0, ap (λ n. n + 1) x.1)

  one_atom : (ts : List Token) {n m : ℕ} {x y : Terms} {p q r : ℕ} → IsWrittenAtom ts n x p q → IsWrittenAtom ts m y p r → Follow ts after_term q → Follow ts after_term r → (n ≡ m) × (x ≡ y) × (q ≡ r)
  one_atom ts (with_name n d) (with_name n' e) F G = let x = one_arguments ts d e F G in (refl, x.0, x.1)
  one_atom ts (with_name n d) (with_integer n' e) F G = let x = one_arguments ts d e F G in (refl, x.0, x.1)
  one_atom ts (with_integer n d) (with_name n' e) F G = let x = one_arguments ts d e F G in (refl, x.0, x.1)
  one_atom ts (with_integer n d) (with_integer n' e) F G = let x = one_arguments ts d e F G in (refl, x.0, x.1)

  one_arguments : (ts : List Token) {x y : Terms} {p q r : ℕ} → IsArguments ts x p q → IsArguments ts y p r → Follow ts after_term q → Follow ts after_term r → (x ≡ y) × (q ≡ r)
  one_arguments ts no_parentheses no_parentheses F G = (refl, refl)
  one_arguments ts no_parentheses (no_arguments o c) F G = absurd (no_follow ts after_term _ F o refl)
  one_arguments ts no_parentheses (some_arguments o d c) F G = absurd (no_follow ts after_term _ F o refl)
  one_arguments ts (no_arguments o c) no_parentheses F G = absurd (no_follow ts after_term _ G o refl)
  one_arguments ts (no_arguments o c) (no_arguments o' c') F G = (refl, refl)
  one_arguments ts (no_arguments o c) (some_arguments o' e c') F G = absurd (no_terms_at ts e c refl)
  one_arguments ts (some_arguments o d c) no_parentheses F G = absurd (no_follow ts after_term _ G o refl)
  one_arguments ts (some_arguments o d c) (no_arguments o' c') F G = absurd (no_terms_at ts d c' refl)
  one_arguments ts (some_arguments o d c) (some_arguments o' e c') F G = let x = one_terms ts d e (follows ts after_terms _ c refl) (follows ts after_terms _ c' refl) in (x.0, ap (λ n. n + 1) x.1)

  one_terms : (ts : List Token) {x y : Terms} {p q r : ℕ} → IsTerms ts x p q → IsTerms ts y p r → Follow ts after_terms q → Follow ts after_terms r → (x ≡ y) × (q ≡ r)
  one_terms ts {p = p} (last_term d) (last_term e) F G =
      let x = one_term ts d e (same_sort ts p (term_at ts d) (term_at ts e)) (weaken ts after_terms after_term _ terms_term F) (weaken ts after_terms after_term _ terms_term G) in (same_term_and x.0 refl, x.1)
  one_terms ts {p = p} (last_term d) (more_terms e c s) F G =
      let x = one_term ts d e (same_sort ts p (term_at ts d) (term_at ts e)) (weaken ts after_terms after_term _ terms_term F) (follows ts after_term _ c refl) in
      absurd (no_follow ts after_terms _ F (subst (λ n. At ts n Comma) (sym x.1) c) refl)
  one_terms ts {p = p} (more_terms d c s) (last_term e) F G =
      let x = one_term ts d e (same_sort ts p (term_at ts d) (term_at ts e)) (follows ts after_term _ c refl) (weaken ts after_terms after_term _ terms_term G) in
      absurd (no_follow ts after_terms _ G (subst (λ n. At ts n Comma) x.1 c) refl)
  one_terms ts {p = p} (more_terms d c s) (more_terms {xs = xs} {q = r} e c' s') F G =
      let x = one_term ts d e (same_sort ts p (term_at ts d) (term_at ts e)) (follows ts after_term _ c refl) (follows ts after_term _ c' refl) in
      let y = one_terms ts s (subst (λ n. IsTerms ts xs (n + 1) r) (sym x.1) s') F G in (same_term_and x.0 y.0, y.1)

  one_term : (ts : List Token) {x y : Term} {p q r : ℕ} (d : IsTerm ts x p q) (e : IsTerm ts y p r) → nat_eq (term_sort d) (term_sort e) ≡ true → Follow ts after_term q → Follow ts after_term r → (x ≡ y) × (q ≡ r)
  one_term ts (is_link h) (is_link g) s F G = (refl, refl)
  one_term ts (is_atom a) (is_atom b) s F G = let x = one_atom ts a b F G in (same_atom x.0 x.1, x.2)
  one_term ts (is_context h) (is_context g) s F G = (refl, refl)
  one_term ts (is_membrane a) (is_membrane b) s F G = let x = one_membrane ts a b in (ap membrane x.0, x.1)
  one_term ts (is_list a) (is_list b) s F G = one_term_list ts a b
  one_term ts _ _ s F G = absurd (clash s)

  one_term_list : (ts : List Token) {x y : Term} {p q r : ℕ} → IsTermList ts x p q → IsTermList ts y p r → (x ≡ y) × (q ≡ r)
  one_term_list ts (empty_list o c) (empty_list o' c') = (refl, refl)
  one_term_list ts (empty_list o c) (closed_list o' e c') = absurd (no_terms_at ts e c refl)
  one_term_list ts (empty_list o c) (open_list o' e h u c') = absurd (no_terms_at ts e c refl)
  one_term_list ts (closed_list o d c) (empty_list o' c') = absurd (no_terms_at ts d c' refl)
  one_term_list ts (closed_list o d c) (closed_list o' e c') =
      let x = one_terms ts d e (follows ts after_terms _ c refl) (follows ts after_terms _ c' refl) in (ap list x.0, ap (λ n. n + 1) x.1)
  one_term_list ts (closed_list o d c) (open_list o' e h u c') =
      let x = one_terms ts d e (follows ts after_terms _ c refl) (follows ts after_terms _ h refl) in absurd (apart ts _ (subst (λ n. At ts n RBracket) x.1 c) h refl)
  one_term_list ts (open_list o d h t c) (empty_list o' c') = absurd (no_terms_at ts d c' refl)
  one_term_list ts (open_list o d h t c) (closed_list o' e c') =
      let x = one_terms ts d e (follows ts after_terms _ h refl) (follows ts after_terms _ c' refl) in absurd (apart ts _ (subst (λ n. At ts n Bar) x.1 h) c' refl)
  one_term_list ts (open_list {m = m} o d h t c) (open_list {t = w} {q = r} o' e h' u c') =
      let x = one_terms ts d e (follows ts after_terms _ h refl) (follows ts after_terms _ h' refl) in
      let v = subst (λ n. IsTerm ts w (n + 1) r) (sym x.1) u in
      let y = one_term ts t v (same_sort ts (m + 1) (term_at ts t) (term_at ts v)) (follows ts after_term _ c refl) (follows ts after_term _ c' refl) in
      (same_onto x.0 y.0, ap (λ n. n + 1) y.1)

-- tokens are one tree at most
pub one_tree : OneProgram
one_tree ts x y (q, d, h, e) (r, d', h', e') = (one_clauses ts d d' (follows ts is_end q h refl) (follows ts is_end r h' refl)).0
