-- A tree that fits, of tokens with few open brackets, passes no limit: the scan walks through it.
use Rattle.std.proofs.Common.{◌≡◌, ℕ, suc, ◌+◌, ◌≤◌, ◌<◌, Bool, true, false, ◌&&◌, ◌||◌, if◌then◌else◌, nat_le, nat_lt, List, [], ◌∷◌, ◌++◌, length, drop, slice_get, Some, refl, sym, ◌∙◌, ap, arith, subst, inl, inr}
use Rattle.std.proofs.lemmas.List.{length-map}
use Rattle.std.specs.List.{AllByRecursion}
use Rattle.lmn_base.specs.declared.guard.Cmp.{Cmp}
use Rattle.lmn_base.specs.declared.guard.Cmp.TheVariants as cmp
use Rattle.lmn_parser_grammar.specs.Limits.{may_be_operator, empty, one_more, TooDeep, TooManyArguments, most_operators, most_arguments, most_term_arguments}
use Rattle.lmn_parser_grammar.specs.Refusing.{IsWithin}
use Rattle.lmn_parser_grammar.specs.Scan.{Opened, Arguments, Terms, Group, Last, Equals, Word, Digits, Closed, Operand, Other, Scan, was_operand, is_operator, limit_in, limit_behind, round_behind, one_more_begun, scan_after, scan, has_too_many, is_full, is_equal}
use Rattle.lmn_parser_grammar.proofs.Counts.{scan_more, added, added_none, added_one, added_twice, operator_scan, side_scan, many_scan}
use Rattle.lmn_parser_grammar.proofs.Scans.{within_none, within_more}
use Rattle.lmn_lexer.specs.declared.token.Kind.{Kind}
use Rattle.lmn_lexer.specs.declared.token.Kind.TheVariants.{Name, Quoted, Mod, Link, Int, Context, RuleCtx, End, LParen, RParen, LBracket, RBracket, LBrace, RBrace, Comma, Dot, Arrow, AtAt, Bar, Backslash, Equal, Less, LessEq, Greater, GreaterEq, NumEq, NumNe, Differ, Plus, Minus, Star, Slash}
use Rattle.lmn_lexer.specs.declared.token.Token.{Token}
use Rattle.lmn_parser.specs.Arities.{number_of_terms, operators_of, FitsCondition, FitsTerm, FitsTerms, FitsItem, FitsItems, FitsClause, FitsClauses}
use Rattle.lmn_parser.specs.Parsing.{kinds_of}
use Rattle.lmn_parser.specs.Syntax as tree
use Rattle.lmn_parser.specs.Trees.{NameAt, CmpAt, IsSum, one_product, plus, IsProduct, one_factor, times, IsFactor, is_integer, is_value, in_parentheses, IsContexts, last_context, more_contexts, IsContextArguments, no_contexts, some_contexts, IsCondition, is_called, is_compared, is_equal as is_equal_condition, is_different, IsWrittenGuard, last_condition, more_conditions, IsClauses, no_clauses, last_clause, more_clauses, IsClause, named_rule, unnamed_rule, is_process, IsWrittenRule, is_rule, IsHeads, all_taken, some_kept, IsBody, no_guard, empty_guard, guarded, IsOptList, no_list, some_list, IsList, last_item, more_items, IsItem, is_atom_item, is_membrane_item, is_context_item, is_closed, is_bracketed, is_rule_context, is_plus_link, is_group, is_equation, IsMembrane, in_braces, IsWrittenAtom, with_name, with_integer, IsArguments, no_parentheses, no_arguments, some_arguments, IsTerms, last_term, more_terms, IsTerm, is_link, is_atom, is_context, is_membrane, is_list, IsTermList, empty_list, closed_list, open_list}
use Rattle.lmn_parser.specs.TreeLaws.{FittingIsWithin, Shallow}
use Rattle.lmn_parser.proofs.Fitting.{behind_token, times_is, plus_is, joined}
use Rattle.lmn_parser.proofs.TreeWords.{drop_all, next_to}
use Rattle.lmn_base.proofs.Lists.{plus_nothing}
use Rattle.lmn_base.proofs.Numbers.{test_at_most as at_most, not_lower}
use Rattle.lmn_base.proofs.Truth.{false_not_true as clash}
use Rattle.std.proofs.lemmas.Bool.{and_left, and_right}

abbrev state : List Opened → ℕ → Last → Scan
state o n l = record { opened = o; operators = n; last = l }

-- Up to the token with a number no token passes a limit, and the scan has this state.
record Walk (ks : List Kind) (p : ℕ) (s : Scan) : Type 0 where
  pub before : List Kind
  pub split : ks ≡ before ++ drop p ks
  pub within : IsWithin before
  pub is : scan before ≡ s

-- The token passes no limit but that of brackets.
abbrev Allowed : Scan → Kind → Type 0
Allowed s k = ((is_operator s k && nat_le most_operators s.operators) ≡ false) × (has_too_many s.opened ≡ false) × ((is_equal k && is_full s.last) ≡ false)

both_false : (a b : Bool) → a ≡ true → b ≡ true → (a && b) ≡ false → ⊥
both_false true b g h e = clash (sym e ∙ h)
both_false false b g h e = clash g

none_of_two : (a b : Bool) → a ≡ false → b ≡ false → (a || b) ≡ true → ⊥
none_of_two true b g h e = clash (sym g)
none_of_two false b g h e = clash (sym h ∙ e)

below : (n m : ℕ) → m < n → nat_le n m ≡ false
below n m h = grind arith

-- one token more
step : (ks : List Kind) → Shallow ks → {p : ℕ} {s : Scan} (k : Kind) → Walk ks p s → slice_get ks p ≡ Some k → Allowed s k → Walk ks (p + 1) (scan_after s k)
step ks shallow {p} {s} k w h (a, b, c) = record { before = w.before ++ k ∷ []; split = split; within = within_more w.before k w.within (deep, many); is = scan_more w.before k ∙ ap (λ z. scan_after z k) w.is }
  where
    split : ks ≡ (w.before ++ k ∷ []) ++ drop (p + 1) ks
    split = behind_token ks p w.before k w.split h

    deep : ¬ (TooDeep w.before k)
    deep (inl (f, d)) = shallow (w.before ++ k ∷ []) (drop (p + 1) ks) split (one_more k d f empty)
    deep (inr (f, d)) =
        both_false (is_operator (scan w.before) k) (nat_le most_operators (scan w.before).operators) (operator_scan w.before k f) (at_most most_operators (scan w.before).operators (side_scan d))
        (ap (λ z. is_operator z k && nat_le most_operators z.operators) w.is ∙ a)

    many : ¬ (TooManyArguments w.before k)
    many d = none_of_two (has_too_many (scan w.before).opened) (is_equal k && is_full (scan w.before).last) (ap (λ z. has_too_many z.opened) w.is ∙ b) (ap (λ z. is_equal k && is_full z.last) w.is ∙ c) (many_scan d)

walk_as : (ks : List Kind) {p : ℕ} {s t : Scan} → s ≡ t → Walk ks p s → Walk ks p t
walk_as ks {p} e w = let P : Scan → Type 0 = Walk ks p in subst P e w

walk_at : (ks : List Kind) {p q : ℕ} {s : Scan} → p ≡ q → Walk ks p s → Walk ks q s
walk_at ks {s = s} e w = let P : ℕ → Type 0 = λ z. Walk ks z s in subst P e w

-- Behind a part: the same brackets are open.
record Walked (ks : List Kind) (q : ℕ) (o : List Opened) (P : Last → Type 0) : Type 0 where
  pub operators : ℕ
  pub last : Last
  pub walk : Walk ks q (state o operators last)
  pub holds : P last

abbrev Any : Last → Type 0
Any l = Unit {0}

abbrev NotFull : Last → Type 0
NotFull l = is_full l ≡ false

any : (ks : List Kind) {q : ℕ} {o : List Opened} {P : Last → Type 0} → Walked ks q o P → Walked ks q o Any
any ks w = record { operators = w.operators; last = w.last; walk = w.walk; holds = tt }

-- Sides.
record SumWalked (ks : List Kind) (q : ℕ) (o : List Opened) (n : ℕ) : Type 0 where
  pub last : Last
  pub walk : Walk ks q (state o n last)
  pub ends : was_operand last ≡ true

sum_as : (ks : List Kind) {q n m : ℕ} {o : List Opened} → n ≡ m → SumWalked ks q o n → SumWalked ks q o m
sum_as ks {q} {o = o} e w = let P : ℕ → Type 0 = λ z. SumWalked ks q o z in subst P e w

after_operator : (k : Kind) → may_be_operator k ≡ true → (o : List Opened) (n : ℕ) (l : Last) → was_operand l ≡ true → scan_after (state o n l) k ≡ state o (n + 1) Other
after_operator Plus m o n l h = ap (λ b. state o (if b then n + 1 else 0) Other) h
after_operator Minus m o n l h = ap (λ b. state o (if b then n + 1 else 0) Other) h
after_operator Star m o n l h = ap (λ b. state o (if b then n + 1 else 0) Other) h
after_operator Slash m o n l h = ap (λ b. state o (if b then n + 1 else 0) Other) h
after_operator Mod m o n l h = ap (λ b. state o (if b then n + 1 else 0) (if b then Other else Word (limit_behind l o))) h
after_operator _ m o n l h = absurd (clash m)

not_equal : (k : Kind) → may_be_operator k ≡ true → is_equal k ≡ false
not_equal Equal m = absurd (clash m)
not_equal _ m = refl

operator_step : (ks : List Kind) → Shallow ks → {q : ℕ} (k : Kind) (o : List Opened) (n : ℕ) → slice_get ks q ≡ Some k → may_be_operator k ≡ true → has_too_many o ≡ false → n < most_operators → SumWalked ks q o n → Walk ks (q + 1) (state o (n + 1) Other)
operator_step ks shallow k o n h m t le w =
    walk_as ks (after_operator k m o n w.last w.ends)
    (step ks shallow k w.walk h (and_right (is_operator (state o n w.last) k) (nat_le most_operators n) (below most_operators n (omega (arith, le))), t, and_left (is_equal k) (is_full w.last) (not_equal k m)))

opened_round : (o : List Opened) (n : ℕ) (l : Last) → round_behind l ≡ Group → scan_after (state o n l) LParen ≡ state (Group ∷ o) n Other
opened_round o n l h = ap (λ x. state (x ∷ o) n Other) h

mutual
  walk_sum : (ts : List Token) → Shallow (kinds_of ts) → {e : tree.Expr} {p q : ℕ} → IsSum ts e p q → (o : List Opened) → has_too_many o ≡ false → (n : ℕ) (l : Last) → round_behind l ≡ Group →
      n + operators_of e ≤ most_operators → Walk (kinds_of ts) p (state o n l) → SumWalked (kinds_of ts) q o (n + operators_of e)
  walk_sum ts s (one_product d) o t n l r f w = walk_product ts s d o t n l r f w
  walk_sum ts s (plus {l = x} {r = y} {m = m} a d h e) o t n l r f w =
      let k = plus_is ts m a h in
      let first = walk_sum ts s d o t n l r (omega (arith, f)) w in
      let next = operator_step (kinds_of ts) s k.0 o (n + operators_of x) k.1 k.2 t (omega (arith, f)) first in
      sum_as (kinds_of ts) (joined n (operators_of x) (operators_of y)) (walk_product ts s e o t (n + operators_of x + 1) Other refl (omega (arith, f)) next)

  walk_product : (ts : List Token) → Shallow (kinds_of ts) → {e : tree.Expr} {p q : ℕ} → IsProduct ts e p q → (o : List Opened) → has_too_many o ≡ false → (n : ℕ) (l : Last) → round_behind l ≡ Group →
      n + operators_of e ≤ most_operators → Walk (kinds_of ts) p (state o n l) → SumWalked (kinds_of ts) q o (n + operators_of e)
  walk_product ts s (one_factor d) o t n l r f w = walk_factor ts s d o t n l r f w
  walk_product ts s (times {l = x} {r = y} {m = m} a d h e) o t n l r f w =
      let k = times_is ts m a h in
      let first = walk_product ts s d o t n l r (omega (arith, f)) w in
      let next = operator_step (kinds_of ts) s k.0 o (n + operators_of x) k.1 k.2 t (omega (arith, f)) first in
      sum_as (kinds_of ts) (joined n (operators_of x) (operators_of y)) (walk_factor ts s e o t (n + operators_of x + 1) Other refl (omega (arith, f)) next)

  walk_factor : (ts : List Token) → Shallow (kinds_of ts) → {e : tree.Expr} {p q : ℕ} → IsFactor ts e p q → (o : List Opened) → has_too_many o ≡ false → (n : ℕ) (l : Last) → round_behind l ≡ Group →
      n + operators_of e ≤ most_operators → Walk (kinds_of ts) p (state o n l) → SumWalked (kinds_of ts) q o (n + operators_of e)
  walk_factor ts s (is_integer h) o t n l r f w = sum_as (kinds_of ts) (omega arith) (record { last = Digits (limit_behind l o); walk = step (kinds_of ts) s Int w h (refl, t, refl); ends = refl })
  walk_factor ts s (is_value h) o t n l r f w = sum_as (kinds_of ts) (omega arith) (record { last = Operand; walk = step (kinds_of ts) s Context w h (refl, t, refl); ends = refl })
  walk_factor ts s (in_parentheses b d c) o t n l r f w =
      let inner = walk_sum ts s d (Group ∷ o) refl n Other refl f (walk_as (kinds_of ts) (opened_round o n l r) (step (kinds_of ts) s LParen w b (refl, t, refl))) in
      record { last = Operand; walk = step (kinds_of ts) s RParen inner.walk c (refl, refl, refl); ends = refl }

-- Where items may stand: an atom there has no own link among its arguments.
abbrev Outer : List Opened → Type 0
Outer o = (has_too_many o ≡ false) × (limit_in o ≡ most_arguments)

-- so many parts more may begin in a list
abbrev Room : List Opened → ℕ → Type 0
Room o n = (j : ℕ) → suc j ≤ n → has_too_many (added j o) ≡ false

room_first : (o : List Opened) (n : ℕ) → Room o (suc n) → has_too_many o ≡ false
room_first [] n r = refl
room_first (Arguments l m ∷ o) n r = ap (λ z. nat_lt l z) (omega arith) ∙ r 0 (omega arith)
room_first (Terms ∷ o) n r = refl
room_first (Group ∷ o) n r = refl

room_next : (o : List Opened) (n : ℕ) → Room o (suc n) → Room (one_more_begun o) n
room_next o n r j h = ap (λ z. has_too_many (added j z)) (added_one o) ∙ ap has_too_many (added_twice 1 j o) ∙ r (1 + j) (omega (arith, h))

room_arguments : (l n : ℕ) (o : List Opened) → n ≤ l → Room (Arguments l 1 ∷ o) n
room_arguments l n o h j f = not_lower l (1 + j) (omega (arith, h, f))

room_terms : (n : ℕ) (o : List Opened) → Room (Terms ∷ o) n
room_terms n o j f = refl

next_added : (m : ℕ) (o : List Opened) → added m (one_more_begun o) ≡ added (suc m) o
next_added m o = ap (added m) (added_one o) ∙ added_twice 1 m o ∙ ap (λ z. added z o) (omega arith)

walked_as : (ks : List Kind) {q : ℕ} {o p : List Opened} {P : Last → Type 0} → o ≡ p → Walked ks q o P → Walked ks q p P
walked_as ks {q} {P = P} e w = let Q : List Opened → Type 0 = λ z. Walked ks q z P in subst Q e w

inner_least : (o : List Opened) → most_term_arguments ≤ limit_in o
inner_least [] = omega arith
inner_least (Arguments a b ∷ o) = omega arith
inner_least (Terms ∷ o) = omega arith
inner_least (Group ∷ o) = omega arith

limit_least : (l : Last) (o : List Opened) → most_term_arguments ≤ limit_behind l o
limit_least Equals o = omega arith
limit_least (Word m) o = inner_least o
limit_least (Digits m) o = inner_least o
limit_least (Closed m) o = inner_least o
limit_least Operand o = inner_least o
limit_least Other o = inner_least o

-- a comma outside argument lists begins no argument
same_begun : (o : List Opened) → limit_in o ≡ most_arguments → one_more_begun o ≡ o
same_begun [] h = refl
same_begun (Arguments a b ∷ o) h = absurd (omega (arith, h))
same_begun (Terms ∷ o) h = refl
same_begun (Group ∷ o) h = refl

comma_step : (ks : List Kind) → Shallow ks → {m : ℕ} (o : List Opened) → Outer o → Walked ks m o Any → slice_get ks m ≡ Some Comma → Walk ks (m + 1) (state o 0 Other)
comma_step ks s o b w h = walk_as ks (ap (λ z. state z 0 Other) (same_begun o b.1)) (step ks s Comma w.walk h (refl, b.0, refl))

-- Lists of contexts.
record ContextsWalked (xs : List ℕ) (ks : List Kind) (q : ℕ) (o : List Opened) : Type 0 where
  pub commas : ℕ
  pub count : suc commas ≡ length xs
  pub walked : Walked ks q (added commas o) Any

walk_contexts : (ts : List Token) → Shallow (kinds_of ts) → {xs : List ℕ} {p q : ℕ} → IsContexts ts xs p q → (o : List Opened) (n : ℕ) (l : Last) → Room o (length xs) → Walk (kinds_of ts) p (state o n l) → ContextsWalked xs (kinds_of ts) q o
walk_contexts ts s (last_context h) o n l r w = record {
  commas = 0;
  count = refl;
  walked = walked_as (kinds_of ts) (sym (added_none o)) (record { operators = n; last = Operand; walk = step (kinds_of ts) s Context w h (refl, room_first o 0 r, refl); holds = tt });
}
walk_contexts ts s (more_contexts {xs = xs} {p = p} h c d) o n l r w =
    let t = room_first o (length xs) r in
    let next = step (kinds_of ts) s Comma (step (kinds_of ts) s Context w h (refl, t, refl)) c (refl, t, refl) in
    let rest = walk_contexts ts s d (one_more_begun o) 0 Other (room_next o (length xs) r) (walk_at (kinds_of ts) (sym (next_to p)) next) in
    let count = rest.count in
    record { commas = suc rest.commas; count = ap suc count; walked = walked_as (kinds_of ts) (next_added rest.commas o) rest.walked }

-- Conditions.
walk_name : (ts : List Token) → Shallow (kinds_of ts) → {p : ℕ} (o : List Opened) (n : ℕ) (l : Last) → NameAt ts p → has_too_many o ≡ false → was_operand l ≡ false → Walk (kinds_of ts) p (state o n l) →
    Walk (kinds_of ts) (p + 1) (state o 0 (Word (limit_behind l o)))
walk_name ts s o n l (inl h) t e w = step (kinds_of ts) s Name w h (refl, t, refl)
walk_name ts s o n l (inr (inl h)) t e w = step (kinds_of ts) s Quoted w h (refl, t, refl)
walk_name ts s o n l (inr (inr h)) t e w =
    walk_as (kinds_of ts) (ap (λ b. state o (if b then n + 1 else 0) (if b then Other else Word (limit_behind l o))) e)
    (step (kinds_of ts) s Mod w h (and_left (was_operand l) (nat_le most_operators n) e, t, refl))

walk_context_arguments : (ts : List Token) → Shallow (kinds_of ts) → {xs : List ℕ} {p q : ℕ} → IsContextArguments ts xs p q → (o : List Opened) (m : ℕ) → has_too_many o ≡ false → length xs ≤ m →
    Walk (kinds_of ts) p (state o 0 (Word m)) → Walked (kinds_of ts) q o Any
walk_context_arguments ts s no_contexts o m t f w = record { operators = 0; last = Word m; walk = w; holds = tt }
walk_context_arguments ts s (some_contexts {xs = xs} b d c) o m t f w =
    let inner = walk_contexts ts s d (Arguments m 1 ∷ o) 0 Other (room_arguments m (length xs) o f) (step (kinds_of ts) s LParen w b (refl, t, refl)) in
    let count = inner.count in
    record {
      operators = inner.walked.operators;
      last = Closed (1 + inner.commas);
      walk = step (kinds_of ts) s RParen inner.walked.walk c (refl, not_lower m (1 + inner.commas) (omega (arith, count, f)), refl);
      holds = tt;
    }

walk_comparison : (ts : List Token) → Shallow (kinds_of ts) → {p n : ℕ} {o : List Opened} {l : Last} (c : Cmp) → CmpAt ts p c → has_too_many o ≡ false → Walk (kinds_of ts) p (state o n l) → Walk (kinds_of ts) (p + 1) (state o 0 Other)
walk_comparison ts s cmp.Lt h t w = step (kinds_of ts) s Less w h (refl, t, refl)
walk_comparison ts s cmp.Le h t w = step (kinds_of ts) s LessEq w h (refl, t, refl)
walk_comparison ts s cmp.Gt h t w = step (kinds_of ts) s Greater w h (refl, t, refl)
walk_comparison ts s cmp.Ge h t w = step (kinds_of ts) s GreaterEq w h (refl, t, refl)
walk_comparison ts s cmp.Eq h t w = step (kinds_of ts) s NumEq w h (refl, t, refl)
walk_comparison ts s cmp.Ne h t w = step (kinds_of ts) s NumNe w h (refl, t, refl)

walk_condition : (ts : List Token) → Shallow (kinds_of ts) → {x : tree.WrittenCondition} {p q : ℕ} → IsCondition ts x p q → FitsCondition x → (o : List Opened) → Outer o → Walk (kinds_of ts) p (state o 0 Other) → Walked (kinds_of ts) q o Any
walk_condition ts s (is_called h d) f o b w =
    let e = b.1 in walk_context_arguments ts s d o (limit_in o) b.0 (omega (arith, f, e)) (walk_name ts s o 0 Other h b.0 refl w)
walk_condition ts s (is_compared c d h e) f o b w =
    let first = walk_sum ts s d o b.0 0 Other refl (let g = f.0 in omega (arith, g)) w in
    let second = walk_sum ts s e o b.0 0 Other refl (let g = f.1 in omega (arith, g)) (walk_comparison ts s c h b.0 first.walk) in
    record { operators = _; last = second.last; walk = second.walk; holds = tt }
walk_condition ts s (is_equal_condition {p = p} h e d) f o b w =
    let next = step (kinds_of ts) s Equal (step (kinds_of ts) s Context w h (refl, b.0, refl)) e (refl, b.0, refl) in
    let side = walk_sum ts s d o b.0 0 Equals refl (omega (arith, f)) (walk_at (kinds_of ts) (sym (next_to p)) next) in
    record { operators = _; last = side.last; walk = side.walk; holds = tt }
walk_condition ts s (is_different {p = p} h e c) f o b w =
    let next = step (kinds_of ts) s Differ (step (kinds_of ts) s Context w h (refl, b.0, refl)) e (refl, b.0, refl) in
    let last = step (kinds_of ts) s Context (walk_at (kinds_of ts) (sym (next_to p)) next) c (refl, b.0, refl) in
    record { operators = 0; last = Operand; walk = walk_at (kinds_of ts) (omega arith) last; holds = tt }

walk_guard : (ts : List Token) → Shallow (kinds_of ts) → {xs : List tree.WrittenCondition} {p q : ℕ} → IsWrittenGuard ts xs p q → AllByRecursion FitsCondition xs → (o : List Opened) → Outer o → Walk (kinds_of ts) p (state o 0 Other) → Walked (kinds_of ts) q o Any
walk_guard ts s (last_condition d) f o b w = walk_condition ts s d f.0 o b w
walk_guard ts s (more_conditions d h e) f o b w = walk_guard ts s e f.1 o b (comma_step (kinds_of ts) s o b (walk_condition ts s d f.0 o b w) h)

-- Terms, items and clauses.
record TermsWalked (xs : tree.Terms) (ks : List Kind) (q : ℕ) (o : List Opened) : Type 0 where
  pub commas : ℕ
  pub count : suc commas ≡ number_of_terms xs
  pub walked : Walked ks q (added commas o) Any

abbrev FullOnly : ℕ → Last → Type 0
FullOnly n l = n ≤ most_term_arguments → NotFull l

mutual
  walk_clauses : (ts : List Token) → Shallow (kinds_of ts) → {x : tree.Clauses} {p q : ℕ} → IsClauses ts x p q → FitsClauses x → (o : List Opened) → Outer o → (n : ℕ) → Walk (kinds_of ts) p (state o n Other) → Walked (kinds_of ts) q o Any
  walk_clauses ts s no_clauses f o b n w = record { operators = n; last = Other; walk = w; holds = tt }
  walk_clauses ts s (last_clause d) f o b n w = walk_clause ts s d f.0 o b n w
  walk_clauses ts s (more_clauses d h e) f o b n w = walk_clauses ts s e f.1 o b 0 (step (kinds_of ts) s Dot (walk_clause ts s d f.0 o b n w).walk h (refl, b.0, refl))

  walk_clause : (ts : List Token) → Shallow (kinds_of ts) → {x : tree.Clause} {p q : ℕ} → IsClause ts x p q → FitsClause x → (o : List Opened) → Outer o → (n : ℕ) → Walk (kinds_of ts) p (state o n Other) → Walked (kinds_of ts) q o Any
  walk_clause ts s (named_rule {p = p} h a d) f o b n w =
      walk_rule ts s d f o b 0 (walk_at (kinds_of ts) (sym (next_to p)) (step (kinds_of ts) s AtAt (walk_name ts s o n Other h b.0 refl w) a (refl, b.0, refl)))
  walk_clause ts s (unnamed_rule d) f o b n w = walk_rule ts s d f o b n w
  walk_clause ts s (is_process d) f o b n w = walk_list ts s d f o b n w

  walk_rule : (ts : List Token) → Shallow (kinds_of ts) → {t : ℕ} {x : tree.Clause} {p q : ℕ} → IsWrittenRule ts t x p q → FitsClause x → (o : List Opened) → Outer o → (n : ℕ) → Walk (kinds_of ts) p (state o n Other) → Walked (kinds_of ts) q o Any
  walk_rule ts s (is_rule t d h e) f o b n w = walk_body ts s e f.2 f.3 o b (step (kinds_of ts) s Arrow (walk_heads ts s d f.0 f.1 o b n w).walk h (refl, b.0, refl))

  walk_heads : (ts : List Token) → Shallow (kinds_of ts) → {x y : tree.Items} {p q : ℕ} → IsHeads ts x y p q → FitsItems x → FitsItems y → (o : List Opened) → Outer o → (n : ℕ) → Walk (kinds_of ts) p (state o n Other) → Walked (kinds_of ts) q o Any
  walk_heads ts s (all_taken d) f g o b n w = walk_opt_list ts s d g o b n w
  walk_heads ts s (some_kept d h e) f g o b n w = walk_opt_list ts s e g o b 0 (step (kinds_of ts) s Backslash (walk_opt_list ts s d f o b n w).walk h (refl, b.0, refl))

  walk_body : (ts : List Token) → Shallow (kinds_of ts) → {g : List tree.WrittenCondition} {x : tree.Items} {p q : ℕ} → IsBody ts g x p q → AllByRecursion FitsCondition g → FitsItems x → (o : List Opened) → Outer o →
      Walk (kinds_of ts) p (state o 0 Other) → Walked (kinds_of ts) q o Any
  walk_body ts s (no_guard d) g f o b w = walk_opt_list ts s d f o b 0 w
  walk_body ts s (empty_guard h d) g f o b w = walk_opt_list ts s d f o b 0 (step (kinds_of ts) s Bar w h (refl, b.0, refl))
  walk_body ts s (guarded d h e) g f o b w = walk_opt_list ts s e f o b 0 (step (kinds_of ts) s Bar (walk_guard ts s d g o b w).walk h (refl, b.0, refl))

  walk_opt_list : (ts : List Token) → Shallow (kinds_of ts) → {x : tree.Items} {p q : ℕ} → IsOptList ts x p q → FitsItems x → (o : List Opened) → Outer o → (n : ℕ) → Walk (kinds_of ts) p (state o n Other) → Walked (kinds_of ts) q o Any
  walk_opt_list ts s no_list f o b n w = record { operators = n; last = Other; walk = w; holds = tt }
  walk_opt_list ts s (some_list d) f o b n w = walk_list ts s d f o b n w

  walk_list : (ts : List Token) → Shallow (kinds_of ts) → {x : tree.Items} {p q : ℕ} → IsList ts x p q → FitsItems x → (o : List Opened) → Outer o → (n : ℕ) → Walk (kinds_of ts) p (state o n Other) → Walked (kinds_of ts) q o Any
  walk_list ts s (last_item d) f o b n w = walk_item ts s d f.0 o b n w
  walk_list ts s (more_items d h e) f o b n w = walk_list ts s e f.1 o b 0 (comma_step (kinds_of ts) s o b (walk_item ts s d f.0 o b n w) h)

  walk_item : (ts : List Token) → Shallow (kinds_of ts) → {x : tree.Item} {p q : ℕ} → IsItem ts x p q → FitsItem x → (o : List Opened) → Outer o → (n : ℕ) → Walk (kinds_of ts) p (state o n Other) → Walked (kinds_of ts) q o Any
  walk_item ts s (is_atom_item d) f o b n w = any (kinds_of ts) (walk_atom ts s d f.1 o n Other b.0 refl (let g = f.0 in let e = b.1 in omega (arith, g, e)) w)
  walk_item ts s (is_membrane_item d) f o b n w = any (kinds_of ts) (walk_membrane ts s d f o n Other b.0 w)
  walk_item ts s (is_context_item h) f o b n w = record { operators = n; last = Operand; walk = step (kinds_of ts) s Context w h (refl, b.0, refl); holds = tt }
  walk_item ts s (is_closed {p = p} h a c) f o b n w =
      let k = kinds_of ts in
      let opened = step k s LBracket (step k s Context w h (refl, b.0, refl)) a (refl, b.0, refl) in
      let closed = step k s RBracket (walk_at k (sym (next_to p)) opened) c (refl, refl, refl) in
      record { operators = 0; last = Other; walk = walk_at k (omega arith) closed; holds = tt }
  walk_item ts s (is_bracketed {p = p} h a d c) f o b n w =
      let k = kinds_of ts in
      let opened = step k s LBracket (step k s Context w h (refl, b.0, refl)) a (refl, b.0, refl) in
      let link = step k s Link (walk_at k (sym (next_to p)) opened) d (refl, refl, refl) in
      let three : p + 2 + 1 ≡ p + 3 = omega arith in
      let closed = step k s RBracket (walk_at k three link) c (refl, refl, refl) in
      record { operators = 0; last = Other; walk = walk_at k (omega arith) closed; holds = tt }
  walk_item ts s (is_rule_context h) f o b n w = record { operators = 0; last = Other; walk = step (kinds_of ts) s RuleCtx w h (refl, b.0, refl); holds = tt }
  walk_item ts s (is_plus_link {p = p} h d) f o b n w =
      let link = step (kinds_of ts) s Link (step (kinds_of ts) s Plus w h (refl, b.0, refl)) d (refl, b.0, refl) in
      record { operators = 0; last = Other; walk = walk_at (kinds_of ts) (sym (next_to p)) link; holds = tt }
  walk_item ts s (is_group a d c) f o b n w =
      let inner = walk_clause ts s d f (Group ∷ o) (refl, refl) n (step (kinds_of ts) s LParen w a (refl, b.0, refl)) in
      record { operators = inner.operators; last = Operand; walk = step (kinds_of ts) s RParen inner.walk c (refl, refl, refl); holds = tt }
  walk_item ts s (is_equation d h e) f o b n w =
      let l = walk_term ts s d f.0 o n Other b.0 refl w in
      any (kinds_of ts) (walk_term ts s e f.1 o 0 Equals b.0 refl (step (kinds_of ts) s Equal l.walk h (refl, b.0, l.holds)))

  walk_membrane : (ts : List Token) → Shallow (kinds_of ts) → {x : tree.Clauses} {p q : ℕ} → IsMembrane ts x p q → FitsClauses x → (o : List Opened) (n : ℕ) (l : Last) → has_too_many o ≡ false → Walk (kinds_of ts) p (state o n l) → Walked (kinds_of ts) q o NotFull
  walk_membrane ts s (in_braces a d c) f o n l t w =
      let inner = walk_clauses ts s d f (Group ∷ o) (refl, refl) 0 (step (kinds_of ts) s LBrace w a (refl, t, refl)) in
      record { operators = 0; last = Other; walk = step (kinds_of ts) s RBrace inner.walk c (refl, refl, refl); holds = refl }

  walk_atom : (ts : List Token) → Shallow (kinds_of ts) → {m : ℕ} {x : tree.Terms} {p q : ℕ} → IsWrittenAtom ts m x p q → FitsTerms x → (o : List Opened) (n : ℕ) (l : Last) → has_too_many o ≡ false → was_operand l ≡ false →
      number_of_terms x ≤ limit_behind l o → Walk (kinds_of ts) p (state o n l) → Walked (kinds_of ts) q o (FullOnly (number_of_terms x))
  walk_atom ts s (with_name h d) f o n l t e g w = walk_arguments ts s d f o (limit_behind l o) 0 (Word (limit_behind l o)) t refl refl g (limit_least l o) (walk_name ts s o n l h t e w)
  walk_atom ts s (with_integer h d) f o n l t e g w =
      walk_arguments ts s d f o (limit_behind l o) n (Digits (limit_behind l o)) t refl refl g (limit_least l o) (step (kinds_of ts) s Int w h (refl, t, refl))

  walk_arguments : (ts : List Token) → Shallow (kinds_of ts) → {x : tree.Terms} {p q : ℕ} → IsArguments ts x p q → FitsTerms x → (o : List Opened) (m n : ℕ) (l : Last) → has_too_many o ≡ false →
      round_behind l ≡ Arguments m 1 → is_full l ≡ false → number_of_terms x ≤ m → most_term_arguments ≤ m → Walk (kinds_of ts) p (state o n l) → Walked (kinds_of ts) q o (FullOnly (number_of_terms x))
  walk_arguments ts s no_parentheses f o m n l t r e g b w = record { operators = n; last = l; walk = w; holds = λ h. e }
  walk_arguments ts s (no_arguments {p = p} a c) f o m n l t r e g b w =
      let inner : Walk (kinds_of ts) (p + 1) (state (Arguments m 1 ∷ o) n Other) = walk_as (kinds_of ts) (ap (λ x. state (x ∷ o) n Other) r) (step (kinds_of ts) s LParen w a (refl, t, refl)) in
      record {
        operators = n;
        last = Closed 1;
        walk = walk_at (kinds_of ts) (sym (next_to p)) (step (kinds_of ts) s RParen inner c (refl, not_lower m 1 (omega (arith, b)), refl));
        holds = λ h. refl;
      }
  walk_arguments ts s (some_arguments {xs = xs} {p = p} a d c) f o m n l t r e g b w =
      let opened : Walk (kinds_of ts) (p + 1) (state (Arguments m 1 ∷ o) n Other) = walk_as (kinds_of ts) (ap (λ x. state (x ∷ o) n Other) r) (step (kinds_of ts) s LParen w a (refl, t, refl)) in
      let inner = walk_terms ts s d f (Arguments m 1 ∷ o) n (room_arguments m (number_of_terms xs) o g) opened in
      let count = inner.count in
      record {
        operators = inner.walked.operators;
        last = Closed (1 + inner.commas);
        walk = step (kinds_of ts) s RParen inner.walked.walk c (refl, not_lower m (1 + inner.commas) (omega (arith, count, g)), refl);
        holds = λ h. below most_arguments (1 + inner.commas) (omega (arith, count, h));
      }

  walk_terms : (ts : List Token) → Shallow (kinds_of ts) → {x : tree.Terms} {p q : ℕ} → IsTerms ts x p q → FitsTerms x → (o : List Opened) (n : ℕ) → Room o (number_of_terms x) → Walk (kinds_of ts) p (state o n Other) → TermsWalked x (kinds_of ts) q o
  walk_terms ts s (last_term d) f o n r w =
      record { commas = 0; count = refl; walked = walked_as (kinds_of ts) (sym (added_none o)) (any (kinds_of ts) (walk_term ts s d f.0 o n Other (room_first o 0 r) refl w)) }
  walk_terms ts s (more_terms {xs = xs} d h e) f o n r w =
      let t = room_first o (number_of_terms xs) r in
      let next = step (kinds_of ts) s Comma (walk_term ts s d f.0 o n Other t refl w).walk h (refl, t, refl) in
      let rest = walk_terms ts s e f.1 (one_more_begun o) 0 (room_next o (number_of_terms xs) r) next in
      record { commas = suc rest.commas; count = ap suc rest.count; walked = walked_as (kinds_of ts) (next_added rest.commas o) rest.walked }

  walk_term : (ts : List Token) → Shallow (kinds_of ts) → {x : tree.Term} {p q : ℕ} → IsTerm ts x p q → FitsTerm x → (o : List Opened) (n : ℕ) (l : Last) → has_too_many o ≡ false → was_operand l ≡ false →
      Walk (kinds_of ts) p (state o n l) → Walked (kinds_of ts) q o NotFull
  walk_term ts s (is_link h) f o n l t e w = record { operators = 0; last = Other; walk = step (kinds_of ts) s Link w h (refl, t, refl); holds = refl }
  walk_term ts s (is_atom d) f o n l t e w =
      let g = f.0 in let b = limit_least l o in
      let a = walk_atom ts s d f.1 o n l t e (omega (arith, g, b)) w in
      record { operators = a.operators; last = a.last; walk = a.walk; holds = a.holds g }
  walk_term ts s (is_context h) f o n l t e w = record { operators = n; last = Operand; walk = step (kinds_of ts) s Context w h (refl, t, refl); holds = refl }
  walk_term ts s (is_membrane d) f o n l t e w = walk_membrane ts s d f o n l t w
  walk_term ts s (is_list d) f o n l t e w = walk_term_list ts s d f o n l t w

  walk_term_list : (ts : List Token) → Shallow (kinds_of ts) → {x : tree.Term} {p q : ℕ} → IsTermList ts x p q → FitsTerm x → (o : List Opened) (n : ℕ) (l : Last) → has_too_many o ≡ false → Walk (kinds_of ts) p (state o n l) → Walked (kinds_of ts) q o NotFull
  walk_term_list ts s (empty_list {p = p} a c) f o n l t w =
      record { operators = 0; last = Other; walk = walk_at (kinds_of ts) (sym (next_to p)) (step (kinds_of ts) s RBracket (step (kinds_of ts) s LBracket w a (refl, t, refl)) c (refl, refl, refl)); holds = refl }
  walk_term_list ts s (closed_list {xs = xs} a d c) f o n l t w =
      let inner = walk_terms ts s d f (Terms ∷ o) 0 (room_terms (number_of_terms xs) o) (step (kinds_of ts) s LBracket w a (refl, t, refl)) in
      record { operators = 0; last = Other; walk = step (kinds_of ts) s RBracket inner.walked.walk c (refl, refl, refl); holds = refl }
  walk_term_list ts s (open_list {xs = xs} a d h e c) f o n l t w =
      let inner = walk_terms ts s d f.0 (Terms ∷ o) 0 (room_terms (number_of_terms xs) o) (step (kinds_of ts) s LBracket w a (refl, t, refl)) in
      let rest = walk_term ts s e f.1 (Terms ∷ o) 0 Other refl refl (step (kinds_of ts) s Bar inner.walked.walk h (refl, refl, refl)) in
      record { operators = 0; last = Other; walk = step (kinds_of ts) s RBracket rest.walk c (refl, refl, refl); holds = refl }

-- tokens of a tree that fits are within the limits, where no more brackets are open than may be
pub fitting_within : FittingIsWithin
fitting_within ts tree (q, d, e, l) f s =
    let all = walk_clauses ts s d f [] (refl, refl) 0 (record { before = []; split = refl; within = within_none; is = refl }) in
    let ended = step (kinds_of ts) s End all.walk e (refl, refl, refl) in
    let W : List Kind → Type 0 = IsWithin in
    let none : drop (q + 1) (kinds_of ts) ≡ [] = ap (λ n. drop n (kinds_of ts)) (l ∙ sym (length-map ts (λ t. t.kind))) ∙ drop_all (kinds_of ts) in
    subst W (sym (plus_nothing ended.before) ∙ ap (λ z. ended.before ++ z) (sym none) ∙ sym ended.split) ended.within
