-- Behind ':-' a guard and a list are both possible for a while.
use Rattle.std.proofs.Common.{◌≡◌, ℕ, ◌+◌, ◌<◌, ◌≤◌, max, Bool, true, false, List, [], ◌∷◌, ◌++◌, length, drop, slice_get, Some, None, refl, sym, ◌∙◌, ap, arith, subst, append_assoc, length-append, if◌then◌else◌}
use Rattle.lmn_parser_grammar.specs.Grammar.{Tok, Opt, ◌·◌, Derives, list, guard, body}
use Rattle.lmn_parser_grammar.proofs.Theory.{DerivesAll}
use Rattle.lmn_parser_grammar.specs.Factored.{guard_bar}
use Rattle.lmn_parser_grammar.specs.Reading.{Owed, is_kind, next, stop_at, begins, ReadsTo, StopsAt, OnlyClosers, EndsOptList, may_follow_clause}
use Rattle.lmn_lexer.specs.declared.token.Kind.{Kind}
use Rattle.lmn_lexer.specs.declared.token.Kind.TheVariants.{Bar, RParen, RBrace, Dot, End}
use Rattle.lmn_parser_grammar.proofs.Theory.{complete_next, of_tok, same_kind}
use Rattle.lmn_parser_grammar.proofs.Stops.{same_some, dead_owed, dead_here, stop_at_from, stop_upto, stop_nothing, tok_taken, tok_dead}
use Rattle.lmn_parser_grammar.proofs.SameLanguage.{seq, opt, seq_parts}
use Rattle.lmn_parser_grammar.proofs.Choices.{not_begun, opt_none}
use Rattle.lmn_parser_grammar.proofs.Tells.{nothing_found, Tells, tells, one_alive, found_one, longer_front}
use Rattle.lmn_parser_grammar.proofs.Spans.{read_derives, front_get}
use Rattle.lmn_parser_grammar.proofs.Loose.{first_loose, calm_keeps}
use Rattle.lmn_parser_grammar.proofs.Clauses.{closers_opt_list}
use Rattle.lmn_base.proofs.Numbers.{at_most_by_not as not_above}
use Rattle.lmn_base.proofs.Truth.{false_not_true as clash}

-- what a reader knows of its attempt at a guard, and of a list
abbrev pub GuardRead : List Kind → ℕ → ℕ → Type 0
GuardRead ts p q = (κ : Owed) → ReadsTo ts p guard_bar q κ

-- reading a guard and its bar stops there, whatever is owed behind them
abbrev pub GuardStops : List Kind → ℕ → ℕ → Type 0
GuardStops ts p g = (κ : Owed) → StopsAt ts p guard_bar κ g

-- a list, if any, is read up to there, whatever that doesn't go on with it is owed behind
abbrev pub ListRead : List Kind → ℕ → ℕ → Type 0
ListRead ts p q = (κ : Owed) → EndsOptList κ → ReadsTo ts p (Opt list) q κ

-- reading a list, if any, stops there, whatever that doesn't go on with it is owed behind
abbrev pub ListStops : List Kind → ℕ → ℕ → Type 0
ListStops ts p l = (κ : Owed) → EndsOptList κ → StopsAt ts p (Opt list) κ l

bar_clash : (t : Kind) → may_follow_clause t ≡ true → Some t ≡ Some Bar → ⊥
bar_clash t h e = clash (sym (ap may_follow_clause (same_some t Bar e)) ∙ h)

-- the first loose token of a guard with its bar is the bar
guard_loose : (u v : List Kind) → Derives guard_bar u → first_loose 0 (u ++ v) ≡ Some Bar
guard_loose u v d = let s = seq_parts guard (Tok Bar) u d in
    ap (λ z. first_loose 0 (z ++ v)) (s.2 ∙ ap (λ z. s.0 ++ z) (of_tok Bar s.1 s.4)) ∙ ap (first_loose 0) (append_assoc s.0 (Bar ∷ []) v) ∙ calm_keeps 0 guard s.0 s.3 refl (Bar ∷ v)

-- what ends a clause is loose
loose : (t : Kind) (y : List Kind) → may_follow_clause t ≡ true → first_loose 0 (t ∷ y) ≡ Some t
loose RParen y c = refl
loose RBrace y c = refl
loose Dot y c = refl
loose End y c = refl
loose _ y c = absurd (clash c)

-- what follows a clause begins with what ends it
closer_first : (κ : Owed) (y : List Kind) → OnlyClosers κ → DerivesAll κ y → first_loose 0 y ≡ Some Bar → ⊥
closer_first κ [] n d h = none h
  where
    none : None ≡ Some Bar → ⊥
    none x = cc
closer_first κ (t ∷ y) n d h = go (may_follow_clause t) refl
  where
    go : (b : Bool) → may_follow_clause t ≡ b → ⊥
    go true c = bar_clash t c (sym (loose t y c) ∙ h)
    go false c = nothing_found (next κ t) y (n t c) (complete_next κ t y d)

-- A list holds no bar outside brackets, so with what follows a clause it doesn't begin with a guard and its bar.
not_both : (κ : Owed) (u rest : List Kind) → OnlyClosers κ → Derives guard_bar u → DerivesAll (Opt list ∷ κ) (u ++ rest) → ⊥
not_both κ u rest n g (x, y, e, d, dk) = closer_first κ y n dk (sym (calm_keeps 0 (Opt list) x d refl y) ∙ ap (first_loose 0) (sym e) ∙ guard_loose u rest g)

-- where a guard is read to q, no list goes beyond q
pub list_stops_first : (ts : List Kind) (p q : ℕ) (κ : Owed) → OnlyClosers κ → GuardRead ts p q → stop_at ts p ((Opt list ∷ κ) ∷ []) ≤ q
list_stops_first ts p q κ n g =
    let P : ℕ → Type 0 = Tells ((guard_bar ∷ []) ∷ []) p (drop p ts) in
    let a = subst P (g [] ∙ stop_nothing ts q) (tells (drop p ts) p ((guard_bar ∷ []) ∷ []) (one_alive (guard_bar ∷ []))) in
    go a.taken a.left a.split a.count
  where
    beyond : (u v : List Kind) → drop p ts ≡ u ++ v → q ≡ p + length u → Derives guard_bar u → (r : ℕ) → Tells ((Opt list ∷ κ) ∷ []) p (drop p ts) r → q < r → ⊥
    beyond u v e c d r b far =
        let lens : length u ≤ length b.taken = omega (arith, c, b.count, far) in
        let x = longer_front u v b.taken b.left (sym e ∙ b.split) lens in
        let D : List Kind → Type 0 = DerivesAll (Opt list ∷ κ) in
        not_both κ u (x.0 ++ b.rest) n d (subst D (ap (λ z. z ++ b.rest) x.1 ∙ append_assoc u x.0 b.rest) (found_one (Opt list ∷ κ) _ b.goes_on))

    at_token : (t : Kind) → slice_get ts q ≡ Some t → stop_at ts p ((Opt list ∷ κ) ∷ []) ≤ q
    at_token t h =
        let d = read_derives ts p q guard_bar t (g [] ∙ stop_nothing ts q) h (g (Tok t ∷ []) ∙ tok_taken ts q t [] h ∙ stop_nothing ts (q + 1)) in
        not_above (stop_at ts p ((Opt list ∷ κ) ∷ [])) q (λ far. beyond d.0 (t ∷ d.1) d.2 d.3 d.4 _ (tells (drop p ts) p ((Opt list ∷ κ) ∷ []) (one_alive (Opt list ∷ κ))) far)

    go : (u v : List Kind) → drop p ts ≡ u ++ v → q ≡ p + length u → stop_at ts p ((Opt list ∷ κ) ∷ []) ≤ q
    go u [] e c = omega (arith, stop_upto (drop p ts) p ((Opt list ∷ κ) ∷ []), ap length e ∙ length-append u [], c)
    go u (t ∷ v) e c = at_token t (front_get ts u v p q t e c)

-- where a list is read to q and the guard goes beyond q, what follows a clause takes nothing at q
pub closers_take_nothing : (ts : List Kind) (p q g : ℕ) (κ : Owed) → OnlyClosers κ → GuardStops ts p g → ListRead ts p q → q < g → stop_at ts q (κ ∷ []) ≡ q
closers_take_nothing ts p q g κ n stops read far = dead_owed ts q κ go
  where
    closer_owed : (t : Kind) → may_follow_clause t ≡ true → OnlyClosers (Tok t ∷ [])
    closer_owed t c x h = other (is_kind t x) refl
      where
        other : (b : Bool) → is_kind t x ≡ b → next (Tok t ∷ []) x ≡ []
        other true e = absurd (clash (sym h ∙ ap may_follow_clause (sym (same_kind t x e)) ∙ c))
        other false e = ap (λ z. (if z then [] ∷ [] else []) ++ []) e

    a_guard : (u rest : List Kind) (t : Kind) → may_follow_clause t ≡ true → Derives (Opt list) u → DerivesAll (guard_bar ∷ []) (u ++ t ∷ rest) → ⊥
    a_guard u rest t c l (x, y, e, d, dk) =
        bar_clash t c (sym (calm_keeps 0 (Opt list) u l refl (t ∷ rest) ∙ loose t rest c) ∙ ap (first_loose 0) e ∙ guard_loose x y d)

    beyond : (t : Kind) (u v : List Kind) → may_follow_clause t ≡ true → drop p ts ≡ u ++ t ∷ v → q ≡ p + length u → Derives (Opt list) u → Tells ((guard_bar ∷ []) ∷ []) p (drop p ts) g → ⊥
    beyond t u v c e count d b =
        let sizes : length (u ++ t ∷ []) ≡ length u + 1 = length-append u (t ∷ []) in
        let lens : length (u ++ t ∷ []) ≤ length b.taken = omega (arith, sizes, count, b.count, far) in
        let x = longer_front (u ++ t ∷ []) v b.taken b.left (append_assoc u (t ∷ []) v ∙ sym e ∙ b.split) lens in
        let D : List Kind → Type 0 = DerivesAll (guard_bar ∷ []) in
        a_guard u (x.0 ++ b.rest) t c d (subst D (ap (λ z. z ++ b.rest) x.1 ∙ append_assoc (u ++ t ∷ []) x.0 b.rest ∙ append_assoc u (t ∷ []) (x.0 ++ b.rest)) (found_one (guard_bar ∷ []) _ b.goes_on))

    closer : (t : Kind) → slice_get ts q ≡ Some t → may_follow_clause t ≡ true → ⊥
    closer t h c =
        let owed : OnlyClosers (Tok t ∷ []) = closer_owed t c in
        let empty : OnlyClosers [] = λ x e. refl in
        let d = read_derives ts p q (Opt list) t (read [] (closers_opt_list [] empty) ∙ stop_nothing ts q) h
        (read (Tok t ∷ []) (closers_opt_list (Tok t ∷ []) owed) ∙ tok_taken ts q t [] h ∙ stop_nothing ts (q + 1)) in
        let P : ℕ → Type 0 = Tells ((guard_bar ∷ []) ∷ []) p (drop p ts) in
        beyond t d.0 d.1 c d.2 d.3 d.4 (subst P (stops []) (tells (drop p ts) p ((guard_bar ∷ []) ∷ []) (one_alive (guard_bar ∷ []))))

    go : (t : Kind) → slice_get ts q ≡ Some t → next κ t ≡ []
    go t h = either (may_follow_clause t) refl
      where
        either : (b : Bool) → may_follow_clause t ≡ b → next κ t ≡ []
        either true c = absurd (closer t h c)
        either false c = n t c

-- The three ways behind ':-'.
three : (ts : List Kind) (p : ℕ) (κ : Owed) → stop_at ts p ((body ∷ κ) ∷ [])
    ≡ max (max (stop_at ts p ((guard_bar ∷ Opt list ∷ κ) ∷ [])) (stop_at ts p ((Tok Bar ∷ Opt list ∷ κ) ∷ []))) (stop_at ts p ((Opt list ∷ κ) ∷ []))
three ts p κ =
    let rest : Owed = Opt list ∷ κ in
    seq ts p (Opt (Opt guard · Tok Bar)) (Opt list) κ ∙ opt ts p (Opt guard · Tok Bar) rest
    ∙ ap (λ n. max n (stop_at ts p (rest ∷ []))) (seq ts p (Opt guard) (Tok Bar) rest ∙ opt ts p guard (Tok Bar ∷ rest)
    ∙ ap (λ n. max n (stop_at ts p ((Tok Bar ∷ rest) ∷ []))) (sym (seq ts p guard (Tok Bar) rest)))

-- the bar at once
pub body_bar : (ts : List Kind) (p : ℕ) (κ : Owed) → OnlyClosers κ → slice_get ts p ≡ Some Bar → stop_at ts p ((body ∷ κ) ∷ []) ≡ stop_at ts (p + 1) ((Opt list ∷ κ) ∷ [])
body_bar ts p κ n h = second _ _ _ _ _ (three ts p κ) (tok_taken ts p Bar (Opt list ∷ κ) h)
    (not_begun ts p guard_bar (Opt list ∷ κ) (ap (begins guard_bar) h) refl)
    (opt_none ts p list κ (ap (begins list) h) ∙ dead_here ts p κ Bar h (n Bar refl)) (stop_at_from ts (p + 1) ((Opt list ∷ κ) ∷ []))
  where
    second : (m a b c r : ℕ) → m ≡ max (max a b) c → b ≡ r → a ≡ p → c ≡ p → p + 1 ≤ r → m ≡ r
    second m a b c r e x y z k = omega arith

two : (ts : List Kind) (p : ℕ) (κ : Owed) → (slice_get ts p ≡ Some Bar → ⊥) →
    stop_at ts p ((body ∷ κ) ∷ []) ≡ max (stop_at ts p ((guard_bar ∷ Opt list ∷ κ) ∷ [])) (stop_at ts p ((Opt list ∷ κ) ∷ []))
two ts p κ h = drop_middle _ _ _ _ (three ts p κ) (tok_dead ts p Bar (Opt list ∷ κ) h) (stop_at_from ts p ((Opt list ∷ κ) ∷ []))
  where
    drop_middle : (m a b c : ℕ) → m ≡ max (max a b) c → b ≡ p → p ≤ c → m ≡ max a c
    drop_middle m a b c e x y = omega arith

-- the guard is read to q
pub body_guarded : (ts : List Kind) (p q : ℕ) (κ : Owed) → OnlyClosers κ → (slice_get ts p ≡ Some Bar → ⊥) → GuardRead ts p q →
    stop_at ts p ((body ∷ κ) ∷ []) ≡ stop_at ts q ((Opt list ∷ κ) ∷ [])
body_guarded ts p q κ n h g = first _ _ _ _ (two ts p κ h) (g (Opt list ∷ κ)) (list_stops_first ts p q κ n g) (stop_at_from ts q ((Opt list ∷ κ) ∷ []))
  where
    first : (m a b r : ℕ) → m ≡ max a b → a ≡ r → b ≤ q → q ≤ r → m ≡ r
    first m a b r e x y z = omega arith

-- the guard stops at g, and the list at l
pub body_stops : (ts : List Kind) (p g l : ℕ) (κ : Owed) → OnlyClosers κ → (slice_get ts p ≡ Some Bar → ⊥) → GuardStops ts p g → ListStops ts p l →
    stop_at ts p ((body ∷ κ) ∷ []) ≡ max g l
body_stops ts p g l κ n h stops list_stops = two ts p κ h ∙ ap (λ m. max m (stop_at ts p ((Opt list ∷ κ) ∷ []))) (stops (Opt list ∷ κ)) ∙ ap (max g) (list_stops κ (closers_opt_list κ n))

-- the guard stops at g, beyond q, to which a list is read
pub body_beyond : (ts : List Kind) (p g q : ℕ) (κ : Owed) → OnlyClosers κ → (slice_get ts p ≡ Some Bar → ⊥) → GuardStops ts p g → ListRead ts p q → q < g →
    stop_at ts p ((body ∷ κ) ∷ []) ≡ g
body_beyond ts p g q κ n h stops read far =
    first _ _ _ (two ts p κ h) (stops (Opt list ∷ κ)) (read κ (closers_opt_list κ n) ∙ closers_take_nothing ts p q g κ n stops read far)
  where
    first : (m a b : ℕ) → m ≡ max a b → a ≡ g → b ≡ q → m ≡ g
    first m a b e x y = omega (arith, far)

-- the guard stops at g, and a list is read as far or farther, to q
pub body_listed : (ts : List Kind) (p g q : ℕ) (κ : Owed) → OnlyClosers κ → (slice_get ts p ≡ Some Bar → ⊥) → GuardStops ts p g → ListRead ts p q → g ≤ q →
    stop_at ts p ((body ∷ κ) ∷ []) ≡ stop_at ts q (κ ∷ [])
body_listed ts p g q κ n h stops read near =
    second _ _ _ _ (two ts p κ h) (stops (Opt list ∷ κ)) (read κ (closers_opt_list κ n)) (stop_at_from ts q (κ ∷ []))
  where
    second : (m a b r : ℕ) → m ≡ max a b → a ≡ g → b ≡ r → q ≤ r → m ≡ r
    second m a b r e x y z = omega (arith, near)
