-- Steps of reading.
use Rattle.std.proofs.Common.{◌≡◌, ℕ, zero, suc, ◌+◌, ◌≤◌, Bool, true, false, List, [], ◌∷◌, ◌++◌, length, drop, slice_get, Option, Some, None, refl, sym, ◌∙◌, ap, arith, subst, if◌then◌else◌, add-one}
use Rattle.lmn_parser_grammar.specs.Grammar.{Exp, Tok, Within, Bracket, opener, closer}
use Rattle.lmn_parser_grammar.specs.Reading.{Owed, is_kind, next, nexts, unless_dead, stop, stop_at}
use Rattle.lmn_lexer.specs.declared.token.Kind.{Kind}
use Rattle.lmn_parser_grammar.proofs.Theory.{same_kind, is_itself}

-- The tokens from p on begin with t.
pub drop_here : (ts : List Kind) (p : ℕ) (t : Kind) → slice_get ts p ≡ Some t → drop p ts ≡ t ∷ drop (suc p) ts
drop_here [] p t h = cc
drop_here (x ∷ ts) zero t h = cc
drop_here (x ∷ ts) (suc p) t h = drop_here ts p t h

-- behind the last token nothing is left
pub drop_past : (ts : List Kind) (p : ℕ) → slice_get ts p ≡ None → drop p ts ≡ []
drop_past [] zero h = refl
drop_past [] (suc p) h = refl
drop_past (x ∷ ts) zero h = cc
drop_past (x ∷ ts) (suc p) h = drop_past ts p h

-- reading goes past a token where something is owed behind it
pub stop_cons : (p : ℕ) (s : List Owed) (t : Kind) (w : List Kind) → stop p s (t ∷ w) ≡ unless_dead p (nexts s t) (stop (suc p) (nexts s t) w)
unfolding stop
stop_cons p s t w = refl

-- where no token is left reading stops
pub stop_none : (p : ℕ) (s : List Owed) → stop p s [] ≡ p
unfolding stop
stop_none p s = refl

-- reading stops nowhere before it begins, and nowhere behind the last token
pub stop_from : (w : List Kind) (p : ℕ) (s : List Owed) → p ≤ stop p s w
stop_from [] p s = let P : ℕ → Type 0 = λ n. p ≤ n in subst P (sym (stop_none p s)) (omega arith)
stop_from (t ∷ w) p s = let P : ℕ → Type 0 = λ n. p ≤ n in subst P (sym (stop_cons p s t w)) (go (nexts s t) _ (stop_from w (suc p) (nexts s t)))
  where
    go : (n : List Owed) (r : ℕ) → suc p ≤ r → p ≤ unless_dead p n r
    go [] r h = omega arith
    go (κ ∷ n) r h = omega arith

-- reading stops at the end at the latest
pub stop_upto : (w : List Kind) (p : ℕ) (s : List Owed) → stop p s w ≤ p + length w
stop_upto [] p s = let P : ℕ → Type 0 = λ n. n ≤ p + 0 in subst P (sym (stop_none p s)) (omega arith)
stop_upto (t ∷ w) p s = let P : ℕ → Type 0 = λ n. n ≤ p + suc (length w) in subst P (sym (stop_cons p s t w)) (go (nexts s t) _ (stop_upto w (suc p) (nexts s t)))
  where
    go : (n : List Owed) (r : ℕ) → r ≤ suc p + length w → unless_dead p n r ≤ p + suc (length w)
    go [] r h = omega arith
    go (κ ∷ n) r h = omega arith

-- reading stops where it begins or later
pub stop_at_from : (ts : List Kind) (p : ℕ) (s : List Owed) → p ≤ stop_at ts p s
stop_at_from ts p s = stop_from (drop p ts) p s

-- Only what may come next matters.
pub unfolded : (ts : List Kind) (p : ℕ) (s : List Owed) (t : Kind) → slice_get ts p ≡ Some t →
    stop_at ts p s ≡ unless_dead p (nexts s t) (stop_at ts (suc p) (nexts s t))
unfolded ts p s t h = ap (stop p s) (drop_here ts p t h) ∙ stop_cons p s t (drop (suc p) ts)

-- where no token stands reading stops
pub past : (ts : List Kind) (p : ℕ) (s : List Owed) → slice_get ts p ≡ None → stop_at ts p s ≡ p
past ts p s h = ap (stop p s) (drop_past ts p h) ∙ stop_none p s

-- rows that take the token alike are read alike
pub swap : (ts : List Kind) (p : ℕ) (s s' : List Owed) (t : Kind) → slice_get ts p ≡ Some t → nexts s t ≡ nexts s' t → stop_at ts p s ≡ stop_at ts p s'
swap ts p s s' t h e = unfolded ts p s t h ∙ ap (λ n. unless_dead p n (stop_at ts (suc p) n)) e ∙ sym (unfolded ts p s' t h)

-- where no row takes the token reading stops there
pub dead : (ts : List Kind) (p : ℕ) (s : List Owed) (t : Kind) → slice_get ts p ≡ Some t → nexts s t ≡ [] → stop_at ts p s ≡ p
dead ts p s t h e = unfolded ts p s t h ∙ ap (λ n. unless_dead p n (stop_at ts (suc p) n)) e

-- a token that is taken in one way is passed
pub advance : (ts : List Kind) (p : ℕ) (s : List Owed) (t : Kind) (κ : Owed) (s' : List Owed) → slice_get ts p ≡ Some t →
    nexts s t ≡ κ ∷ s' → stop_at ts p s ≡ stop_at ts (p + 1) (κ ∷ s')
advance ts p s t κ s' h e = unfolded ts p s t h
    ∙ ap (λ n. unless_dead p n (stop_at ts (suc p) n)) e
    ∙ ap (λ n. stop_at ts n (κ ∷ s')) (sym (add-one p))

-- Two lists of what is owed that go on in the same way stop at the same token.
pub alike : (ts : List Kind) (p : ℕ) (s s' : List Owed) → ((t : Kind) → slice_get ts p ≡ Some t → nexts s t ≡ nexts s' t) → stop_at ts p s ≡ stop_at ts p s'
alike ts p s s' e = go (slice_get ts p) refl
  where
    go : (o : Option Kind) → slice_get ts p ≡ o → stop_at ts p s ≡ stop_at ts p s'
    go None h = past ts p s h ∙ sym (past ts p s' h)
    go (Some t) h = swap ts p s s' t h (e t h)

-- where nothing that is owed takes the token reading stops there
pub dead_at : (ts : List Kind) (p : ℕ) (s : List Owed) → ((t : Kind) → slice_get ts p ≡ Some t → nexts s t ≡ []) → stop_at ts p s ≡ p
dead_at ts p s e = go (slice_get ts p) refl
  where
    go : (o : Option Kind) → slice_get ts p ≡ o → stop_at ts p s ≡ p
    go None h = past ts p s h
    go (Some t) h = dead ts p s t h (e t h)

-- nothing is owed, so nothing is taken
pub stop_nothing : (ts : List Kind) (p : ℕ) → stop_at ts p ([] ∷ []) ≡ p
stop_nothing ts p = dead_at ts p ([] ∷ []) (λ t h. refl)

-- what takes nothing at this token
pub dead_owed : (ts : List Kind) (p : ℕ) (κ : Owed) → ((t : Kind) → slice_get ts p ≡ Some t → next κ t ≡ []) → stop_at ts p (κ ∷ []) ≡ p
dead_owed ts p κ h = dead_at ts p (κ ∷ []) (λ t a. ap (λ l. l ++ []) (h t a))

-- reading stops where the one row that is owed doesn't take the token
pub dead_here : (ts : List Kind) (p : ℕ) (κ : Owed) (t : Kind) → slice_get ts p ≡ Some t → next κ t ≡ [] → stop_at ts p (κ ∷ []) ≡ p
dead_here ts p κ t h e = dead ts p (κ ∷ []) t h (ap (λ l. l ++ []) e)

-- One token.
pub unlike : (k t : Kind) → (k ≡ t → ⊥) → is_kind k t ≡ false
unlike k t h = go (is_kind k t) refl
  where
    go : (b : Bool) → is_kind k t ≡ b → b ≡ false
    go true e = absurd (h (same_kind k t e))
    go false e = refl

-- kinds are the same where they are so as values that are there
pub same_some : (k t : Kind) → Some k ≡ Some t → k ≡ t
same_some k t h = cc

-- a token that stands where another doesn't is not that
pub other_there : (ts : List Kind) (p : ℕ) (k t : Kind) → (slice_get ts p ≡ Some k → ⊥) → slice_get ts p ≡ Some t → is_kind k t ≡ false
other_there ts p k t other h = unlike k t (λ e. other (h ∙ ap Some (sym e)))

-- where another token is owed reading stops
pub tok_dead : (ts : List Kind) (p : ℕ) (k : Kind) (κ : Owed) → (slice_get ts p ≡ Some k → ⊥) → stop_at ts p ((Tok k ∷ κ) ∷ []) ≡ p
tok_dead ts p k κ other = dead_at ts p ((Tok k ∷ κ) ∷ []) (λ t h. ap (λ b. ((if b then κ ∷ [] else []) ++ []) ++ []) (other_there ts p k t other h))

-- a token that is owed is passed
pub tok_taken : (ts : List Kind) (p : ℕ) (k : Kind) (κ : Owed) → slice_get ts p ≡ Some k → stop_at ts p ((Tok k ∷ κ) ∷ []) ≡ stop_at ts (p + 1) (κ ∷ [])
tok_taken ts p k κ h = advance ts p _ k κ [] h (ap (λ b. ((if b then κ ∷ [] else []) ++ []) ++ []) (is_itself k k refl))

-- an opening bracket that is owed is passed, and its content and its closing one are owed
pub within_taken : (ts : List Kind) (p : ℕ) (b : Bracket) (e : Exp) (κ : Owed) → slice_get ts p ≡ Some (opener b) →
    stop_at ts p ((Within b e ∷ κ) ∷ []) ≡ stop_at ts (p + 1) ((e ∷ Tok (closer b) ∷ κ) ∷ [])
within_taken ts p b e κ h = advance ts p _ (opener b) (e ∷ Tok (closer b) ∷ κ) [] h
    (ap (λ x. ((if x then (e ∷ Tok (closer b) ∷ κ) ∷ [] else []) ++ []) ++ []) (is_itself (opener b) (opener b) refl))
