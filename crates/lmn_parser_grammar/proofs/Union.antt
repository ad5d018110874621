-- Of two readings the farther one stops.
use Rattle.std.proofs.Common.{◌≡◌, ℕ, suc, ◌≤◌, max, List, [], ◌∷◌, ◌++◌, refl, sym, ◌∙◌, ap, arith, append_assoc, drop}
use Rattle.lmn_parser_grammar.specs.Reading.{Owed, next, nexts, stop, stop_at, unless_dead}
use Rattle.lmn_lexer.specs.declared.token.Kind.{Kind}
use Rattle.lmn_parser_grammar.proofs.Stops.{stop_cons, stop_none, stop_from}
use Rattle.lmn_base.proofs.Lists.{plus_nothing}

nexts_append : (s s' : List Owed) (t : Kind) → nexts (s ++ s') t ≡ nexts s t ++ nexts s' t
nexts_append [] s' t = refl
nexts_append (κ ∷ s) s' t = ap (λ n. next κ t ++ n) (nexts_append s s' t) ∙ sym (append_assoc (next κ t) (nexts s t) (nexts s' t))

joined : (p : ℕ) (n n' : List Owed) (a b c : ℕ) → suc p ≤ a → suc p ≤ b → c ≡ max a b → (n ≡ [] → c ≡ b) → (n' ≡ [] → c ≡ a) →
    unless_dead p (n ++ n') c ≡ max (unless_dead p n a) (unless_dead p n' b)
joined p [] [] a b c la lb e x y = omega arith
joined p [] (κ' ∷ n') a b c la lb e x y = omega (arith, x refl)
joined p (κ ∷ n) [] a b c la lb e x y = omega (arith, y refl)
joined p (κ ∷ n) (κ' ∷ n') a b c la lb e x y = e

twice : (p : ℕ) → p ≡ max p p
twice p = omega arith

-- several rows are read as far as the one that goes farthest
pub union : (w : List Kind) (p : ℕ) (s s' : List Owed) → stop p (s ++ s') w ≡ max (stop p s w) (stop p s' w)
union [] p s s' = stop_none p (s ++ s') ∙ twice p ∙ sym (ap (λ x. max x (stop p s' [])) (stop_none p s) ∙ ap (max p) (stop_none p s'))
union (t ∷ w) p s s' =
    let n = nexts s t in
    let n' = nexts s' t in
    let a = stop (suc p) n w in
    let b = stop (suc p) n' w in
    stop_cons p (s ++ s') t w
    ∙ ap (λ x. unless_dead p x (stop (suc p) x w)) (nexts_append s s' t)
    ∙ joined p n n' a b (stop (suc p) (n ++ n') w) (stop_from w (suc p) n) (stop_from w (suc p) n') (union w (suc p) n n')
    (λ e. ap (λ x. stop (suc p) (x ++ n') w) e) (λ e. ap (λ x. stop (suc p) (n ++ x) w) e ∙ ap (λ x. stop (suc p) x w) (plus_nothing n))
    ∙ sym (ap (λ r. max r (stop p s' (t ∷ w))) (stop_cons p s t w) ∙ ap (λ r. max (unless_dead p n a) r) (stop_cons p s' t w))

-- and so are two
pub union_at : (ts : List Kind) (p : ℕ) (κ κ' : Owed) → stop_at ts p (κ ∷ κ' ∷ []) ≡ max (stop_at ts p (κ ∷ [])) (stop_at ts p (κ' ∷ []))
union_at ts p κ κ' = union (drop p ts) p (κ ∷ []) (κ' ∷ [])
