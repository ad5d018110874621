-- Choices at a token: one of two things, a thing or nothing, one more or no more.
use Rattle.std.proofs.Common.{◌≡◌, ℕ, zero, suc, ◌+◌, ◌≤◌, max, Bool, true, false, List, [], ◌∷◌, ◌++◌, slice_get, Option, Some, None, refl, sym, ◌∙◌, ap, arith, if◌then◌else◌}
use Rattle.lmn_parser_grammar.specs.Grammar.{Exp, Tok, Seq, Alt, Opt, Many, Within, Ref, Bracket, part_expression, opener, closer, more_of}
use Rattle.lmn_parser_grammar.specs.Reading.{Owed, is_kind, owed_after, next, may_be_empty, stop_at, begins, some_owed}
use Rattle.lmn_lexer.specs.declared.token.Kind.{Kind}
use Rattle.lmn_lexer.specs.declared.token.Kind.TheVariants.{Comma}
use Rattle.lmn_parser_grammar.proofs.Stops.{alike, dead_at, dead_here, stop_at_from, other_there, tok_dead, tok_taken}
use Rattle.lmn_parser_grammar.proofs.SameLanguage.{seq, alt, opt, many}

-- What is owed behind an expression doesn't matter for whether it takes a token.
left_nothing : (a b : List Owed) → a ++ b ≡ [] → a ≡ []
left_nothing [] b h = refl
left_nothing (x ∷ a) b h = cc

right_nothing : (a b : List Owed) → a ++ b ≡ [] → b ≡ []
right_nothing [] b h = h
right_nothing (x ∷ a) b h = cc

both_nothing : (a b : List Owed) → a ≡ [] → b ≡ [] → a ++ b ≡ []
both_nothing a b e e' = ap (λ x. x ++ b) e ∙ e'

if_nothing : (b : Bool) (κ κ' : Owed) → (if b then κ ∷ [] else []) ≡ [] → (if b then κ' ∷ [] else []) ≡ []
if_nothing true κ κ' h = cc
if_nothing false κ κ' h = refl

abbrev optional : Bool → List Owed → List Owed
optional b x = elim b [ true ↦ x | false ↦ [] ]

optional_nothing : (b : Bool) (x y : List Owed) → (x ≡ [] → y ≡ []) → optional b x ≡ [] → optional b y ≡ []
optional_nothing true x y f h = f h
optional_nothing false x y f h = refl

-- whether a thing takes a token doesn't depend on what is owed behind it
pub still_nothing : (f : ℕ) (e : Exp) (κ κ' : Owed) (t : Kind) → owed_after f e κ t ≡ [] → owed_after f e κ' t ≡ []
still_nothing f (Tok k) κ κ' t h = if_nothing (is_kind k t) κ κ' h
still_nothing f (Seq a b) κ κ' t h = both_nothing (owed_after f a (b ∷ κ') t) _ (still_nothing f a (b ∷ κ) (b ∷ κ') t (left_nothing (owed_after f a (b ∷ κ) t) _ h))
    (optional_nothing (may_be_empty a) (owed_after f b κ t) (owed_after f b κ' t) (still_nothing f b κ κ' t) (right_nothing (owed_after f a (b ∷ κ) t) _ h))
still_nothing f (Alt a b) κ κ' t h = both_nothing (owed_after f a κ' t) (owed_after f b κ' t) (still_nothing f a κ κ' t (left_nothing (owed_after f a κ t) (owed_after f b κ t) h)) (still_nothing f b κ κ' t (right_nothing (owed_after f a κ t) (owed_after f b κ t) h))
still_nothing f (Opt a) κ κ' t h = still_nothing f a κ κ' t h
still_nothing f (Many a) κ κ' t h = still_nothing f a (Many a ∷ κ) (Many a ∷ κ') t h
still_nothing f (Within b a) κ κ' t h = if_nothing (is_kind (opener b) t) (a ∷ Tok (closer b) ∷ κ) (a ∷ Tok (closer b) ∷ κ') h
still_nothing zero (Ref n) κ κ' t h = refl
still_nothing (suc f) (Ref n) κ κ' t h = still_nothing f (part_expression n) κ κ' t h

has_none : (s : List Owed) → some_owed s ≡ false → s ≡ []
has_none [] h = refl
has_none (x ∷ s) h = cc

nothing_after : (ts : List Kind) (p : ℕ) (e : Exp) (κ : Owed) (t : Kind) → begins e (slice_get ts p) ≡ false → slice_get ts p ≡ Some t → owed_after 3 e κ t ≡ []
nothing_after ts p e κ t b h = still_nothing 3 e [] κ t (has_none (owed_after 3 e [] t) (sym (ap (begins e) h) ∙ b))

-- a sequence begins as its first part, where that can't be empty
pub begins_first : (a b : Exp) (o : Option Kind) → may_be_empty a ≡ false → begins a o ≡ false → begins (Seq a b) o ≡ false
begins_first a b None m h = refl
begins_first a b (Some t) m h =
    ap (λ x. some_owed (x ++ optional (may_be_empty a) (owed_after 3 b [] t))) (still_nothing 3 a [] (b ∷ []) t (has_none (owed_after 3 a [] t) h))
    ∙ ap (λ x. some_owed (optional x (owed_after 3 b [] t))) m

-- An expression that doesn't begin here takes nothing, or what is owed behind it takes the token.
pub not_begun : (ts : List Kind) (p : ℕ) (e : Exp) (κ : Owed) → begins e (slice_get ts p) ≡ false → may_be_empty e ≡ false → stop_at ts p ((e ∷ κ) ∷ []) ≡ p
not_begun ts p e κ b m = dead_at ts p ((e ∷ κ) ∷ []) (λ t h.
    ap (λ x. (x ++ optional (may_be_empty e) (next κ t)) ++ []) (nothing_after ts p e κ t b h)
    ∙ ap (λ x. optional x (next κ t) ++ []) m)

passed_by : (ts : List Kind) (p : ℕ) (e : Exp) (κ : Owed) → begins e (slice_get ts p) ≡ false → may_be_empty e ≡ true → stop_at ts p ((e ∷ κ) ∷ []) ≡ stop_at ts p (κ ∷ [])
passed_by ts p e κ b m = alike ts p ((e ∷ κ) ∷ []) (κ ∷ []) (λ t h.
    ap (λ x. (x ++ optional (may_be_empty e) (next κ t)) ++ []) (nothing_after ts p e κ t b h)
    ∙ ap (λ x. optional x (next κ t) ++ []) m)

-- a thing that can't begin with the token is read no farther than what is owed behind it
pub no_farther : (ts : List Kind) (p : ℕ) (e : Exp) (κ : Owed) → begins e (slice_get ts p) ≡ false → stop_at ts p ((e ∷ κ) ∷ []) ≤ stop_at ts p (κ ∷ [])
no_farther ts p e κ b = go (may_be_empty e) refl
  where
    go : (m : Bool) → may_be_empty e ≡ m → stop_at ts p ((e ∷ κ) ∷ []) ≤ stop_at ts p (κ ∷ [])
    go true m = omega (arith, passed_by ts p e κ b m)
    go false m = omega (arith, not_begun ts p e κ b m, stop_at_from ts p (κ ∷ []))

-- of two numbers
left_of : (n a b p : ℕ) → n ≡ max a b → b ≤ a → n ≡ a
left_of n a b p e h = omega arith

right_of : (n a b p : ℕ) → n ≡ max a b → a ≤ b → n ≡ b
right_of n a b p e h = omega arith

-- of two things the first is read where the second can't begin with the token
pub alt_left : (ts : List Kind) (p : ℕ) (a b : Exp) (κ : Owed) → begins b (slice_get ts p) ≡ false → may_be_empty b ≡ false →
    stop_at ts p ((Alt a b ∷ κ) ∷ []) ≡ stop_at ts p ((a ∷ κ) ∷ [])
alt_left ts p a b κ h m = left_of _ _ _ p (alt ts p a b κ) (omega (arith, not_begun ts p b κ h m, stop_at_from ts p ((a ∷ κ) ∷ [])))

-- and the second where the first can't
pub alt_right : (ts : List Kind) (p : ℕ) (a b : Exp) (κ : Owed) → begins a (slice_get ts p) ≡ false → may_be_empty a ≡ false →
    stop_at ts p ((Alt a b ∷ κ) ∷ []) ≡ stop_at ts p ((b ∷ κ) ∷ [])
alt_right ts p a b κ h m = right_of _ _ _ p (alt ts p a b κ) (omega (arith, not_begun ts p a κ h m, stop_at_from ts p ((b ∷ κ) ∷ [])))

-- a thing that may stand here doesn't where it can't begin with the token
pub opt_none : (ts : List Kind) (p : ℕ) (e : Exp) (κ : Owed) → begins e (slice_get ts p) ≡ false → stop_at ts p ((Opt e ∷ κ) ∷ []) ≡ stop_at ts p (κ ∷ [])
opt_none ts p e κ h = right_of _ _ _ p (opt ts p e κ) (no_farther ts p e κ h)

-- where what is owed behind takes nothing here
pub opt_some : (ts : List Kind) (p : ℕ) (e : Exp) (κ : Owed) → stop_at ts p (κ ∷ []) ≡ p → stop_at ts p ((Opt e ∷ κ) ∷ []) ≡ stop_at ts p ((e ∷ κ) ∷ [])
opt_some ts p e κ h = left_of _ _ _ p (opt ts p e κ) (omega (arith, h, stop_at_from ts p ((e ∷ κ) ∷ [])))

-- no more of a thing is read where it can't begin with the token
pub many_none : (ts : List Kind) (p : ℕ) (e : Exp) (κ : Owed) → begins e (slice_get ts p) ≡ false → may_be_empty e ≡ false → stop_at ts p ((Many e ∷ κ) ∷ []) ≡ stop_at ts p (κ ∷ [])
many_none ts p e κ h m = right_of _ _ _ p (many ts p e κ) (omega (arith, not_begun ts p e (Many e ∷ κ) h m, stop_at_from ts p (κ ∷ [])))

-- one more of it is read where what is owed behind takes no token
pub many_some : (ts : List Kind) (p : ℕ) (e : Exp) (κ : Owed) → stop_at ts p (κ ∷ []) ≡ p → stop_at ts p ((Many e ∷ κ) ∷ []) ≡ stop_at ts p ((e ∷ Many e ∷ κ) ∷ [])
many_some ts p e κ h = left_of _ _ _ p (many ts p e κ) (omega (arith, h, stop_at_from ts p ((e ∷ Many e ∷ κ) ∷ [])))

-- A token isn't there.
pub not_there : (ts : List Kind) (p : ℕ) (k : Kind) → (slice_get ts p ≡ Some k → ⊥) → begins (Tok k) (slice_get ts p) ≡ false
not_there ts p k other = go (slice_get ts p) refl
  where
    go : (o : Option Kind) → slice_get ts p ≡ o → begins (Tok k) (slice_get ts p) ≡ false
    go None h = ap (begins (Tok k)) h
    go (Some t) h = ap (begins (Tok k)) h ∙ ap (λ b. some_owed (if b then [] ∷ [] else [])) (other_there ts p k t other h)

-- a thing in brackets can't begin where they don't open
pub not_opened : (ts : List Kind) (p : ℕ) (b : Bracket) (e : Exp) → (slice_get ts p ≡ Some (opener b) → ⊥) → begins (Within b e) (slice_get ts p) ≡ false
not_opened ts p b e other = go (slice_get ts p) refl
  where
    go : (o : Option Kind) → slice_get ts p ≡ o → begins (Within b e) (slice_get ts p) ≡ false
    go None h = ap (begins (Within b e)) h
    go (Some t) h = ap (begins (Within b e)) h ∙ ap (λ x. some_owed (if x then (e ∷ Tok (closer b) ∷ []) ∷ [] else [])) (other_there ts p (opener b) t other h)

-- a sign and what follows it
pub sign_taken : (ts : List Kind) (p : ℕ) (k : Kind) (e : Exp) (κ : Owed) → slice_get ts p ≡ Some k → stop_at ts p ((Seq (Tok k) e ∷ κ) ∷ []) ≡ stop_at ts (p + 1) ((e ∷ κ) ∷ [])
sign_taken ts p k e κ h = seq ts p (Tok k) e κ ∙ tok_taken ts p k (e ∷ κ) h

-- reading stops where a thing that is owed begins with another sign
pub sign_dead : (ts : List Kind) (p : ℕ) (k : Kind) (e : Exp) (κ : Owed) → (slice_get ts p ≡ Some k → ⊥) → stop_at ts p ((Seq (Tok k) e ∷ κ) ∷ []) ≡ p
sign_dead ts p k e κ h = seq ts p (Tok k) e κ ∙ tok_dead ts p k (e ∷ κ) h

-- with a sign before it, or nothing
pub opt_sign_taken : (ts : List Kind) (p : ℕ) (k : Kind) (e : Exp) (κ : Owed) → slice_get ts p ≡ Some k → next κ k ≡ [] →
    stop_at ts p ((Opt (Seq (Tok k) e) ∷ κ) ∷ []) ≡ stop_at ts (p + 1) ((e ∷ κ) ∷ [])
opt_sign_taken ts p k e κ h n = opt_some ts p (Seq (Tok k) e) κ (dead_here ts p κ k h n) ∙ sign_taken ts p k e κ h

-- a thing that may stand here doesn't where it begins with another sign
pub opt_sign_none : (ts : List Kind) (p : ℕ) (k : Kind) (e : Exp) (κ : Owed) → (slice_get ts p ≡ Some k → ⊥) →
    stop_at ts p ((Opt (Seq (Tok k) e) ∷ κ) ∷ []) ≡ stop_at ts p (κ ∷ [])
opt_sign_none ts p k e κ h = opt_none ts p (Seq (Tok k) e) κ (begins_first (Tok k) e (slice_get ts p) refl (not_there ts p k h))

-- a thing or nothing before a token
pub opt_before : (ts : List Kind) (p : ℕ) (e : Exp) (k : Kind) (κ : Owed) → (slice_get ts p ≡ Some k → ⊥) →
    stop_at ts p ((Opt e ∷ Tok k ∷ κ) ∷ []) ≡ stop_at ts p ((e ∷ Tok k ∷ κ) ∷ [])
opt_before ts p e k κ h = opt_some ts p e (Tok k ∷ κ) (tok_dead ts p k κ h)

-- Things with commas between them.
pub more_taken : (ts : List Kind) (p : ℕ) (e : Exp) (κ : Owed) → slice_get ts p ≡ Some Comma → next κ Comma ≡ [] →
    stop_at ts p ((more_of e ∷ κ) ∷ []) ≡ stop_at ts (p + 1) ((e ∷ more_of e ∷ κ) ∷ [])
more_taken ts p e κ h n = many_some ts p (Seq (Tok Comma) e) κ (dead_here ts p κ Comma h n) ∙ sign_taken ts p Comma e (more_of e ∷ κ) h

-- no more of a thing comes where no comma stands
pub more_done : (ts : List Kind) (p : ℕ) (e : Exp) (κ : Owed) → (slice_get ts p ≡ Some Comma → ⊥) → stop_at ts p ((more_of e ∷ κ) ∷ []) ≡ stop_at ts p (κ ∷ [])
more_done ts p e κ h = many_none ts p (Seq (Tok Comma) e) κ (begins_first (Tok Comma) e (slice_get ts p) refl (not_there ts p Comma h)) refl
