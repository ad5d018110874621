-- Names and contexts are told apart, and what stands behind one in a list is looked up.
use Rattle.std.proofs.Common.{ℕ, List, map, refl, sym, ap, subst, inl, inr, ◌≡◌, ◌≢◌, ◌⊎◌, [], ◌∷◌}
use Rattle.lmn_congruence.specs.Orders.{Among, EachOnce, at_head, further}
use Rattle.lmn_congruence.specs.Rules.{Context, Name, closed_context, open_context}
use Rattle.lmn_adequacy.proofs.Orders.{either}
use Rattle.lmn_base.proofs.Numbers.{same_or_not}

first_of : (x y : ℕ) (xs ys : List ℕ) → (x ∷ xs) ≡ (y ∷ ys) → x ≡ y
first_of x y xs ys e = cc e

rest_of : (x y : ℕ) (xs ys : List ℕ) → (x ∷ xs) ≡ (y ∷ ys) → xs ≡ ys
rest_of x y xs ys e = cc e

-- two names are one or not
pub name_or_not : (p q : Name) → (p ≡ q) ⊎ (p ≢ q)
name_or_not [] [] = inl refl
name_or_not [] (y ∷ q) = inr (λ e. absurd (apart y q e))
  where
    apart : (y : ℕ) (q : Name) → ¬ (◌≡◌ {A = List ℕ} [] (y ∷ q))
    apart y q e = absurd (cc e)
name_or_not (x ∷ p) [] = inr (λ e. absurd (apart x p e))
  where
    apart : (x : ℕ) (p : Name) → ¬ (◌≡◌ {A = List ℕ} (x ∷ p) [])
    apart x p e = absurd (cc e)
name_or_not (x ∷ p) (y ∷ q) = go (same_or_not x y) (name_or_not p q)
  where
    go : (x ≡ y) ⊎ (x ≢ y) → (p ≡ q) ⊎ (p ≢ q) → ((x ∷ p) ≡ (y ∷ q)) ⊎ ((x ∷ p) ≢ (y ∷ q))
    go (inl e) (inl f) = inl (cc (e, f))
    go (inr d) f = inr (λ h. d (first_of x y p q h))
    go (inl e) (inr d) = inr (λ h. d (rest_of x y p q h))

context_name : Context → Name
context_name (open_context p) = p
context_name (closed_context p) = p

-- and two contexts are
pub context_or_not : (p q : Context) → (p ≡ q) ⊎ (p ≢ q)
unfolding context_name
context_or_not (open_context p) (open_context q) = go (name_or_not p q)
  where
    go : (p ≡ q) ⊎ (p ≢ q) → (open_context p ≡ open_context q) ⊎ (open_context p ≢ open_context q)
    go (inl e) = inl (ap open_context e)
    go (inr d) = inr (λ e. d (ap context_name e))
context_or_not (closed_context p) (closed_context q) = go (name_or_not p q)
  where
    go : (p ≡ q) ⊎ (p ≢ q) → (closed_context p ≡ closed_context q) ⊎ (closed_context p ≢ closed_context q)
    go (inl e) = inl (ap closed_context e)
    go (inr d) = inr (λ e. d (ap context_name e))
context_or_not (open_context p) (closed_context q) = inr (λ e. absurd (apart e))
  where
    apart : ¬ (open_context p ≡ closed_context q)
    apart e = absurd (cc e)
context_or_not (closed_context p) (open_context q) = inr (λ e. absurd (apart e))
  where
    apart : ¬ (closed_context p ≡ open_context q)
    apart e = absurd (cc e)

module _ {K : Type 0} (decide : (p q : K) → (p ≡ q) ⊎ (p ≢ q)) where
  -- a key is in a list, or it isn't
  pub among_or_not : (p : K) (ps : List K) → Among p ps ⊎ (¬ (Among p ps))
  among_or_not p [] = inr (λ k. elim k [ ])
  among_or_not p (q ∷ ps) = go (decide p q) (among_or_not p ps)
    where
      other : {p q : K} {ps : List K} → p ≢ q → ¬ (Among p ps) → ¬ (Among p (q ∷ ps))
      other d n at_head = absurd (d refl)
      other d n (further k) = n k

      go : (p ≡ q) ⊎ (p ≢ q) → Among p ps ⊎ (¬ (Among p ps)) → Among p (q ∷ ps) ⊎ (¬ (Among p (q ∷ ps)))
      go (inl e) i = inl (subst (λ w. Among p (w ∷ ps)) e at_head)
      go (inr d) (inl k) = inl (further k)
      go (inr d) (inr n) = inr (other d n)

  -- the first where a key is in a list, and else the second
  pub pick : {A : Type 0} → K → List K → A → A → A
  pick p ps a b = either (among_or_not p ps) (λ k. a) (λ n. b)

  -- it is the first where the key is in the list
  pub pick_in : {A : Type 0} (p : K) (ps : List K) (a b : A) → Among p ps → pick p ps a b ≡ a
  unfolding pick
  pick_in p ps a b k = go (among_or_not p ps)
    where
      go : (s : Among p ps ⊎ (¬ (Among p ps))) → either s (λ k. a) (λ n. b) ≡ a
      go (inl i) = refl
      go (inr n) = absurd (n k)

  -- and the second where it isn't
  pub pick_out : {A : Type 0} (p : K) (ps : List K) (a b : A) → ¬ (Among p ps) → pick p ps a b ≡ b
  unfolding pick
  pick_out p ps a b n = go (among_or_not p ps)
    where
      go : (s : Among p ps ⊎ (¬ (Among p ps))) → either s (λ k. a) (λ n. b) ≡ b
      go (inl i) = absurd (n i)
      go (inr m) = refl

  -- what stands behind a key in a list, or another thing where the key isn't there
  pub look : {A : Type 0} → K → List (K × A) → A → A
  look p [] d = d
  look p (e ∷ es) d = either (decide p e.0) (λ s. e.1) (λ n. look p es d)

  -- each thing of a list is found where no key stands twice
  pub look_found : {A : Type 0} (es : List (K × A)) (e : K × A) (d : A) → EachOnce (map (λ w. w.0) es) → Among e es → look e.0 es d ≡ e.1
  unfolding look
  look_found (f ∷ es) e d o at_head = go (decide e.0 e.0)
    where
      go : (s : (e.0 ≡ e.0) ⊎ (e.0 ≢ e.0)) → either s (λ s. e.1) (λ n. look e.0 es d) ≡ e.1
      go (inl q) = refl
      go (inr n) = absurd (n refl)
  look_found {A = A} (f ∷ es) e d o (further k) = go (decide e.0 f.0) (look_found es e d o.1 k)
    where
      keyed : {e : K × A} {es : List (K × A)} → Among e es → Among e.0 (map (λ w. w.0) es)
      keyed at_head = at_head
      keyed (further k) = further (keyed k)

      go : (s : (e.0 ≡ f.0) ⊎ (e.0 ≢ f.0)) → look e.0 es d ≡ e.1 → either s (λ s. f.1) (λ n. look e.0 es d) ≡ e.1
      go (inl q) i = absurd (o.0 (subst (λ w. Among w (map (λ w. w.0) es)) q (keyed k)))
      go (inr n) i = i
  look_found [] e d o k = elim k [ ]

  -- what holds of each thing of a list, and of the other thing, holds of what is found
  pub look_holds : {A : Type 0} (H : K → A → Type 0) (p : K) (es : List (K × A)) (d : A) → ((e : K × A) → Among e es → H e.0 e.1) → H p d → H p (look p es d)
  unfolding look
  look_holds H p [] d h k = k
  look_holds H p (e ∷ es) d h k = go (decide p e.0) (look_holds H p es d (λ f i. h f (further i)) k)
    where
      go : (s : (p ≡ e.0) ⊎ (p ≢ e.0)) → H p (look p es d) → H p (either s (λ s. e.1) (λ n. look p es d))
      go (inl q) i = subst (λ w. H w e.1) (sym q) (h e at_head)
      go (inr n) i = i
