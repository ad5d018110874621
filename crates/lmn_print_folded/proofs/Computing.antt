-- The folded form of a small region by computing.
use Rattle.std.proofs.Common.{ℕ, zero, suc, ◌≡◌, ◌≢◌, ◌<◌, ◌⊎◌, ◌==◌, ◌&&◌, ◌||◌, Bool, true, false, not, if◌then◌else◌, List, [], ◌∷◌, ◌++◌, length, slice_get, Option, Some, None, refl, sym, ap, ◌∙◌, subst, inl, inr, arith, nat_lt}
use Rattle.std.proofs.lemmas.Option.{same_Some}
use Rattle.lmn_congruence.specs.Orders.{Among, at_head, further}
use Rattle.lmn_congruence.specs.Regions.{SolidAtom}
use Rattle.lmn_print_folded.specs.Folding.{IsChild}
use Rattle.lmn_base.proofs.Lists.{get_below as within}
use Rattle.lmn_base.proofs.Numbers.{below_next}
use Rattle.lmn_base.proofs.Truth.{first_true, second_true, never_both as true_false}

-- The tests.

abbrev ends : List ℕ → ℕ → Bool
ends [] x = false
ends (y ∷ []) x = y == x
ends (y ∷ z ∷ zs) x = ends (z ∷ zs) x

abbrev joined : Option ℕ → List ℕ → Bool
joined None ys = false
joined (Some x) ys = ends ys x

abbrev child_test : Option SolidAtom → Option SolidAtom → ℕ → ℕ → ℕ → Bool
child_test None b q p k = false
child_test (Some a) None q p k = false
child_test (Some a) (Some b) q p k = joined (slice_get b.links k) a.links && (not (q == p) && (not (suc k == length b.links) || nat_lt p q))

-- a test whether an atom is a child of another at a port
abbrev pub is_child : List SolidAtom → ℕ → ℕ → ℕ → Bool
is_child atoms q p k = child_test (slice_get atoms q) (slice_get atoms p) q p k

-- the highest number below n that passes a test
abbrev pub find_below : ℕ → (ℕ → Bool) → Option ℕ
find_below zero t = None
find_below (suc n) t = if t n then Some n else find_below n t

ends_true : (ys : List ℕ) (x : ℕ) → ends ys x ≡ true → (zs : List ℕ) × (ys ≡ zs ++ x ∷ [])
ends_true [] x e = absurd (cc)
ends_true (y ∷ []) x e = let f : y ≡ x = grind arith in ([], ap (λ z. z ∷ []) f)
ends_true (y ∷ z ∷ zs) x e = let more = ends_true (z ∷ zs) x e in (y ∷ more.0, ap (λ ws. y ∷ ws) more.1)

true_ends : (zs : List ℕ) (x : ℕ) → ends (zs ++ x ∷ []) x ≡ true
true_ends [] x = grind arith
true_ends (z ∷ []) x = grind arith
true_ends (z ∷ w ∷ ws) x = true_ends (w ∷ ws) x

both_true : (s t : Bool) → s ≡ true → t ≡ true → s && t ≡ true
both_true true t e f = f
both_true false t e f = e

or_true : (m n p q : ℕ) → (not (m == n) || nat_lt p q) ≡ true → (m ≢ n) ⊎ (p < q)
or_true m n p q e = grind arith

true_or : (m n p q : ℕ) → (m ≢ n) ⊎ (p < q) → (not (m == n) || nat_lt p q) ≡ true
true_or m n p q (inl d) = grind arith
true_or m n p q (inr l) = grind arith

not_same : (m n : ℕ) → not (m == n) ≡ true → m ≢ n
not_same m n e = grind arith

apart_true : (m n : ℕ) → m ≢ n → not (m == n) ≡ true
apart_true m n d = grind arith

joined_true : (o : Option ℕ) (ys : List ℕ) → joined o ys ≡ true → (x : ℕ) × (o ≡ Some x) × (ends ys x ≡ true)
joined_true None ys e = absurd (cc)
joined_true (Some x) ys e = (x, refl, e)

module _ (atoms : List SolidAtom) where
  child_true : (q p k : ℕ) → is_child atoms q p k ≡ true → IsChild atoms q p k
  child_true q p k e = go (slice_get atoms q) (slice_get atoms p) refl refl e
    where
      go : (o u : Option SolidAtom) → slice_get atoms q ≡ o → slice_get atoms p ≡ u → child_test o u q p k ≡ true → IsChild atoms q p k
      go None u f g e = absurd (cc)
      go (Some a) None f g e = absurd (cc)
      go (Some a) (Some b) f g e =
          let j = joined_true (slice_get b.links k) a.links (first_true _ _ e) in
          let l = ends_true a.links j.0 j.2 in
          let more = second_true (joined (slice_get b.links k) a.links) _ e in
          record {
            child = a;
            parent = b;
            first_links = l.0;
            last_link = j.0;
            child_at = f;
            parent_at = g;
            links = l.1;
            joined = j.1;
            other = not_same q p (first_true _ _ more);
            before = or_true (suc k) (length b.links) p q (second_true (not (q == p)) _ more);
          }

  true_child : (q p k : ℕ) → IsChild atoms q p k → is_child atoms q p k ≡ true
  true_child q p k c =
      ap (λ o. child_test o (slice_get atoms p) q p k) c.child_at ∙ ap (λ u. child_test (Some c.child) u q p k) c.parent_at
      ∙ both_true _ _ (ap (λ o. joined o c.child.links) c.joined ∙ ap (λ ys. ends ys c.last_link) c.links ∙ true_ends c.first_links c.last_link)
      (both_true _ _ (apart_true q p c.other) (true_or (suc k) (length c.parent.links) p q c.before))

if_some : (t : Bool) (n i : ℕ) (o : Option ℕ) → (if t then Some n else o) ≡ Some i → ((t ≡ true) × (n ≡ i)) ⊎ (o ≡ Some i)
if_some true n i o e = inl (refl, same_Some n i e)
if_some false n i o e = inr e

if_none : (t : Bool) (n : ℕ) (o : Option ℕ) → (if t then Some n else o) ≡ None → (t ≡ false) × (o ≡ None)
if_none true n o e = absurd (cc)
if_none false n o e = (refl, e)

find_some : (n : ℕ) (t : ℕ → Bool) (i : ℕ) → find_below n t ≡ Some i → t i ≡ true
find_some zero t i e = absurd (cc)
find_some (suc n) t i e = go (if_some (t n) n i (find_below n t) e) (find_some n t i)
  where
    go : ((t n ≡ true) × (n ≡ i)) ⊎ (find_below n t ≡ Some i) → (find_below n t ≡ Some i → t i ≡ true) → t i ≡ true
    go (inl h) more = ap t (sym h.1) ∙ h.0
    go (inr h) more = more h

find_none : (n : ℕ) (t : ℕ → Bool) (i : ℕ) → find_below n t ≡ None → i < n → t i ≡ false
find_none zero t i e l = absurd (omega (arith, l))
find_none (suc n) t i e l = let h = if_none (t n) n (find_below n t) e in go h.0 (find_none n t i h.1) (below_next i n l)
  where
    go : t n ≡ false → (i < n → t i ≡ false) → (i < n) ⊎ (i ≡ n) → t i ≡ false
    go h more (inl l) = more l
    go h more (inr e) = ap t e ∙ h

abbrev ports_of : Option SolidAtom → ℕ
ports_of None = 0
ports_of (Some a) = length a.links

abbrev found : Option ℕ → Bool
found None = false
found (Some x) = true

-- a test whether a number is among a list
abbrev pub one_of : ℕ → List ℕ → Bool
one_of x [] = false
one_of x (y ∷ ys) = if x == y then true else one_of x ys

-- a number that passes it is
pub one_true : (x : ℕ) (xs : List ℕ) → one_of x xs ≡ true → Among x xs
one_true x [] e = absurd (cc)
one_true x (y ∷ ys) e = go (x == y) refl e (one_true x ys)
  where
    here : x ≡ y → Among x (y ∷ ys)
    here e = let P : ℕ → Type 0 = λ z. Among x (z ∷ ys) in subst P e at_head

    go : (t : Bool) → (x == y) ≡ t → (if t then true else one_of x ys) ≡ true → (one_of x ys ≡ true → Among x ys) → Among x (y ∷ ys)
    go true f e more = let g : x ≡ y = grind arith in here g
    go false f e more = further (more e)

-- and one that doesn't isn't
pub true_one : (x : ℕ) (xs : List ℕ) → one_of x xs ≡ false → Among x xs → ⊥
true_one x [] e h = elim h [ ]
true_one x (y ∷ ys) e h = go (x == y) refl e (true_one x ys) h
  where
    later : (z : ℕ) → (z == y) ≡ false → (Among z ys → ⊥) → Among z (y ∷ ys) → ⊥
    later z f more at_head = let g : (z == z) ≡ true = grind arith in true_false (z == z) g f
    later z f more (further a) = more a

    go : (t : Bool) → (x == y) ≡ t → (if t then true else one_of x ys) ≡ false → (one_of x ys ≡ false → Among x ys → ⊥) → Among x (y ∷ ys) → ⊥
    go true f e more h = absurd (cc)
    go false f e more h = later x f (more e) h

module _ (atoms : List SolidAtom) where
  abbrev pub port_at : ℕ → ℕ → Option ℕ
  port_at q p = find_below (ports_of (slice_get atoms p)) (λ k. is_child atoms q p k)

  abbrev pub parent_of : ℕ → Option ℕ
  parent_of q = find_below (length atoms) (λ p. found (port_at q p))

  abbrev pub child_of : ℕ → ℕ → Option ℕ
  child_of p k = find_below (length atoms) (λ q. is_child atoms q p k)

  found_true : (o : Option ℕ) → found o ≡ true → (x : ℕ) × (o ≡ Some x)
  found_true None e = absurd (cc)
  found_true (Some x) e = (x, refl)

  found_false : (o : Option ℕ) → found o ≡ false → o ≡ None
  found_false None e = refl
  found_false (Some x) e = absurd (cc)

  pub parent_some : (q p : ℕ) → parent_of q ≡ Some p → (k : ℕ) × IsChild atoms q p k
  parent_some q p e =
      let h = found_true (port_at q p) (find_some (length atoms) (λ p. found (port_at q p)) p e) in
      (h.0, child_true atoms q p h.0 (find_some (ports_of (slice_get atoms p)) (λ k. is_child atoms q p k) h.0 h.1))

  pub parent_none : (q : ℕ) → parent_of q ≡ None → (p k : ℕ) → ¬ (IsChild atoms q p k)
  parent_none q e p k c =
      let ports : ports_of (slice_get atoms p) ≡ length c.parent.links = ap ports_of c.parent_at in
      let l = within c.parent.links k c.last_link c.joined in
      let h = found_false (port_at q p) (find_none (length atoms) (λ p. found (port_at q p)) p e (within atoms p c.parent c.parent_at)) in
      true_false _ (true_child atoms q p k c) (find_none (ports_of (slice_get atoms p)) (λ k. is_child atoms q p k) k h (omega (arith, ports, l)))

  pub child_some : (p k q : ℕ) → child_of p k ≡ Some q → IsChild atoms q p k
  child_some p k q e = child_true atoms q p k (find_some (length atoms) (λ q. is_child atoms q p k) q e)

  pub child_none : (p k : ℕ) → child_of p k ≡ None → (q : ℕ) → ¬ (IsChild atoms q p k)
  child_none p k e q c = true_false _ (true_child atoms q p k c) (find_none (length atoms) (λ q. is_child atoms q p k) q e (within atoms q c.child c.child_at))
