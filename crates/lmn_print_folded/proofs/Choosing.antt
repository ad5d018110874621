-- Which atoms are children, and which descend from others, can be found out.
use Rattle.std.proofs.Common.{ℕ, zero, suc, ◌≡◌, ◌≢◌, ◌+◌, ◌≤◌, ◌<◌, ◌⊎◌, List, [], ◌∷◌, ◌++◌, length, slice_get, Some, None, refl, sym, ap, ◌∙◌, subst, inl, inr, arith}
use Rattle.std.specs.List.{range_with_len}
use Rattle.std.proofs.lemmas.Option.{same_Some}
use Rattle.lmn_congruence.specs.Orders.{Among, at_head, further}
use Rattle.lmn_congruence.specs.Regions.{SolidAtom}
use Rattle.lmn_print_folded.specs.Folding as folding
use Rattle.lmn_print_folded.specs.Folding.{IsChild, Descends, itself}
use Rattle.lmn_print_folded.proofs.Places.{AtMostTwice, one_parent}
use Rattle.lmn_base.proofs.Lists.{get_below as within, ends_in_one_way, never_nil}
use Rattle.lmn_base.proofs.Numbers.{below_next, same_or_not as same_or_apart, less_decided}
use Rattle.lmn_base.proofs.Truth.{Decided}

both : {A B : Type 0} → Decided A → Decided B → Decided (A × B)
both (inl a) (inl b) = inl (a, b)
both (inl a) (inr n) = inr (λ p. n p.1)
both (inr n) b = inr (λ p. n p.0)

either : {A B : Type 0} → Decided A → Decided B → Decided (A ⊎ B)
either (inl a) b = inl (inl a)
either (inr n) (inl b) = inl (inr b)
either {A} {B} (inr n) (inr m) = inr no
  where
    no : A ⊎ B → ⊥
    no (inl a) = n a
    no (inr b) = m b

by_other : {A B : Type 0} → (A → B) → (B → A) → Decided A → Decided B
by_other f g (inl a) = inl (f a)
by_other f g (inr n) = inr (λ b. n (g b))

same : (m n : ℕ) → Decided (m ≡ n)
same m n = same_or_apart m n

apart : (m n : ℕ) → Decided (m ≢ n)
apart m n = go (same_or_apart m n)
  where
    go : (m ≡ n) ⊎ (m ≢ n) → Decided (m ≢ n)
    go (inl e) = inr (λ d. d e)
    go (inr d) = inl d

-- some number below a bound, where none else is asked for
bounded : (n : ℕ) (P : ℕ → Type 0) → ((i : ℕ) → Decided (P i)) → ((i : ℕ) × P i) ⊎ ((i : ℕ) → i < n → ¬ (P i))
bounded zero P d = inr (λ i l h. absurd (omega (arith, l)))
bounded (suc n) P d = go (bounded n P d) (d n)
  where
    go : ((i : ℕ) × P i) ⊎ ((i : ℕ) → i < n → ¬ (P i)) → Decided (P n) → ((i : ℕ) × P i) ⊎ ((i : ℕ) → i < suc n → ¬ (P i))
    go (inl f) e = inl f
    go (inr none_below) (inl y) = inl (n, y)
    go (inr none_below) (inr m) = inr (λ i l h. last i h (below_next i n l))
      where
        last : (i : ℕ) → P i → (i < n) ⊎ (i ≡ n) → ⊥
        last i h (inl l) = none_below i l h
        last i h (inr e) = m (subst P e h)

some_number : (n : ℕ) (P : ℕ → Type 0) → ((i : ℕ) → Decided (P i)) → ((i : ℕ) → P i → i < n) → Decided ((i : ℕ) × P i)
some_number n P d within = go (bounded n P d)
  where
    go : ((i : ℕ) × P i) ⊎ ((i : ℕ) → i < n → ¬ (P i)) → Decided ((i : ℕ) × P i)
    go (inl f) = inl f
    go (inr none_below) = inr (λ f. none_below f.0 (within f.0 f.1) f.1)

none_some : {A : Type 0} (a : A) → None ≡ Some a → ⊥
none_some a e = cc

get : {A : Type 0} (xs : List A) (i : ℕ) → ((x : A) × (slice_get xs i ≡ Some x)) ⊎ (slice_get xs i ≡ None)
get [] i = inr refl
get (x ∷ xs) zero = inl (x, refl)
get (x ∷ xs) (suc i) = get xs i

-- whether a number is among a list is decided
pub among : (x : ℕ) (xs : List ℕ) → Decided (Among x xs)
among x [] = inr no
  where
    no : Among x [] → ⊥
    no h = elim h [ ]
among x (y ∷ ys) = go (same_or_apart x y) (among x ys)
  where
    there : (z : ℕ) → z ≢ y → ¬ (Among z ys) → Among z (y ∷ ys) → ⊥
    there z d n at_head = d refl
    there z d n (further h) = n h

    here : x ≡ y → Among x (y ∷ ys)
    here e = let P : ℕ → Type 0 = λ z. Among x (z ∷ ys) in subst P e at_head

    go : (x ≡ y) ⊎ (x ≢ y) → Decided (Among x ys) → Decided (Among x (y ∷ ys))
    go (inl e) d = inl (here e)
    go (inr n) (inl h) = inl (further h)
    go (inr n) (inr m) = inr (there x n m)

last_of : (xs : List ℕ) → ((ys : List ℕ) × (y : ℕ) × (xs ≡ ys ++ y ∷ [])) ⊎ (xs ≡ [])
last_of [] = inr refl
last_of (x ∷ xs) = go (last_of xs)
  where
    go : ((ys : List ℕ) × (y : ℕ) × (xs ≡ ys ++ y ∷ [])) ⊎ (xs ≡ []) → ((ys : List ℕ) × (y : ℕ) × (x ∷ xs ≡ ys ++ y ∷ [])) ⊎ (x ∷ xs ≡ [])
    go (inl h) = inl (x ∷ h.0, h.1, ap (λ zs. x ∷ zs) h.2)
    go (inr e) = inl ([], x, ap (λ zs. x ∷ zs) e)

module _ (atoms : List SolidAtom) where
  port_has : (b : SolidAtom) (k x : ℕ) → Decided (slice_get b.links k ≡ Some x)
  port_has b k x = go (get b.links k)
    where
      go : ((y : ℕ) × (slice_get b.links k ≡ Some y)) ⊎ (slice_get b.links k ≡ None) → Decided (slice_get b.links k ≡ Some x)
      go (inl h) = by_other (λ e. h.1 ∙ ap Some e) (λ e. same_Some _ _ (sym h.1 ∙ e)) (same h.0 x)
      go (inr n) = inr (λ e. none_some x (sym n ∙ e))

  pub child : (q p k : ℕ) → Decided (IsChild atoms q p k)
  child q p k = go (get atoms q) (get atoms p)
    where
      joined : (a b : SolidAtom) (ys : List ℕ) (y : ℕ) → slice_get atoms q ≡ Some a → slice_get atoms p ≡ Some b → a.links ≡ ys ++ y ∷ [] → Decided (IsChild atoms q p k)
      joined a b ys y e f h =
          by_other (λ g. record {
            child = a;
            parent = b;
            first_links = ys;
            last_link = y;
            child_at = e;
            parent_at = f;
            links = h;
            joined = g.0;
            other = g.1.0;
            before = g.1.1;
          }) (λ c.
          let same_child = same_Some c.child a (sym c.child_at ∙ e) in
          let same_parent = same_Some c.parent b (sym c.parent_at ∙ f) in
          let ending = ends_in_one_way c.first_links ys c.last_link y (sym c.links ∙ ap (λ (d : SolidAtom). d.links) same_child ∙ h) in
          let P : SolidAtom → Type 0 = λ d. (suc k ≢ length d.links) ⊎ (p < q) in
          (ap (λ (d : SolidAtom). slice_get d.links k) (sym same_parent) ∙ c.joined ∙ ap Some ending.1, (c.other, subst P same_parent c.before)))
          (both (port_has b k y) (both (apart q p) (either (apart (suc k) (length b.links)) (less_decided p q))))

      ended : (a b : SolidAtom) → slice_get atoms q ≡ Some a → slice_get atoms p ≡ Some b → ((ys : List ℕ) × (y : ℕ) × (a.links ≡ ys ++ y ∷ [])) ⊎ (a.links ≡ []) → Decided (IsChild atoms q p k)
      ended a b e f (inl h) = joined a b h.0 h.1 e f h.2
      ended a b e f (inr n) =
          inr (λ c. never_nil c.first_links c.last_link (sym n ∙ ap (λ (d : SolidAtom). d.links) (same_Some a c.child (sym e ∙ c.child_at)) ∙ c.links))

      go : ((a : SolidAtom) × (slice_get atoms q ≡ Some a)) ⊎ (slice_get atoms q ≡ None) → ((b : SolidAtom) × (slice_get atoms p ≡ Some b)) ⊎ (slice_get atoms p ≡ None) → Decided (IsChild atoms q p k)
      go (inl a) (inl b) = ended a.0 b.0 a.1 b.1 (last_of a.0.links)
      go (inl a) (inr n) = inr (λ c. none_some c.parent (sym n ∙ c.parent_at))
      go (inr n) b = inr (λ c. none_some c.child (sym n ∙ c.child_at))

  -- the child at a port
  pub child_at : (p k : ℕ) → Decided ((q : ℕ) × IsChild atoms q p k)
  child_at p k = some_number (length atoms) (λ q. IsChild atoms q p k) (λ q. child q p k) (λ q c. within atoms q c.child c.child_at)

  -- the parent of an atom
  pub parent : (q : ℕ) → Decided ((p : ℕ) × ((k : ℕ) × IsChild atoms q p k))
  parent q = some_number (length atoms) (λ p. (k : ℕ) × IsChild atoms q p k) port (λ p h. within atoms p h.1.parent h.1.parent_at)
    where
      port : (p : ℕ) → Decided ((k : ℕ) × IsChild atoms q p k)
      port p = go (get atoms p)
        where
          go : ((b : SolidAtom) × (slice_get atoms p ≡ Some b)) ⊎ (slice_get atoms p ≡ None) → Decided ((k : ℕ) × IsChild atoms q p k)
          go (inl b) =
              some_number (length b.0.links) (λ k. IsChild atoms q p k) (λ k. child q p k)
              (λ k c. within b.0.links k c.last_link (ap (λ (d : SolidAtom). slice_get d.links k) (same_Some b.0 c.parent (sym b.1 ∙ c.parent_at)) ∙ c.joined))
          go (inr n) = inr (λ h. none_some h.1.parent (sym n ∙ h.1.parent_at))

-- a list without one of its elements
pub taken_out : (q : ℕ) (xs : List ℕ) → Among q xs → (rest : List ℕ) × (length xs ≡ suc (length rest)) × ((v : ℕ) → v ≢ q → Among v xs → Among v rest)
taken_out q [] h = elim h [ ]
taken_out q (x ∷ xs) at_head = (xs, refl, others)
  where
    others : (v : ℕ) → v ≢ q → Among v (q ∷ xs) → Among v xs
    others v d at_head = absurd (d refl)
    others v d (further h) = h
taken_out q (x ∷ xs) (further h) =
    let more = taken_out q xs h in (x ∷ more.0, ap suc more.1, λ v d a. others more.0 (more.2 v d) a)
  where
    others : (rest : List ℕ) {v : ℕ} → (Among v xs → Among v rest) → Among v (x ∷ xs) → Among v (x ∷ rest)
    others rest f at_head = at_head
    others rest f (further a) = further (f a)

-- One climbs from parent to parent. Where one comes to an atom again, all of them are seen, and none of them is an item.
module _ (atoms : List SolidAtom) (items : List ℕ) (few : AtMostTwice atoms) where
  abbrev pub FromItem : ℕ → Type 0
  FromItem q = (i : ℕ) × (Among i items × Descends atoms i q)

  -- no item is seen, and each parent of one that is seen is seen or is p
  abbrev pub Closed : List ℕ → ℕ → Type 0
  Closed seen p = (v : ℕ) → Among v seen → (¬ (Among v items)) × ((r k : ℕ) → IsChild atoms v r k → Among r seen ⊎ (r ≡ p))

  pub seen_again : (seen : List ℕ) (p : ℕ) → Closed seen p → Among p seen → {i q : ℕ} → Descends atoms i q → Among q seen → Among i seen
  seen_again seen p closed here itself a = a
  seen_again seen p closed here (folding.child {q = q} {r = r} {k = k} d c) a = seen_again seen p closed here d (there ((closed r a).1 q k c))
    where
      there : Among q seen ⊎ (q ≡ p) → Among q seen
      there (inl h) = h
      there (inr e) = let P : ℕ → Type 0 = λ z. Among z seen in subst P (sym e) here

  pub no_parent : (q : ℕ) → ¬ (Among q items) → ¬ ((p : ℕ) × ((k : ℕ) × IsChild atoms q p k)) → {i : ℕ} → Among i items → Descends atoms i q → ⊥
  no_parent q n m a itself = n a
  no_parent q n m a (folding.child {q = p} {k = k} d c) = m (p, (k, c))

  pub by_parent : (q p k : ℕ) → ¬ (Among q items) → IsChild atoms q p k → ¬ (FromItem p) → {i : ℕ} → Among i items → Descends atoms i q → ⊥
  by_parent q p k n c m a itself = n a
  by_parent q p k n c m {i} a (folding.child {q = r} {k = j} d e) =
      let P : ℕ → Type 0 = λ z. Descends atoms i z in
      m (i, (a, subst P (one_parent atoms q r j p k few e c).0 d))

  abbrev pub Seen : List ℕ → List ℕ → Type 0
  Seen unseen seen = (v : ℕ) → v < length atoms → Among v seen ⊎ Among v unseen

  module _ (n : ℕ) (again : (unseen seen : List ℕ) (p : ℕ) → suc (length unseen) ≡ n → Seen unseen seen → p < length atoms → Closed seen p → Decided (FromItem p)) where
    climb_step : (unseen seen : List ℕ) (q : ℕ) → length unseen ≡ n → Seen unseen seen → q < length atoms → Closed seen q → Decided (FromItem q)
    climb_step unseen seen q size all l closed = at_item (among q items)
      where
        next_closed : (p k : ℕ) → IsChild atoms q p k → ¬ (Among q items) → Closed (q ∷ seen) p
        next_closed p k c m v at_head = (m, λ r j d. inr (one_parent atoms q r j p k few d c).0)
        next_closed p k c m v (further a) = ((closed v a).0, λ r j d. up r ((closed v a).1 r j d))
          where
            up : (r : ℕ) → Among r seen ⊎ (r ≡ q) → Among r (q ∷ seen) ⊎ (r ≡ p)
            up r (inl h) = inl (further h)
            up r (inr e) = let P : ℕ → Type 0 = λ z. Among z (q ∷ seen) in inl (subst P (sym e) at_head)

        split : (rest : List ℕ) → ((v : ℕ) → v ≢ q → Among v unseen → Among v rest) → (v : ℕ) → Among v seen ⊎ Among v unseen → (v ≡ q) ⊎ (v ≢ q) → Among v (q ∷ seen) ⊎ Among v rest
        split rest f v h (inl e) = let P : ℕ → Type 0 = λ z. Among z (q ∷ seen) in inl (subst P (sym e) at_head)
        split rest f v (inl a) (inr d) = inl (further a)
        split rest f v (inr a) (inr d) = inr (f v d a)

        lifted : (p k : ℕ) → IsChild atoms q p k → ¬ (Among q items) → Decided (FromItem p) → Decided (FromItem q)
        lifted p k c m (inl h) = inl (h.0, (h.1.0, folding.child h.1.1 c))
        lifted p k c m (inr n) = inr (λ h. by_parent q p k m c n h.1.0 h.1.1)

        up : ¬ (Among q items) → Among q unseen → Decided ((p : ℕ) × ((k : ℕ) × IsChild atoms q p k)) → Decided (FromItem q)
        up m a (inr alone) = inr (λ h. no_parent q m alone h.1.0 h.1.1)
        up m a (inl h) =
            let c = h.1.1 in
            let left = taken_out q unseen a in
            lifted h.0 h.1.0 c m
            (again left.0 (q ∷ seen) h.0 (sym left.1 ∙ size) (λ v below. split left.0 left.2 v (all v below) (same_or_apart v q))
            (within atoms h.0 c.parent c.parent_at) (next_closed h.0 h.1.0 c m))

        unvisited : ¬ (Among q items) → Among q seen ⊎ Among q unseen → Decided (FromItem q)
        unvisited m (inl a) = inr (λ h. (closed h.0 (seen_again seen q closed a h.1.1 a)).0 h.1.0)
        unvisited m (inr a) = up m a (parent atoms q)

        at_item : Decided (Among q items) → Decided (FromItem q)
        at_item (inl a) = inl (q, (a, itself))
        at_item (inr m) = unvisited m (all q l)

  pub suc_less : (m n : ℕ) → suc m ≡ suc n → m ≡ n
  suc_less m n e = omega (arith, e)

  climb : (n : ℕ) (unseen seen : List ℕ) (q : ℕ) → length unseen ≡ n → Seen unseen seen → q < length atoms → Closed seen q → Decided (FromItem q)
  climb zero unseen seen q size all l closed = climb_step zero (λ u s p e. absurd (omega (arith, e))) unseen seen q size all l closed
  climb (suc n) unseen seen q size all l closed =
      climb_step (suc n) (λ u s p e a b c. climb n u s p (suc_less _ _ e) a b c) unseen seen q size all l closed

  pub positions_all : (k n v : ℕ) → k ≤ v → v < k + n → Among v (range_with_len k n)
  positions_all k zero v l h = absurd (omega (arith, l, h))
  positions_all k (suc n) v l h = go (same_or_apart v k) (λ i j. positions_all (k + 1) n v i j)
    where
      go : (v ≡ k) ⊎ (v ≢ k) → (k + 1 ≤ v → v < k + 1 + n → Among v (range_with_len (k + 1) n)) → Among v (range_with_len k (suc n))
      go (inl e) more = let P : ℕ → Type 0 = λ z. Among v (z ∷ range_with_len (k + 1) n) in subst P e at_head
      go (inr d) more = further (more (omega (arith, l, d)) (omega (arith, h)))

  none_seen : (v : ℕ) → Among v [] → {A : Type 0} → A
  none_seen v h = elim h [ ]

  -- whether an atom descends from an item
  pub from_item : (q : ℕ) → q < length atoms → Decided (FromItem q)
  from_item q l =
      climb (length (folding.atom_positions atoms)) (folding.atom_positions atoms) [] q refl
      (λ v h. inr (positions_all 0 (length atoms) v (omega arith) (omega (arith, h)))) l (λ v h. none_seen v h)
