-- What comes into a list before one of its cells.
use Rattle.std.proofs.Common.{◌≡◌, ◌≢◌, ◌⊎◌, ℕ, ◌+◌, ◌<◌, ◌==◌, Bool, true, false, List, [], ◌∷◌, ◌++◌, length, Option, Some, None, IsSome, if◌then◌else◌, refl, sym, ap, subst, ◌∙◌, inl, inr, arith}
use Rattle.std.proofs.lemmas.Bool.{eq-eqb}
use Rattle.std.specs.Option.{option_map}
use Rattle.lmn_base.specs.Lists.{In}
use Rattle.lmn_base.proofs.Numbers.{not_equal}
use Rattle.lmn_store_heap.specs.Heap.{alter}
use Rattle.lmn_store_heap.specs.Lists.{Distinct}
use Rattle.lmn_store_heap.proofs.ListLemmas.{each_in, each_of, apart}
use Rattle.lmn_web_cells.specs.Cells.{HeldCell, links_of, with_link, HaveLinks}
use Rattle.lmn_web_cells.specs.Runs.{RunsThrough, node_in, link_in, Line, IsHome, Apart, with_next, put_before, inserted}
use Rattle.lmn_web_cells.specs.Links.{HOME, NEXT, PREV}
use Rattle.lmn_web_cells.proofs.CellRows.{if_yes}
use Rattle.lmn_web_cells.proofs.RunLemmas.{Between, begins, frame, inserts}
use Rattle.lmn_web_cells.proofs.LineLemmas.{Found, found_in, before_there, cell_there, still_there, there_next, keeps, count_links, links_next, link_same, link_other, link_above, next_first, next_last, next_keeps, next_at, next_away, home_low, next_low}
use Rattle.lmn_base.proofs.Truth.{if_no}

-- what stands in a list with one more before a
pub in_put : (x a z : ℕ) (xs : List ℕ) → In z (put_before x a xs) → (z ≡ x) ⊎ In z xs
in_put x a z [] j = absurd j
in_put x a z (y ∷ ys) j = by (y == a) (in_put x a z ys) j
  where
    by : (t : Bool) → (In z (put_before x a ys) → (z ≡ x) ⊎ In z ys) → In z (if t then x ∷ y ∷ ys else y ∷ put_before x a ys) → (z ≡ x) ⊎ In z (y ∷ ys)
    by true rest (inl e) = inl (sym e)
    by true rest (inr k) = inr k
    by false rest (inl e) = inr (inl e)
    by false rest (inr k) = elim (rest k) [ inl e ↦ inl e | inr i ↦ inr (inr i) ]

-- what stood in it before still does
pub in_put_old : (x a z : ℕ) (xs : List ℕ) → In z xs → In z (put_before x a xs)
in_put_old x a z [] j = j
in_put_old x a z (y ∷ ys) j = by (y == a) (in_put_old x a z ys) j
  where
    by : (t : Bool) → (In z ys → In z (put_before x a ys)) → In z (y ∷ ys) → In z (if t then x ∷ y ∷ ys else y ∷ put_before x a ys)
    by true rest i = inr i
    by false rest (inl e) = inl e
    by false rest (inr i) = inr (rest i)

-- and so does the new one
pub in_put_new : (x a : ℕ) (xs : List ℕ) → In a xs → In x (put_before x a xs)
in_put_new x a [] j = absurd j
in_put_new x a (y ∷ ys) j = by (y == a) refl (in_put_new x a ys) j
  where
    by : (t : Bool) → (y == a) ≡ t → (In a ys → In x (put_before x a ys)) → In a (y ∷ ys) → In x (if t then x ∷ y ∷ ys else y ∷ put_before x a ys)
    by true e rest i = inl refl
    by false e rest (inl s) = absurd (let z : true ≡ false = sym (eq-eqb y a s) ∙ e in cc)
    by false e rest (inr i) = inr (rest i)

-- the list is longer by one
pub length_put : (x a : ℕ) (xs : List ℕ) → In a xs → length (put_before x a xs) ≡ length xs + 1
length_put x a [] j = absurd j
length_put x a (y ∷ ys) j = by (y == a) refl (length_put x a ys) j
  where
    by : (t : Bool) → (y == a) ≡ t → (In a ys → length (put_before x a ys) ≡ length ys + 1) → In a (y ∷ ys) → length (if t then x ∷ y ∷ ys else y ∷ put_before x a ys) ≡ length (y ∷ ys) + 1
    by true e rest i = omega arith
    by false e rest (inl s) = absurd (let z : true ≡ false = sym (eq-eqb y a s) ∙ e in cc)
    by false e rest (inr i) = let r = rest i in omega (arith, r)

-- a new element before another makes no repeat
distinct_put : (x a : ℕ) (xs : List ℕ) → Distinct xs → (In x xs → ⊥) → Distinct (put_before x a xs)
distinct_put x a [] d out = tt
distinct_put x a (y ∷ ys) d out = by (y == a) (distinct_put x a ys d.1 (λ i. out (inr i)))
  where
    by : (t : Bool) → Distinct (put_before x a ys) → Distinct (if t then x ∷ y ∷ ys else y ∷ put_before x a ys)
    by true r = (each_of _ (y ∷ ys) (λ z i same. out (subst (λ u. In u (y ∷ ys)) (sym same) i)), d)
    by false r = (each_of _ (put_before x a ys) (λ z i. elim (in_put x a z ys i) [ inl e ↦ (λ same. out (inl (same ∙ e))) | inr k ↦ each_in (λ w. y ≢ w) ys z d.0 k ]), r)

-- where it stands then
pub put_at : (x : ℕ) (ys : List ℕ) (a : ℕ) (zs : List ℕ) → Distinct (ys ++ (a ∷ zs)) → put_before x a (ys ++ (a ∷ zs)) ≡ ys ++ (x ∷ a ∷ zs)
put_at x [] a zs d = if_yes (a == a) (x ∷ a ∷ zs) (a ∷ put_before x a zs) (eq-eqb a a refl)
put_at x (y ∷ ys) a zs d = if_no (y == a) (x ∷ y ∷ (ys ++ (a ∷ zs))) (y ∷ put_before x a (ys ++ (a ∷ zs))) (not_equal y a (apart (y ∷ ys) (a ∷ zs) y a d (inl refl) (inl refl))) ∙ ap (λ u. y ∷ u) (put_at x ys a zs d.1)

module _ (f : ℕ → Option HeldCell) (m e a x : ℕ) (xs : List ℕ) (home : IsHome f m e) (have : HaveLinks f) (there : IsSome (f x)) (differ : x ≢ m) (line : Line f m e xs) (i : In a xs) (fresh : In x xs → ⊥) where
  abbrev p : Option ℕ
  p = link_in f a PREV

  abbrev b1 : ℕ → Option HeldCell
  b1 = alter f x (option_map (with_link HOME (Some m)))

  abbrev b2 : ℕ → Option HeldCell
  b2 = alter b1 x (option_map (with_link PREV p))

  abbrev b3 : ℕ → Option HeldCell
  b3 = alter b2 x (option_map (with_link NEXT (Some a)))

  abbrev b4 : ℕ → Option HeldCell
  b4 = with_next b3 m e p (Some x)

  abbrev b5 : ℕ → Option HeldCell
  b5 = inserted f m e a x

  d : Found f m e a xs
  d = found_in f m e a xs line i

  apart_all : Distinct (d.ys ++ (a ∷ d.zs))
  apart_all = subst Distinct d.is line.once

  not_x : (z : ℕ) → In z xs → z ≢ x
  not_x z j s = fresh (subst (λ u. In u xs) s j)

  before_cell : (q : ℕ) → p ≡ Some q → In q xs
  before_cell q s = before_there f m e a xs line i q s

  not_at : (q : ℕ) → p ≡ Some q → q ≢ a
  not_at q s = apart d.ys (a ∷ d.zs) q a apart_all (d.before q s) (inl refl)

  seven : (q : ℕ) → IsSome (f q) → length (links_of (b3 q)) ≡ 8
  seven q t = keeps (λ o. length (links_of o)) b2 x (with_link NEXT (Some a)) (count_links NEXT (Some a)) q ∙ keeps (λ o. length (links_of o)) b1 x (with_link PREV p) (count_links PREV p) q
      ∙ keeps (λ o. length (links_of o)) f x (with_link HOME (Some m)) (count_links HOME (Some m)) q ∙ have q t

  seven1 : length (links_of (b1 x)) ≡ 8
  seven1 = keeps (λ o. length (links_of o)) f x (with_link HOME (Some m)) (count_links HOME (Some m)) x ∙ have x there

  seven2 : length (links_of (b2 x)) ≡ 8
  seven2 = keeps (λ o. length (links_of o)) b1 x (with_link PREV p) (count_links PREV p) x ∙ seven1

  -- all links of other cells stay in the first three steps
  first_steps : (z k : ℕ) → z ≢ x → link_in b3 z k ≡ link_in f z k
  first_steps z k n = link_other b2 x NEXT (Some a) z k (λ t. n) ∙ link_other b1 x PREV p z k (λ t. n) ∙ link_other f x HOME (Some m) z k (λ t. n)

  b5_link : (z k : ℕ) → (k ≡ PREV → z ≡ a → ⊥) → k < e → (k ≡ NEXT → p ≢ Some z) → link_in b5 z k ≡ link_in b3 z k
  b5_link z k n l h = link_other b4 a PREV (Some x) z k n ∙ next_away b3 m e p (Some x) z k l h

  x_prev : link_in b5 x PREV ≡ p
  x_prev = b5_link x PREV (λ t s. not_x a i (sym s)) home.behind (λ t. absurd (omega (arith, t))) ∙ link_other b2 x NEXT (Some a) x PREV (λ t. absurd (omega (arith, t))) ∙ link_same b1 x PREV p (let l = seven1 in omega (arith, l))

  x_next : link_in b5 x NEXT ≡ Some a
  x_next = b5_link x NEXT (λ t. absurd (omega (arith, t))) (next_low e home.behind) (λ t s. fresh (before_cell x s)) ∙ link_same b2 x NEXT (Some a) (let l = seven2 in omega (arith, l))

  x_home : link_in b5 x HOME ≡ Some m
  x_home = b5_link x HOME (λ t. absurd (omega (arith, t))) (home_low e home.behind) (λ t. absurd (omega (arith, t))) ∙ link_other b2 x NEXT (Some a) x HOME (λ t. absurd (omega (arith, t))) ∙ link_other b1 x PREV p x HOME (λ t. absurd (omega (arith, t)))
      ∙ link_same f x HOME (Some m) (let l = have x there in omega (arith, l))

  other_prev : (z : ℕ) → z ≢ x → z ≢ a → link_in b5 z PREV ≡ link_in f z PREV
  other_prev z n s = b5_link z PREV (λ t. s) home.behind (λ t. absurd (omega (arith, t))) ∙ first_steps z PREV n

  other_next : (z : ℕ) → z ≢ x → p ≢ Some z → link_in b5 z NEXT ≡ link_in f z NEXT
  other_next z n s = b5_link z NEXT (λ t. absurd (omega (arith, t))) (next_low e home.behind) (λ t. s) ∙ first_steps z NEXT n

  before_next : (q : ℕ) → p ≡ Some q → link_in b5 q NEXT ≡ Some x
  before_next q s = link_other b4 a PREV (Some x) q NEXT (λ t. absurd (omega (arith, t))) ∙ next_at b3 m e p (Some x) q s (let l = seven q (cell_there f m e xs line q (before_cell q s)) in omega (arith, l))

  at_prev : link_in b5 a PREV ≡ Some x
  at_prev = link_same b4 a PREV (Some x) (let l = links_next b3 m e p (Some x) a ∙ seven a (cell_there f m e xs line a i) in omega (arith, l))

  has_between : Between (node_in f) (node_in b5) x p a
  has_between = record {
    here = λ t. record { prev = x_prev t; next = x_next t };
    before = λ q n s t. record { prev = other_prev q n (not_at q s) t; next = before_next q s t };
    behind = λ t. record { prev = at_prev t; next = other_next a (not_x a i) (λ s. not_at a s refl) t };
    other = λ z n s w t. record { prev = other_prev z n w t; next = other_next z n s t };
  }

  steps_to : (b k : ℕ) → PREV < k → link_in b3 b k ≡ link_in f b k
  steps_to b k l = link_above b2 x NEXT (Some a) b k (omega (arith, l)) ∙ link_above b1 x PREV p b k l ∙ link_above f x HOME (Some m) b k (omega (arith, l))

  new_first : link_in b5 m e ≡ begins (link_in f m e) p (Some x)
  new_first = link_above b4 a PREV (Some x) m e home.behind ∙ next_first b3 m e p (Some x) home.behind (let l = seven m home.there in let b = home.below in omega (arith, l, b)) ∙ ap (λ o. begins o p (Some x)) (steps_to m e home.behind)

  new_last : link_in b5 m (e + 1) ≡ link_in f m (e + 1)
  new_last = let b : PREV < e + 1 = (let l = home.behind in omega (arith, l)) in link_above b4 a PREV (Some x) m (e + 1) b ∙ next_last b3 m e p (Some x) home.behind ∙ steps_to m (e + 1) b

  b5_there : (z : ℕ) → IsSome (f z) → IsSome (b5 z)
  b5_there z t = still_there b4 a _ z (there_next b3 m e p (Some x) z (still_there b2 x _ z (still_there b1 x _ z (still_there f x _ z t))))

  other_home : (z : ℕ) → z ≢ x → link_in b5 z HOME ≡ link_in f z HOME
  other_home z n = b5_link z HOME (λ t. absurd (omega (arith, t))) (home_low e home.behind) (λ t. absurd (omega (arith, t))) ∙ first_steps z HOME n

  kept_cell : (z : ℕ) → In z (put_before x a xs) → (IsSome (b5 z) × (z ≢ m) × (link_in b5 z HOME ≡ Some m))
  kept_cell z j = elim (in_put x a z xs j) [
    | inl s ↦ subst (λ u. IsSome (b5 u) × (u ≢ m) × (link_in b5 u HOME ≡ Some m)) (sym s) (b5_there x there, differ, x_home)
    | inr k ↦ (let c = each_in (λ y. IsSome (f y) × (y ≢ m) × (link_in f y HOME ≡ Some m)) xs z line.cells k in (b5_there z c.0, c.1, other_home z (not_x z k) ∙ c.2))
  ]

  put_is : put_before x a xs ≡ d.ys ++ (x ∷ a ∷ d.zs)
  put_is = ap (put_before x a) d.is ∙ put_at x d.ys a d.zs apart_all

  -- the list with the cell in it
  pub inserted_line : Line b5 m e (put_before x a xs)
  inserted_line = record {
    runs = subst (λ us. RunsThrough (node_in b5) None (link_in b5 m e) us (link_in b5 m (e + 1)) None) (sym put_is)
        (subst (λ o. RunsThrough (node_in b5) None o (d.ys ++ (x ∷ a ∷ d.zs)) (link_in b5 m (e + 1)) None) (sym new_first)
        (subst (λ o. RunsThrough (node_in b5) None (begins (link_in f m e) p (Some x)) (d.ys ++ (x ∷ a ∷ d.zs)) o None) (sym new_last)
        (inserts (node_in f) (node_in b5) (link_in f m e) (link_in f m (e + 1)) d.ys x a d.zs has_between apart_all (λ j. fresh (subst (λ us. In x us) (sym d.is) j))
        (subst (λ us. RunsThrough (node_in f) None (link_in f m e) us (link_in f m (e + 1)) None) d.is line.runs))));
    cells = each_of _ (put_before x a xs) kept_cell;
    once = distinct_put x a xs line.once fresh;
  }

  -- the lists beside it
  pub inserted_others : (b k : ℕ) (ys : List ℕ) → Line f b k ys → Apart m e (x ∷ xs) b k ys → Line b5 b k ys
  inserted_others b k ys other away =
      let no_x : (z : ℕ) → In z ys → z ≢ x = λ z j s. away.cells z j (inl (sym s)) in
      let no_a : (z : ℕ) → In z ys → z ≢ a = λ z j s. away.cells z j (inr (subst (λ u. In u xs) (sym s) i)) in
      let no_p : (z : ℕ) → In z ys → p ≢ Some z = λ z j s. away.cells z j (inr (before_cell z s)) in
      let keep_end : (j : ℕ) → PREV < j → (b ≡ m → j ≢ e) → link_in b5 b j ≡ link_in f b j = λ j l h.
      link_above b4 a PREV (Some x) b j l ∙ next_keeps b3 m e p (Some x) b j l h ∙ steps_to b j l in
      record {
        runs = subst (λ o. RunsThrough (node_in b5) None o ys (link_in b5 b (k + 1)) None) (sym (keep_end k away.behind (λ s. (away.ends s).0)))
            (subst (λ o. RunsThrough (node_in b5) None (link_in f b k) ys o None) (sym (keep_end (k + 1) (let l = away.behind in omega (arith, l)) (λ s. (away.ends s).2)))
            (frame (node_in f) (node_in b5) None (link_in f b k) ys (link_in f b (k + 1)) None (each_of _ ys (λ z j. has_between.other z (no_x z j) (no_p z j) (no_a z j))) other.runs));
        cells = each_of _ ys (λ z j. let c = each_in (λ y. IsSome (f y) × (y ≢ b) × (link_in f y HOME ≡ Some b)) ys z other.cells j in (b5_there z c.0, c.1, other_home z (no_x z j) ∙ c.2));
        once = other.once;
      }

-- the five steps of coming before another
pub inserted_is : (old one two three four five : ℕ → Option HeldCell) (m e a x : ℕ) (p : Option ℕ) → link_in old a PREV ≡ p → one ≡ alter old x (option_map (with_link HOME (Some m)))
    → two ≡ alter one x (option_map (with_link PREV p)) → three ≡ alter two x (option_map (with_link NEXT (Some a))) → four ≡ with_next three m e p (Some x) → five ≡ alter four a (option_map (with_link PREV (Some x)))
    → five ≡ inserted old m e a x
inserted_is old one two three four five m e a x p hp c1 c2 c3 c4 c5 =
    c5 ∙ ap (λ (h : ℕ → Option HeldCell). alter h a (option_map (with_link PREV (Some x)))) (c4 ∙ ap (λ (h : ℕ → Option HeldCell). with_next h m e p (Some x)) (c3
    ∙ ap (λ (h : ℕ → Option HeldCell). alter h x (option_map (with_link NEXT (Some a)))) (c2 ∙ ap (λ (h : ℕ → Option HeldCell). alter h x (option_map (with_link PREV p))) c1))
    ∙ sym (λ t. with_next (alter (alter (alter old x (option_map (with_link HOME (Some m)))) x (option_map (with_link PREV (hp t)))) x (option_map (with_link NEXT (Some a)))) m e (hp t) (Some x)))
