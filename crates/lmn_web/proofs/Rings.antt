-- Cells that are linked in a ring.
use Rattle.std.proofs.Common.{◌≡◌, ◌≢◌, ◌⊎◌, ℕ, List, [], ◌∷◌, ◌++◌, Option, Some, refl, sym, ap, subst, ◌∙◌, inl, inr}
use Rattle.std.proofs.lemmas.Bool.{eq-eqb}
use Rattle.std.proofs.lemmas.Option.{same_Some}
use Rattle.lmn_base.specs.Lists.{In}
use Rattle.lmn_base.proofs.Lists.{last_one, never_nil, tail_is, two_empty}
use Rattle.lmn_store_heap.specs.Lists.{Distinct, from, after}
use Rattle.lmn_store_heap.proofs.ListLemmas.{each_in, apart, in_left, in_right, in_split}
use Rattle.lmn_store_heap.proofs.Trees.{after_split, from_next}
use Rattle.lmn_web_cells.specs.Runs.{Node}
use Rattle.lmn_web.specs.Classes.{Linked}

-- two that are the same cell, by what leads there
same_cell : (o : Option ℕ) (x y : ℕ) → o ≡ Some x → o ≡ Some y → x ≡ y
same_cell o x y d e = same_Some x y (sym d ∙ e)

-- cells stay linked where their links to each other stay
pub linked_same : (h g : ℕ → Node) (l : ℕ) (zs : List ℕ) → ((y z : ℕ) → In y (l ∷ zs) → In z zs → (h y).next ≡ Some z → (h z).prev ≡ Some y → ((g y).next ≡ Some z) × ((g z).prev ≡ Some y)) → Linked h l zs → Linked g l zs
linked_same h g l [] same k = tt
linked_same h g l (z ∷ zs) same k =
    let e = same l z (inl refl) (inl refl) k.0 k.1 in
    (e.0, e.1, linked_same h g z zs (λ y w i j n p. same y w (inr i) (inr j) n p) k.2)

-- where their nodes do
pub linked_frame : (h g : ℕ → Node) (l : ℕ) (zs : List ℕ) → ((z : ℕ) → In z (l ∷ zs) → g z ≡ h z) → Linked h l zs → Linked g l zs
linked_frame h g l zs same k = linked_same h g l zs (λ y z i j n p. (ap (λ (u : Node). u.next) (same y i) ∙ n, ap (λ (u : Node). u.prev) (same z (inr j)) ∙ p)) k

-- the last one is in it
pub ring_last : (l : ℕ) (zs ys : List ℕ) → zs ≡ ys ++ l ∷ [] → In l zs
ring_last l zs ys e = subst (λ us. In l us) (sym e) (in_right l ys (l ∷ []) (inl refl))

-- behind it comes the first
pub ring_first : (h : ℕ → Node) (l : ℕ) (zs ys : List ℕ) → zs ≡ ys ++ l ∷ [] → Linked h l zs → (d : ℕ) → (h l).next ≡ Some d → In d zs × ((h d).prev ≡ Some l)
ring_first h l [] ys e k d n = absurd (never_nil ys l e)
ring_first h l (z ∷ zs) ys e k d n = let s = same_cell (h l).next z d k.0 n in (inl s, subst (λ w. (h w).prev ≡ Some l) s k.1)

-- there is one
pub ring_some : (h : ℕ → Node) (l : ℕ) (zs ys : List ℕ) → zs ≡ ys ++ l ∷ [] → Linked h l zs → (d : ℕ) × ((h l).next ≡ Some d)
ring_some h l [] ys e k = absurd (never_nil ys l e)
ring_some h l (z ∷ zs) ys e k = (z, k.0)

-- it stays the last where one comes before another
pub ring_more : (us : List ℕ) (c d : ℕ) (vs ys : List ℕ) (l : ℕ) → us ++ (d ∷ vs) ≡ ys ++ l ∷ [] → (zs : List ℕ) × (us ++ (c ∷ d ∷ vs) ≡ zs ++ l ∷ [])
ring_more [] c d vs ys l e = (c ∷ ys, ap (λ ws. c ∷ ws) e)
ring_more (u ∷ us) c d vs [] l e = absurd (let s = (two_empty us (d ∷ vs) (tail_is e)).1 in cc)
ring_more (u ∷ us) c d vs (y ∷ ys) l e = let r = ring_more us c d vs ys l (tail_is e) in (u ∷ r.0, ap (λ ws. u ∷ ws) r.1)

-- and where one leaves from before another
pub ring_less : (us : List ℕ) (c n : ℕ) (vs ys : List ℕ) (l : ℕ) → us ++ (c ∷ n ∷ vs) ≡ ys ++ l ∷ [] → (zs : List ℕ) × (us ++ (n ∷ vs) ≡ zs ++ l ∷ [])
ring_less [] c n vs [] l e = absurd (let s = tail_is e in cc)
ring_less [] c n vs (y ∷ ys) l e = (ys, tail_is e)
ring_less (u ∷ us) c n vs [] l e = absurd (let s = (two_empty us (c ∷ n ∷ vs) (tail_is e)).1 in cc)
ring_less (u ∷ us) c n vs (y ∷ ys) l e = let r = ring_less us c n vs ys l (tail_is e) in (u ∷ r.0, ap (λ ws. u ∷ ws) r.1)

-- Parts

pub linked_front : (h : ℕ → Node) (l : ℕ) (us vs : List ℕ) → Linked h l (us ++ vs) → Linked h l us
linked_front h l [] vs k = tt
linked_front h l (u ∷ us) vs k = (k.0, k.1, linked_front h u us vs k.2)

pub linked_back : (h : ℕ → Node) (l : ℕ) (us : List ℕ) (c : ℕ) (vs : List ℕ) → Linked h l (us ++ (c ∷ vs)) → Linked h c vs
linked_back h l [] c vs k = k.2
linked_back h l (u ∷ us) c vs k = linked_back h u us c vs k.2

-- what stands before a cell is followed by it, and ends the part before it
pub linked_prev : (h : ℕ → Node) (l : ℕ) (us : List ℕ) (d : ℕ) (vs : List ℕ) → Linked h l (us ++ (d ∷ vs)) → (p : ℕ) → (h d).prev ≡ Some p → ((h p).next ≡ Some d) × (((us ≡ []) × (p ≡ l)) ⊎ ((ws : List ℕ) × (us ≡ ws ++ p ∷ [])))
linked_prev h l [] d vs k p e = let s = same_cell (h d).prev l p k.1 e in (subst (λ z. (h z).next ≡ Some d) s k.0, inl (refl, sym s))
linked_prev h l (u ∷ us) d vs k p e =
    let r = linked_prev h u us d vs k.2 p e in (
      r.0,
      elim r.1 [
        | inl s ↦ inr ([], λ t. sym s.1 t ∷ s.0 t)
        | inr s ↦ inr (u ∷ s.0, ap (λ ws. u ∷ ws) s.1)
      ],
    )

-- and there is something
pub linked_some : (h : ℕ → Node) (l : ℕ) (us : List ℕ) (d : ℕ) (vs : List ℕ) → Linked h l (us ++ (d ∷ vs)) → (p : ℕ) × ((h d).prev ≡ Some p)
linked_some h l [] d vs k = (l, k.1)
linked_some h l (u ∷ us) d vs k = linked_some h u us d vs k.2

-- what stands behind a cell begins the part behind it
pub linked_next : (h : ℕ → Node) (l : ℕ) (us : List ℕ) (c : ℕ) (vs : List ℕ) → Linked h l (us ++ (c ∷ vs)) → (n : ℕ) → (h c).next ≡ Some n → (vs ≡ []) ⊎ ((ws : List ℕ) × (vs ≡ n ∷ ws))
linked_next h l us c vs k n e = by vs (linked_back h l us c vs k)
  where
    by : (ws : List ℕ) → Linked h c ws → (ws ≡ []) ⊎ ((rest : List ℕ) × (ws ≡ n ∷ rest))
    by [] q = inl refl
    by (w ∷ ws) q = inr (ws, ap (λ z. z ∷ ws) (same_cell (h c).next w n q.0 e))

-- Each cell of a ring stands between two

pub ring_prev : (h : ℕ → Node) (l : ℕ) (us : List ℕ) (d : ℕ) (vs ys : List ℕ) → Linked h l (us ++ (d ∷ vs)) → us ++ (d ∷ vs) ≡ ys ++ l ∷ [] → (p : ℕ) → (h d).prev ≡ Some p → In p (us ++ (d ∷ vs))
ring_prev h l us d vs ys k e p q = elim (linked_prev h l us d vs k p q).1 [
  | inl s ↦ subst (λ z. In z (us ++ (d ∷ vs))) (sym s.1) (ring_last l (us ++ (d ∷ vs)) ys e)
  | inr s ↦ in_left p us (d ∷ vs) (ring_last p us s.0 s.1)
]

pub ring_next : (h : ℕ → Node) (l : ℕ) (us : List ℕ) (c : ℕ) (vs ys : List ℕ) → Linked h l (us ++ (c ∷ vs)) → us ++ (c ∷ vs) ≡ ys ++ l ∷ [] → (n : ℕ) → (h c).next ≡ Some n → In n (us ++ (c ∷ vs))
ring_next h l us c vs ys k e n q = elim (linked_next h l us c vs k n q) [
  | inl s ↦ (let same : us ++ c ∷ [] ≡ ys ++ l ∷ [] = ap (λ ws. us ++ (c ∷ ws)) (sym s) ∙ e in
      (ring_first h l (us ++ (c ∷ vs)) ys e k n (ap (λ z. (h z).next) (sym (last_one us ys c l same).1) ∙ q)).0)
  | inr s ↦ in_right n us (c ∷ vs) (inr (subst (λ ws. In n ws) (sym s.1) (inl refl)))
]

pub ring_next_some : (h : ℕ → Node) (l : ℕ) (us : List ℕ) (c : ℕ) (vs ys : List ℕ) → Linked h l (us ++ (c ∷ vs)) → us ++ (c ∷ vs) ≡ ys ++ l ∷ [] → (n : ℕ) × ((h c).next ≡ Some n)
ring_next_some h l us c [] ys k e = let r = ring_some h l (us ++ c ∷ []) ys e k in (r.0, ap (λ z. (h z).next) (last_one us ys c l e).1 ∙ r.1)
ring_next_some h l us c (v ∷ vs) ys k e = let r = linked_back h l us c (v ∷ vs) k in (v, r.0)

-- none stands behind the last one
pub ring_end : (c : ℕ) (us vs ys : List ℕ) → us ++ (c ∷ vs) ≡ ys ++ c ∷ [] → Distinct (us ++ (c ∷ vs)) → vs ≡ []
ring_end c us vs ys e once = sym (after_split c us vs once) ∙ ap (after c) e ∙ after_split c ys [] (subst Distinct e once)

-- A cell comes

-- it is linked behind the last one
pub linked_end : (h : ℕ → Node) (l : ℕ) (ys : List ℕ) (q c : ℕ) → Linked h l (ys ++ q ∷ []) → (h q).next ≡ Some c → (h c).prev ≡ Some q → Linked h l ((ys ++ q ∷ []) ++ c ∷ [])
linked_end h l [] q c k n p = (k.0, k.1, (n, p, tt))
linked_end h l (y ∷ ys) q c k n p = (k.0, k.1, linked_end h y ys q c k.2 n p)

-- g is h where x stands between p and d
pub record PutsBetween (h g : ℕ → Node) (p d x : ℕ) : Type 0 where
  pub own_next : (g x).next ≡ Some d
  pub own_prev : (g x).prev ≡ Some p
  pub before : (g p).next ≡ Some x
  pub behind : (g d).prev ≡ Some x
  pub nexts : (z : ℕ) → z ≢ x → z ≢ p → (g z).next ≡ (h z).next
  pub prevs : (z : ℕ) → z ≢ x → z ≢ d → (g z).prev ≡ (h z).prev

module _ (h g : ℕ → Node) (p d x : ℕ) (r : PutsBetween h g p d x) (to : (h p).next ≡ Some d) (back : (h d).prev ≡ Some p) where
  -- the links of cells behind d stay
  stays_linked : (y z : ℕ) → y ≢ x → z ≢ x → z ≢ d → (h y).next ≡ Some z → (h z).prev ≡ Some y → ((g y).next ≡ Some z) × ((g z).prev ≡ Some y)
  stays_linked y z a b c n q = (r.nexts y a (λ e. c (same_cell (h y).next z d n (ap (λ u. (h u).next) e ∙ to))) ∙ n, r.prevs z b c ∙ q)

  -- it stands in the list
  pub put_linked : (l : ℕ) (us vs : List ℕ) → (In x (l ∷ (us ++ (d ∷ vs))) → ⊥) → Distinct (us ++ (d ∷ vs)) → Linked h l (us ++ (d ∷ vs)) → Linked g l (us ++ (x ∷ d ∷ vs))
  put_linked l [] vs fresh once k =
      let s = same_cell (h d).prev p l back k.1 in (
        subst (λ z. (g z).next ≡ Some x) s r.before,
        r.own_prev ∙ ap Some s,
        (r.own_next, r.behind, linked_same h g d vs (λ y z i j n q. stays_linked y z (λ e. fresh (inr (subst (λ u. In u (d ∷ vs)) e i))) (λ e. fresh (inr (inr (subst (λ u. In u vs) e j)))) (λ e. each_in (λ u. d ≢ u) vs z once.0 j (sym e)) n q) k.2),
      )
  put_linked l (u ∷ us) vs fresh once k =
      let e = stays_linked l u (λ s. fresh (inl s)) (λ s. fresh (inr (inl s))) (λ s. each_in (λ w. u ≢ w) (us ++ (d ∷ vs)) d once.0 (in_right d us (d ∷ vs) (inl refl)) s) k.0 k.1 in
      (e.0, e.1, put_linked u us vs (λ i. fresh (inr i)) once.1 k.2)

  -- or is the last one, where d is the first
  pub put_last : (ys : List ℕ) → (In x (ys ++ p ∷ []) → ⊥) → Distinct (ys ++ p ∷ []) → Linked h p (ys ++ p ∷ []) → Linked g x ((ys ++ p ∷ []) ++ x ∷ [])
  put_last ys fresh once k = linked_end g x ys p x (hung (ys ++ p ∷ []) fresh once k) r.before r.own_prev
    where
      hung : (zs : List ℕ) → (In x zs → ⊥) → Distinct zs → Linked h p zs → Linked g x zs
      hung [] new one q = tt
      hung (z ∷ zs) new one q =
          let s = same_cell (h p).next d z to q.0 in (
            r.own_next ∙ ap Some s,
            subst (λ w. (g w).prev ≡ Some x) s r.behind,
            linked_same h g z zs (λ y w i j n b. stays_linked y w (λ e. new (subst (λ u. In u (z ∷ zs)) e i)) (λ e. new (inr (subst (λ u. In u zs) e j))) (λ e. each_in (λ u. z ≢ u) zs w one.0 j (sym s ∙ sym e)) n b) q.2,
          )

-- A cell leaves

-- g is h where what stood between p and n has left
pub record ClosesUp (h g : ℕ → Node) (p n : ℕ) : Type 0 where
  pub before : (g p).next ≡ Some n
  pub behind : (g n).prev ≡ Some p
  pub nexts : (z : ℕ) → z ≢ p → (g z).next ≡ (h z).next
  pub prevs : (z : ℕ) → z ≢ n → (g z).prev ≡ (h z).prev

module _ (h g : ℕ → Node) (p n c : ℕ) (r : ClosesUp h g p n) (to : (h p).next ≡ Some c) (back : (h c).prev ≡ Some p) where
  -- the links of other cells stay
  keeps_linked : (y z : ℕ) → z ≢ c → z ≢ n → (h y).next ≡ Some z → (h z).prev ≡ Some y → ((g y).next ≡ Some z) × ((g z).prev ≡ Some y)
  keeps_linked y z a b m q = (r.nexts y (λ e. a (same_cell (h y).next z c m (ap (λ u. (h u).next) e ∙ to))) ∙ m, r.prevs z b ∙ q)

  -- from before another one
  pub close_linked : (l : ℕ) (us vs : List ℕ) → Distinct (us ++ (c ∷ n ∷ vs)) → Linked h l (us ++ (c ∷ n ∷ vs)) → Linked g l (us ++ (n ∷ vs))
  close_linked l [] vs once k =
      let s = same_cell (h c).prev p l back k.1 in (
        subst (λ z. (g z).next ≡ Some n) s r.before,
        r.behind ∙ ap Some s,
        linked_same h g n vs (λ y z i j m q. keeps_linked y z (λ e. each_in (λ u. c ≢ u) (n ∷ vs) z once.0 (inr j) (sym e)) (λ e. each_in (λ u. n ≢ u) vs z once.1.0 j (sym e)) m q) k.2.2,
      )
  close_linked l (u ∷ us) vs once k =
      let e = keeps_linked l u (λ s. each_in (λ w. u ≢ w) (us ++ (c ∷ n ∷ vs)) c once.0 (in_right c us (c ∷ n ∷ vs) (inl refl)) s) (λ s. each_in (λ w. u ≢ w) (us ++ (c ∷ n ∷ vs)) n once.0 (in_right n us (c ∷ n ∷ vs) (inr (inl refl))) s) k.0 k.1 in
      (e.0, e.1, close_linked u us vs once.1 k.2)

  -- or from the end, where n is the first
  pub close_last : (us : List ℕ) → Distinct (n ∷ (us ++ c ∷ [])) → Linked h c (n ∷ (us ++ c ∷ [])) → Linked g p (n ∷ us)
  close_last us once k = (
    r.before,
    r.behind,
    linked_same h g n us (λ y z i j m q. keeps_linked y z (λ e. apart us (c ∷ []) z c (once.1) j (inl refl) e) (λ e. each_in (λ u. n ≢ u) (us ++ c ∷ []) z once.0 (in_front z us j) (sym e)) m q) (linked_front h n us (c ∷ []) k.2),
  )
    where
      in_front : (z : ℕ) (ws : List ℕ) → In z ws → In z (ws ++ c ∷ [])
      in_front z [] i = absurd i
      in_front z (w ∷ ws) (inl e) = inl e
      in_front z (w ∷ ws) (inr i) = inr (in_front z ws i)

-- What is read

-- behind the last one comes the first
pub ring_begins : (h : ℕ → Node) (l : ℕ) (zs ys : List ℕ) → zs ≡ ys ++ l ∷ [] → Linked h l zs → from (h l).next zs ≡ zs
ring_begins h l [] ys e k = absurd (never_nil ys l e)
ring_begins h l (z ∷ zs) ys e k = subst (λ o. from o (z ∷ zs) ≡ z ∷ zs) (sym k.0) front
  where
    front : z ∷ after z (z ∷ zs) ≡ z ∷ zs
    front = rw (eq-eqb z z refl) refl

-- behind the last one there is none
pub ring_ends : (l : ℕ) (zs ys : List ℕ) → zs ≡ ys ++ l ∷ [] → Distinct zs → after l zs ≡ []
ring_ends l zs ys e once = ap (after l) e ∙ after_split l ys [] (subst Distinct e once)

-- behind each other one comes the next
pub ring_goes_on : (h : ℕ → Node) (l x : ℕ) (zs ys : List ℕ) → zs ≡ ys ++ l ∷ [] → Linked h l zs → Distinct zs → In x zs → x ≢ l → from (h x).next zs ≡ after x zs
ring_goes_on h l x zs ys e k once i d =
    let s = in_split x zs i in
    let behind : after x zs ≡ s.1 = ap (after x) s.2 ∙ after_split x s.0 s.1 (subst Distinct s.2 once) in
    on s.1 behind s.0 s.2 (linked_back h l s.0 x s.1 (subst (λ us. Linked h l us) s.2 k))
  where
    on : (vs : List ℕ) → after x zs ≡ vs → (us : List ℕ) → zs ≡ us ++ (x ∷ vs) → Linked h x vs → from (h x).next zs ≡ after x zs
    on [] b us c q = absurd (d (last_one us ys x l (sym c ∙ e)).1)
    on (v ∷ vs) b us c q = subst (λ o. from o zs ≡ after x zs) (sym q.0) (from_next x v zs vs once b)
