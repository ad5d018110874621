-- One class of a membrane changes.
use Rattle.std.proofs.Common.{◌≡◌, ◌==◌, ◌/◌, ◌%◌, ◌*◌, ℕ, arith, Bool, true, false, List, [], suc, Option, Some, None, refl, sym, ap, subst, ◌∙◌, inl, inr}
use Rattle.std.proofs.lemmas.Bool.{eq-eqb, eqb-true}
use Rattle.std.specs.List.{filter}
use Rattle.lmn_base.specs.Lists.{In}
use Rattle.lmn_base.proofs.Truth.{bool_cases, and_true, test_same}
use Rattle.lmn_store_heap.proofs.ListLemmas.{in_left, in_right}
use Rattle.lmn_web_cells.specs.Cells.{HeldCell}
use Rattle.lmn_web_cells.specs.Runs.{link_in}
use Rattle.lmn_web.specs.Classes.{ClassTree, Bare, Fork, lasts, IsTree, AreBeside, IsSorted, rest_at, is_odd, class_node, key_by, key_in, is_key, of_class, IsRing, AreClassed}
use Rattle.lmn_web_cells.specs.Links.{EVEN, LEADERS}
use Rattle.lmn_web.proofs.Rings.{linked_frame, ring_last}
use Rattle.lmn_store_heap.proofs.Filters.{in_filter, filter_in}

-- Tests of classes

-- a class passes its own test
pub key_same : (p : ℕ × ℕ) → is_key p p ≡ true
key_same p = rw (eq-eqb p.0 p.0 refl) (eq-eqb p.1 p.1 refl)

-- and no other does
pub key_true : (p q : ℕ × ℕ) → is_key p q ≡ true → p ≡ q
key_true p q e = let w = and_true (p.0 == q.0) (p.1 == q.1) e in λ t. (eqb-true p.0 q.0 w.0 t, eqb-true p.1 q.1 w.1 t)

-- the number of an atom tells its class
whole_key : (n k a b : ℕ) → n / 65536 ≡ a → n / 256 % 256 ≡ b → n % 256 ≡ 0 → a ≡ k / 65536 → b ≡ k / 256 % 256 → k % 256 ≡ 0 → n ≡ k
whole_key n k a b h l z x y w = omega (arith, h, l, z, x, y, w)

-- so classes are the same where their numbers are
pub same_keys : (n k : ℕ) (p : ℕ × ℕ) → n / 65536 ≡ p.0 → n / 256 % 256 ≡ p.1 → n % 256 ≡ 0 → k % 256 ≡ 0 → (n == k) ≡ is_key p (key_by k)
same_keys n k p h l z w =
    test_same (n == k) (is_key p (key_by k))
    (λ e. let d = sym (eqb-true n k e) in subst (λ q. is_key q (key_by k) ≡ true) (λ t. ((ap (λ m. m / 65536) d ∙ h) t, (ap (λ m. m / 256 % 256) d ∙ l) t)) (key_same (key_by k)))
    (λ e. let v = and_true (p.0 == k / 65536) (p.1 == k / 256 % 256) e in eq-eqb n k (whole_key n k p.0 p.1 h l z (eqb-true p.0 (k / 65536) v.0) (eqb-true p.1 (k / 256 % 256) v.1) w))

-- what a cell stands for is no part of its class
pub key_alone : (n : ℕ) → (n / 256 * 256 / 65536 ≡ n / 65536) × (n / 256 * 256 / 256 % 256 ≡ n / 256 % 256)
key_alone n = (omega arith, omega arith)

-- an element that nothing may be isn't there
pub nothing_in : (xs : List ℕ) → xs ≡ [] → (z : ℕ) → In z xs → ⊥
nothing_in xs e z i = subst (λ us. In z us) e i

-- a tree is sorted by the classes of its cells
pub sorted_keys : (f g : ℕ → Option HeldCell) (d : ℕ) (t : ClassTree) → ((b : ℕ) → In b (lasts t) → key_in g b ≡ key_in f b) → IsSorted f d t → IsSorted g d t
sorted_keys f g d Bare keys s = tt
sorted_keys f g d (Fork l a b) keys s = (
  beside false (lasts a) (λ k i. keys k (inr (in_left k (lasts a) (lasts b) i))) s.0,
  beside true (lasts b) (λ k i. keys k (inr (in_right k (lasts a) (lasts b) i))) s.1,
  sorted_keys f g (suc d) a (λ k i. keys k (inr (in_left k (lasts a) (lasts b) i))) s.2,
  sorted_keys f g (suc d) b (λ k i. keys k (inr (in_right k (lasts a) (lasts b) i))) s.3,
)
  where
    beside : (odd : Bool) (ks : List ℕ) → ((k : ℕ) → In k ks → key_in g k ≡ key_in f k) → AreBeside f l d odd ks → AreBeside g l d odd ks
    beside odd ks same h k i = ((λ t. is_key (same k i t) (keys l (inl refl) t)) ∙ (h k i).0, ap (λ (p : ℕ × ℕ). is_odd (rest_at p.0 d)) (same k i) ∙ (h k i).1)

-- One class of a membrane changes: p is the class, and h its last atom then.
pub record Reclasses (f g : ℕ → Option HeldCell) (m : ℕ) (xs : List ℕ) (t : ClassTree) (p : ℕ × ℕ) (xs' : List ℕ) (t' : ClassTree) (h : Option ℕ) : Type 0 where
  pub keys : (b : ℕ) → key_in g b ≡ key_in f b
  pub lists : (q : ℕ × ℕ) → is_key q p ≡ false → of_class f q xs' ≡ of_class f q xs
  pub nodes : (z : ℕ) → In z xs → is_key (key_in f z) p ≡ false → class_node g z ≡ class_node f z
  pub tree : IsTree g (link_in g m LEADERS) t'
  pub sorted : IsSorted f 0 t'
  pub stay : (l : ℕ) → In l (lasts t) → is_key (key_in f l) p ≡ false → In l (lasts t')
  pub were : (l : ℕ) → In l (lasts t') → is_key (key_in f l) p ≡ false → In l (lasts t)
  pub ends : (l : ℕ) → In l (lasts t') → is_key (key_in f l) p ≡ true → h ≡ Some l
  pub ended : (l : ℕ) → h ≡ Some l → In l (lasts t') × (is_key (key_in f l) p ≡ true)
  pub ring : (l : ℕ) → h ≡ Some l → IsRing g l (of_class f p xs')
  pub none : h ≡ None → of_class f p xs' ≡ []
  pub kept : (z : ℕ) → is_key (key_in f z) p ≡ false → (In z (lasts t) → ⊥) → link_in g z EVEN ≡ link_in f z EVEN
  pub inner : (z : ℕ) → In z (of_class f p xs') → (In z (lasts t') → ⊥) → link_in g z EVEN ≡ Some m

module _ (f g : ℕ → Option HeldCell) (m : ℕ) (xs : List ℕ) (t : ClassTree) (old : AreClassed f m xs t) (p : ℕ × ℕ) (xs' : List ℕ) (t' : ClassTree) (h : Option ℕ) (r : Reclasses f g m xs t p xs' t' h) where
  keys_path : ◌≡◌ {A = ℕ → ℕ × ℕ} (λ b. key_in f b) (λ b. key_in g b)
  keys_path = λ u b. sym (r.keys b) u

  -- a list by a class is one by its keys
  class_same : (q : ℕ × ℕ) → of_class g q xs' ≡ of_class f q xs'
  class_same q = λ u. filter (λ a. is_key (sym keys_path u a) q) xs'

  own_class : (l : ℕ) → is_key (key_in f l) p ≡ true → key_in f l ≡ p
  own_class l e = key_true (key_in f l) p e

  -- a cell of another class was there
  was_in : (x : ℕ) → In x xs' → is_key (key_in f x) p ≡ false → In x xs
  was_in x i e = (in_filter (λ a. is_key (key_in f a) (key_in f x)) x xs (subst (λ us. In x us) (r.lists (key_in f x) e) (filter_in (λ a. is_key (key_in f a) (key_in f x)) x xs' i (key_same (key_in f x))))).0

  ring_of : (l : ℕ) → In l (lasts t') → IsRing g l (of_class f (key_in f l) xs')
  ring_of l i = elim (bool_cases (is_key (key_in f l) p)) [
    | inl e ↦ subst (λ q. IsRing g l (of_class f q xs')) (sym (own_class l e)) (r.ring l (r.ends l i e))
    | inr e ↦ (let q = key_in f l in let ring : IsRing f l (of_class f q xs) = old.rings l (r.were l i e) in
        subst (λ us. IsRing g l us) (sym (r.lists q e)) (linked_frame (class_node f) (class_node g) l (of_class f q xs) (λ z k. same z l e (elim k [ inl s ↦ subst (λ y. In y (of_class f q xs)) s (ring_last l (of_class f q xs) ring.1 ring.2) | inr j ↦ j ])) ring.0, ring.1, ring.2))
  ]
    where
      same : (z : ℕ) (j : ℕ) → is_key (key_in f j) p ≡ false → In z (of_class f (key_in f j) xs) → class_node g z ≡ class_node f z
      same z j e k = let w = in_filter (λ a. is_key (key_in f a) (key_in f j)) z xs k in r.nodes z w.0 (ap (λ u. is_key u p) (key_true (key_in f z) (key_in f j) w.1) ∙ e)

  -- the classes then
  pub reclassed : AreClassed g m xs' t'
  reclassed = record {
    tree = r.tree;
    sorted = sorted_keys f g 0 t' (λ b _. r.keys b) r.sorted;
    inside = λ l i. let ring = ring_of l i in (in_filter (λ a. is_key (key_in f a) (key_in f l)) l xs' (ring_last l (of_class f (key_in f l) xs') ring.1 ring.2)).0;
    every = λ x i. elim (bool_cases (is_key (key_in f x) p)) [
      | inl e ↦ head x i e h refl
      | inr e ↦ (let o = old.every x (was_in x i e) in (o.0, r.stay o.0 o.1 (ap (λ q. is_key q p) o.2 ∙ e), r.keys o.0 ∙ o.2 ∙ sym (r.keys x)))
    ];
    rings = λ l i. subst (λ q. IsRing g l (of_class g q xs')) (sym (r.keys l)) (subst (λ us. IsRing g l us) (sym (class_same (key_in f l))) (ring_of l i));
    inner = λ x i n. elim (bool_cases (is_key (key_in f x) p)) [
      | inl e ↦ r.inner x (filter_in (λ a. is_key (key_in f a) p) x xs' i e) n
      | inr e ↦ (let out : In x (lasts t) → ⊥ = (λ j. n (r.stay x j e)) in r.kept x e out ∙ old.inner x (was_in x i e) out)
    ];
  }
    where
      head : (x : ℕ) → In x xs' → is_key (key_in f x) p ≡ true → (o : Option ℕ) → h ≡ o → (l : ℕ) × In l (lasts t') × (key_in g l ≡ key_in g x)
      head x i s None e = absurd (nothing_in (of_class f p xs') (r.none e) x (filter_in (λ a. is_key (key_in f a) p) x xs' i s))
      head x i s (Some l) e = let w = r.ended l e in (l, w.0, r.keys l ∙ own_class l w.1 ∙ sym (own_class x s) ∙ sym (r.keys x))
