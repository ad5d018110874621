-- Where a class of a membrane stands in the tree of its classes, and what a write there leaves.
use Rattle.std.proofs.Common.{◌≡◌, ◌≢◌, ◌⊎◌, ◌<◌, ℕ, true, false, List, [], ◌∷◌, ◌++◌, length, Option, Some, None, IsSome, refl, sym, ap, subst, ◌∙◌, inl, inr, arith}
use Rattle.lmn_base.specs.Lists.{In}
use Rattle.lmn_base.proofs.Truth.{bool_cases}
use Rattle.lmn_store_heap.proofs.ListLemmas.{in_left, in_right}
use Rattle.lmn_web_cells.specs.Cells.{HeldCell, links_of}
use Rattle.lmn_web_cells.specs.Runs.{link_in}
use Rattle.lmn_web_cells.proofs.LineLemmas.{link_same, link_other}
use Rattle.lmn_web.specs.Classes.{Touches, ClassTree, Bare, Fork, lasts, top, IsTree, IsSorted, AreClassed, ClassPlace, place_in, is_odd, rest_at, is_key, key_in, of_class, link_written, taken_over}
use Rattle.lmn_web_cells.specs.Links.{EVEN, ODD, LEADERS}
use Rattle.lmn_web.proofs.ClassTrees.{Holds, Placed, placed, tree_frame}
use Rattle.lmn_web.proofs.ClassWrites.{kept, length_kept, touches_tree}
use Rattle.lmn_store_heap.proofs.Filters.{in_filter}

-- Links

-- a link that was just written
pub link_at : (f : ℕ → Option HeldCell) (a k : ℕ) (v : Option ℕ) → length (links_of (f a)) ≡ 8 → k < 8 → link_in (link_written f a k v) a k ≡ v
link_at f a k v e l = link_same f a k v (omega (arith, e, l))

-- another link
pub link_far : (f : ℕ → Option HeldCell) (a k : ℕ) (v : Option ℕ) (b j : ℕ) → j ≢ k → link_in (link_written f a k v) b j ≡ link_in f b j
link_far f a k v b j d = link_other f a k v b j (λ e _. d e)

-- a link of another cell
pub link_by : (f : ℕ → Option HeldCell) (a k : ℕ) (v : Option ℕ) (b j : ℕ) → b ≢ a → link_in (link_written f a k v) b j ≡ link_in f b j
link_by f a k v b j d = link_other f a k v b j (λ _ e. d e)

-- Trees

-- one that begins with a cell
pub fork_of : (u : ClassTree) (x : ℕ) → top u ≡ Some x → (a : ClassTree) × (b : ClassTree) × (u ≡ Fork x a b)
fork_of Bare x e = absurd cc
fork_of (Fork l a b) x e = (a, b, ap (λ y. Fork y a b) (let s : l ≡ x = cc in s))

-- one with none
pub bare_of : (u : ClassTree) → top u ≡ None → u ≡ Bare
bare_of Bare e = refl
bare_of (Fork l a b) e = absurd (let s : ◌≡◌ {A = Option ℕ} (Some l) None = e in cc)

-- a tree with a cell of the same class at its top is sorted
pub sorted_top : (f : ℕ → Option HeldCell) (d x n : ℕ) (a b : ClassTree) → key_in f x ≡ key_in f n → IsSorted f d (Fork x a b) → IsSorted f d (Fork n a b)
sorted_top f d x n a b e s = (
  λ k i. subst (λ q. (is_key (key_in f k) q ≡ false) × (is_odd (rest_at (key_in f k).0 d) ≡ false)) e (s.0 k i),
  λ k i. subst (λ q. (is_key (key_in f k) q ≡ false) × (is_odd (rest_at (key_in f k).0 d) ≡ true)) e (s.1 k i),
  s.2,
  s.3,
)

-- a link of the tree is none of the others
pub holds_far : (m : ℕ) (ks : List ℕ) (h k j : ℕ) → Holds m LEADERS ks h k → j ≢ EVEN → j ≢ ODD → j ≢ LEADERS → j ≢ k
holds_far m ks h k j o x y z e = elim o [ inl s ↦ z (e ∙ s.1) | inr i ↦ elim i.1 [ inl s ↦ x (e ∙ s) | inr s ↦ y (e ∙ s) ] ]

pub holds_small : (m : ℕ) (ks : List ℕ) (h k : ℕ) → Holds m LEADERS ks h k → k < 8
holds_small m ks h k o = elim o [ inl s ↦ (let e = s.1 in omega (arith, e)) | inr i ↦ elim i.1 [ inl s ↦ omega (arith, s) | inr s ↦ omega (arith, s) ] ]

pub holds_there : (f : ℕ → Option HeldCell) (m : ℕ) (ks : List ℕ) (h k : ℕ) → Holds m LEADERS ks h k → IsSome (f m) → ((z : ℕ) → In z ks → IsSome (f z)) → IsSome (f h)
holds_there f m ks h k o there alive = elim o [ inl s ↦ subst (λ z. IsSome (f z)) (sym s.0) there | inr i ↦ alive h i.0 ]

pub holds_more : (m : ℕ) (ks js : List ℕ) (h k : ℕ) → ((z : ℕ) → In z ks → In z js) → Holds m LEADERS ks h k → Holds m LEADERS js h k
holds_more m ks js h k sub o = elim o [ inl s ↦ inl s | inr i ↦ inr (sub h i.0, i.1) ]

-- it is none to a membrane
pub holds_inner : (m : ℕ) (ks : List ℕ) (h k : ℕ) → Holds m LEADERS ks h k → (f : ℕ → Option HeldCell) (v : Option ℕ) (z : ℕ) → (In z ks → ⊥) → link_in (link_written f h k v) z EVEN ≡ link_in f z EVEN
holds_inner m ks h k o f v z n = link_other f h k v z EVEN (λ e s. elim o [ inl x ↦ absurd (let d = x.1 in omega (arith, e, d)) | inr i ↦ n (subst (λ y. In y ks) (sym s) i.0) ])

-- the touch of a cell that takes over the links of another
pub touches_taken : (f g : ℕ → Option HeldCell) (m : ℕ) (xs : List ℕ) (p : ℕ × ℕ) → Touches f g m xs p → (h k x n : ℕ) → In n xs → Holds m LEADERS xs h k → Touches f (taken_over g h k x n) m xs p
touches_taken f g m xs p t h k x n i o =
    touches_tree f (link_written (link_written g n EVEN (link_in g x EVEN)) n ODD (link_in g x ODD)) m xs p
    (touches_tree f (link_written g n EVEN (link_in g x EVEN)) m xs p (touches_tree f g m xs p t n EVEN (link_in g x EVEN) (inr (i, inl refl))) n ODD (link_in g x ODD) (inr (i, inr refl))) h k (Some n) o

-- all its other links
pub taken_far : (f : ℕ → Option HeldCell) (h k x n b j : ℕ) → j ≢ EVEN → j ≢ ODD → j ≢ k → link_in (taken_over f h k x n) b j ≡ link_in f b j
taken_far f h k x n b j e o d =
    link_far (link_written (link_written f n EVEN (link_in f x EVEN)) n ODD (link_in f x ODD)) h k (Some n) b j d ∙ link_far (link_written f n EVEN (link_in f x EVEN)) n ODD (link_in f x ODD) b j o ∙ link_far f n EVEN (link_in f x EVEN) b j e

-- and those of other cells
taken_by : (f : ℕ → Option HeldCell) (h k x n b j : ℕ) → b ≢ n → (b ≡ h → j ≡ k → ⊥) → link_in (taken_over f h k x n) b j ≡ link_in f b j
taken_by f h k x n b j d e =
    link_other (link_written (link_written f n EVEN (link_in f x EVEN)) n ODD (link_in f x ODD)) h k (Some n) b j (λ s t. e t s) ∙ link_by (link_written f n EVEN (link_in f x EVEN)) n ODD (link_in f x ODD) b j d ∙ link_by f n EVEN (link_in f x EVEN) b j d

-- The place of a class

module _ (f : ℕ → Option HeldCell) (m : ℕ) (xs : List ℕ) (t : ClassTree) (old : AreClassed f m xs t) (no_m : In m xs → ⊥) (p : ℕ × ℕ) where
  abbrev pub place : ClassPlace
  place = place_in f p m t

  abbrev pub at : Placed f p m LEADERS 0 t place
  at = placed f p m LEADERS 0 t old.sorted (λ i. no_m (old.inside m i))

  -- the other parts of the tree
  pub outer_in : (z : ℕ) → In z at.hole.outer → In z (lasts t)
  outer_in z i = subst (λ u. In z (lasts u)) at.hole.is (at.hole.outs place.tree z i)

  pub tree_in : (z : ℕ) → In z (lasts place.tree) → In z (lasts t)
  tree_in z i = subst (λ u. In z (lasts u)) at.hole.is (at.hole.ins place.tree z i)

  outer_or : (z : ℕ) → In z (lasts t) → In z at.hole.outer ⊎ In z (lasts place.tree)
  outer_or z i = at.hole.parts place.tree z (subst (λ u. In z (lasts u)) (sym at.hole.is) i)

  -- where it hangs
  pub holds_lasts : Holds m LEADERS (lasts t) place.holder place.link
  holds_lasts = holds_more m at.hole.outer (lasts t) place.holder place.link outer_in at.hole.holds

  pub holds_atoms : Holds m LEADERS xs place.holder place.link
  holds_atoms = holds_more m (lasts t) xs place.holder place.link old.inside holds_lasts

  pub link_small : place.link < 8
  link_small = holds_small m xs place.holder place.link holds_atoms

  -- a write there leaves all links but those of the tree
  pub place_far : (g : ℕ → Option HeldCell) (v : Option ℕ) (b j : ℕ) → j ≢ EVEN → j ≢ ODD → j ≢ LEADERS → link_in (link_written g place.holder place.link v) b j ≡ link_in g b j
  place_far g v b j x y z = link_far g place.holder place.link v b j (holds_far m xs place.holder place.link j holds_atoms x y z)

  pub taken_place : (g : ℕ → Option HeldCell) (x n b j : ℕ) → j ≢ EVEN → j ≢ ODD → j ≢ LEADERS → link_in (taken_over g place.holder place.link x n) b j ≡ link_in g b j
  taken_place g x n b j e o z = taken_far g place.holder place.link x n b j e o (holds_far m xs place.holder place.link j holds_atoms e o z)

  -- and those by which other atoms lead to the membrane
  pub place_inner : (g : ℕ → Option HeldCell) (v : Option ℕ) (z : ℕ) → (In z (lasts t) → ⊥) → link_in (link_written g place.holder place.link v) z EVEN ≡ link_in g z EVEN
  place_inner g v z n = holds_inner m (lasts t) place.holder place.link holds_lasts g v z n

  pub taken_inner : (g : ℕ → Option HeldCell) (x n z : ℕ) → z ≢ n → (In z (lasts t) → ⊥) → link_in (taken_over g place.holder place.link x n) z EVEN ≡ link_in g z EVEN
  taken_inner g x n z d o =
      let g1 = link_written g n EVEN (link_in g x EVEN) in
      place_inner (link_written g1 n ODD (link_in g x ODD)) (Some n) z o ∙ link_by g1 n ODD (link_in g x ODD) z EVEN d ∙ link_by g n EVEN (link_in g x EVEN) z EVEN d

  -- the last atom of the class
  pub last_in : (l : ℕ) → top place.tree ≡ Some l → In l (lasts t) × (is_key (key_in f l) p ≡ true)
  last_in l e = let w = fork_of place.tree l e in (tree_in l (subst (λ u. In l (lasts u)) (sym w.2) (inl refl)), at.own l e)

  -- there is none
  pub last_none : top place.tree ≡ None → (l : ℕ) → In l (lasts t) → is_key (key_in f l) p ≡ false
  last_none e l i = elim (outer_or l i) [ inl o ↦ at.hole.others l o | inr j ↦ absurd (subst (λ u. In l (lasts u)) (bare_of place.tree e) j) ]

  -- so the membrane has no atom of the class
  pub class_none : top place.tree ≡ None → of_class f p xs ≡ []
  class_none e = by (of_class f p xs) (λ z i. in_filter (λ a. is_key (key_in f a) p) z xs i)
    where
      by : (zs : List ℕ) → ((z : ℕ) → In z zs → In z xs × (is_key (key_in f z) p ≡ true)) → zs ≡ []
      by [] h = refl
      by (z ∷ zs) h =
          let w = h z (inl refl) in let o = old.every z w.0 in
          let n : true ≡ false = sym w.1 ∙ ap (λ q. is_key q p) (sym o.2) ∙ last_none e o.0 o.1 in absurd cc

  -- Another tree there, with the same cells of other classes
  module _ (u : ClassTree) (sub : (z : ℕ) → is_key (key_in f z) p ≡ false → In z (lasts place.tree) → In z (lasts u)) (sup : (z : ℕ) → is_key (key_in f z) p ≡ false → In z (lasts u) → In z (lasts place.tree)) where
    pub fill_stay : (l : ℕ) → In l (lasts t) → is_key (key_in f l) p ≡ false → In l (lasts (at.hole.fill u))
    fill_stay l i e = elim (outer_or l i) [ inl o ↦ at.hole.outs u l o | inr j ↦ at.hole.ins u l (sub l e j) ]

    pub fill_were : (l : ℕ) → In l (lasts (at.hole.fill u)) → is_key (key_in f l) p ≡ false → In l (lasts t)
    fill_were l i e = elim (at.hole.parts u l i) [ inl o ↦ outer_in l o | inr j ↦ tree_in l (sup l e j) ]

    pub fill_sorted : IsSorted f place.depth u → IsSorted f 0 (at.hole.fill u)
    fill_sorted s = at.hole.filled u s (λ z i. elim (bool_cases (is_key (key_in f z) p)) [ inl e ↦ inl e | inr e ↦ inr (sup z e i) ])

  pub fill_ends : (u : ClassTree) (h : Option ℕ) → ((z : ℕ) → is_key (key_in f z) p ≡ true → In z (lasts u) → h ≡ Some z) → (l : ℕ) → In l (lasts (at.hole.fill u)) → is_key (key_in f l) p ≡ true → h ≡ Some l
  fill_ends u h own l i e = elim (at.hole.parts u l i) [ inl o ↦ absurd (let w : true ≡ false = sym e ∙ at.hole.others l o in cc) | inr j ↦ own l e j ]

  -- A cell takes over what hangs below another, where the class stands
  module _ (f1 : ℕ → Option HeldCell) (x n : ℕ) (a b : ClassTree) (there : (c : ℕ) → IsSome (f c) → IsSome (f1 c)) (long : (c : ℕ) → IsSome (f c) → length (links_of (f1 c)) ≡ 8)
      (outside : (c j : ℕ) → Holds m LEADERS at.hole.outer c j → link_in f1 c j ≡ link_in f c j) (even : IsTree f1 (link_in f1 x EVEN) a) (odd : IsTree f1 (link_in f1 x ODD) b)
      (inner : (z : ℕ) → In z (lasts a ++ lasts b) → In z (lasts place.tree)) (n_there : IsSome (f n)) (n_not : n ≢ m) (n_out : In n at.hole.outer → ⊥) (n_below : In n (lasts a ++ lasts b) → ⊥) (h_there : IsSome (f place.holder)) where
    abbrev g1 : ℕ → Option HeldCell
    g1 = link_written f1 n EVEN (link_in f1 x EVEN)

    abbrev g2 : ℕ → Option HeldCell
    g2 = link_written g1 n ODD (link_in f1 x ODD)

    abbrev g3 : ℕ → Option HeldCell
    g3 = taken_over f1 place.holder place.link x n

    -- the cell that holds it is another one
    held : (z : ℕ) → z ≢ m → (In z at.hole.outer → ⊥) → z ≢ place.holder
    held z d o e = elim at.hole.holds [ inl s ↦ d (e ∙ s.0) | inr i ↦ o (subst (λ y. In y at.hole.outer) (sym e) i.0) ]

    below_held : (z : ℕ) → In z (lasts a ++ lasts b) → z ≢ place.holder
    below_held z i = held z (λ e. no_m (old.inside m (tree_in m (subst (λ y. In y (lasts place.tree)) e (inner z i))))) (λ o. at.hole.apart z o (inner z i))

    n_held : n ≢ place.holder
    n_held = held n n_not n_out

    there_g : (c : ℕ) → IsSome (f c) → IsSome (g3 c)
    there_g c e = kept g2 g3 place.holder place.link (Some n) c refl (kept g1 g2 n ODD (link_in f1 x ODD) c refl (kept f1 g1 n EVEN (link_in f1 x EVEN) c refl (there c e)))

    below_same : (z : ℕ) → In z (lasts a ++ lasts b) → (link_in g3 z EVEN ≡ link_in f1 z EVEN) × (link_in g3 z ODD ≡ link_in f1 z ODD)
    below_same z i =
        let d : z ≢ n = (λ e. n_below (subst (λ y. In y (lasts a ++ lasts b)) e i)) in
        (taken_by f1 place.holder place.link x n z EVEN d (λ e _. below_held z i e), taken_by f1 place.holder place.link x n z ODD d (λ e _. below_held z i e))

    n_even : link_in g3 n EVEN ≡ link_in f1 x EVEN
    n_even = link_by g2 place.holder place.link (Some n) n EVEN n_held ∙ link_far g1 n ODD (link_in f1 x ODD) n EVEN (λ e. absurd (omega (arith, e))) ∙ link_at f1 n EVEN (link_in f1 x EVEN) (long n n_there) (omega arith)

    n_odd : link_in g3 n ODD ≡ link_in f1 x ODD
    n_odd = link_by g2 place.holder place.link (Some n) n ODD n_held ∙ link_at g1 n ODD (link_in f1 x ODD) (length_kept f1 n EVEN (link_in f1 x EVEN) n ∙ long n n_there) (omega arith)

    -- the tree then
    pub taken_tree : IsTree g3 (link_in g3 m LEADERS) (at.hole.fill (Fork n a b))
    taken_tree = at.hole.turned g3 (Fork n a b) there_g
        (λ c j o away. taken_by f1 place.holder place.link x n c j (λ e. not_n c j o e) away ∙ outside c j o) old.tree (
          link_at g2 place.holder place.link (Some n) (length_kept g1 n ODD (link_in f1 x ODD) place.holder ∙ length_kept f1 n EVEN (link_in f1 x EVEN) place.holder ∙ long place.holder h_there) link_small,
          there_g n n_there,
          subst (λ o. IsTree g3 o a) (sym n_even) (tree_frame f1 g3 (link_in f1 x EVEN) a (λ z i. below_same z (in_left z (lasts a) (lasts b) i)) stays even),
          subst (λ o. IsTree g3 o b) (sym n_odd) (tree_frame f1 g3 (link_in f1 x ODD) b (λ z i. below_same z (in_right z (lasts a) (lasts b) i)) stays odd),
        )
      where
        not_n : (c j : ℕ) → Holds m LEADERS at.hole.outer c j → c ≡ n → ⊥
        not_n c j o e = elim o [ inl s ↦ n_not (sym e ∙ s.0) | inr i ↦ n_out (subst (λ y. In y at.hole.outer) e i.0) ]

        stays : (c : ℕ) → IsSome (f1 c) → IsSome (g3 c)
        stays c e = kept g2 g3 place.holder place.link (Some n) c refl (kept g1 g2 n ODD (link_in f1 x ODD) c refl (kept f1 g1 n EVEN (link_in f1 x EVEN) c refl e))
