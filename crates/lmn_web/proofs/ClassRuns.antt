-- What each write to the links of classes does to the classes of a membrane.
use Rattle.std.proofs.Common.{◌≡◌, ◌≢◌, ◌⊎◌, ℕ, suc, Bool, true, false, not, List, [], ◌∷◌, ◌++◌, length, Option, Some, None, IsSome, refl, sym, ap, subst, ◌∙◌, inl, inr, arith}
use Rattle.lmn_base.specs.Lists.{In}
use Rattle.lmn_base.proofs.Lists.{in_either, in_snoc}
use Rattle.std.proofs.lemmas.Bool.{cases_eq}
use Rattle.lmn_store_heap.specs.Lists.{Distinct}
use Rattle.lmn_store_heap.proofs.ListLemmas.{in_left, in_right, apart}
use Rattle.lmn_web_cells.specs.Cells.{HeldCell, links_of, HaveLinks}
use Rattle.lmn_web_cells.specs.Runs.{link_in}
use Rattle.lmn_web_cells.proofs.LineLemmas.{link_other}
use Rattle.lmn_web.specs.Classes.{Touches, ClassTree, Bare, Fork, lasts, top, ClassPlace, IsTree, AreBeside, IsSorted, is_odd, rest_at, class_node, key_in, is_key, of_class, Linked, IsRing, AreClassed, place_in, link_written, taken_over, begun, lengthened, put_between, put_inside, closed, shortened, dropped}
use Rattle.lmn_web_cells.specs.Links.{CLASS_NEXT, CLASS_PREV, EVEN, ODD, LEADERS}
use Rattle.lmn_web.proofs.Reclassing.{key_same, key_true, nothing_in, reclassed}
use Rattle.lmn_web.proofs.Rings.{PutsBetween, ClosesUp, linked_frame, linked_prev, put_linked, put_last, close_linked, close_last, ring_last, ring_first, ring_more, ring_less}
use Rattle.lmn_web.proofs.ClassTrees.{Holds, Hole, forked, side, side_is, sides_differ, not_both, in_forked, top_forked, forked_sorted, sorted_forked, forked_tree, key_differs, tree_frame, sorted_apart, below_differs, beside_not}
use Rattle.lmn_web.proofs.ClassWrites.{kept, length_kept, touches_none, touches_own, touches_tree, touches_keys, touches_there}
use Rattle.lmn_web.proofs.ClassPlaces.{link_at, link_far, link_by, bare_of, sorted_top, holds_small, holds_there, holds_more, holds_inner, touches_taken, at, outer_in, tree_in, holds_atoms, link_small, place_far, place_inner, taken_place, taken_inner, last_in, fill_stay, fill_were, fill_sorted, fill_ends, taken_tree}
use Rattle.lmn_store_heap.proofs.Filters.{in_filter, distinct_filter}

-- no link to other classes is one of a class
not_side : (j : ℕ) → (j ≡ EVEN) ⊎ ((j ≡ ODD) ⊎ (j ≡ LEADERS)) → (j ≡ CLASS_NEXT) ⊎ (j ≡ CLASS_PREV) → ⊥
not_side j (inl e) (inl s) = absurd (omega (arith, e, s))
not_side j (inr (inl e)) (inl s) = absurd (omega (arith, e, s))
not_side j (inr (inr e)) (inl s) = absurd (omega (arith, e, s))
not_side j (inl e) (inr s) = absurd (omega (arith, e, s))
not_side j (inr (inl e)) (inr s) = absurd (omega (arith, e, s))
not_side j (inr (inr e)) (inr s) = absurd (omega (arith, e, s))

module _ (f : ℕ → Option HeldCell) (m c : ℕ) (xs : List ℕ) (t : ClassTree) (have : HaveLinks f) (old : AreClassed f m xs t) (alive : (z : ℕ) → In z xs → IsSome (f z)) (distinct : Distinct xs) (there_m : IsSome (f m)) (there_c : IsSome (f c)) (no_m : In m xs → ⊥) (not_m : c ≢ m) where
  abbrev p : ℕ × ℕ
  p = key_in f c

  abbrev zs : List ℕ
  zs = of_class f p xs

  abbrev ls : List ℕ
  ls = lasts t

  zs_in : (z : ℕ) → In z zs → In z xs × (is_key (key_in f z) p ≡ true)
  zs_in z i = in_filter (λ a. is_key (key_in f a) p) z xs i

  zs_once : Distinct zs
  zs_once = distinct_filter (λ a. is_key (key_in f a) p) xs distinct

  -- the last one of the class
  class_ring : (l : ℕ) → In l ls → is_key (key_in f l) p ≡ true → IsRing f l zs
  class_ring l i e = subst (λ q. IsRing f l (of_class f q xs)) (key_true (key_in f l) p e) (old.rings l i)

  same_class : (j l : ℕ) → In j ls → In l ls → is_key (key_in f j) p ≡ true → is_key (key_in f l) p ≡ true → j ≡ l
  same_class j l a b d e = sorted_apart f 0 t old.sorted j l a b (key_true (key_in f j) p d ∙ sym (key_true (key_in f l) p e))

  -- each other one leads to the membrane
  own_inner : (z : ℕ) → In z zs → (In z ls → ⊥) → link_in f z EVEN ≡ Some m
  own_inner z i n = old.inner z (zs_in z i).0 n

  -- what is of another class is another cell
  not_own : (z : ℕ) → is_key (key_in f z) p ≡ false → (a : ℕ) → is_key (key_in f a) p ≡ true → z ≢ a
  not_own z e a o s = let w : true ≡ false = sym o ∙ ap (λ u. is_key (key_in f u) p) (sym s) ∙ e in absurd cc

  -- A class begins

  module _ (xs' : List ℕ) (lists : (q : ℕ × ℕ) → is_key q p ≡ false → of_class f q xs' ≡ of_class f q xs) (alone : of_class f p xs' ≡ c ∷ []) (fresh : In c xs → ⊥) (none : top (place_in f p m t).tree ≡ None) where
    abbrev hb : ℕ
    hb = (place_in f p m t).holder

    abbrev kb : ℕ
    kb = (place_in f p m t).link

    abbrev b1 : ℕ → Option HeldCell
    b1 = link_written f c CLASS_NEXT (Some c)

    abbrev b2 : ℕ → Option HeldCell
    b2 = link_written b1 c CLASS_PREV (Some c)

    abbrev b4 : ℕ → Option HeldCell
    b4 = link_written b2 c EVEN None

    abbrev b5 : ℕ → Option HeldCell
    b5 = link_written b4 c ODD None

    abbrev b6 : ℕ → Option HeldCell
    b6 = begun f hb kb c

    touches_b5 : Touches f b5 m (c ∷ xs) p
    touches_b5 = touches_tree f b4 m (c ∷ xs) p (touches_tree f b2 m (c ∷ xs) p (touches_own f b1 m (c ∷ xs) p (touches_own f f m (c ∷ xs) p (touches_none f m (c ∷ xs) p)
        c CLASS_NEXT (Some c) (inl refl) (key_same p) (omega arith)) c CLASS_PREV (Some c) (inl refl) (key_same p) (omega arith)) c EVEN None (inr (inl refl, inl refl))) c ODD None (inr (inl refl, inr refl))

    -- what is left as it was
    pub begun_touches : Touches f b6 m (c ∷ xs) p
    begun_touches = touches_tree f b5 m (c ∷ xs) p touches_b5 hb kb (Some c) (holds_more m xs (c ∷ xs) hb kb (λ z i. inr i) (holds_atoms f m xs t old no_m p))

    there_b : (z : ℕ) → IsSome (f z) → IsSome (b6 z)
    there_b z e = touches_there f b6 m (c ∷ xs) p begun_touches z e

    len1 : length (links_of (b1 c)) ≡ 8
    len1 = length_kept f c CLASS_NEXT (Some c) c ∙ have c there_c

    len2 : length (links_of (b2 c)) ≡ 8
    len2 = length_kept b1 c CLASS_PREV (Some c) c ∙ len1

    len4 : length (links_of (b4 c)) ≡ 8
    len4 = length_kept b2 c EVEN None c ∙ len2

    to_b2 : (j : ℕ) → j ≢ EVEN → j ≢ ODD → j ≢ LEADERS → link_in b6 c j ≡ link_in b2 c j
    to_b2 j x y z = place_far f m xs t old no_m p b5 (Some c) c j x y z ∙ link_far b4 c ODD None c j y ∙ link_far b2 c EVEN None c j x

    c_next : link_in b6 c CLASS_NEXT ≡ Some c
    c_next = to_b2 CLASS_NEXT (λ e. absurd (omega (arith, e))) (λ e. absurd (omega (arith, e))) (λ e. absurd (omega (arith, e))) ∙ link_far b1 c CLASS_PREV (Some c) c CLASS_NEXT (λ e. absurd (omega (arith, e))) ∙ link_at f c CLASS_NEXT (Some c) (have c there_c) (omega arith)

    c_prev : link_in b6 c CLASS_PREV ≡ Some c
    c_prev = to_b2 CLASS_PREV (λ e. absurd (omega (arith, e))) (λ e. absurd (omega (arith, e))) (λ e. absurd (omega (arith, e))) ∙ link_at b1 c CLASS_PREV (Some c) len1 (omega arith)

    no_outer : In c (at f m xs t old no_m p).hole.outer → ⊥
    no_outer i = fresh (old.inside c (outer_in f m xs t old no_m p c i))

    c_held : c ≢ hb
    c_held e = elim (at f m xs t old no_m p).hole.holds [ inl s ↦ not_m (e ∙ s.0) | inr i ↦ no_outer (subst (λ z. In z (at f m xs t old no_m p).hole.outer) (sym e) i.0) ]

    c_even : link_in b6 c EVEN ≡ None
    c_even = link_by b5 hb kb (Some c) c EVEN c_held ∙ link_far b4 c ODD None c EVEN (λ e. absurd (omega (arith, e))) ∙ link_at b2 c EVEN None len2 (omega arith)

    c_odd : link_in b6 c ODD ≡ None
    c_odd = link_by b5 hb kb (Some c) c ODD c_held ∙ link_at b4 c ODD None len4 (omega arith)

    h_there : IsSome (f hb)
    h_there = holds_there f m xs hb kb (holds_atoms f m xs t old no_m p) there_m alive

    begun_tree : IsTree b6 (link_in b6 m LEADERS) ((at f m xs t old no_m p).hole.fill (Fork c Bare Bare))
    begun_tree = (at f m xs t old no_m p).hole.turned b6 (Fork c Bare Bare) there_b away old.tree (link_at b5 hb kb (Some c) (touches_b5.lengths hb ∙ have hb h_there) (link_small f m xs t old no_m p), there_b c there_c, c_even, c_odd)
      where
        away : (b j : ℕ) → Holds m LEADERS (at f m xs t old no_m p).hole.outer b j → (b ≡ hb → j ≡ kb → ⊥) → link_in b6 b j ≡ link_in f b j
        away b j o n =
            let d : b ≢ c = (λ e. elim o [ inl s ↦ not_m (sym e ∙ s.0) | inr i ↦ no_outer (subst (λ z. In z (at f m xs t old no_m p).hole.outer) e i.0) ]) in
            link_other b5 hb kb (Some c) b j (λ s e. n e s) ∙ link_by b4 c ODD None b j d ∙ link_by b2 c EVEN None b j d ∙ link_by b1 c CLASS_PREV (Some c) b j d ∙ link_by f c CLASS_NEXT (Some c) b j d

    none_there : (z : ℕ) → In z (lasts (place_in f p m t).tree) → ⊥
    none_there z i = subst (λ u. In z (lasts u)) (bare_of (place_in f p m t).tree none) i

    no_other : (z : ℕ) → is_key (key_in f z) p ≡ false → In z (c ∷ []) → ⊥
    no_other z e i = elim i [ inl s ↦ (let w : true ≡ false = sym (key_same p) ∙ ap (λ u. is_key (key_in f u) p) s ∙ e in absurd cc) | inr j ↦ j ]

    -- the classes then
    pub begun_classed : AreClassed b6 m xs' ((at f m xs t old no_m p).hole.fill (Fork c Bare Bare))
    begun_classed = reclassed f b6 m xs t old p xs' ((at f m xs t old no_m p).hole.fill (Fork c Bare Bare)) (Some c) record {
      keys = touches_keys f b6 m (c ∷ xs) p begun_touches;
      lists = lists;
      nodes = λ z _ e. begun_touches.nodes z e;
      tree = begun_tree;
      sorted = fill_sorted f m xs t old no_m p (Fork c Bare Bare) (λ z _ i. absurd (none_there z i)) (λ z e i. absurd (no_other z e i)) (λ k i. absurd i, λ k i. absurd i, tt, tt);
      stay = fill_stay f m xs t old no_m p (Fork c Bare Bare) (λ z _ i. absurd (none_there z i)) (λ z e i. absurd (no_other z e i));
      were = fill_were f m xs t old no_m p (Fork c Bare Bare) (λ z _ i. absurd (none_there z i)) (λ z e i. absurd (no_other z e i));
      ends = fill_ends f m xs t old no_m p (Fork c Bare Bare) (Some c) (λ z e i. elim i [ inl s ↦ ap Some s | inr j ↦ absurd j ]);
      ended = λ l e. (let s : c ≡ l = cc in ((at f m xs t old no_m p).hole.ins (Fork c Bare Bare) l (inl s), ap (λ u. is_key (key_in f u) p) (sym s) ∙ key_same p));
      ring = λ l e. (let s : c ≡ l = cc in subst (λ us. IsRing b6 l us) (sym alone) (subst (λ z. IsRing b6 z (c ∷ [])) s ((c_next, c_prev, tt), [], refl)));
      none = λ e. absurd cc;
      kept = λ z e n. (let d : z ≢ c = (λ s. no_other z e (inl (sym s))) in
          place_inner f m xs t old no_m p b5 (Some c) z n ∙ link_by b4 c ODD None z EVEN d ∙ link_by b2 c EVEN None z EVEN d ∙ link_by b1 c CLASS_PREV (Some c) z EVEN d ∙ link_by f c CLASS_NEXT (Some c) z EVEN d);
      inner = λ z i n. absurd (n ((at f m xs t old no_m p).hole.ins (Fork c Bare Bare) z (subst (λ us. In z us) alone i)));
    }

  -- An atom comes between two neighbours of its class

  module _ (pr d : ℕ) (pr_zs : In pr zs) (d_zs : In d zs) (fresh : In c xs → ⊥) where
    abbrev i1 : ℕ → Option HeldCell
    i1 = link_written f c CLASS_NEXT (Some d)

    abbrev i2 : ℕ → Option HeldCell
    i2 = link_written i1 c CLASS_PREV (Some pr)

    abbrev i3 : ℕ → Option HeldCell
    i3 = link_written i2 pr CLASS_NEXT (Some c)

    abbrev i4 : ℕ → Option HeldCell
    i4 = put_between f pr d c

    c_not : (z : ℕ) → In z zs → c ≢ z
    c_not z i e = fresh (subst (λ u. In u xs) (sym e) (zs_in z i).0)

    -- what is left as it was
    put_touches : Touches f i4 m (c ∷ xs) p
    put_touches = touches_own f i3 m (c ∷ xs) p (touches_own f i2 m (c ∷ xs) p (touches_own f i1 m (c ∷ xs) p (touches_own f f m (c ∷ xs) p (touches_none f m (c ∷ xs) p)
        c CLASS_NEXT (Some d) (inl refl) (key_same p) (omega arith)) c CLASS_PREV (Some pr) (inl refl) (key_same p) (omega arith)) pr CLASS_NEXT (Some c) (inr (zs_in pr pr_zs).0) (zs_in pr pr_zs).1 (omega arith))
        d CLASS_PREV (Some c) (inr (zs_in d d_zs).0) (zs_in d d_zs).1 (omega arith)

    put_same : (b j : ℕ) → j ≢ CLASS_NEXT → j ≢ CLASS_PREV → link_in i4 b j ≡ link_in f b j
    put_same b j x y = link_far i3 d CLASS_PREV (Some c) b j y ∙ link_far i2 pr CLASS_NEXT (Some c) b j x ∙ link_far i1 c CLASS_PREV (Some pr) b j y ∙ link_far f c CLASS_NEXT (Some d) b j x

    put_even : (b : ℕ) → link_in i4 b EVEN ≡ link_in f b EVEN
    put_even b = put_same b EVEN (λ e. absurd (omega (arith, e))) (λ e. absurd (omega (arith, e)))

    long_i : (z : ℕ) → IsSome (f z) → length (links_of (i2 z)) ≡ 8
    long_i z t = length_kept i1 c CLASS_PREV (Some pr) z ∙ length_kept f c CLASS_NEXT (Some d) z ∙ have z t

    -- it is linked with the two
    put_node : PutsBetween (class_node f) (class_node i4) pr d c
    put_node = record {
      own_next = link_far i3 d CLASS_PREV (Some c) c CLASS_NEXT (λ e. absurd (omega (arith, e))) ∙ link_by i2 pr CLASS_NEXT (Some c) c CLASS_NEXT (c_not pr pr_zs) ∙ link_far i1 c CLASS_PREV (Some pr) c CLASS_NEXT (λ e. absurd (omega (arith, e)))
          ∙ link_at f c CLASS_NEXT (Some d) (have c there_c) (omega arith);
      own_prev = link_by i3 d CLASS_PREV (Some c) c CLASS_PREV (c_not d d_zs) ∙ link_far i2 pr CLASS_NEXT (Some c) c CLASS_PREV (λ e. absurd (omega (arith, e))) ∙ link_at i1 c CLASS_PREV (Some pr) (length_kept f c CLASS_NEXT (Some d) c ∙ have c there_c) (omega arith);
      before = link_far i3 d CLASS_PREV (Some c) pr CLASS_NEXT (λ e. absurd (omega (arith, e))) ∙ link_at i2 pr CLASS_NEXT (Some c) (long_i pr (alive pr (zs_in pr pr_zs).0)) (omega arith);
      behind = link_at i3 d CLASS_PREV (Some c) (length_kept i2 pr CLASS_NEXT (Some c) d ∙ long_i d (alive d (zs_in d d_zs).0)) (omega arith);
      nexts = λ z n w. link_far i3 d CLASS_PREV (Some c) z CLASS_NEXT (λ e. absurd (omega (arith, e))) ∙ link_by i2 pr CLASS_NEXT (Some c) z CLASS_NEXT w ∙ link_far i1 c CLASS_PREV (Some pr) z CLASS_NEXT (λ e. absurd (omega (arith, e)))
          ∙ link_by f c CLASS_NEXT (Some d) z CLASS_NEXT n;
      prevs = λ z n w. link_by i3 d CLASS_PREV (Some c) z CLASS_PREV w ∙ link_far i2 pr CLASS_NEXT (Some c) z CLASS_PREV (λ e. absurd (omega (arith, e))) ∙ link_by i1 c CLASS_PREV (Some pr) z CLASS_PREV n ∙ link_far f c CLASS_NEXT (Some d) z CLASS_PREV (λ e. absurd (omega (arith, e)));
    }

  -- before one of them, so that it isn't the last

  module _ (xs' us vs : List ℕ) (l pr d : ℕ) (lists : (r : ℕ × ℕ) → is_key r p ≡ false → of_class f r xs' ≡ of_class f r xs) (cut : zs ≡ us ++ (d ∷ vs)) (inside : of_class f p xs' ≡ us ++ (c ∷ d ∷ vs)) (fresh : In c xs → ⊥)
      (in_l : In l ls) (key_l : is_key (key_in f l) p ≡ true) (prev : link_in f d CLASS_PREV ≡ Some pr) where
    abbrev i5 : ℕ → Option HeldCell
    i5 = put_inside f m pr d c

    ring_i : IsRing f l (us ++ (d ∷ vs))
    ring_i = subst (λ ws. IsRing f l ws) cut (class_ring l in_l key_l)

    front_i : (link_in f pr CLASS_NEXT ≡ Some d) × (((us ≡ []) × (pr ≡ l)) ⊎ ((ws : List ℕ) × (us ≡ ws ++ pr ∷ [])))
    front_i = linked_prev (class_node f) l us d vs ring_i.0 pr prev

    pr_zs : In pr zs
    pr_zs = subst (λ ws. In pr ws) (sym cut) (elim front_i.1 [
      | inl s ↦ subst (λ z. In z (us ++ (d ∷ vs))) (sym s.1) (ring_last l (us ++ (d ∷ vs)) ring_i.1 ring_i.2)
      | inr s ↦ in_left pr us (d ∷ vs) (ring_last pr us s.0 s.1)
    ])

    d_zs : In d zs
    d_zs = subst (λ ws. In d ws) (sym cut) (in_right d us (d ∷ vs) (inl refl))

    -- what is left as it was
    pub inside_touches : Touches f i5 m (c ∷ xs) p
    inside_touches = touches_tree f (put_between f pr d c) m (c ∷ xs) p (put_touches pr d pr_zs d_zs fresh) c EVEN (Some m) (inr (inl refl, inl refl))

    inside_node : (z : ℕ) → class_node i5 z ≡ class_node (put_between f pr d c) z
    inside_node z = λ t. record { prev = link_far (put_between f pr d c) c EVEN (Some m) z CLASS_PREV (λ e. absurd (omega (arith, e))) t; next = link_far (put_between f pr d c) c EVEN (Some m) z CLASS_NEXT (λ e. absurd (omega (arith, e))) t }

    inside_even : (z : ℕ) → z ≢ c → link_in i5 z EVEN ≡ link_in f z EVEN
    inside_even z n = link_by (put_between f pr d c) c EVEN (Some m) z EVEN n ∙ put_even pr d pr_zs d_zs fresh z

    inside_far : (z j : ℕ) → j ≢ CLASS_NEXT → j ≢ CLASS_PREV → j ≢ EVEN → link_in i5 z j ≡ link_in f z j
    inside_far z j x y e = link_far (put_between f pr d c) c EVEN (Some m) z j e ∙ put_same pr d pr_zs d_zs fresh z j x y

    last_not_c : (k : ℕ) → In k ls → k ≢ c
    last_not_c k i e = fresh (subst (λ u. In u xs) e (old.inside k i))

    ring_5 : IsRing i5 l (us ++ (c ∷ d ∷ vs))
    ring_5 =
        let new : In c (us ++ (d ∷ vs)) → ⊥ = λ i. fresh (zs_in c (subst (λ ws. In c ws) (sym cut) i)).0 in
        let w = ring_more us c d vs ring_i.1 l ring_i.2 in (
          linked_frame (class_node (put_between f pr d c)) (class_node i5) l (us ++ (c ∷ d ∷ vs)) (λ z _. inside_node z)
              (put_linked (class_node f) (class_node (put_between f pr d c)) pr d c (put_node pr d pr_zs d_zs fresh) front_i.0 prev l us vs (λ i. elim i [ inl s ↦ last_not_c l in_l s | inr j ↦ new j ]) (subst Distinct cut zs_once) ring_i.0),
          w.0,
          w.1,
        )

    -- the classes then
    pub inside_classed : AreClassed i5 m xs' t
    inside_classed = reclassed f i5 m xs t old p xs' t (Some l) record {
      keys = touches_keys f i5 m (c ∷ xs) p inside_touches;
      lists = lists;
      nodes = λ z _ e. inside_touches.nodes z e;
      tree = subst (λ o. IsTree i5 o t) (sym (inside_far m LEADERS (λ e. absurd (omega (arith, e))) (λ e. absurd (omega (arith, e))) (λ e. absurd (omega (arith, e)))))
          (tree_frame f i5 (link_in f m LEADERS) t (λ k i. (inside_even k (last_not_c k i), inside_far k ODD (λ e. absurd (omega (arith, e))) (λ e. absurd (omega (arith, e))) (λ e. absurd (omega (arith, e))))) (touches_there f i5 m (c ∷ xs) p inside_touches) old.tree);
      sorted = old.sorted;
      stay = λ k i _. i;
      were = λ k i _. i;
      ends = λ k i e. ap Some (same_class l k in_l i key_l e);
      ended = λ k e. (let s : l ≡ k = cc in (subst (λ u. In u ls) s in_l, ap (λ u. is_key (key_in f u) p) (sym s) ∙ key_l));
      ring = λ k e. (let s : l ≡ k = cc in subst (λ ws. IsRing i5 k ws) (sym inside) (subst (λ u. IsRing i5 u (us ++ (c ∷ d ∷ vs))) s ring_5));
      none = λ e. absurd cc;
      kept = λ z e _. inside_even z (not_own z e c (key_same p));
      inner = λ z i n. elim (cases_eq z c) [
        | inl e ↦ ap (λ u. link_in i5 u EVEN) e ∙ link_at (put_between f pr d c) c EVEN (Some m) ((put_touches pr d pr_zs d_zs fresh).lengths c ∙ have c there_c) (omega arith)
        | inr o ↦ inside_even z o ∙ own_inner z (subst (λ ws. In z ws) (sym cut) (elim (in_either z us (c ∷ d ∷ vs) (subst (λ ws. In z ws) inside i)) [
          | inl j ↦ in_left z us (d ∷ vs) j
          | inr j ↦ elim j [ inl s ↦ absurd (o (sym s)) | inr k ↦ in_right z us (d ∷ vs) k ]
        ])) n
      ];
    }

  -- An atom leaves from between two of its class

  module _ (pr nx : ℕ) (pr_zs : In pr zs) (nx_zs : In nx zs) where
    abbrev e1 : ℕ → Option HeldCell
    e1 = link_written f pr CLASS_NEXT (Some nx)

    abbrev e2 : ℕ → Option HeldCell
    e2 = closed f pr nx

    -- what is left as it was
    pub closed_touches : Touches f e2 m xs p
    closed_touches = touches_own f e1 m xs p (touches_own f f m xs p (touches_none f m xs p) pr CLASS_NEXT (Some nx) (zs_in pr pr_zs).0 (zs_in pr pr_zs).1 (omega arith)) nx CLASS_PREV (Some pr) (zs_in nx nx_zs).0 (zs_in nx nx_zs).1 (omega arith)

    closed_same : (b j : ℕ) → j ≢ CLASS_NEXT → j ≢ CLASS_PREV → link_in e2 b j ≡ link_in f b j
    closed_same b j x y = link_far e1 nx CLASS_PREV (Some pr) b j y ∙ link_far f pr CLASS_NEXT (Some nx) b j x

    closed_even : (b : ℕ) → link_in e2 b EVEN ≡ link_in f b EVEN
    closed_even b = closed_same b EVEN (λ e. absurd (omega (arith, e))) (λ e. absurd (omega (arith, e)))

    -- they are linked with each other
    closed_node : ClosesUp (class_node f) (class_node e2) pr nx
    closed_node = record {
      before = link_far e1 nx CLASS_PREV (Some pr) pr CLASS_NEXT (λ e. absurd (omega (arith, e))) ∙ link_at f pr CLASS_NEXT (Some nx) (have pr (alive pr (zs_in pr pr_zs).0)) (omega arith);
      behind = link_at e1 nx CLASS_PREV (Some pr) (length_kept f pr CLASS_NEXT (Some nx) nx ∙ have nx (alive nx (zs_in nx nx_zs).0)) (omega arith);
      nexts = λ z n. link_far e1 nx CLASS_PREV (Some pr) z CLASS_NEXT (λ e. absurd (omega (arith, e))) ∙ link_by f pr CLASS_NEXT (Some nx) z CLASS_NEXT n;
      prevs = λ z n. link_by e1 nx CLASS_PREV (Some pr) z CLASS_PREV n ∙ link_far f pr CLASS_NEXT (Some nx) z CLASS_PREV (λ e. absurd (omega (arith, e)));
    }

    -- where it isn't the last
    module _ (xs' us vs : List ℕ) (l : ℕ) (lists : (r : ℕ × ℕ) → is_key r p ≡ false → of_class f r xs' ≡ of_class f r xs) (cut : zs ≡ us ++ (c ∷ nx ∷ vs)) (inside : of_class f p xs' ≡ us ++ (nx ∷ vs))
        (in_l : In l ls) (key_l : is_key (key_in f l) p ≡ true) (prev : link_in f c CLASS_PREV ≡ Some pr) where
      ring_e : IsRing f l (us ++ (c ∷ nx ∷ vs))
      ring_e = subst (λ ws. IsRing f l ws) cut (class_ring l in_l key_l)

      ring_2 : IsRing e2 l (us ++ (nx ∷ vs))
      ring_2 = let w = ring_less us c nx vs ring_e.1 l ring_e.2 in (
        close_linked (class_node f) (class_node e2) pr nx c closed_node (linked_prev (class_node f) l us c (nx ∷ vs) ring_e.0 pr prev).0 prev l us vs (subst Distinct cut zs_once) ring_e.0,
        w.0,
        w.1,
      )

      -- the classes then
      pub closed_classed : AreClassed e2 m xs' t
      closed_classed = reclassed f e2 m xs t old p xs' t (Some l) record {
        keys = touches_keys f e2 m xs p closed_touches;
        lists = lists;
        nodes = λ z _ e. closed_touches.nodes z e;
        tree = subst (λ o. IsTree e2 o t) (sym (closed_same m LEADERS (λ e. absurd (omega (arith, e))) (λ e. absurd (omega (arith, e)))))
            (tree_frame f e2 (link_in f m LEADERS) t (λ k i. (closed_even k, closed_same k ODD (λ e. absurd (omega (arith, e))) (λ e. absurd (omega (arith, e))))) (touches_there f e2 m xs p closed_touches) old.tree);
        sorted = old.sorted;
        stay = λ k i _. i;
        were = λ k i _. i;
        ends = λ k i e. ap Some (same_class l k in_l i key_l e);
        ended = λ k e. (let s : l ≡ k = cc in (subst (λ u. In u ls) s in_l, ap (λ u. is_key (key_in f u) p) (sym s) ∙ key_l));
        ring = λ k e. (let s : l ≡ k = cc in subst (λ ws. IsRing e2 k ws) (sym inside) (subst (λ u. IsRing e2 u (us ++ (nx ∷ vs))) s ring_2));
        none = λ e. absurd cc;
        kept = λ z _ _. closed_even z;
        inner = λ z i n. closed_even z ∙ own_inner z (subst (λ ws. In z ws) (sym cut) (elim (in_either z us (nx ∷ vs) (subst (λ ws. In z ws) inside i)) [ inl j ↦ in_left z us (c ∷ nx ∷ vs) j | inr j ↦ in_right z us (c ∷ nx ∷ vs) (inr j) ])) n;
      }

  -- The last of a class changes

  module _ (x : ℕ) (pa pb : ClassTree) (is_x : (place_in f p m t).tree ≡ Fork x pa pb) where
    hung : top (place_in f p m t).tree ≡ Some x
    hung = ap top is_x

    x_ls : In x ls × (is_key (key_in f x) p ≡ true)
    x_ls = last_in f m xs t old no_m p x hung

    -- what hangs where it stands
    part_x : IsTree f (link_in f (place_in f p m t).holder (place_in f p m t).link) (Fork x pa pb)
    part_x = subst (λ u. IsTree f (link_in f (place_in f p m t).holder (place_in f p m t).link) u) is_x ((at f m xs t old no_m p).hole.part old.tree)

    sorted_x : IsSorted f (place_in f p m t).depth (Fork x pa pb)
    sorted_x = subst (λ u. IsSorted f (place_in f p m t).depth u) is_x (at f m xs t old no_m p).hole.sorted

    -- and below it
    in_x : (z : ℕ) → In z (x ∷ (lasts pa ++ lasts pb)) → In z (lasts (place_in f p m t).tree)
    in_x z i = subst (λ u. In z (lasts u)) (sym is_x) i

    of_x : (z : ℕ) → In z (lasts (place_in f p m t).tree) → In z (x ∷ (lasts pa ++ lasts pb))
    of_x z i = subst (λ u. In z (lasts u)) is_x i

    -- has other classes
    below_x : (z : ℕ) → In z (lasts pa ++ lasts pb) → is_key (key_in f z) p ≡ false
    below_x z i = ap (is_key (key_in f z)) (sym (key_true (key_in f x) p x_ls.1)) ∙ below_differs f x (place_in f p m t).depth pa pb sorted_x z i

    there_x : IsSome (f (place_in f p m t).holder)
    there_x = holds_there f m xs (place_in f p m t).holder (place_in f p m t).link (holds_atoms f m xs t old no_m p) there_m alive

    -- a last one of another class is another one
    other_last : (z : ℕ) → is_key (key_in f z) p ≡ false → x ≡ z → ⊥
    other_last z e s = let w : true ≡ false = sym x_ls.1 ∙ ap (λ u. is_key (key_in f u) p) s ∙ e in absurd cc

    -- one of the same class is this one
    same_last : (z : ℕ) → In z ls → is_key (key_in f z) p ≡ true → x ≡ z
    same_last z i e = same_class x z x_ls.0 i x_ls.1 e

    -- Another one of the class is the last

    module _ (n : ℕ) (key_n : is_key (key_in f n) p ≡ true) (new : In n ls → ⊥) (n_there : IsSome (f n)) (n_not : n ≢ m) (g : ℕ → Option HeldCell) (there_g : (z : ℕ) → IsSome (f z) → IsSome (g z)) (long_g : (z : ℕ) → IsSome (f z) → length (links_of (g z)) ≡ 8)
        (agree : (b j : ℕ) → (j ≡ EVEN) ⊎ ((j ≡ ODD) ⊎ (j ≡ LEADERS)) → link_in g b j ≡ link_in f b j) where
      abbrev then_x : ClassTree
      then_x = (at f m xs t old no_m p).hole.fill (Fork n pa pb)

      sub_n : (z : ℕ) → is_key (key_in f z) p ≡ false → In z (lasts (place_in f p m t).tree) → In z (n ∷ (lasts pa ++ lasts pb))
      sub_n z e i = elim (of_x z i) [ inl s ↦ absurd (other_last z e s) | inr j ↦ inr j ]

      sup_n : (z : ℕ) → is_key (key_in f z) p ≡ false → In z (n ∷ (lasts pa ++ lasts pb)) → In z (lasts (place_in f p m t).tree)
      sup_n z e i = elim i [ inl s ↦ (let w : true ≡ false = sym key_n ∙ ap (λ u. is_key (key_in f u) p) s ∙ e in absurd cc) | inr j ↦ in_x z (inr j) ]

      pub new_tree : IsTree (taken_over g (place_in f p m t).holder (place_in f p m t).link x n) (link_in (taken_over g (place_in f p m t).holder (place_in f p m t).link x n) m LEADERS) then_x
      new_tree = taken_tree f m xs t old no_m p g x n pa pb there_g long_g
          (λ b j o. agree b j (elim o [ inl s ↦ inr (inr s.1) | inr i ↦ elim i.1 [ inl e ↦ inl e | inr e ↦ inr (inl e) ] ]))
          (subst (λ o. IsTree g o pa) (sym (agree x EVEN (inl refl))) (tree_frame f g (link_in f x EVEN) pa (λ z i. (agree z EVEN (inl refl), agree z ODD (inr (inl refl)))) there_g part_x.2))
          (subst (λ o. IsTree g o pb) (sym (agree x ODD (inr (inl refl)))) (tree_frame f g (link_in f x ODD) pb (λ z i. (agree z EVEN (inl refl), agree z ODD (inr (inl refl)))) there_g part_x.3))
          (λ z i. in_x z (inr i)) n_there n_not (λ i. new (outer_in f m xs t old no_m p n i)) (λ i. new (tree_in f m xs t old no_m p n (in_x n (inr i)))) there_x

      pub new_sorted : IsSorted f 0 then_x
      new_sorted = fill_sorted f m xs t old no_m p (Fork n pa pb) sub_n sup_n (sorted_top f (place_in f p m t).depth x n pa pb (key_true (key_in f x) p x_ls.1 ∙ sym (key_true (key_in f n) p key_n)) sorted_x)

      pub new_stay : (l : ℕ) → In l ls → is_key (key_in f l) p ≡ false → In l (lasts then_x)
      new_stay = fill_stay f m xs t old no_m p (Fork n pa pb) sub_n sup_n

      pub new_were : (l : ℕ) → In l (lasts then_x) → is_key (key_in f l) p ≡ false → In l ls
      new_were = fill_were f m xs t old no_m p (Fork n pa pb) sub_n sup_n

      pub new_ends : (l : ℕ) → In l (lasts then_x) → is_key (key_in f l) p ≡ true → Some n ≡ Some l
      new_ends = fill_ends f m xs t old no_m p (Fork n pa pb) (Some n) (λ z e i. elim i [ inl s ↦ ap Some s | inr j ↦ absurd (let w : true ≡ false = sym e ∙ below_x z j in cc) ])

      pub new_ended : (l : ℕ) → Some n ≡ Some l → In l (lasts then_x) × (is_key (key_in f l) p ≡ true)
      new_ended l e = let s : n ≡ l = cc in ((at f m xs t old no_m p).hole.ins (Fork n pa pb) l (inl s), ap (λ u. is_key (key_in f u) p) (sym s) ∙ key_n)

  -- An atom comes behind the last of its class

  module _ (xs' : List ℕ) (l d : ℕ) (lists : (r : ℕ × ℕ) → is_key r p ≡ false → of_class f r xs' ≡ of_class f r xs) (longer : of_class f p xs' ≡ zs ++ c ∷ []) (fresh : In c xs → ⊥) (pa pb : ClassTree) (is_x : (place_in f p m t).tree ≡ Fork l pa pb)
      (first : link_in f l CLASS_NEXT ≡ Some d) where
    abbrev h4 : ℕ → Option HeldCell
    h4 = put_between f l d c

    abbrev h7 : ℕ → Option HeldCell
    h7 = taken_over h4 (place_in f p m t).holder (place_in f p m t).link l c

    abbrev h8 : ℕ → Option HeldCell
    h8 = lengthened f m (place_in f p m t).holder (place_in f p m t).link l d c

    l_ls : In l ls × (is_key (key_in f l) p ≡ true)
    l_ls = x_ls l pa pb is_x

    ring_l : IsRing f l zs
    ring_l = class_ring l l_ls.0 l_ls.1

    l_zs : In l zs
    l_zs = ring_last l zs ring_l.1 ring_l.2

    d_in : In d zs × (link_in f d CLASS_PREV ≡ Some l)
    d_in = ring_first (class_node f) l zs ring_l.1 ring_l.2 ring_l.0 d first

    no_c : In c ls → ⊥
    no_c i = fresh (old.inside c i)

    touches_4 : Touches f h4 m (c ∷ xs) p
    touches_4 = put_touches l d l_zs d_in.0 fresh

    touches_7 : Touches f h7 m (c ∷ xs) p
    touches_7 = touches_taken f h4 m (c ∷ xs) p touches_4 (place_in f p m t).holder (place_in f p m t).link l c (inl refl) (holds_more m xs (c ∷ xs) (place_in f p m t).holder (place_in f p m t).link (λ z i. inr i) (holds_atoms f m xs t old no_m p))

    -- what is left as it was
    pub longer_touches : Touches f h8 m (c ∷ xs) p
    longer_touches = touches_tree f h7 m (c ∷ xs) p touches_7 l EVEN (Some m) (inr (inr (old.inside l l_ls.0), inl refl))

    -- its links in the ring stay from there on
    node_8 : (z : ℕ) → class_node h8 z ≡ class_node h4 z
    node_8 z = λ u. record {
      prev = (link_far h7 l EVEN (Some m) z CLASS_PREV (λ e. absurd (omega (arith, e))) ∙ taken_place f m xs t old no_m p h4 l c z CLASS_PREV (λ e. absurd (omega (arith, e))) (λ e. absurd (omega (arith, e))) (λ e. absurd (omega (arith, e)))) u;
      next = (link_far h7 l EVEN (Some m) z CLASS_NEXT (λ e. absurd (omega (arith, e))) ∙ taken_place f m xs t old no_m p h4 l c z CLASS_NEXT (λ e. absurd (omega (arith, e))) (λ e. absurd (omega (arith, e))) (λ e. absurd (omega (arith, e)))) u;
    }

    ring_8 : IsRing h8 c (zs ++ c ∷ [])
    ring_8 =
        let whole : ring_l.1 ++ l ∷ [] ≡ zs = sym ring_l.2 in (
          linked_frame (class_node h4) (class_node h8) c (zs ++ c ∷ []) (λ z _. node_8 z)
              (subst (λ ws. Linked (class_node h4) c (ws ++ c ∷ [])) whole (put_last (class_node f) (class_node h4) l d c (put_node l d l_zs d_in.0 fresh) first d_in.1 ring_l.1
              (λ i. fresh (zs_in c (subst (λ ws. In c ws) whole i)).0) (subst Distinct ring_l.2 zs_once) (subst (λ ws. Linked (class_node f) l ws) ring_l.2 ring_l.0))),
          zs,
          refl,
        )

    there_4 : (b : ℕ) → IsSome (f b) → IsSome (h4 b)
    there_4 b s = touches_there f h4 m (c ∷ xs) p touches_4 b s

    long_4 : (z : ℕ) → IsSome (f z) → length (links_of (h4 z)) ≡ 8
    long_4 z s = touches_4.lengths z ∙ have z s

    agree_4 : (b j : ℕ) → (j ≡ EVEN) ⊎ ((j ≡ ODD) ⊎ (j ≡ LEADERS)) → link_in h4 b j ≡ link_in f b j
    agree_4 b j o = put_same l d l_zs d_in.0 fresh b j (λ e. not_side j o (inl e)) (λ e. not_side j o (inr e))

    abbrev then_l : ClassTree
    then_l = (at f m xs t old no_m p).hole.fill (Fork c pa pb)

    -- the one before isn't in the tree any more
    not_l : (z : ℕ) → In z (lasts then_l) → z ≢ l
    not_l z i e =
        let w : Some c ≡ Some l = new_ends l pa pb is_x c (key_same p) no_c there_c not_m h4 there_4 long_4 agree_4 l (subst (λ u. In u (lasts then_l)) e i) l_ls.1 in
        let s : c ≡ l = cc in no_c (subst (λ u. In u ls) (sym s) l_ls.0)

    tree_8 : IsTree h8 (link_in h8 m LEADERS) then_l
    tree_8 = subst (λ o. IsTree h8 o then_l) (sym (link_far h7 l EVEN (Some m) m LEADERS (λ e. absurd (omega (arith, e)))))
        (tree_frame h7 h8 (link_in h7 m LEADERS) then_l (λ z i. (link_by h7 l EVEN (Some m) z EVEN (not_l z i), link_by h7 l EVEN (Some m) z ODD (not_l z i))) (λ b s. kept h7 h8 l EVEN (Some m) b refl s)
        (new_tree l pa pb is_x c (key_same p) no_c there_c not_m h4 there_4 long_4 agree_4))

    -- what is no last one, now or before, leads where it led
    inner_8 : (z : ℕ) → z ≢ c → (In z ls → ⊥) → link_in h8 z EVEN ≡ link_in f z EVEN
    inner_8 z w o = link_by h7 l EVEN (Some m) z EVEN (λ e. o (subst (λ u. In u ls) (sym e) l_ls.0)) ∙ taken_inner f m xs t old no_m p h4 l c z w o ∙ put_even l d l_zs d_in.0 fresh z

    -- the classes then
    pub longer_classed : AreClassed h8 m xs' then_l
    longer_classed = reclassed f h8 m xs t old p xs' then_l (Some c) record {
      keys = touches_keys f h8 m (c ∷ xs) p longer_touches;
      lists = lists;
      nodes = λ z _ e. longer_touches.nodes z e;
      tree = tree_8;
      sorted = new_sorted l pa pb is_x c (key_same p) no_c there_c not_m h4 there_4 long_4 agree_4;
      stay = new_stay l pa pb is_x c (key_same p) no_c there_c not_m h4 there_4 long_4 agree_4;
      were = new_were l pa pb is_x c (key_same p) no_c there_c not_m h4 there_4 long_4 agree_4;
      ends = new_ends l pa pb is_x c (key_same p) no_c there_c not_m h4 there_4 long_4 agree_4;
      ended = new_ended l pa pb is_x c (key_same p) no_c there_c not_m h4 there_4 long_4 agree_4;
      ring = λ k e. (let s : c ≡ k = cc in subst (λ ws. IsRing h8 k ws) (sym longer) (subst (λ u. IsRing h8 u (zs ++ c ∷ [])) s ring_8));
      none = λ e. absurd cc;
      kept = λ z e o. inner_8 z (not_own z e c (key_same p)) o;
      inner = λ z i n. elim (in_snoc z c zs (subst (λ ws. In z ws) longer i)) [
        | inl j ↦ elim (cases_eq z l) [
          | inl e ↦ ap (λ u. link_in h8 u EVEN) e ∙ link_at h7 l EVEN (Some m) (touches_7.lengths l ∙ have l (alive l (old.inside l l_ls.0))) (omega arith)
          | inr o ↦ (let away : In z ls → ⊥ = (λ k. o (same_class z l k l_ls.0 (zs_in z j).1 l_ls.1)) in inner_8 z (λ e. fresh (subst (λ u. In u xs) e (zs_in z j).0)) away ∙ own_inner z j away)
        ]
        | inr e ↦ absurd (n (new_ended l pa pb is_x c (key_same p) no_c there_c not_m h4 there_4 long_4 agree_4 z (ap Some (sym e))).0)
      ];
    }

  -- The last one of a class leaves, and the one before it is the last

  module _ (xs' us : List ℕ) (pr nx : ℕ) (lists : (r : ℕ × ℕ) → is_key r p ≡ false → of_class f r xs' ≡ of_class f r xs) (cut : zs ≡ nx ∷ (us ++ c ∷ [])) (inside : of_class f p xs' ≡ nx ∷ us) (pa pb : ClassTree) (is_x : (place_in f p m t).tree ≡ Fork c pa pb)
      (prev : link_in f c CLASS_PREV ≡ Some pr) where
    abbrev s2 : ℕ → Option HeldCell
    s2 = closed f pr nx

    abbrev s5 : ℕ → Option HeldCell
    s5 = shortened f (place_in f p m t).holder (place_in f p m t).link c pr nx

    ring_c : IsRing f c (nx ∷ (us ++ c ∷ []))
    ring_c = subst (λ ws. IsRing f c ws) cut (class_ring c (x_ls c pa pb is_x).0 (x_ls c pa pb is_x).1)

    once_c : Distinct (nx ∷ (us ++ c ∷ []))
    once_c = subst Distinct cut zs_once

    -- the one before it is the last of the others
    front_c : (link_in f pr CLASS_NEXT ≡ Some c) × (ws : List ℕ) × (nx ∷ us ≡ ws ++ pr ∷ [])
    front_c = let w = linked_prev (class_node f) c (nx ∷ us) c [] ring_c.0 pr prev in let r : (ws : List ℕ) × (nx ∷ us ≡ ws ++ pr ∷ []) = elim w.1 [ inl s ↦ absurd (let e = s.0 in cc) | inr s ↦ s ] in (w.0, r.0, r.1)

    rest_in : (z : ℕ) → In z (nx ∷ us) → In z zs
    rest_in z i = subst (λ ws. In z ws) (sym cut) (in_left z (nx ∷ us) (c ∷ []) i)

    rest_not_c : (z : ℕ) → In z (nx ∷ us) → z ≢ c
    rest_not_c z i = apart (nx ∷ us) (c ∷ []) z c once_c i (inl refl)

    pr_us : In pr (nx ∷ us)
    pr_us = ring_last pr (nx ∷ us) front_c.1 front_c.2

    pr_rest : In pr zs
    pr_rest = rest_in pr pr_us

    nx_rest : In nx zs
    nx_rest = rest_in nx (inl refl)

    key_pr : is_key (key_in f pr) p ≡ true
    key_pr = (zs_in pr pr_rest).1

    -- none of them is in the tree
    no_rest : (z : ℕ) → In z (nx ∷ us) → In z ls → ⊥
    no_rest z i k = rest_not_c z i (sym (same_last c pa pb is_x z k (zs_in z (rest_in z i)).1))

    pr_not_m : pr ≢ m
    pr_not_m e = no_m (subst (λ u. In u xs) e (zs_in pr pr_rest).0)

    pr_there : IsSome (f pr)
    pr_there = alive pr (zs_in pr pr_rest).0

    touches_2 : Touches f s2 m xs p
    touches_2 = closed_touches pr nx pr_rest nx_rest

    -- what is left as it was
    pub shorter_touches : Touches f s5 m xs p
    shorter_touches = touches_taken f s2 m xs p touches_2 (place_in f p m t).holder (place_in f p m t).link c pr (zs_in pr pr_rest).0 (holds_atoms f m xs t old no_m p)

    node_s : (z : ℕ) → class_node s5 z ≡ class_node s2 z
    node_s z = λ u. record {
      prev = taken_place f m xs t old no_m p s2 c pr z CLASS_PREV (λ e. absurd (omega (arith, e))) (λ e. absurd (omega (arith, e))) (λ e. absurd (omega (arith, e))) u;
      next = taken_place f m xs t old no_m p s2 c pr z CLASS_NEXT (λ e. absurd (omega (arith, e))) (λ e. absurd (omega (arith, e))) (λ e. absurd (omega (arith, e))) u;
    }

    ring_s : IsRing s5 pr (nx ∷ us)
    ring_s = (
      linked_frame (class_node s2) (class_node s5) pr (nx ∷ us) (λ z _. node_s z) (close_last (class_node f) (class_node s2) pr nx c (closed_node pr nx pr_rest nx_rest) front_c.0 prev us once_c ring_c.0),
      front_c.1,
      front_c.2,
    )

    there_2 : (b : ℕ) → IsSome (f b) → IsSome (s2 b)
    there_2 b s = touches_there f s2 m xs p touches_2 b s

    long_2 : (z : ℕ) → IsSome (f z) → length (links_of (s2 z)) ≡ 8
    long_2 z s = touches_2.lengths z ∙ have z s

    agree_2 : (b j : ℕ) → (j ≡ EVEN) ⊎ ((j ≡ ODD) ⊎ (j ≡ LEADERS)) → link_in s2 b j ≡ link_in f b j
    agree_2 b j o = closed_same pr nx pr_rest nx_rest b j (λ e. not_side j o (inl e)) (λ e. not_side j o (inr e))

    inner_s : (z : ℕ) → z ≢ pr → (In z ls → ⊥) → link_in s5 z EVEN ≡ link_in f z EVEN
    inner_s z d o = taken_inner f m xs t old no_m p s2 c pr z d o ∙ closed_even pr nx pr_rest nx_rest z

    -- the classes then
    pub shorter_classed : AreClassed s5 m xs' ((at f m xs t old no_m p).hole.fill (Fork pr pa pb))
    shorter_classed = reclassed f s5 m xs t old p xs' ((at f m xs t old no_m p).hole.fill (Fork pr pa pb)) (Some pr) record {
      keys = touches_keys f s5 m xs p shorter_touches;
      lists = lists;
      nodes = λ z _ e. shorter_touches.nodes z e;
      tree = new_tree c pa pb is_x pr key_pr (no_rest pr pr_us) pr_there pr_not_m s2 there_2 long_2 agree_2;
      sorted = new_sorted c pa pb is_x pr key_pr (no_rest pr pr_us) pr_there pr_not_m s2 there_2 long_2 agree_2;
      stay = new_stay c pa pb is_x pr key_pr (no_rest pr pr_us) pr_there pr_not_m s2 there_2 long_2 agree_2;
      were = new_were c pa pb is_x pr key_pr (no_rest pr pr_us) pr_there pr_not_m s2 there_2 long_2 agree_2;
      ends = new_ends c pa pb is_x pr key_pr (no_rest pr pr_us) pr_there pr_not_m s2 there_2 long_2 agree_2;
      ended = new_ended c pa pb is_x pr key_pr (no_rest pr pr_us) pr_there pr_not_m s2 there_2 long_2 agree_2;
      ring = λ k e. (let s : pr ≡ k = cc in subst (λ ws. IsRing s5 k ws) (sym inside) (subst (λ u. IsRing s5 u (nx ∷ us)) s ring_s));
      none = λ e. absurd cc;
      kept = λ z e o. inner_s z (not_own z e pr key_pr) o;
      inner = λ z i n. (let j : In z (nx ∷ us) = subst (λ ws. In z ws) inside i in
          inner_s z (λ e. n (new_ended c pa pb is_x pr key_pr (no_rest pr pr_us) pr_there pr_not_m s2 there_2 long_2 agree_2 z (ap Some (sym e))).0) (no_rest z j) ∙ own_inner z (rest_in z j) (no_rest z j));
    }

  -- The only one of a class leaves

  module _ (xs' : List ℕ) (lists : (r : ℕ × ℕ) → is_key r p ≡ false → of_class f r xs' ≡ of_class f r xs) (inside : of_class f p xs' ≡ []) (pa pb : ClassTree) (is_x : (place_in f p m t).tree ≡ Fork c pa pb) where
    abbrev hk : ℕ
    hk = (place_in f p m t).holder

    abbrev kk : ℕ
    kk = (place_in f p m t).link

    -- another tree there, with the same cells but the first of the class
    module _ (g : ℕ → Option HeldCell) (touched : Touches f g m xs p) (u : ClassTree) (sub : (z : ℕ) → In z (lasts pa ++ lasts pb) → In z (lasts u)) (sup : (z : ℕ) → In z (lasts u) → In z (lasts pa ++ lasts pb))
        (tree : IsTree g (link_in g m LEADERS) ((at f m xs t old no_m p).hole.fill u)) (sorted : IsSorted f (place_in f p m t).depth u)
        (even : (z : ℕ) → (In z ls → ⊥) → link_in g z EVEN ≡ link_in f z EVEN) where
      sub_k : (z : ℕ) → is_key (key_in f z) p ≡ false → In z (lasts (place_in f p m t).tree) → In z (lasts u)
      sub_k z e i = elim (of_x c pa pb is_x z i) [ inl s ↦ absurd (other_last c pa pb is_x z e s) | inr j ↦ sub z j ]

      sup_k : (z : ℕ) → is_key (key_in f z) p ≡ false → In z (lasts u) → In z (lasts (place_in f p m t).tree)
      sup_k z e i = in_x c pa pb is_x z (inr (sup z i))

      gone_classed : AreClassed g m xs' ((at f m xs t old no_m p).hole.fill u)
      gone_classed = reclassed f g m xs t old p xs' ((at f m xs t old no_m p).hole.fill u) None record {
        keys = touches_keys f g m xs p touched;
        lists = lists;
        nodes = λ z _ e. touched.nodes z e;
        tree = tree;
        sorted = fill_sorted f m xs t old no_m p u sub_k sup_k sorted;
        stay = fill_stay f m xs t old no_m p u sub_k sup_k;
        were = fill_were f m xs t old no_m p u sub_k sup_k;
        ends = fill_ends f m xs t old no_m p u None (λ z e i. absurd (let w : true ≡ false = sym e ∙ below_x c pa pb is_x z (sup z i) in cc));
        ended = λ l e. absurd cc;
        ring = λ l e. absurd cc;
        none = λ e. inside;
        kept = λ z _ n. even z n;
        inner = λ z i _. absurd (nothing_in (of_class f p xs') inside z i);
      }

    -- the cells of the tree are those of a list of atoms
    below_ls : (z : ℕ) → In z (lasts pa ++ lasts pb) → In z ls
    below_ls z i = tree_in f m xs t old no_m p z (in_x c pa pb is_x z (inr i))

    below_xs : (z : ℕ) → In z (lasts pa ++ lasts pb) → In z xs
    below_xs z i = old.inside z (below_ls z i)

    below_outer : (z : ℕ) → In z (lasts pa ++ lasts pb) → In z (at f m xs t old no_m p).hole.outer → ⊥
    below_outer z i o = (at f m xs t old no_m p).hole.apart z o (in_x c pa pb is_x z (inr i))

    -- None is below it

    module _ (bare : lasts pa ++ lasts pb ≡ []) where
      abbrev k1 : ℕ → Option HeldCell
      k1 = link_written f hk kk None

      touches_k1 : Touches f k1 m xs p
      touches_k1 = touches_tree f f m xs p (touches_none f m xs p) hk kk None (holds_atoms f m xs t old no_m p)

      k1_tree : IsTree k1 (link_in k1 m LEADERS) ((at f m xs t old no_m p).hole.fill Bare)
      k1_tree = (at f m xs t old no_m p).hole.turned k1 Bare (λ z s. touches_there f k1 m xs p touches_k1 z s) (λ b j o n. link_other f hk kk None b j (λ s e. n e s)) old.tree (link_at f hk kk None (have hk (there_x c pa pb is_x)) (link_small f m xs t old no_m p))

      pub bare_touches : Touches f k1 m xs p
      bare_touches = touches_k1

      pub bare_classed : AreClassed k1 m xs' ((at f m xs t old no_m p).hole.fill Bare)
      bare_classed = gone_classed k1 touches_k1 Bare (λ z i. subst (λ us. In z us) bare i) (λ z i. absurd i) k1_tree tt (λ z n. place_inner f m xs t old no_m p f None z n)

    -- One that is below it takes its place

    module _ (lh lk l : ℕ) (a b : ClassTree) (below : (z : ℕ) → In z (lasts a ++ lasts b) → In z (lasts pa ++ lasts pb)) (all : (z : ℕ) → In z (lasts pa ++ lasts pb) → In z (l ∷ (lasts a ++ lasts b)))
        (leaf : In l (lasts pa ++ lasts pb)) (gone : In l (lasts a ++ lasts b) → ⊥) (holds : Holds m LEADERS (c ∷ (lasts pa ++ lasts pb)) lh lk) (not_top : lh ≢ m)
        (even : IsTree (link_written f lh lk None) (link_in (link_written f lh lk None) c EVEN) a) (odd : IsTree (link_written f lh lk None) (link_in (link_written f lh lk None) c ODD) b) (sorted : IsSorted f (place_in f p m t).depth (Fork l a b)) where
      abbrev k2 : ℕ → Option HeldCell
      k2 = link_written f lh lk None

      abbrev k3 : ℕ → Option HeldCell
      k3 = taken_over k2 hk kk c l

      c_xs : In c xs
      c_xs = old.inside c (x_ls c pa pb is_x).0

      holds_xs : Holds m LEADERS xs lh lk
      holds_xs = holds_more m (c ∷ (lasts pa ++ lasts pb)) xs lh lk (λ z i. elim i [ inl s ↦ subst (λ y. In y xs) s c_xs | inr j ↦ below_xs z j ]) holds

      touches_k2 : Touches f k2 m xs p
      touches_k2 = touches_tree f f m xs p (touches_none f m xs p) lh lk None holds_xs

      pub leaf_touches : Touches f k3 m xs p
      leaf_touches = touches_taken f k2 m xs p touches_k2 hk kk c l (below_xs l leaf) (holds_atoms f m xs t old no_m p)

      -- the cells outside keep their links
      outside : (z j : ℕ) → Holds m LEADERS (at f m xs t old no_m p).hole.outer z j → link_in k2 z j ≡ link_in f z j
      outside z j o = link_by f lh lk None z j (λ e. elim o [
        | inl s ↦ not_top (sym e ∙ s.0)
        | inr i ↦ elim holds [
          | inl s ↦ not_top s.0
          | inr q ↦ elim q.0 [
            | inl s ↦ (at f m xs t old no_m p).hole.apart z i.0 (in_x c pa pb is_x z (inl (s ∙ sym e)))
            | inr y ↦ below_outer z (subst (λ w. In w (lasts pa ++ lasts pb)) (sym e) y) i.0
          ]
        ]
      ])

      pub leaf_classed : AreClassed k3 m xs' ((at f m xs t old no_m p).hole.fill (Fork l a b))
      leaf_classed = gone_classed k3 leaf_touches (Fork l a b) all (λ z i. elim i [ inl s ↦ subst (λ y. In y (lasts pa ++ lasts pb)) s leaf | inr j ↦ below z j ])
          (taken_tree f m xs t old no_m p k2 c l a b (λ z s. touches_there f k2 m xs p touches_k2 z s) (λ z s. touches_k2.lengths z ∙ have z s) outside even odd (λ z i. in_x c pa pb is_x z (inr (below z i))) (alive l (below_xs l leaf))
          (λ e. no_m (subst (λ y. In y xs) e (below_xs l leaf))) (below_outer l leaf) gone (there_x c pa pb is_x)) sorted
          (λ z n. taken_inner f m xs t old no_m p k2 c l z (λ e. n (subst (λ u. In u ls) (sym e) (below_ls l leaf))) n ∙ holds_inner m (c ∷ (lasts pa ++ lasts pb)) lh lk holds f None z
          (λ i. n (elim i [ inl s ↦ subst (λ u. In u ls) s (x_ls c pa pb is_x).0 | inr j ↦ below_ls z j ])))

  -- That one hangs on one of its two sides, near

  module _ (xs' : List ℕ) (lists : (r : ℕ × ℕ) → is_key r p ≡ false → of_class f r xs' ≡ of_class f r xs) (inside : of_class f p xs' ≡ []) (odd : Bool) (near far : ClassTree) (is_x : (place_in f p m t).tree ≡ forked odd c near far)
      (l : ℕ) (w : ClassPlace) (hole : Hole f (λ z. false) c (side odd) (suc (place_in f p m t).depth) near w) (alone : w.tree ≡ Fork l Bare Bare) where
    abbrev hn : ℕ
    hn = (place_in f p m t).holder

    abbrev kn : ℕ
    kn = (place_in f p m t).link

    abbrev dn : ℕ
    dn = (place_in f p m t).depth

    -- without it
    abbrev pruned : ClassTree
    pruned = hole.fill Bare

    abbrev cut_n : ℕ → Option HeldCell
    cut_n = link_written f w.holder w.link None

    sides : AreBeside f c dn odd (lasts near) × AreBeside f c dn (not odd) (lasts far) × IsSorted f (suc dn) near × IsSorted f (suc dn) far
    sides = forked_sorted f dn odd c near far (subst (λ u. IsSorted f dn u) is_x (at f m xs t old no_m p).hole.sorted)

    trees : (link_in f hn kn ≡ Some c) × IsSome (f c) × IsTree f (link_in f c (side odd)) near × IsTree f (link_in f c (side (not odd))) far
    trees = forked_tree f (link_in f hn kn) odd c near far (subst (λ u. IsTree f (link_in f hn kn) u) is_x ((at f m xs t old no_m p).hole.part old.tree))

    leaf_n : In l (lasts w.tree)
    leaf_n = subst (λ u. In l (lasts u)) (sym alone) (inl refl)

    leaf_near : In l (lasts near)
    leaf_near = subst (λ u. In l (lasts u)) hole.is (hole.ins w.tree l leaf_n)

    out_near : (z : ℕ) → In z hole.outer → In z (lasts near)
    out_near z i = subst (λ u. In z (lasts u)) hole.is (hole.outs w.tree z i)

    below_n : (z : ℕ) → In z (lasts pruned) → In z (lasts near)
    below_n z i = elim (hole.parts Bare z i) [ inl o ↦ out_near z o | inr j ↦ absurd j ]

    all_n : (z : ℕ) → In z (lasts near) → (l ≡ z) ⊎ In z (lasts pruned)
    all_n z i = elim (hole.parts w.tree z (subst (λ u. In z (lasts u)) (sym hole.is) i)) [ inl o ↦ inr (hole.outs Bare z o) | inr j ↦ elim (subst (λ u. In z (lasts u)) alone j) [ inl s ↦ inl s | inr y ↦ absurd y ] ]

    gone_n : In l (lasts pruned) → ⊥
    gone_n i = elim (hole.parts Bare l i) [ inl o ↦ hole.apart l o leaf_n | inr j ↦ j ]

    both : (z : ℕ) → In z (lasts near) → In z (lasts far) → ⊥
    both z i j = not_both odd (sym (sides.0 z i).1 ∙ (sides.1 z j).1)

    -- where it hangs
    holder_n : (c ≡ w.holder) ⊎ In w.holder (lasts near)
    holder_n = elim hole.holds [ inl e ↦ inl (sym e.0) | inr o ↦ inr (out_near w.holder o.0) ]

    near_xs : (z : ℕ) → In z (lasts near) → In z xs
    near_xs z i = old.inside z (tree_in f m xs t old no_m p z (subst (λ u. In z (lasts u)) (sym is_x) (in_forked odd c near far z (inr (inl i)))))

    holder_xs : In w.holder xs
    holder_xs = elim holder_n [ inl s ↦ subst (λ y. In y xs) s (old.inside c (last_in f m xs t old no_m p c (ap top is_x ∙ top_forked odd c near far)).0) | inr i ↦ near_xs w.holder i ]

    holds_n : Holds m LEADERS (lasts (forked odd c near far)) w.holder w.link
    holds_n = elim hole.holds [ inl e ↦ inr (in_forked odd c near far w.holder (inl (sym e.0)), side_is odd w.link e.1) | inr o ↦ inr (in_forked odd c near far w.holder (inr (inl (out_near w.holder o.0))), o.1) ]

    stays_n : (z : ℕ) → IsSome (f z) → IsSome (cut_n z)
    stays_n z s = kept f cut_n w.holder w.link None z refl s

    far_away : (z : ℕ) → In z (lasts far) → z ≢ w.holder
    far_away z i e = elim holder_n [ inl s ↦ beside_not f c dn (not odd) (lasts far) sides.1 (subst (λ y. In y (lasts far)) (e ∙ sym s) i) | inr y ↦ both z (subst (λ u. In u (lasts near)) (sym e) y) i ]

    -- the two sides without it
    near_tree : IsTree cut_n (link_in cut_n c (side odd)) pruned
    near_tree = hole.turned cut_n Bare stays_n (λ b j o n. link_other f w.holder w.link None b j (λ s e. n e s)) trees.2
        (link_at f w.holder w.link None (have w.holder (alive w.holder holder_xs)) (holds_small m (lasts (forked odd c near far)) w.holder w.link holds_n))

    far_tree : IsTree cut_n (link_in cut_n c (side (not odd))) far
    far_tree = subst (λ o. IsTree cut_n o far)
        (sym (link_other f w.holder w.link None c (side (not odd)) (λ s e. elim hole.holds [ inl x ↦ sides_differ odd (s ∙ x.1) | inr o ↦ beside_not f c dn odd (lasts near) sides.0 (subst (λ y. In y (lasts near)) (sym e) (out_near w.holder o.0)) ])))
        (tree_frame f cut_n (link_in f c (side (not odd))) far (λ z i. (link_by f w.holder w.link None z EVEN (far_away z i), link_by f w.holder w.link None z ODD (far_away z i))) stays_n trees.3)

    -- they have other classes
    differs : (z : ℕ) → In z (lasts pruned) → is_key (key_in f z) (key_in f l) ≡ false
    differs z i = key_differs (key_in f z) (key_in f l) (λ e. gone_n (subst (λ y. In y (lasts pruned)) (sorted_apart f (suc dn) near sides.2 z l (below_n z i) leaf_near e) i))

    far_differs : (z : ℕ) → In z (lasts far) → is_key (key_in f z) (key_in f l) ≡ false
    far_differs z i = key_differs (key_in f z) (key_in f l) (λ e. not_both odd (sym (sides.0 l leaf_near).1 ∙ ap (λ (q : ℕ × ℕ). is_odd (rest_at q.0 dn)) (sym e) ∙ (sides.1 z i).1))

    side_sorted : IsSorted f dn (forked odd l pruned far)
    side_sorted = sorted_forked f dn odd l pruned far (λ z i. (differs z i, (sides.0 z (below_n z i)).1), λ z i. (far_differs z i, (sides.1 z i).1), hole.filled Bare tt (λ z i. absurd i), sides.3)

    not_m_n : w.holder ≢ m
    not_m_n e = no_m (subst (λ y. In y xs) e holder_xs)

  -- with its sides as they hang
  pub side_filed : (xs' : List ℕ) (lists : (r : ℕ × ℕ) → is_key r p ≡ false → of_class f r xs' ≡ of_class f r xs) (inside : of_class f p xs' ≡ []) (odd : Bool) (near far : ClassTree) (is_x : (place_in f p m t).tree ≡ forked odd c near far)
      (l : ℕ) (w : ClassPlace) (hole : Hole f (λ z. false) c (side odd) (suc (place_in f p m t).depth) near w) (alone : w.tree ≡ Fork l Bare Bare)
      → Touches f (dropped f (place_in f p m t).holder (place_in f p m t).link c w.holder w.link (Some l)) m xs p × (u : ClassTree) × AreClassed (dropped f (place_in f p m t).holder (place_in f p m t).link c w.holder w.link (Some l)) m xs' u
  side_filed xs' lists inside false near far is_x l w hole alone = (
    leaf_touches xs' lists inside near far is_x w.holder w.link l (hole.fill Bare) far
        (λ z i. elim (in_either z (lasts (hole.fill Bare)) (lasts far) i) [ inl y ↦ in_left z (lasts near) (lasts far) (below_n xs' lists inside false near far is_x l w hole alone z y) | inr y ↦ in_right z (lasts near) (lasts far) y ])
        (λ z i. elim (in_either z (lasts near) (lasts far) i) [ inl y ↦ elim (all_n xs' lists inside false near far is_x l w hole alone z y) [ inl s ↦ inl s | inr o ↦ inr (in_left z (lasts (hole.fill Bare)) (lasts far) o) ] | inr y ↦ inr (in_right z (lasts (hole.fill Bare)) (lasts far) y) ])
        (in_left l (lasts near) (lasts far) (leaf_near xs' lists inside false near far is_x l w hole alone))
        (λ i. elim (in_either l (lasts (hole.fill Bare)) (lasts far) i) [ inl y ↦ gone_n xs' lists inside false near far is_x l w hole alone y | inr y ↦ both xs' lists inside false near far is_x l w hole alone l (leaf_near xs' lists inside false near far is_x l w hole alone) y ])
        (holds_n xs' lists inside false near far is_x l w hole alone) (not_m_n xs' lists inside false near far is_x l w hole alone)
        (near_tree xs' lists inside false near far is_x l w hole alone) (far_tree xs' lists inside false near far is_x l w hole alone) (side_sorted xs' lists inside false near far is_x l w hole alone),
    _,
    leaf_classed xs' lists inside near far is_x w.holder w.link l (hole.fill Bare) far
        (λ z i. elim (in_either z (lasts (hole.fill Bare)) (lasts far) i) [ inl y ↦ in_left z (lasts near) (lasts far) (below_n xs' lists inside false near far is_x l w hole alone z y) | inr y ↦ in_right z (lasts near) (lasts far) y ])
        (λ z i. elim (in_either z (lasts near) (lasts far) i) [ inl y ↦ elim (all_n xs' lists inside false near far is_x l w hole alone z y) [ inl s ↦ inl s | inr o ↦ inr (in_left z (lasts (hole.fill Bare)) (lasts far) o) ] | inr y ↦ inr (in_right z (lasts (hole.fill Bare)) (lasts far) y) ])
        (in_left l (lasts near) (lasts far) (leaf_near xs' lists inside false near far is_x l w hole alone))
        (λ i. elim (in_either l (lasts (hole.fill Bare)) (lasts far) i) [ inl y ↦ gone_n xs' lists inside false near far is_x l w hole alone y | inr y ↦ both xs' lists inside false near far is_x l w hole alone l (leaf_near xs' lists inside false near far is_x l w hole alone) y ])
        (holds_n xs' lists inside false near far is_x l w hole alone) (not_m_n xs' lists inside false near far is_x l w hole alone)
        (near_tree xs' lists inside false near far is_x l w hole alone) (far_tree xs' lists inside false near far is_x l w hole alone) (side_sorted xs' lists inside false near far is_x l w hole alone),
  )
  side_filed xs' lists inside true near far is_x l w hole alone = (
    leaf_touches xs' lists inside far near is_x w.holder w.link l far (hole.fill Bare)
        (λ z i. elim (in_either z (lasts far) (lasts (hole.fill Bare)) i) [ inl y ↦ in_left z (lasts far) (lasts near) y | inr y ↦ in_right z (lasts far) (lasts near) (below_n xs' lists inside true near far is_x l w hole alone z y) ])
        (λ z i. elim (in_either z (lasts far) (lasts near) i) [ inl y ↦ inr (in_left z (lasts far) (lasts (hole.fill Bare)) y) | inr y ↦ elim (all_n xs' lists inside true near far is_x l w hole alone z y) [ inl s ↦ inl s | inr o ↦ inr (in_right z (lasts far) (lasts (hole.fill Bare)) o) ] ])
        (in_right l (lasts far) (lasts near) (leaf_near xs' lists inside true near far is_x l w hole alone))
        (λ i. elim (in_either l (lasts far) (lasts (hole.fill Bare)) i) [ inl y ↦ both xs' lists inside true near far is_x l w hole alone l (leaf_near xs' lists inside true near far is_x l w hole alone) y | inr y ↦ gone_n xs' lists inside true near far is_x l w hole alone y ])
        (holds_n xs' lists inside true near far is_x l w hole alone) (not_m_n xs' lists inside true near far is_x l w hole alone)
        (far_tree xs' lists inside true near far is_x l w hole alone) (near_tree xs' lists inside true near far is_x l w hole alone) (side_sorted xs' lists inside true near far is_x l w hole alone),
    _,
    leaf_classed xs' lists inside far near is_x w.holder w.link l far (hole.fill Bare)
        (λ z i. elim (in_either z (lasts far) (lasts (hole.fill Bare)) i) [ inl y ↦ in_left z (lasts far) (lasts near) y | inr y ↦ in_right z (lasts far) (lasts near) (below_n xs' lists inside true near far is_x l w hole alone z y) ])
        (λ z i. elim (in_either z (lasts far) (lasts near) i) [ inl y ↦ inr (in_left z (lasts far) (lasts (hole.fill Bare)) y) | inr y ↦ elim (all_n xs' lists inside true near far is_x l w hole alone z y) [ inl s ↦ inl s | inr o ↦ inr (in_right z (lasts far) (lasts (hole.fill Bare)) o) ] ])
        (in_right l (lasts far) (lasts near) (leaf_near xs' lists inside true near far is_x l w hole alone))
        (λ i. elim (in_either l (lasts far) (lasts (hole.fill Bare)) i) [ inl y ↦ both xs' lists inside true near far is_x l w hole alone l (leaf_near xs' lists inside true near far is_x l w hole alone) y | inr y ↦ gone_n xs' lists inside true near far is_x l w hole alone y ])
        (holds_n xs' lists inside true near far is_x l w hole alone) (not_m_n xs' lists inside true near far is_x l w hole alone)
        (far_tree xs' lists inside true near far is_x l w hole alone) (near_tree xs' lists inside true near far is_x l w hole alone) (side_sorted xs' lists inside true near far is_x l w hole alone),
  )
