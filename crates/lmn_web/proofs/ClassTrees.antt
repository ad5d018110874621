-- The tree of the last atoms of the classes of a membrane.
use Rattle.std.proofs.Common.{◌≡◌, ◌⊎◌, ℕ, suc, Bool, true, false, not, List, [], ◌∷◌, ◌++◌, if◌then◌else◌, Option, Some, IsSome, refl, sym, ap, subst, ◌∙◌, inl, inr, arith}
use Rattle.lmn_base.specs.Lists.{In}
use Rattle.lmn_base.proofs.Lists.{in_either}
use Rattle.lmn_base.proofs.Truth.{bool_cases}
use Rattle.lmn_store_heap.specs.Lists.{Distinct}
use Rattle.lmn_store_heap.proofs.ListLemmas.{each_of, in_left, in_right}
use Rattle.lmn_store_heap.proofs.Depths.{both_distinct}
use Rattle.lmn_web_cells.specs.Cells.{HeldCell}
use Rattle.lmn_web_cells.specs.Runs.{link_in}
use Rattle.lmn_web.specs.Classes.{ClassTree, Bare, Fork, lasts, top, IsTree, rest_at, is_odd, AreBeside, IsSorted, ClassPlace, class_place, Hung, lowest, is_key, key_in}
use Rattle.lmn_web_cells.specs.Links.{EVEN, ODD}
use Rattle.lmn_web.proofs.Reclassing.{key_same, key_true}

-- Classes in a sorted tree

-- a class that is beside another isn't it
pub beside_not : (f : ℕ → Option HeldCell) (l d : ℕ) (odd : Bool) (ks : List ℕ) → AreBeside f l d odd ks → In l ks → ⊥
beside_not f l d odd ks h i = let w : true ≡ false = sym (key_same (key_in f l)) ∙ (h l i).0 in absurd cc

-- two classes that differ
pub key_differs : (p q : ℕ × ℕ) → (p ≡ q → ⊥) → is_key p q ≡ false
key_differs p q d = elim (bool_cases (is_key p q)) [ inl e ↦ absurd (d (key_true p q e)) | inr e ↦ e ]

-- each last atom stands once
pub sorted_once : (f : ℕ → Option HeldCell) (d : ℕ) (t : ClassTree) → IsSorted f d t → Distinct (lasts t)
sorted_once f d Bare s = tt
sorted_once f d (Fork l a b) s = (
  each_of _ (lasts a ++ lasts b) (λ z i e. elim (in_either z (lasts a) (lasts b) i) [
    | inl j ↦ beside_not f l d false (lasts a) s.0 (subst (λ u. In u (lasts a)) (sym e) j)
    | inr j ↦ beside_not f l d true (lasts b) s.1 (subst (λ u. In u (lasts b)) (sym e) j)
  ]),
  both_distinct (lasts a) (lasts b) (sorted_once f (suc d) a s.2) (sorted_once f (suc d) b s.3) (λ z i j. let w : false ≡ true = sym (s.0 z i).1 ∙ (s.1 z j).1 in absurd cc),
)

-- none below another has its class
pub below_differs : (f : ℕ → Option HeldCell) (l d : ℕ) (a b : ClassTree) → IsSorted f d (Fork l a b) → (k : ℕ) → In k (lasts a ++ lasts b) → is_key (key_in f k) (key_in f l) ≡ false
below_differs f l d a b s k o = elim (in_either k (lasts a) (lasts b) o) [ inl i ↦ (s.0 k i).0 | inr i ↦ (s.1 k i).0 ]

-- a class stands once
pub sorted_apart : (f : ℕ → Option HeldCell) (d : ℕ) (t : ClassTree) → IsSorted f d t → (j k : ℕ) → In j (lasts t) → In k (lasts t) → key_in f j ≡ key_in f k → j ≡ k
sorted_apart f d Bare s j k i o e = absurd i
sorted_apart f d (Fork l a b) s j k (inl x) (inl y) e = sym x ∙ y
sorted_apart f d (Fork l a b) s j k (inl x) (inr o) e =
    let w : true ≡ false = sym (key_same (key_in f l)) ∙ ap (λ p. is_key p (key_in f l)) (ap (key_in f) x ∙ e) ∙ below_differs f l d a b s k o in absurd cc
sorted_apart f d (Fork l a b) s j k (inr i) (inl y) e =
    let w : true ≡ false = sym (key_same (key_in f l)) ∙ ap (λ p. is_key p (key_in f l)) (ap (key_in f) y ∙ sym e) ∙ below_differs f l d a b s j i in absurd cc
sorted_apart f d (Fork l a b) s j k (inr i) (inr o) e = elim (in_either j (lasts a) (lasts b) i) [
  | inl x ↦ elim (in_either k (lasts a) (lasts b) o) [
    | inl y ↦ sorted_apart f (suc d) a s.2 j k x y e
    | inr y ↦ absurd (let w : false ≡ true = sym (s.0 j x).1 ∙ ap (λ (p : ℕ × ℕ). is_odd (rest_at p.0 d)) e ∙ (s.1 k y).1 in cc)
  ]
  | inr x ↦ elim (in_either k (lasts a) (lasts b) o) [
    | inl y ↦ absurd (let w : true ≡ false = sym (s.1 j x).1 ∙ ap (λ (p : ℕ × ℕ). is_odd (rest_at p.0 d)) e ∙ (s.0 k y).1 in cc)
    | inr y ↦ sorted_apart f (suc d) b s.3 j k x y e
  ]
]

-- a tree stays where its cells and their links stay
pub tree_kept : (f g : ℕ → Option HeldCell) (first : Option ℕ) (t : ClassTree) → ((l : ℕ) → In l (lasts t) → (link_in g l EVEN ≡ link_in f l EVEN) × (link_in g l ODD ≡ link_in f l ODD)) → ((l : ℕ) → In l (lasts t) → IsSome (f l) → IsSome (g l)) → IsTree f first t → IsTree g first t
tree_kept f g first Bare same there q = q
tree_kept f g first (Fork l a b) same there q =
    let here = same l (inl refl) in (
      q.0,
      there l (inl refl) q.1,
      subst (λ o. IsTree g o a) (sym here.0) (tree_kept f g (link_in f l EVEN) a (λ k i. same k (inr (in_left k (lasts a) (lasts b) i))) (λ k i. there k (inr (in_left k (lasts a) (lasts b) i))) q.2),
      subst (λ o. IsTree g o b) (sym here.1) (tree_kept f g (link_in f l ODD) b (λ k i. same k (inr (in_right k (lasts a) (lasts b) i))) (λ k i. there k (inr (in_right k (lasts a) (lasts b) i))) q.3),
    )

-- where all cells stay
pub tree_frame : (f g : ℕ → Option HeldCell) (first : Option ℕ) (t : ClassTree) → ((l : ℕ) → In l (lasts t) → (link_in g l EVEN ≡ link_in f l EVEN) × (link_in g l ODD ≡ link_in f l ODD)) → ((b : ℕ) → IsSome (f b) → IsSome (g b)) → IsTree f first t → IsTree g first t
tree_frame f g first t same there q = tree_kept f g first t same (λ l _. there l) q

-- A tree by its sides

-- a cell with u on this side, and v on the other
abbrev pub forked : Bool → ℕ → ClassTree → ClassTree → ClassTree
forked false l u v = Fork l u v
forked true l u v = Fork l v u

abbrev pub side : Bool → ℕ
side false = EVEN
side true = ODD

pub side_is : (odd : Bool) (j : ℕ) → j ≡ side odd → (j ≡ EVEN) ⊎ (j ≡ ODD)
side_is false j e = inl e
side_is true j e = inr e

pub sides_differ : (odd : Bool) → side (not odd) ≡ side odd → ⊥
sides_differ false e = absurd (omega (arith, e))
sides_differ true e = absurd (omega (arith, e))

pub not_both : (odd : Bool) → odd ≡ not odd → ⊥
not_both false e = absurd cc
not_both true e = absurd cc

-- what it has
pub of_forked : (odd : Bool) (l : ℕ) (u v : ClassTree) (z : ℕ) → In z (lasts (forked odd l u v)) → (l ≡ z) ⊎ (In z (lasts u) ⊎ In z (lasts v))
of_forked false l u v z (inl e) = inl e
of_forked false l u v z (inr i) = inr (in_either z (lasts u) (lasts v) i)
of_forked true l u v z (inl e) = inl e
of_forked true l u v z (inr i) = inr (elim (in_either z (lasts v) (lasts u) i) [ inl j ↦ inr j | inr j ↦ inl j ])

pub in_forked : (odd : Bool) (l : ℕ) (u v : ClassTree) (z : ℕ) → (l ≡ z) ⊎ (In z (lasts u) ⊎ In z (lasts v)) → In z (lasts (forked odd l u v))
in_forked false l u v z (inl e) = inl e
in_forked false l u v z (inr (inl i)) = inr (in_left z (lasts u) (lasts v) i)
in_forked false l u v z (inr (inr i)) = inr (in_right z (lasts u) (lasts v) i)
in_forked true l u v z (inl e) = inl e
in_forked true l u v z (inr (inl i)) = inr (in_right z (lasts v) (lasts u) i)
in_forked true l u v z (inr (inr i)) = inr (in_left z (lasts v) (lasts u) i)

-- with what it begins
pub top_forked : (odd : Bool) (l : ℕ) (u v : ClassTree) → top (forked odd l u v) ≡ Some l
top_forked false l u v = refl
top_forked true l u v = refl

-- how it is sorted
pub forked_sorted : (f : ℕ → Option HeldCell) (d : ℕ) (odd : Bool) (l : ℕ) (u v : ClassTree) → IsSorted f d (forked odd l u v) → AreBeside f l d odd (lasts u) × AreBeside f l d (not odd) (lasts v) × IsSorted f (suc d) u × IsSorted f (suc d) v
forked_sorted f d false l u v s = s
forked_sorted f d true l u v s = (s.1, s.0, s.3, s.2)

pub sorted_forked : (f : ℕ → Option HeldCell) (d : ℕ) (odd : Bool) (l : ℕ) (u v : ClassTree) → AreBeside f l d odd (lasts u) × AreBeside f l d (not odd) (lasts v) × IsSorted f (suc d) u × IsSorted f (suc d) v → IsSorted f d (forked odd l u v)
sorted_forked f d false l u v s = s
sorted_forked f d true l u v s = (s.1, s.0, s.3, s.2)

-- and how it hangs
pub forked_tree : (f : ℕ → Option HeldCell) (first : Option ℕ) (odd : Bool) (l : ℕ) (u v : ClassTree) → IsTree f first (forked odd l u v) → (first ≡ Some l) × IsSome (f l) × IsTree f (link_in f l (side odd)) u × IsTree f (link_in f l (side (not odd))) v
forked_tree f first false l u v q = q
forked_tree f first true l u v q = (q.0, q.1, q.3, q.2)

pub tree_forked : (f : ℕ → Option HeldCell) (first : Option ℕ) (odd : Bool) (l : ℕ) (u v : ClassTree) → (first ≡ Some l) × IsSome (f l) × IsTree f (link_in f l (side odd)) u × IsTree f (link_in f l (side (not odd))) v → IsTree f first (forked odd l u v)
tree_forked f first false l u v q = q
tree_forked f first true l u v q = (q.0, q.1, q.3, q.2)

-- A tree with a hole

-- a link that holds a part of a tree at link k of h: that link, or one of these cells to a side
abbrev pub Holds : ℕ → ℕ → List ℕ → ℕ → ℕ → Type 0
Holds h k ks b j = ((b ≡ h) × (j ≡ k)) ⊎ (In b ks × ((j ≡ EVEN) ⊎ (j ≡ ODD)))

-- The tree t hangs at link k of h, at depth d, and w is a part of it. A cell of which the test tells true may stand there.
pub record Hole (f : ℕ → Option HeldCell) (test : ℕ → Bool) (h k d : ℕ) (t : ClassTree) (w : ClassPlace) : Type 0 where
  pub outer : List ℕ
  pub fill : ClassTree → ClassTree
  pub is : fill w.tree ≡ t
  pub parts : (u : ClassTree) (z : ℕ) → In z (lasts (fill u)) → In z outer ⊎ In z (lasts u)
  pub outs : (u : ClassTree) (z : ℕ) → In z outer → In z (lasts (fill u))
  pub ins : (u : ClassTree) (z : ℕ) → In z (lasts u) → In z (lasts (fill u))
  pub others : (z : ℕ) → In z outer → test z ≡ false
  pub apart : (z : ℕ) → In z outer → In z (lasts w.tree) → ⊥
  pub holds : Holds h k outer w.holder w.link
  pub part : IsTree f (link_in f h k) t → IsTree f (link_in f w.holder w.link) w.tree
  pub sorted : IsSorted f w.depth w.tree
  pub turned : (g : ℕ → Option HeldCell) (u : ClassTree) → ((b : ℕ) → IsSome (f b) → IsSome (g b)) → ((b j : ℕ) → Holds h k outer b j → (b ≡ w.holder → j ≡ w.link → ⊥) → link_in g b j ≡ link_in f b j)
      → IsTree f (link_in f h k) t → IsTree g (link_in g w.holder w.link) u → IsTree g (link_in g h k) (fill u)
  pub filled : (u : ClassTree) → IsSorted f w.depth u → ((z : ℕ) → In z (lasts u) → (test z ≡ true) ⊎ In z (lasts w.tree)) → IsSorted f d (fill u)

-- the whole of it
pub hole_here : (f : ℕ → Option HeldCell) (test : ℕ → Bool) (h k d : ℕ) (t : ClassTree) → IsSorted f d t → Hole f test h k d t (record { holder = h; link = k; depth = d; tree = t })
hole_here f test h k d t s = record {
  outer = [];
  fill = λ u. u;
  is = refl;
  parts = λ u z i. inr i;
  outs = λ u z i. absurd i;
  ins = λ u z i. i;
  others = λ z i. absurd i;
  apart = λ z i. absurd i;
  holds = inl (refl, refl);
  part = λ q. q;
  sorted = s;
  turned = λ g u there away q r. r;
  filled = λ u r c. r;
}

-- one of its sides, near, is cut again; the other one, far, stays
module _ (f : ℕ → Option HeldCell) (test : ℕ → Bool) (h k d l : ℕ) (odd : Bool) (near far : ClassTree) (w : ClassPlace) (s : IsSorted f d (forked odd l near far)) (no_h : In h (lasts (forked odd l near far)) → ⊥) where
  sides : AreBeside f l d odd (lasts near) × AreBeside f l d (not odd) (lasts far) × IsSorted f (suc d) near × IsSorted f (suc d) far
  sides = forked_sorted f d odd l near far s

  pub hole_side : ((z : ℕ) → test z ≡ true → (is_key (key_in f z) (key_in f l) ≡ false) × (is_odd (rest_at (key_in f z).0 d) ≡ odd)) → Hole f test l (side odd) (suc d) near w → Hole f test h k d (forked odd l near far) w
  hole_side comes r = record {
    outer = l ∷ (r.outer ++ lasts far);
    fill = λ u. forked odd l (r.fill u) far;
    is = ap (λ u. forked odd l u far) r.is;
    parts = λ u z i. elim (of_forked odd l (r.fill u) far z i) [
      | inl e ↦ inl (inl e)
      | inr j ↦ elim j [ inl x ↦ elim (r.parts u z x) [ inl y ↦ inl (inr (in_left z r.outer (lasts far) y)) | inr y ↦ inr y ] | inr x ↦ inl (inr (in_right z r.outer (lasts far) x)) ]
    ];
    outs = λ u z i. in_forked odd l (r.fill u) far z (elim i [ inl e ↦ inl e | inr j ↦ inr (elim (in_either z r.outer (lasts far) j) [ inl x ↦ inl (r.outs u z x) | inr x ↦ inr x ]) ]);
    ins = λ u z i. in_forked odd l (r.fill u) far z (inr (inl (r.ins u z i)));
    others = λ z i. elim i [
      | inl e ↦ other z (λ t. let n : true ≡ false = sym (key_same (key_in f l)) ∙ ap (λ y. is_key (key_in f y) (key_in f l)) e ∙ (comes z t).0 in cc)
      | inr j ↦ elim (in_either z r.outer (lasts far) j) [ inl x ↦ r.others z x | inr x ↦ other z (λ t. not_both odd (sym (comes z t).1 ∙ (sides.1 z x).1)) ]
    ];
    apart = λ z i o. elim i [
      | inl e ↦ not_near (subst (λ y. In y (lasts near)) (sym e) (near_part z o))
      | inr j ↦ elim (in_either z r.outer (lasts far) j) [ inl x ↦ r.apart z x o | inr x ↦ both z (near_part z o) x ]
    ];
    holds = elim r.holds [ inl e ↦ inr (inl (sym e.0), side_is odd w.link e.1) | inr o ↦ inr (inr (in_left w.holder r.outer (lasts far) o.0), o.1) ];
    part = λ q. r.part (forked_tree f (link_in f h k) odd l near far q).2;
    sorted = r.sorted;
    turned = λ g u there away q v. turn g u there away (forked_tree f (link_in f h k) odd l near far q) v;
    filled = λ u v c. sorted_forked f d odd l (r.fill u) far (
      λ z i. elim (r.parts u z i) [ inl x ↦ sides.0 z (near_out z x) | inr x ↦ elim (c z x) [ inl e ↦ comes z e | inr y ↦ sides.0 z (near_part z y) ] ],
      sides.1,
      r.filled u v c,
      sides.3,
    );
  }
    where
      other : (z : ℕ) → (test z ≡ true → ⊥) → test z ≡ false
      other z n = elim (bool_cases (test z)) [ inl e ↦ absurd (n e) | inr e ↦ e ]

      near_part : (z : ℕ) → In z (lasts w.tree) → In z (lasts near)
      near_part z i = subst (λ u. In z (lasts u)) r.is (r.ins w.tree z i)

      near_out : (z : ℕ) → In z r.outer → In z (lasts near)
      near_out z i = subst (λ u. In z (lasts u)) r.is (r.outs w.tree z i)

      not_near : In l (lasts near) → ⊥
      not_near i = beside_not f l d odd (lasts near) sides.0 i

      both : (z : ℕ) → In z (lasts near) → In z (lasts far) → ⊥
      both z i j = not_both odd (sym (sides.0 z i).1 ∙ (sides.1 z j).1)

      -- where the part hangs
      holder_in : (l ≡ w.holder) ⊎ In w.holder (lasts near)
      holder_in = elim r.holds [ inl e ↦ inl (sym e.0) | inr o ↦ inr (near_out w.holder o.0) ]

      top_away : h ≡ w.holder → ⊥
      top_away e = no_h (in_forked odd l near far h (elim holder_in [ inl x ↦ inl (x ∙ sym e) | inr x ↦ inr (inl (subst (λ y. In y (lasts near)) (sym e) x)) ]))

      side_away : l ≡ w.holder → side (not odd) ≡ w.link → ⊥
      side_away e n = elim r.holds [ inl x ↦ sides_differ odd (n ∙ x.1) | inr o ↦ not_near (subst (λ y. In y (lasts near)) (sym e) (near_out w.holder o.0)) ]

      far_away : (z : ℕ) → In z (lasts far) → z ≡ w.holder → ⊥
      far_away z i e = elim holder_in [
        | inl x ↦ beside_not f l d (not odd) (lasts far) sides.1 (subst (λ y. In y (lasts far)) (e ∙ sym x) i)
        | inr x ↦ both z (subst (λ y. In y (lasts near)) (sym e) x) i
      ]

      lift : (c j : ℕ) → Holds l (side odd) r.outer c j → Holds h k (l ∷ (r.outer ++ lasts far)) c j
      lift c j o = elim o [ inl e ↦ inr (inl (sym e.0), side_is odd j e.1) | inr i ↦ inr (inr (in_left c r.outer (lasts far) i.0), i.1) ]

      turn : (g : ℕ → Option HeldCell) (u : ClassTree) → ((c : ℕ) → IsSome (f c) → IsSome (g c)) → ((c j : ℕ) → Holds h k (l ∷ (r.outer ++ lasts far)) c j → (c ≡ w.holder → j ≡ w.link → ⊥) → link_in g c j ≡ link_in f c j)
          → (link_in f h k ≡ Some l) × IsSome (f l) × IsTree f (link_in f l (side odd)) near × IsTree f (link_in f l (side (not odd))) far → IsTree g (link_in g w.holder w.link) u → IsTree g (link_in g h k) (forked odd l (r.fill u) far)
      turn g u there away q v = tree_forked g (link_in g h k) odd l (r.fill u) far (
        away h k (inl (refl, refl)) (λ e _. top_away e) ∙ q.0,
        there l q.1,
        r.turned g u there (λ c j o n. away c j (lift c j o) n) q.2 v,
        subst (λ o. IsTree g o far) (sym (away l (side (not odd)) (inr (inl refl, side_is (not odd) (side (not odd)) refl)) side_away))
            (tree_frame f g (link_in f l (side (not odd))) far (λ z i. (away z EVEN (inr (inr (in_right z r.outer (lasts far) i), inl refl)) (λ e _. far_away z i e), away z ODD (inr (inr (in_right z r.outer (lasts far) i), inr refl)) (λ e _. far_away z i e))) there q.3),
      )

-- Where a class is looked for

-- what hangs where a class is looked for begins with it
pub record Placed (f : ℕ → Option HeldCell) (p : ℕ × ℕ) (h k d : ℕ) (t : ClassTree) (w : ClassPlace) : Type 0 where
  pub hole : Hole f (λ z. is_key (key_in f z) p) h k d t w
  pub own : (l : ℕ) → top w.tree ≡ Some l → is_key (key_in f l) p ≡ true

pub placed : (f : ℕ → Option HeldCell) (p : ℕ × ℕ) (h k d : ℕ) (t : ClassTree) → IsSorted f d t → (In h (lasts t) → ⊥) → Placed f p h k d t (class_place f p h k d t)
placed f p h k d Bare s no_h = record { hole = hole_here f (λ z. is_key (key_in f z) p) h k d Bare s; own = λ l e. absurd cc }
placed f p h k d (Fork l a b) s no_h =
    by (is_key (key_in f l) p) refl (is_odd (rest_at p.0 d)) refl (placed f p l EVEN (suc d) a s.2 (beside_not f l d false (lasts a) s.0)) (placed f p l ODD (suc d) b s.3 (beside_not f l d true (lasts b) s.1))
  where
    comes : (odd : Bool) → is_key (key_in f l) p ≡ false → is_odd (rest_at p.0 d) ≡ odd → (z : ℕ) → is_key (key_in f z) p ≡ true → (is_key (key_in f z) (key_in f l) ≡ false) × (is_odd (rest_at (key_in f z).0 d) ≡ odd)
    comes odd n o z e =
        let own = key_true (key_in f z) p e in (
          key_differs (key_in f z) (key_in f l) (λ q. let w : true ≡ false = sym (key_same p) ∙ ap (λ y. is_key y p) (sym own ∙ q) ∙ n in absurd cc),
          ap (λ (y : ℕ × ℕ). is_odd (rest_at y.0 d)) own ∙ o,
        )

    by : (x : Bool) → is_key (key_in f l) p ≡ x → (y : Bool) → is_odd (rest_at p.0 d) ≡ y → Placed f p l EVEN (suc d) a (class_place f p l EVEN (suc d) a) → Placed f p l ODD (suc d) b (class_place f p l ODD (suc d) b)
        → Placed f p h k d (Fork l a b) (if x then record { holder = h; link = k; depth = d; tree = Fork l a b } else if y then class_place f p l ODD (suc d) b else class_place f p l EVEN (suc d) a)
    by true e y o r q = record { hole = hole_here f (λ z. is_key (key_in f z) p) h k d (Fork l a b) s; own = λ j n. let w : l ≡ j = cc in ap (λ z. is_key (key_in f z) p) (sym w) ∙ e }
    by false e true o r q = record { hole = hole_side f (λ z. is_key (key_in f z) p) h k d l true b a (class_place f p l ODD (suc d) b) s no_h (comes true e o) q.hole; own = q.own }
    by false e false o r q = record { hole = hole_side f (λ z. is_key (key_in f z) p) h k d l false a b (class_place f p l EVEN (suc d) a) s no_h (comes false e o) r.hole; own = r.own }

-- One with none below it

-- where it hangs
pub record Lowest (f : ℕ → Option HeldCell) (h k d : ℕ) (t : ClassTree) (l : ℕ) (at : Hung) : Type 0 where
  pub place : ClassPlace
  pub hole : Hole f (λ z. false) h k d t place
  pub alone : place.tree ≡ Fork l Bare Bare
  pub is : at ≡ record { holder = place.holder; link = place.link; last = Some l }

pub some_lowest : (f : ℕ → Option HeldCell) (h k d : ℕ) (t : ClassTree) → IsSorted f d t → (In h (lasts t) → ⊥) → (r : ℕ) → top t ≡ Some r → (l : ℕ) × Lowest f h k d t l (lowest h k t)
some_lowest f h k d Bare s no_h r e = absurd cc
some_lowest f h k d (Fork r Bare Bare) s no_h z e = (r, record { place = record { holder = h; link = k; depth = d; tree = Fork r Bare Bare }; hole = hole_here f (λ z. false) h k d (Fork r Bare Bare) s; alone = refl; is = refl })
some_lowest f h k d (Fork r Bare (Fork q u v)) s no_h z e =
    let w = some_lowest f r ODD (suc d) (Fork q u v) s.3 (beside_not f r d true (lasts (Fork q u v)) s.1) q refl in
    (w.0, record { place = w.1.place; hole = hole_side f (λ z. false) h k d r true (Fork q u v) Bare w.1.place s no_h (λ z e. absurd cc) w.1.hole; alone = w.1.alone; is = w.1.is })
some_lowest f h k d (Fork r (Fork q u v) b) s no_h z e =
    let w = some_lowest f r EVEN (suc d) (Fork q u v) s.2 (beside_not f r d false (lasts (Fork q u v)) s.0) q refl in
    (w.0, record { place = w.1.place; hole = hole_side f (λ z. false) h k d r false (Fork q u v) b w.1.place s no_h (λ z e. absurd cc) w.1.hole; alone = w.1.alone; is = w.1.is })
