-- What is left in membranes of a head with closed contexts: no link leaves it, and it stands apart from what is taken.
use Rattle.std.proofs.Common.{ℕ, zero, suc, ◌+◌, ◌<◌, ◌≡◌, ◌≢◌, ◌⊎◌, ◌==◌, Bool, true, false, cond, not, List, [], ◌∷◌, ◌++◌, length, Option, Some, None, IsSome, refl, sym, ap, subst, ◌∙◌, inl, inr, arith}
use Rattle.std.proofs.lemmas.Bool.{eqb-true}
use Rattle.std.specs.Option.{option_map, option_and_then}
use Rattle.std.specs.Prelude.{slice_get, ◌↔◌}
use Rattle.lmn_store_heap.specs.Heap.{Heap, HeapAtom, Place, Distinct, top, within, waiting, gone, home_by, place_of, home_of, parent_of, atoms_in, mems_in, IsMem, IsInPlace}
use Rattle.lmn_store_heap.specs.Sound.{Forest, bare, mem, flat, Forms, Valid}
use Rattle.lmn_store_heap.specs.Conditions.{Above}
use Rattle.lmn_store_heap.proofs.ListLemmas.{in_left, in_right, each_in, each_of}
use Rattle.lmn_store_heap.proofs.Depths.{both_distinct}
use Rattle.lmn_store_heap.proofs.Heights.{parent_is, parent_place, mem_of_place, above_more}
use Rattle.lmn_store_heap.proofs.Common.{place_home}
use Rattle.lmn_ground_parts.specs.Walks.{is_in}
use Rattle.lmn_ground_parts.specs.Rests.{IsRest, IsContent, NoneLeaves, atoms_of_all, keep}
use Rattle.lmn_store_heap.specs.Lists.{without_all}
use Rattle.lmn_solid_bodies.proofs.Contents.{content_rest, keep_without}
use Rattle.lmn_ground_parts.proofs.AnswerLaws.{is_in_true}
use Rattle.lmn_solid_heads.specs.declared.items.HeadItem.{HeadItem}
use Rattle.lmn_solid_heads.specs.Heads.{HeadMembrane, atoms_of, membranes_of}
use Rattle.lmn_solid_heads.specs.Embeddings.{Lies, index_of, HasMembrane, IsInRest}
use Rattle.lmn_solid_bodies.specs.Running.{Registers}
use Rattle.lmn_solid_bodies.specs.Rules.{HeadNests, InsideHead}
use Rattle.lmn_solid_bodies.specs.Within.{membrane_images, left_of_closed, dropped_atoms, dropped_mems, IsTakenAtom, HoldsRests}
use Rattle.lmn_solid_bodies.specs.RestCopies.{rest_membranes}
use Rattle.lmn_solid_bodies.specs.Names.{Names}
use Rattle.lmn_solid_bodies.proofs.Below.{preorder, later, below_home, removed_is, is_removed, index_split, index_later}
use Rattle.lmn_store_heap.proofs.Trees.{find_at, split_at, around}
use Rattle.lmn_store_heap.proofs.Groves.{list_inside, child_inside}
use Rattle.lmn_solid_bodies.proofs.Finishing.{within_of, in_place_listed}
use Rattle.lmn_solid_bodies.proofs.RestGrowing.{stands_round}
use Rattle.lmn_solid_bodies.proofs.RestsMade.{IsClosed}
use Rattle.lmn_base.specs.Graphs.{Port}
use Rattle.lmn_base.specs.Lists.{In}
use Rattle.lmn_base.proofs.Lists.{in_either, get_below, get_there as get_some}
use Rattle.lmn_solid_heads.proofs.Common.{without_none}

-- ---- lists

-- what is kept stood there, and the test is true of it
pub keep_in : (test : ℕ → Bool) (xs : List ℕ) (x : ℕ) → In x (keep test xs) → In x xs × (test x ≡ true)
keep_in test [] x i = absurd i
keep_in test (y ∷ xs) x i = by (test y) refl i (λ j. keep_in test xs x j)
  where
    by : (t : Bool) → test y ≡ t → In x (cond t (y ∷ keep test xs) (keep test xs)) → (In x (keep test xs) → In x xs × (test x ≡ true)) → In x (y ∷ xs) × (test x ≡ true)
    by true e (inl q) on = (inl q, ap test (sym q) ∙ e)
    by true e (inr j) on = let w = on j in (inr w.0, w.1)
    by false e j on = let w = on j in (inr w.0, w.1)

-- and such a thing is kept
pub in_keep : (test : ℕ → Bool) (xs : List ℕ) (x : ℕ) → In x xs → test x ≡ true → In x (keep test xs)
in_keep test [] x i e = absurd i
in_keep test (y ∷ xs) x (inl q) e = by (test y) (ap test q ∙ e)
  where
    by : (t : Bool) → t ≡ true → In x (cond t (y ∷ keep test xs) (keep test xs))
    by true f = inl q
    by false f = absurd (cc)
in_keep test (y ∷ xs) x (inr i) e = by (test y) (in_keep test xs x i e)
  where
    by : (t : Bool) → In x (keep test xs) → In x (cond t (y ∷ keep test xs) (keep test xs))
    by true j = inr j
    by false j = j

keep_once : (test : ℕ → Bool) (xs : List ℕ) → Distinct xs → Distinct (keep test xs)
keep_once test [] d = tt
keep_once test (y ∷ xs) d = by (test y) (keep_once test xs d.1)
  where
    by : (t : Bool) → Distinct (keep test xs) → Distinct (cond t (y ∷ keep test xs) (keep test xs))
    by true r = (each_of (λ z. y ≢ z) (keep test xs) (λ z i. each_in (λ v. y ≢ v) xs z d.0 (keep_in test xs z i).0), r)
    by false r = r

-- what isn't in a list
pub not_in : (xs : List ℕ) (a : ℕ) → not (is_in xs a) ≡ true → In a xs → ⊥
not_in xs a e i = let f = is_in_true a xs i in off (is_in xs a) e f
  where
    off : (t : Bool) → not t ≡ true → t ≡ true → ⊥
    off true e f = absurd (cc)
    off false e f = absurd (cc)

pub out_of : (xs : List ℕ) (a : ℕ) → (In a xs → ⊥) → not (is_in xs a) ≡ true
out_of [] a o = refl
out_of (x ∷ xs) a o = by (x == a) refl (out_of xs a (λ i. o (inr i)))
  where
    by : (t : Bool) → (x == a) ≡ t → not (is_in xs a) ≡ true → not (cond t true (is_in xs a)) ≡ true
    by true e f = absurd (o (inl (eqb-true x a e)))
    by false e f = f

-- atoms of some membranes
pub from_atoms : (s : Heap) (ks : List ℕ) (a : ℕ) → In a (atoms_of_all s ks) → (k : ℕ) × In k ks × In a (atoms_in s k)
from_atoms s [] a i = absurd i
from_atoms s (k ∷ ks) a i = elim (in_either a (atoms_in s k) (atoms_of_all s ks) i) [ inl j ↦ (k, inl refl, j) | inr j ↦ (let w = from_atoms s ks a j in (w.0, inr w.1, w.2)) ]

-- the atoms of one of them are among them
pub of_atoms : (s : Heap) (ks : List ℕ) (k a : ℕ) → In k ks → In a (atoms_in s k) → In a (atoms_of_all s ks)
of_atoms s [] k a i j = absurd i
of_atoms s (y ∷ ks) k a (inl e) j = in_left a (atoms_in s y) (atoms_of_all s ks) (subst (λ z. In a (atoms_in s z)) (sym e) j)
of_atoms s (y ∷ ks) k a (inr i) j = in_right a (atoms_in s y) (atoms_of_all s ks) (of_atoms s ks k a i j)

-- what is left in some membrane with a closed context
pub of_closed : (left : ℕ → List ℕ) (k : ℕ) (bs : List HeadMembrane) (a : ℕ) → In a (left_of_closed left k bs) → (j : ℕ) × (b : HeadMembrane) × (slice_get bs j ≡ Some b) × (b.has_closed_context ≡ true) × In a (left (k + j))
of_closed left k [] a i = absurd i
of_closed left k (b ∷ bs) a i = by b.has_closed_context refl i (λ l. of_closed left (k + 1) bs a l)
  where
    next : (k j : ℕ) → k + 1 + j ≡ k + suc j
    next k j = omega arith

    here : (k : ℕ) → k ≡ k + 0
    here k = omega arith

    by : (t : Bool) → b.has_closed_context ≡ t → In a (cond t (left k) [] ++ left_of_closed left (k + 1) bs)
        → (In a (left_of_closed left (k + 1) bs) → (j : ℕ) × (c : HeadMembrane) × (slice_get bs j ≡ Some c) × (c.has_closed_context ≡ true) × In a (left (k + 1 + j)))
        → (j : ℕ) × (c : HeadMembrane) × (slice_get (b ∷ bs) j ≡ Some c) × (c.has_closed_context ≡ true) × In a (left (k + j))
    by true e i on = elim (in_either a (left k) (left_of_closed left (k + 1) bs) i) [
      | inl l ↦ (0, b, refl, e, subst (λ z. In a (left z)) (here k) l)
      | inr l ↦ (let w = on l in (suc w.0, w.1, w.2, w.3, subst (λ z. In a (left z)) (next k w.0) w.4))
    ]
    by false e i on = let w = on i in (suc w.0, w.1, w.2, w.3, subst (λ z. In a (left z)) (next k w.0) w.4)

-- and what is left in one of them
pub in_closed : (left : ℕ → List ℕ) (k : ℕ) (bs : List HeadMembrane) (j : ℕ) (b : HeadMembrane) (a : ℕ) → slice_get bs j ≡ Some b → b.has_closed_context ≡ true → In a (left (k + j)) → In a (left_of_closed left k bs)
in_closed left k [] j b a e c i = absurd (cc)
in_closed left k (x ∷ bs) zero b a e c i =
    let same : x ≡ b = (cc) in
    in_left a (cond x.has_closed_context (left k) []) (left_of_closed left (k + 1) bs) (subst (λ t. In a (cond t (left k) [])) (sym (ap (λ (z : HeadMembrane). z.has_closed_context) same ∙ c)) (subst (λ z. In a (left z)) (zero_plus k) i))
  where
    zero_plus : (k : ℕ) → k + 0 ≡ k
    zero_plus k = omega arith
in_closed left k (x ∷ bs) (suc j) b a e c i = in_right a (cond x.has_closed_context (left k) []) (left_of_closed left (k + 1) bs) (in_closed left (k + 1) bs j b a e c (subst (λ z. In a (left z)) (next k j) i))
  where
    next : (k j : ℕ) → k + suc j ≡ k + 1 + j
    next k j = omega arith

-- each once, where the lists of different membranes have nothing in common
closed_once : (left : ℕ → List ℕ) (k : ℕ) (bs : List HeadMembrane) → ((j : ℕ) (b : HeadMembrane) → slice_get bs j ≡ Some b → b.has_closed_context ≡ true → Distinct (left (k + j)))
    → ((i j : ℕ) (b c : HeadMembrane) (a : ℕ) → slice_get bs i ≡ Some b → slice_get bs j ≡ Some c → b.has_closed_context ≡ true → c.has_closed_context ≡ true → i ≢ j → In a (left (k + i)) → In a (left (k + j)) → ⊥)
    → Distinct (left_of_closed left k bs)
closed_once left k [] once apart = tt
closed_once left k (x ∷ bs) once apart = by x.has_closed_context refl
    (closed_once left (k + 1) bs (λ j b e c. subst (λ z. Distinct (left z)) (next k j) (once (suc j) b e c))
    (λ i j b c a e f p q d l m. apart (suc i) (suc j) b c a e f p q (λ g. d (same i j g)) (subst (λ z. In a (left z)) (sym (next k i)) l) (subst (λ z. In a (left z)) (sym (next k j)) m)))
  where
    next : (k j : ℕ) → k + suc j ≡ k + 1 + j
    next k j = omega arith

    here : (k : ℕ) → k + 0 ≡ k
    here k = omega arith

    same : (i j : ℕ) → suc i ≡ suc j → i ≡ j
    same i j e = omega (arith, e)

    by : (t : Bool) → x.has_closed_context ≡ t → Distinct (left_of_closed left (k + 1) bs) → Distinct (cond t (left k) [] ++ left_of_closed left (k + 1) bs)
    by true e r = both_distinct (left k) (left_of_closed left (k + 1) bs) (subst (λ z. Distinct (left z)) (here k) (once 0 x refl e)) r
        (λ a i j. let w = of_closed left (k + 1) bs a j in apart 0 (suc w.0) x w.1 a refl w.2 e w.3 (λ g. absurd (let z : 0 ≡ suc w.0 = g in omega (arith, z))) (subst (λ z. In a (left z)) (sym (here k)) i) (subst (λ z. In a (left z)) (sym (next k w.0)) w.4))
    by false e r = r

-- a membrane of a forest is at or below a root
root_above : (s : Heap) (f : Forest) (roots : List ℕ) (q : ℕ) → Forms s f roots → ((p k : ℕ) → In k (mems_in s p) → parent_of s k ≡ Some p) → In q (flat f) → (c : ℕ) × In c roots × (d : ℕ) × Above s d c q
root_above s bare roots q forms up i = absurd i
root_above s (mem k inner rest) roots q (others, are, forms_in, forms_rest) up (inl e) = (k, subst (In k) (sym are) (inl refl), 0, sym e)
root_above s (mem k inner rest) roots q (others, are, forms_in, forms_rest) up (inr i) = elim (in_either q (flat inner) (flat rest) i) [
  | inl l ↦ (let w = root_above s inner (mems_in s k) q forms_in up l in (k, subst (In k) (sym are) (inl refl), suc w.2, above_more s w.2 k w.0 q (up k w.0 w.1) w.3))
  | inr l ↦ (let w = root_above s rest others q forms_rest up l in (w.0, subst (In w.0) (sym are) (inr w.1), w.2, w.3))
]

-- and what is below one of a forest is of it
below_forest : (s : Heap) (f : Forest) (roots : List ℕ) (c : ℕ) → Forms s f roots → ((p k : ℕ) → parent_of s k ≡ Some p → In k (mems_in s p)) → In c (flat f) → (d q : ℕ) → Above s d c q → In q (flat f)
below_forest s f roots c forms down i zero q e = subst (λ z. In z (flat f)) (sym e) i
below_forest s f roots c forms down i (suc d) q (p, e, w) = child_inside s f roots forms p q (below_forest s f roots c forms down i d p w) (down p q e)

module _ (h : Heap) (valid : Valid h) (head : List HeadItem) (m : ℕ) (r : Registers) (em : Lies h head m r.head.images) (head_nests : HeadNests head) (inside : InsideHead head) (rests : HoldsRests h r head) where
  abbrev ks : List ℕ
  ks = membrane_images r head

  abbrev pub at : ℕ → ℕ
  at k = r.head.images.membrane k

  up : (p k : ℕ) → In k (mems_in h p) → parent_of h k ≡ Some p
  up p k i = parent_is h valid.sound.listed k p i

  down : (p k : ℕ) → parent_of h k ≡ Some p → In k (mems_in h p)
  down p k e = (valid.sound.listed.mems p k).1 (parent_place h k p e)

  pub one_parent : (p q k : ℕ) → In k (mems_in h p) → In k (mems_in h q) → p ≡ q
  one_parent p q k i j = let e : ◌≡◌ {A = Option ℕ} (Some p) (Some q) = sym (up p k i) ∙ up q k j in (cc)

  pub one_home : (p q a : ℕ) → In a (atoms_in h p) → In a (atoms_in h q) → p ≡ q
  one_home p q a i j = by ((valid.sound.listed.atoms p a).0 i) ((valid.sound.listed.atoms q a).0 j)
    where
      by : {o : Option Place} → o ≡ Some (within p) → o ≡ Some (within q) → p ≡ q
      by e f = let g : Some (within p) ≡ Some (within q) = sym e ∙ f in (cc)

  -- an atom that the head takes
  abbrev pub Taken : ℕ → Type 0
  Taken a = IsTakenAtom h head r.head.images a

  -- a membrane of the head with a closed context
  pub record IsClosedMembrane (k : ℕ) : Type 0 where
    pub membrane : HeadMembrane
    pub has : HasMembrane head k membrane
    pub closed : membrane.has_closed_context ≡ true

  module _ (k : ℕ) (ck : IsClosedMembrane k) where
    -- which atoms are left
    abbrev left : ℕ → Bool
    left = (rests k ck.membrane ck.has ck.closed).0

    test : (a : ℕ) → In a (atoms_in h (at k)) → (left a ≡ true) ↔ (Taken a → ⊥)
    test = (rests k ck.membrane ck.has ck.closed).1

    rest : IsRest h (at k) left (λ x. not (is_in ks x)) (r.left_atoms k) (r.left_membranes k)
    rest = (rests k ck.membrane ck.has ck.closed).2

    abbrev f : Forest
    f = rest.forest

    abbrev roots : List ℕ
    roots = keep (λ x. not (is_in ks x)) (mems_in h (at k))

    of_flat : (x : ℕ) → In x (flat f) → In x (r.left_membranes k)
    of_flat x i = subst (In x) (sym rest.preorder) i

    to_flat : (x : ℕ) → In x (r.left_membranes k) → In x (flat f)
    to_flat x i = subst (In x) rest.preorder i

    -- each membrane of the rest stands in one of those that hold the rest
    pub round : (x : ℕ) → In x (r.left_membranes k) → (q : ℕ) × In q (rest_membranes r k) × In x (mems_in h q)
    round x i = let w = stands_round h f roots (at k) x rest.forms (λ j l. (keep_in (λ x. not (is_in ks x)) (mems_in h (at k)) j l).0) (to_flat x i) in
        (w.0, elim w.1 [ inl e ↦ inl e | inr l ↦ inr (of_flat w.0 l) ], w.2)

    pub rest_mem : (x : ℕ) → In x (r.left_membranes k) → IsMem h x
    rest_mem x i = let w = round x i in mem_of_place h x (within w.0) ((valid.sound.listed.mems w.0 x).0 w.2)

    -- and what stands in them and isn't an image is of the rest
    pub child : (q x : ℕ) → In q (rest_membranes r k) → In x (mems_in h q) → (In x ks → ⊥) → In x (r.left_membranes k)
    child q x (inl e) i o = of_flat x (list_inside h f roots rest.forms x (in_keep (λ x. not (is_in ks x)) (mems_in h (at k)) x (subst (λ z. In x (mems_in h z)) (sym e) i) (out_of ks x o)))
    child q x (inr j) i o = of_flat x (child_inside h f roots rest.forms q x (to_flat q j) i)

    -- a membrane of the rest is below the membrane of the rule
    pub rest_later : (x : ℕ) → In x (r.left_membranes k) → preorder h valid (at k) < preorder h valid x
    rest_later x i = go (length (flat f)) f roots rest.forms x (to_flat x i) (at k) (λ j l. later h valid (at k) j (keep_in (λ x. not (is_in ks x)) (mems_in h (at k)) j l).0)
      where
        go : (n : ℕ) (g : Forest) (rs : List ℕ) → Forms h g rs → (x : ℕ) → In x (flat g) → (p : ℕ) → ((j : ℕ) → In j rs → preorder h valid p < preorder h valid j) → preorder h valid p < preorder h valid x
        go n bare rs w x i p low = absurd i
        go n (mem j inner more) rs (others, are, forms_in, forms_rest) x (inl e) p low = subst (λ z. preorder h valid p < preorder h valid z) e (low j (subst (In j) (sym are) (inl refl)))
        go n (mem j inner more) rs (others, are, forms_in, forms_rest) x (inr i) p low = elim (in_either x (flat inner) (flat more) i) [
          | inl l ↦ (let a = low j (subst (In j) (sym are) (inl refl)) in let b = go n inner (mems_in h j) forms_in x l j (λ z t. later h valid j z t) in omega arith)
          | inr l ↦ go n more others forms_rest x l p (λ z t. low z (subst (In z) (sym are) (inr t)))
        ]

    pub lms_once : Distinct (r.left_membranes k)
    lms_once = rest.once

    -- each comes before those that stand in it
    pub order : (p x : ℕ) → In p (r.left_membranes k) → In x (mems_in h p) → index_of p (r.left_membranes k) < index_of x (r.left_membranes k)
    order p x i l = subst (λ zs. index_of p zs < index_of x zs) (sym rest.preorder) (in_forest p x (to_flat p i) l)
      where
        in_forest : (p x : ℕ) → In p (flat f) → In x (mems_in h p) → index_of p (flat f) < index_of x (flat f)
        in_forest p x i l =
            let a = find_at f p i in
            let u = split_at f p a.0 a.1 a.2 a.3 in
            let w = around h f roots p a.0 a.1 a.2 rest.forms a.3 in
            let inner : In x (flat a.0 ++ (flat a.1 ++ a.2)) = in_left x (flat a.0) (flat a.1 ++ a.2) (list_inside h a.0 (mems_in h p) w.inner x l) in
            let once : Distinct (u.0 ++ (p ∷ (flat a.0 ++ (flat a.1 ++ a.2)))) = subst Distinct u.1 (subst Distinct rest.preorder rest.once) in
            let at : index_of p (flat f) ≡ length u.0 = ap (index_of p) u.1 ∙ index_split u.0 p (flat a.0 ++ (flat a.1 ++ a.2)) once in
            let later : length u.0 < index_of x (flat f) = subst (λ zs. length u.0 < index_of x zs) (sym u.1) (index_later u.0 p (flat a.0 ++ (flat a.1 ++ a.2)) x once inner) in
            omega (arith, at, later)

  closed_image : (k : ℕ) → IsClosedMembrane k → In (at k) ks
  closed_image k ck = let w = ck.has in subst (λ z. In (at z) ks) (sym w.1) (is_removed head r w.0 (get_below (membranes_of head) w.0 ck.membrane w.2))

  pub rest_below : (k : ℕ) (ck : IsClosedMembrane k) (x : ℕ) → In x (r.left_membranes k) → preorder h valid m < preorder h valid x
  rest_below k ck x i = let a = below_home h valid head m r em head_nests (at k) (closed_image k ck) in let b = rest_later k ck x i in omega arith

  head_in : (j : ℕ) (b : HeadMembrane) → HasMembrane head j b → In (at j) ks
  head_in j b w = subst (λ z. In (at z) ks) (sym w.1) (is_removed head r w.0 (get_below (membranes_of head) w.0 b w.2))

  -- no membrane of the head is of a rest
  image_apart : (fuel j : ℕ) → j < fuel → (b : HeadMembrane) → HasMembrane head j b → (k : ℕ) → IsClosedMembrane k → In (at j) (r.left_membranes k) → ⊥
  image_apart zero j l b w k ck i = absurd (omega (arith, l))
  image_apart (suc fuel) j l b w k ck i =
      let q = round k ck (at j) i in
      let same : q.0 ≡ at b.inside = one_parent q.0 (at b.inside) (at j) q.2 (em.membranes_placed j b w) in
      elim q.1 [
        | inl e ↦ root_case (e ∙ same)
        | inr t ↦ deeper b.inside (head_nests j b w) (subst (λ z. In z (r.left_membranes k)) same t) (λ z x l v. image_apart fuel z l x v k ck)
      ]
    where
      -- as a root of the rest it is kept, and so no image
      root_case : at k ≡ at b.inside → ⊥
      root_case e = not_root (is_root (at j) i)
        where
          not_root : (In (at j) (keep (λ x. not (is_in ks x)) (mems_in h (at k)))) ⊎ ((q : ℕ) × In q (r.left_membranes k) × In (at j) (mems_in h q)) → ⊥
          not_root (inl t) = not_in ks (at j) (keep_in (λ x. not (is_in ks x)) (mems_in h (at k)) (at j) t).1 (head_in j b w)
          not_root (inr t) = off (rest_later k ck t.0 t.1) (one_parent t.0 (at b.inside) (at j) t.2 (em.membranes_placed j b w) ∙ sym e)
            where
              off : preorder h valid (at k) < preorder h valid t.0 → t.0 ≡ at k → ⊥
              off l e = let g = ap (preorder h valid) e in omega (arith, l, g)

          is_root : (x : ℕ) → In x (r.left_membranes k) → (In x (keep (λ x. not (is_in ks x)) (mems_in h (at k)))) ⊎ ((q : ℕ) × In q (r.left_membranes k) × In x (mems_in h q))
          is_root x i = by (rest k ck).forest (keep (λ x. not (is_in ks x)) (mems_in h (at k))) (rest k ck).forms (λ z t. t) (to_flat k ck x i) (λ z t. of_flat k ck z t)
            where
              by : (g : Forest) (rs : List ℕ) → Forms h g rs → ((z : ℕ) → In z rs → In z (keep (λ x. not (is_in ks x)) (mems_in h (at k)))) → In x (flat g) → ((z : ℕ) → In z (flat g) → In z (r.left_membranes k))
                  → (In x (keep (λ x. not (is_in ks x)) (mems_in h (at k)))) ⊎ ((q : ℕ) × In q (r.left_membranes k) × In x (mems_in h q))
              by bare rs w sub i into = absurd i
              by (mem z inner more) rs (others, are, forms_in, forms_rest) sub (inl e) into = inl (sub x (subst (In x) (sym are) (inl e)))
              by (mem z inner more) rs (others, are, forms_in, forms_rest) sub (inr i) into = elim (in_either x (flat inner) (flat more) i) [
                | inl l ↦ inr (let v = stands_round h inner (mems_in h z) z x forms_in (λ y t. t) l in (v.0, elim v.1 [ inl e ↦ into v.0 (inl e) | inr t ↦ into v.0 (inr (in_left v.0 (flat inner) (flat more) t)) ], v.2))
                | inr l ↦ by more others forms_rest (λ y t. sub y (subst (In y) (sym are) (inr t))) l (λ y t. into y (inr (in_right y (flat inner) (flat more) t)))
              ]

      deeper : (i : ℕ) → i < j → In (at i) (r.left_membranes k) → ((z : ℕ) (x : HeadMembrane) → z < fuel → HasMembrane head z x → In (at z) (r.left_membranes k) → ⊥) → ⊥
      deeper zero g t on = let a = rest_below k ck (at 0) t in let e = ap (preorder h valid) em.here in absurd (omega (arith, a, e))
      deeper (suc i) g t on = let below = get_below (membranes_of head) w.0 b w.2 in let x = get_some (membranes_of head) i (less w.0 w.1 g below) in on (suc i) x.0 (omega (arith, g, l)) (i, refl, x.1) t
        where
          less : (z : ℕ) → j ≡ suc z → suc i < j → z < length (membranes_of head) → i < length (membranes_of head)
          less z e g l = omega (arith, e, g, l)

  pub head_apart : (x : ℕ) → In x ks → (k : ℕ) → IsClosedMembrane k → In x (r.left_membranes k) → ⊥
  head_apart x i k ck j = let w = removed_is head r x i in image_apart (suc w.0) w.0 (omega arith) w.1 w.2 k ck (subst (λ z. In z (r.left_membranes k)) (sym w.3) j)

  -- nor is the membrane of an item
  item_apart : (i : ℕ) → i < 1 + length (membranes_of head) → (k : ℕ) → IsClosedMembrane k → In (at i) (r.left_membranes k) → ⊥
  item_apart zero l k ck t = let a = rest_below k ck (at 0) t in let e = ap (preorder h valid) em.here in absurd (omega (arith, a, e))
  item_apart (suc i) l k ck t = let x = get_some (membranes_of head) i (omega (arith, l)) in image_apart (suc (suc i)) (suc i) (omega arith) x.0 (i, refl, x.1) k ck t

  one_closed : (j k : ℕ) → IsClosedMembrane j → IsClosedMembrane k → at j ≡ at k → j ≡ k
  one_closed j k cj ck e =
      let u = cj.has in
      let w = ck.has in
      u.1 ∙ ap (λ z. suc z) (em.membranes_differ u.0 w.0 (get_below (membranes_of head) u.0 cj.membrane u.2) (get_below (membranes_of head) w.0 ck.membrane w.2) (ap at (sym u.1) ∙ e ∙ ap at w.1)) ∙ sym w.1

  module _ (k : ℕ) (ck : IsClosedMembrane k) where
    -- an atom of the rest stands in one of the membranes that hold the rest
    pub atom_round : (a : ℕ) → In a (r.left_atoms k) → (q : ℕ) × In q (rest_membranes r k) × In a (atoms_in h q)
    atom_round a i = elim (in_either a (keep (left k ck) (atoms_in h (at k))) (atoms_of_all h (r.left_membranes k)) (subst (In a) (rest k ck).in_order i)) [
      | inl j ↦ (at k, inl refl, (keep_in (left k ck) (atoms_in h (at k)) a j).0)
      | inr j ↦ (let w = from_atoms h (r.left_membranes k) a j in (w.0, inr w.1, w.2))
    ]

    -- and what stands in them and isn't taken is of the rest
    pub of_round : (q a : ℕ) → In q (rest_membranes r k) → In a (atoms_in h q) → (Taken a → ⊥) → In a (r.left_atoms k)
    of_round q a (inl e) i o = subst (In a) (sym (rest k ck).in_order) (in_left a (keep (left k ck) (atoms_in h (at k))) (atoms_of_all h (r.left_membranes k))
        (let here = subst (λ z. In a (atoms_in h z)) (sym e) i in in_keep (left k ck) (atoms_in h (at k)) a here ((test k ck a here).1 o)))
    of_round q a (inr j) i o = subst (In a) (sym (rest k ck).in_order) (in_right a (keep (left k ck) (atoms_in h (at k))) (atoms_of_all h (r.left_membranes k)) (of_atoms h (r.left_membranes k) q a j i))

    -- an atom stands in the list of its home
    home_in : (a q : ℕ) → home_of h a ≡ Some q → In a (atoms_in h q)
    home_in a q e = (valid.sound.listed.atoms q a).1 (by (h.atoms a) e)
      where
        by : (o : Option HeapAtom) → option_and_then (λ x. home_by x.place) o ≡ Some q → option_map (λ x. x.place) o ≡ Some (within q)
        by None e = absurd (cc)
        by (Some x) e = place x.place e
          where
            place : (p : Place) → home_by p ≡ Some q → Some p ≡ Some (within q)
            place top e = absurd (cc)
            place (within y) e = let g : y ≡ q = (cc) in ap (λ z. Some (within z)) g
            place waiting e = absurd (cc)
            place gone e = absurd (cc)

    -- what is taken stands in a membrane of the head, or of the rule
    taken_home : (a : ℕ) → Taken a → (i : ℕ) × (i < 1 + length (membranes_of head)) × In a (atoms_in h (at i))
    taken_home a (inl (n, l, e)) =
        let x = get_some (atoms_of head) n l in
        (x.0.inside, inside.atoms n x.0 x.1, subst (λ z. In z (atoms_in h (at x.0.inside))) e (em.atoms_placed n x.0 x.1))
    taken_home a (inr (g, t, w, reached)) = (t.inside, inside.typed g t w, home_in a (at t.inside) ((em.parts g t w).whole.at_home a reached))

    -- no atom of the rest is taken
    pub atom_apart : (a : ℕ) → In a (r.left_atoms k) → Taken a → ⊥
    atom_apart a i t = elim (in_either a (keep (left k ck) (atoms_in h (at k))) (atoms_of_all h (r.left_membranes k)) (subst (In a) (rest k ck).in_order i)) [
      | inl j ↦ (let w = keep_in (left k ck) (atoms_in h (at k)) a j in (test k ck a w.0).0 w.1 t)
      | inr j ↦ (let w = from_atoms h (r.left_membranes k) a j in
          let v = taken_home a t in
          item_apart v.0 v.1 k ck (subst (λ z. In z (r.left_membranes k)) (one_home w.0 (at v.0) a w.2 v.2) w.1))
    ]

    -- where all that the head takes has been taken out, only the rest is left
    pub content_at : (t : Heap) (ns : List ℕ) → ((a : ℕ) → In a ns → Taken a) → ((a : ℕ) → Taken a → In a ns) → ((q : ℕ) → atoms_in t q ≡ without_all ns (atoms_in h q)) → ((q : ℕ) → mems_in t q ≡ without_all ks (mems_in h q))
        → IsContent t (at k) (r.left_atoms k) (r.left_membranes k)
    content_at t ns taken in_ns ats ms = content_rest h t (at k) (left k ck) (λ x. not (is_in ks x)) (r.left_atoms k) (r.left_membranes k) (rest k ck)
        (ats (at k) ∙ keep_without (left k ck) ns (atoms_in h (at k)) (valid.sound.listed.atoms_once (at k)) (λ a i. let w = test k ck a i in ((λ e j. w.0 e (taken a j)), (λ o. w.1 (λ u. o (in_ns a u))))))
        (ms (at k) ∙ keep_without (λ x. not (is_in ks x)) ks (mems_in h (at k)) (valid.sound.listed.mems_once (at k)) (λ x i. ((λ e j. not_in ks x e j), (λ o. out_of ks x o))))
        (λ q i. (
          ats q ∙ without_none ns (atoms_in h q) (λ a j l. atom_apart a (subst (In a) (sym (rest k ck).in_order) (in_right a (keep (left k ck) (atoms_in h (at k))) (atoms_of_all h (r.left_membranes k)) (of_atoms h (r.left_membranes k) q a i l))) (taken a j)),
          ms q ∙ without_none ks (mems_in h q) (λ x j l. head_apart x j k ck (of_flat k ck x (child_inside h (f k ck) (roots k ck) (rest k ck).forms q x (to_flat k ck q i) l))),
        ))

    pub atom_placed : (a : ℕ) → In a (r.left_atoms k) → IsInPlace h a
    atom_placed a i = let w = atom_round a i in in_place_listed h w.0 a valid.sound.listed w.2

    -- each once
    pub atoms_once : Distinct (r.left_atoms k)
    atoms_once = subst Distinct (sym (rest k ck).in_order) (both_distinct (keep (left k ck) (atoms_in h (at k))) (atoms_of_all h (r.left_membranes k))
        (keep_once (left k ck) (atoms_in h (at k)) (valid.sound.listed.atoms_once (at k))) (all_once (r.left_membranes k) (rest k ck).once)
        (λ a i j. let w = from_atoms h (r.left_membranes k) a j in (rest k ck).outside (subst (λ z. In z (r.left_membranes k)) (one_home w.0 (at k) a w.2 (keep_in (left k ck) (atoms_in h (at k)) a i).0) w.1)))
      where
        all_once : (qs : List ℕ) → Distinct qs → Distinct (atoms_of_all h qs)
        all_once [] d = tt
        all_once (q ∷ qs) d = both_distinct (atoms_in h q) (atoms_of_all h qs) (valid.sound.listed.atoms_once q) (all_once qs d.1)
            (λ a i j. let w = from_atoms h qs a j in each_in (λ z. q ≢ z) qs w.0 d.0 w.1 (one_home q w.0 a i w.2))

    -- The rest is what embedding calls so.
    to_rest : (a : ℕ) → In a (r.left_atoms k) → IsInRest h head r.head.images k a
    to_rest a i = elim (in_either a (keep (left k ck) (atoms_in h (at k))) (atoms_of_all h (r.left_membranes k)) (subst (In a) (rest k ck).in_order i)) [
      | inl j ↦ (let w = keep_in (left k ck) (atoms_in h (at k)) a j in
          let out = (test k ck a w.0).0 w.1 in
          inl (w.0, (λ v. out (inl v)), (λ v. out (inr (v.0, v.1, v.2, v.4)))))
      | inr j ↦ (let w = from_atoms h (r.left_membranes k) a j in
          let v = root_above h (f k ck) (roots k ck) w.0 (rest k ck).forms up (to_flat k ck w.0 w.1) in
          let c = keep_in (λ x. not (is_in ks x)) (mems_in h (at k)) v.0 v.1 in
          inr (v.0, c.0, (λ t. not_in ks v.0 c.1 (image_removed t.0 t.1 v.0 t.2)), (w.0, v.2, place_home h a w.0 ((valid.sound.listed.atoms w.0 a).0 w.2), v.3)))
    ]
      where
        image_removed : (i : ℕ) → i < length (membranes_of head) → (x : ℕ) → at (suc i) ≡ x → In x ks
        image_removed i l x e = subst (λ z. In z ks) e (is_removed head r i l)

    from_rest : (a : ℕ) → IsInRest h head r.head.images k a → In a (r.left_atoms k)
    from_rest a (inl w) = of_round (at k) a (inl refl) w.0 (λ t. elim t [
      | inl v ↦ w.1 v
      | inr v ↦ w.2 (v.0, v.1, v.2, same_inside v.1.inside (inside.typed v.0 v.1 v.2) (one_home (at v.1.inside) (at k) a (home_in a (at v.1.inside) ((em.parts v.0 v.1 v.2).whole.at_home a v.3)) w.0), v.3)
    ])
      where
        same_inside : (i : ℕ) → i < 1 + length (membranes_of head) → at i ≡ at k → i ≡ k
        same_inside zero l e = absurd (off (below_home h valid head m r em head_nests (at k) (closed_image k ck)) (ap (preorder h valid) (sym em.here ∙ e)))
          where
            off : preorder h valid m < preorder h valid (at k) → preorder h valid m ≡ preorder h valid (at k) → ⊥
            off l e = omega (arith, l, e)
        same_inside (suc i) l e =
            let w = ck.has in
            ap (λ z. suc z) (em.membranes_differ i w.0 (omega (arith, l)) (get_below (membranes_of head) w.0 ck.membrane w.2) (e ∙ ap at w.1)) ∙ sym w.1
    from_rest a (inr (c, i, o, (n, d, home, above))) =
        let root : In c (r.left_membranes k) = child k ck (at k) c (inl refl) i (λ t. let w = removed_is head r c t in o (w.2.0, get_below (membranes_of head) w.2.0 w.1 w.2.2, ap at (sym w.2.1) ∙ w.3)) in
        let here = below_forest h (f k ck) (roots k ck) c (rest k ck).forms down (to_flat k ck c root) d n above in
        let p = within_of h a (subst (λ (o : Option ℕ). IsSome o) (sym home) refl) in
        let q : In a (atoms_in h n) = (valid.sound.listed.atoms n a).1 (subst (λ z. place_of h a ≡ Some (within z)) (let g : ◌≡◌ {A = Option ℕ} (Some p.0) (Some n) = sym (place_home h a p.0 p.1) ∙ home in one_some p.0 n g) p.1) in
        of_round n a (inr (of_flat k ck n here)) q (λ t. let v = taken_home a t in item_apart v.0 v.1 k ck (subst (λ z. In z (r.left_membranes k)) (one_home n (at v.0) a q v.2) (of_flat k ck n here)))
      where
        one_some : (x y : ℕ) → ◌≡◌ {A = Option ℕ} (Some x) (Some y) → x ≡ y
        one_some x y e = (cc)

    pub stays : NoneLeaves h (r.left_atoms k)
    stays a i b j t e = from_rest b (em.closed k ck.membrane a i (b, j) ck.has ck.closed (to_rest a t) e)

    -- The rest is closed.
    pub is_closed : (c : Port → ℕ) → Names h c → IsClosed h (r.left_atoms k)
    is_closed c names = record {
      there = λ a i. is_atom (h.atoms a) (atom_placed a i);
      once = atoms_once;
      stays = stays;
      full = λ a i t l. let w = names.partner (a, i) (atom_placed a t, l) in subst (λ (o : Option Port). IsSome o) (sym w.2) refl;
    }
      where
        is_atom : (o : Option HeapAtom) → IsSome (option_and_then (λ x. home_by x.place) o) → IsSome o
        is_atom None i = absurd (cc)
        is_atom (Some x) i = refl

  -- Two rests have nothing in common.
  mems_apart : (fuel : ℕ) (j k : ℕ) → IsClosedMembrane j → IsClosedMembrane k → j ≢ k → (x : ℕ) → preorder h valid x < fuel → In x (r.left_membranes j) → In x (r.left_membranes k) → ⊥
  mems_apart zero j k cj ck d x l t u = absurd (omega (arith, l))
  mems_apart (suc fuel) j k cj ck d x l t u =
      let v = round j cj x t in
      let w = round k ck x u in
      let same : v.0 ≡ w.0 = one_parent v.0 w.0 x v.2 w.2 in
      let low = later h valid v.0 x v.2 in
      elim v.1 [
        | inl e ↦ elim w.1 [
          | inl g ↦ d (one_closed j k cj ck (e ∙ same ∙ sym g))
          | inr q ↦ head_apart (at j) (closed_image j cj) k ck (subst (λ z. In z (r.left_membranes k)) (sym (e ∙ same)) q)
        ]
        | inr p ↦ elim w.1 [
          | inl g ↦ head_apart (at k) (closed_image k ck) j cj (subst (λ z. In z (r.left_membranes j)) (same ∙ sym g) p)
          | inr q ↦ mems_apart fuel j k cj ck d v.0 (omega (arith, low, l)) p (subst (λ z. In z (r.left_membranes k)) (sym same) q)
        ]
      ]

  pub rounds_apart : (j k : ℕ) → IsClosedMembrane j → IsClosedMembrane k → j ≢ k → (q : ℕ) → In q (rest_membranes r j) → In q (rest_membranes r k) → ⊥
  rounds_apart j k cj ck d q (inl e) (inl g) = d (one_closed j k cj ck (e ∙ sym g))
  rounds_apart j k cj ck d q (inl e) (inr u) = head_apart (at j) (closed_image j cj) k ck (subst (λ z. In z (r.left_membranes k)) (sym e) u)
  rounds_apart j k cj ck d q (inr t) (inl g) = head_apart (at k) (closed_image k ck) j cj (subst (λ z. In z (r.left_membranes j)) (sym g) t)
  rounds_apart j k cj ck d q (inr t) (inr u) = mems_apart (suc (preorder h valid q)) j k cj ck d q (omega arith) t u

  -- All that is dropped

  abbrev pub ds : List ℕ
  ds = dropped_atoms r head

  abbrev pub dms : List ℕ
  dms = dropped_mems r head

  closed_at : (j : ℕ) (b : HeadMembrane) → slice_get (membranes_of head) j ≡ Some b → b.has_closed_context ≡ true → IsClosedMembrane (suc j)
  closed_at j b e c = record { membrane = b; has = (j, refl, e); closed = c }

  plus_one : (j : ℕ) → 1 + j ≡ suc j
  plus_one j = omega arith

  -- a dropped atom is one of the rest of some membrane
  pub dropped_atom : (a : ℕ) → In a ds → (k : ℕ) × IsClosedMembrane k × In a (r.left_atoms k)
  dropped_atom a i = let w = of_closed r.left_atoms 1 (membranes_of head) a i in (suc w.0, closed_at w.0 w.1 w.2 w.3, subst (λ z. In a (r.left_atoms z)) (plus_one w.0) w.4)

  pub dropped_mem : (x : ℕ) → In x dms → (k : ℕ) × IsClosedMembrane k × In x (r.left_membranes k)
  dropped_mem x i = let w = of_closed r.left_membranes 1 (membranes_of head) x i in (suc w.0, closed_at w.0 w.1 w.2 w.3, subst (λ z. In x (r.left_membranes z)) (plus_one w.0) w.4)

  -- and each of them is dropped
  pub atom_dropped : (k : ℕ) → IsClosedMembrane k → (a : ℕ) → In a (r.left_atoms k) → In a ds
  atom_dropped k ck a i = let w = ck.has in in_closed r.left_atoms 1 (membranes_of head) w.0 ck.membrane a w.2 ck.closed (subst (λ z. In a (r.left_atoms z)) (w.1 ∙ sym (plus_one w.0)) i)

  pub mem_dropped : (k : ℕ) → IsClosedMembrane k → (x : ℕ) → In x (r.left_membranes k) → In x dms
  mem_dropped k ck x i = let w = ck.has in in_closed r.left_membranes 1 (membranes_of head) w.0 ck.membrane x w.2 ck.closed (subst (λ z. In x (r.left_membranes z)) (w.1 ∙ sym (plus_one w.0)) i)

  pub drop_placed : (a : ℕ) → In a ds → IsInPlace h a
  drop_placed a i = let w = dropped_atom a i in atom_placed w.0 w.1 a w.2

  pub drop_apart : (a : ℕ) → In a ds → Taken a → ⊥
  drop_apart a i t = let w = dropped_atom a i in atom_apart w.0 w.1 a w.2 t

  pub drop_stays : NoneLeaves h ds
  drop_stays a i b j t e = let w = dropped_atom a t in atom_dropped w.0 w.1 b (stays w.0 w.1 a i b j w.2 e)

  not_same : (i j : ℕ) → i ≢ j → suc i ≢ suc j
  not_same i j d e = d (omega (arith, e))

  pub drop_once : Distinct ds
  drop_once = closed_once r.left_atoms 1 (membranes_of head) (λ j b e c. subst (λ z. Distinct (r.left_atoms z)) (sym (plus_one j)) (atoms_once (suc j) (closed_at j b e c)))
      (λ i j b c a e f p q d t u.
      let ci = closed_at i b e p in
      let cj = closed_at j c f q in
      let v = atom_round (suc i) ci a (subst (λ z. In a (r.left_atoms z)) (plus_one i) t) in
      let w = atom_round (suc j) cj a (subst (λ z. In a (r.left_atoms z)) (plus_one j) u) in
      rounds_apart (suc i) (suc j) ci cj (not_same i j d) v.0 v.1 (subst (λ z. In z (rest_membranes r (suc j))) (one_home w.0 v.0 a w.2 v.2) w.1))

  pub drop_mems_once : Distinct dms
  drop_mems_once = closed_once r.left_membranes 1 (membranes_of head) (λ j b e c. subst (λ z. Distinct (r.left_membranes z)) (sym (plus_one j)) (rest (suc j) (closed_at j b e c)).once)
      (λ i j b c x e f p q d t u. mems_apart (suc (preorder h valid x)) (suc i) (suc j) (closed_at i b e p) (closed_at j c f q) (not_same i j d) x (omega arith)
      (subst (λ z. In x (r.left_membranes z)) (plus_one i) t) (subst (λ z. In x (r.left_membranes z)) (plus_one j) u))

  pub drop_mem : (x : ℕ) → In x dms → IsMem h x
  drop_mem x i = let w = dropped_mem x i in rest_mem w.0 w.1 x w.2

  pub drop_mem_below : (x : ℕ) → In x dms → preorder h valid m < preorder h valid x
  drop_mem_below x i = let w = dropped_mem x i in rest_below w.0 w.1 x w.2

  -- no membrane of the head is dropped
  pub drop_mem_apart : (x : ℕ) → In x dms → In x ks → ⊥
  drop_mem_apart x i t = let w = dropped_mem x i in head_apart x t w.0 w.1 w.2

  -- the membranes that hold rests
  abbrev pub Holds : ℕ → Type 0
  Holds q = (k : ℕ) × IsClosedMembrane k × In q (rest_membranes r k)

  -- an atom that stands in none of them isn't dropped
  pub home_of_dropped : (a q : ℕ) → In a ds → In a (atoms_in h q) → Holds q
  home_of_dropped a q i j = let w = dropped_atom a i in let v = atom_round w.0 w.1 a w.2 in (w.0, w.1, subst (λ z. In z (rest_membranes r w.0)) (one_home v.0 q a v.2 j) v.1)
