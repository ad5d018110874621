-- The atoms with a functor in the membranes of a tree are those that stand in membranes.
use Rattle.std.proofs.Common.{ℕ, ◌≡◌, ◌≢◌, inl, inr, Bool, true, false, cond, List, [], ◌∷◌, ◌++◌, length, length-append, Option, Some, None, refl, sym, ap, subst, ◌∙◌, arith}
use Rattle.std.specs.List.{filter}
use Rattle.std.specs.Option.{option_map}
use Rattle.lmn_base.specs.declared.functor.Functor.{Functor}
use Rattle.lmn_base.specs.Lists.{In}
use Rattle.lmn_base.proofs.Lists.{in_either}
use Rattle.lmn_base.proofs.Truth.{and_true}
use Rattle.lmn_store_heap.specs.Functors.{same_functor, is_of, with_functor}
use Rattle.lmn_store_heap.specs.Heap.{Heap, HeapAtom, Place, top, within, waiting, gone, atoms_in, functor_of, place_of}
use Rattle.lmn_store_heap.specs.Lists.{Distinct}
use Rattle.lmn_store_heap.specs.Sound.{Forest, IsTree, Listed, Valid, flat}
use Rattle.lmn_store_heap.proofs.Depths.{both_distinct}
use Rattle.lmn_store_heap.proofs.Filters.{distinct_filter, filter_in, in_filter}
use Rattle.lmn_store_heap.proofs.ListLemmas.{each_in, in_left, in_right}
use Rattle.lmn_store_heap.proofs.Listing.{listed_mem, within_same}
use Rattle.lmn_store_heap.proofs.Pigeonholes.{not_longer}
use Rattle.lmn_debug_counting.specs.Counts.{count_in}
use Rattle.lmn_debug_counting.specs.Tallies.{AreThose, IsKept, is_within, stands_as}
use Rattle.lmn_debug_counting.specs.declared.tally.Tally.{Tally}

-- those with the functor are those that pass a test
with_is_filter : (h : Heap) (f : Functor) (xs : List ℕ) → with_functor h f xs ≡ filter (λ a. is_of (functor_of h a) f) xs
with_is_filter h f [] = refl
with_is_filter h f (a ∷ xs) = by (is_of (functor_of h a) f) (with_is_filter h f xs)
  where
    by : (b : Bool) → with_functor h f xs ≡ filter (λ a. is_of (functor_of h a) f) xs
        → cond b (a ∷ with_functor h f xs) (with_functor h f xs) ≡ cond b (a ∷ filter (λ a. is_of (functor_of h a) f) xs) (filter (λ a. is_of (functor_of h a) f) xs)
    by true same = ap (λ ys. a ∷ ys) same
    by false same = same

-- an atom in a membrane with the functor stands so
stands_here : (f : Functor) (m : ℕ) (o : Option HeapAtom) → option_map (λ x. x.place) o ≡ Some (within m) → is_of (option_map (λ x. x.functor) o) f ≡ true → stands_as f o ≡ true
stands_here f m None e s = absurd (cc)
stands_here f m (Some x) e s = let p : x.place ≡ within m = cc in rw p s

-- and one that stands so is in a membrane, with the functor
is_here : (f : Functor) (o : Option HeapAtom) → stands_as f o ≡ true → ((m : ℕ) × (option_map (λ x. x.place) o ≡ Some (within m))) × (is_of (option_map (λ x. x.functor) o) f ≡ true)
is_here f None s = absurd (cc)
is_here f (Some x) s =
    let w = and_true (is_within x.place) (same_functor x.functor f) s in
    let p = at x.place w.0 in
    ((p.0, ap Some p.1), w.1)
  where
    at : (p : Place) → is_within p ≡ true → (m : ℕ) × (p ≡ within m)
    at top e = absurd (cc)
    at (within m) e = (m, refl)
    at waiting e = absurd (cc)
    at gone e = absurd (cc)

module _ (h : Heap) (listed : Listed h) (f : Functor) where
  -- all of some membranes
  abbrev all_with : List ℕ → List ℕ
  all_with [] = []
  all_with (m ∷ ms) = with_functor h f (atoms_in h m) ++ all_with ms

  how_many : (ms : List ℕ) → length (all_with ms) ≡ count_in h f ms
  how_many [] = refl
  how_many (m ∷ ms) =
      let a = length-append (with_functor h f (atoms_in h m)) (all_with ms) in
      let b = how_many ms in
      omega (arith, a, b)

  -- one of a membrane
  here : (m a : ℕ) → In a (with_functor h f (atoms_in h m)) → (place_of h a ≡ Some (within m)) × (is_of (functor_of h a) f ≡ true)
  here m a i =
      let r = in_filter (λ a. is_of (functor_of h a) f) a (atoms_in h m) (subst (In a) (with_is_filter h f (atoms_in h m)) i) in
      ((listed.atoms m a).0 r.0, r.1)

  -- one of all
  one_of : (ms : List ℕ) (a : ℕ) → In a (all_with ms) → (m : ℕ) × In m ms × (place_of h a ≡ Some (within m)) × (is_of (functor_of h a) f ≡ true)
  one_of [] a i = absurd i
  one_of (m ∷ ms) a i = elim (in_either a (with_functor h f (atoms_in h m)) (all_with ms) i) [
    | inl j ↦ (let w = here m a j in (m, inl refl, w.0, w.1))
    | inr j ↦ (let w = one_of ms a j in (w.0, inr w.1, w.2, w.3))
  ]

  among : (ms : List ℕ) (m a : ℕ) → In m ms → place_of h a ≡ Some (within m) → is_of (functor_of h a) f ≡ true → In a (all_with ms)
  among [] m a i p s = absurd i
  among (k ∷ ms) m a (inl e) p s =
      in_left a (with_functor h f (atoms_in h k)) (all_with ms)
      (subst (In a) (sym (with_is_filter h f (atoms_in h k)))
      (filter_in (λ a. is_of (functor_of h a) f) a (atoms_in h k) ((listed.atoms k a).1 (p ∙ ap (λ j. Some (within j)) (sym e))) s))
  among (k ∷ ms) m a (inr i) p s = in_right a (with_functor h f (atoms_in h k)) (all_with ms) (among ms m a i p s)

  once_each : (ms : List ℕ) → Distinct ms → Distinct (all_with ms)
  once_each [] d = tt
  once_each (m ∷ ms) d =
      both_distinct (with_functor h f (atoms_in h m)) (all_with ms)
      (subst Distinct (sym (with_is_filter h f (atoms_in h m))) (distinct_filter (λ a. is_of (functor_of h a) f) (atoms_in h m) (listed.atoms_once m)))
      (once_each ms d.1)
      (λ a i j. let w = one_of ms a j in
      let e : Some (within m) ≡ Some (within w.0) = sym (here m a i).0 ∙ w.2 in
      let p : within m ≡ within w.0 = cc in
      each_in (λ y. m ≢ y) ms w.0 d.0 w.1 (within_same m w.0 p))

  -- those of a tree are all
  those : (t : Forest) → IsTree h t → AreThose h.atoms f (all_with (flat t))
  those t tree = record { once = once_each (flat t) tree.once; all = λ a. (back a, forth a) }
    where
      back : (a : ℕ) → In a (all_with (flat t)) → stands_as f (h.atoms a) ≡ true
      back a i = let w = one_of (flat t) a i in stands_here f w.0 (h.atoms a) w.2 w.3

      forth : (a : ℕ) → stands_as f (h.atoms a) ≡ true → In a (all_with (flat t))
      forth a s =
          let w = is_here f (h.atoms a) s in
          let m = w.0.0 in
          let there : In a (atoms_in h m) = (listed.atoms m a).1 w.0.1 in
          among (flat t) m a (tree.all m (listed_mem h m a there)) w.0.1 w.1

-- What is kept is the number in the tree,
pub count_kept : (h : Heap) → Valid h → (f : Functor) (n : ℕ) (o : Option Tally) → IsKept h.atoms o → o ≡ Some (record { functor = f; count = n }) → (t : Forest) → IsTree h t → n ≡ count_in h f (flat t)
count_kept h valid f n o k e t tree =
    let kept : IsKept h.atoms (Some (record { functor = f; count = n })) = subst (IsKept h.atoms) e k in
    kept (all_with h valid.sound.listed f (flat t)) (those h valid.sound.listed f t tree) ∙ how_many h valid.sound.listed f (flat t)

-- and the number in the tree may be kept
pub kept_anew : (h : Heap) → Valid h → (f : Functor) (n : ℕ) → ((t : Forest) → IsTree h t → n ≡ count_in h f (flat t)) → IsKept h.atoms (Some (record { functor = f; count = n }))
kept_anew h valid f n counts xs w =
    let t = valid.tree.0 in
    let tree = valid.tree.1 in
    let all = those h valid.sound.listed f t tree in
    let ys = all_with h valid.sound.listed f (flat t) in
    let a = not_longer xs ys w.once (λ b i. (all.all b).1 ((w.all b).0 i)) in
    let b = not_longer ys xs all.once (λ b i. (w.all b).1 ((all.all b).0 i)) in
    let c = how_many h valid.sound.listed f (flat t) in
    let e = counts t tree in
    omega (arith, a, b, c, e)
