-- The first awake membrane, by the index.
use Rattle.std.proofs.Common.{ℕ, zero, suc, ◌≡◌, ◌≢◌, ◌<◌, ◌≤◌, ◌==◌, true, false, List, [], ◌∷◌, length, map, Option, Some, None, refl, sym, ap, subst, ◌∙◌, arith, max}
use Rattle.std.proofs.lemmas.Bool.{eq-eqb, eqb-true}
use Rattle.std.proofs.Math.Nat.{le-max_left, le-max_right, max-le}
use Rattle.std.proofs.lemmas.Option.{slice_get-map, same_Some}
use Rattle.std.specs.Prelude.{slice_get}
use Rattle.std.specs.Option.{option_map}
use Rattle.lmn_base.specs.Lists.{In}
use Rattle.lmn_base.proofs.Lists.{get_below, get_map as image_of}
use Rattle.lmn_store_heap.specs.Heap.{Heap, Distinct, IsMem, top, within, mems_in, mem_mark_of}
use Rattle.lmn_store_heap.specs.Sound.{Sound, Forest, bare, mem, Forms, IsTree, flat}
use Rattle.lmn_store_heap.proofs.Common.{in_at}
use Rattle.lmn_store_heap.proofs.ListLemmas.{each_in}
use Rattle.lmn_store_heap.proofs.Heights.{mem_of_place}
use Rattle.lmn_store_heap.proofs.Trees.{is_mem}
use Rattle.lmn_store_web_preorder.specs.Nests.{Nest, IsTop, IsTreeOf, IsFirstAwake, IsAwakeFrom}
use Rattle.lmn_store_web_preorder.proofs.Keyed.{keyed, keyed_flat, keyed_forms}
use Rattle.lmn_store_trait.specs.Awake.{NoneAwake, IsNextAwake}
use Rattle.lmn_store_web.specs.Indexes.{IsIndexed}
use Rattle.lmn_store_web.proofs.IndexLemmas.{below, nest_alone}

-- what stands at a place of the images of a list
image_at : (key : ℕ → ℕ) (ms : List ℕ) (i k : ℕ) → slice_get (map key ms) i ≡ Some k → (m : ℕ) × (slice_get ms i ≡ Some m) × (key m ≡ k)
image_at key ms i k e = by (slice_get ms i) refl (sym (slice_get-map key ms i) ∙ e)
  where
    by : (o : Option ℕ) → slice_get ms i ≡ o → option_map key o ≡ Some k → (m : ℕ) × (slice_get ms i ≡ Some m) × (key m ≡ k)
    by None f q = absurd (cc)
    by (Some m) f q = (m, f, (cc))

-- what is first in a list without repeats stands nowhere else
behind : (xs : List ℕ) (r : ℕ) → Distinct xs → slice_get xs 0 ≡ Some r → (i : ℕ) → 1 ≤ i → slice_get xs i ≡ Some r → ⊥
behind [] r d e i low at = absurd (cc)
behind (x ∷ xs) r d e zero low at = omega (arith, low)
behind (x ∷ xs) r d e (suc i) low at = each_in (λ y. x ≢ y) xs r d.0 (in_at xs i r at) (same_Some x r e)

module _ (holds : Nest → Type 0) (cells : List ℕ) (key : ℕ → ℕ) (h : Heap) (x : IsIndexed holds cells key h) (sound : Sound h) where
  -- the root is a key that stands in no other
  pub root_top : (k : ℕ) → key h.root ≡ k → (k < x.nest.keys) × IsTop x.nest k
  root_top k e =
      let place = (sound.listed.root h.root).1 refl in
      let there = mem_of_place h h.root top place in
      let alone : (y : ℕ) → In h.root (mems_in h y) → ⊥ = λ y i. (let z : Some top ≡ Some (within y) = sym place ∙ (sound.listed.mems y h.root).0 i in absurd (cc)) in
      subst (λ z. (z < x.nest.keys) × IsTop x.nest z) e (below holds cells key h x h.root there, nest_alone holds cells key h x sound.listed h.root there alone)

  module _ (f : Forest) (t : IsTree h f) where
    member : (m : ℕ) → In m (flat f) → IsMem h m
    member m i = is_mem h sound f t m i

    -- the tree of the heap, by keys
    pub root_tree : (k : ℕ) → key h.root ≡ k → IsTreeOf x.nest.inside (keyed key f) k
    root_tree k e = subst (λ z. IsTreeOf x.nest.inside (keyed key f) z) e (keyed_forms h key x.nest.inside f (h.root ∷ []) (λ m i. x.agrees.inside m (member m i)) t.forms)

    -- the root has the first number of the tree
    pub root_number : slice_get (flat f) 0 ≡ Some h.root
    root_number = by f t.forms
      where
        by : (g : Forest) → Forms h g (h.root ∷ []) → slice_get (flat g) 0 ≡ Some h.root
        by bare F = absurd (cc)
        by (mem k i r) F = let e : k ≡ h.root = (let w : h.root ∷ [] ≡ k ∷ F.0 = F.1 in cc) in ap Some e

    -- and no other
    no_root : (i m : ℕ) → 1 ≤ i → slice_get (flat f) i ≡ Some m → m ≢ h.root
    no_root i m low e q = behind (flat f) h.root t.once root_number i low (e ∙ ap Some q)

    awake_key : (i m : ℕ) → 1 ≤ i → slice_get (flat f) i ≡ Some m → x.nest.awake (key m) ≡ (mem_mark_of h m == 0)
    awake_key i m low e = x.agrees.awake m (member m (in_at (flat f) i m e)) (no_root i m low e)

    module _ (start : ℕ) where
      -- a root that is awake is the first from 0 on
      pub root_told : start ≡ 0 → mem_mark_of h h.root ≡ 0 → IsNextAwake h (flat f) start 0 h.root
      root_told e awake = record {
        least = omega (arith, e);
        is = root_number;
        awake = awake;
        none = λ i m low high s zero. omega (arith, high);
      }

      -- else the index is asked, from 1 on
      module _ (sleeps : start ≡ 0 → mem_mark_of h h.root ≢ 0) (least : ℕ) (from : least ≡ max start 1) where
        one : 1 ≤ least
        one = let g = le-max_right start 1 in omega (arith, from, g)

        since : start ≤ least
        since = let g = le-max_left start 1 in omega (arith, from, g)

        -- a number from `start` on is the root's, which sleeps, or one from there on
        next : (i m : ℕ) → start ≤ i → slice_get (flat f) i ≡ Some m → mem_mark_of h m ≡ 0 → least ≤ i
        next zero m low e zero_mark = let same : m ≡ h.root = same_Some m h.root (sym e ∙ root_number) in absurd (sleeps (omega (arith, low)) (sym (ap (mem_mark_of h) same) ∙ zero_mark))
        next (suc i) m low e zero_mark = subst (λ z. z ≤ suc i) (sym from) (max-le low (omega arith))

        asleep : (i m : ℕ) → least ≤ i → slice_get (flat f) i ≡ Some m → x.nest.awake (key m) ≡ false → mem_mark_of h m ≢ 0
        asleep i m low e a zero_mark =
            let b : (mem_mark_of h m == 0) ≡ true = eq-eqb (mem_mark_of h m) 0 zero_mark in
            let first = one in
            let c : true ≡ false = sym b ∙ sym (awake_key i m (omega (arith, low, first)) e) ∙ a in absurd (cc)

        -- where the index tells none, none is awake
        pub none_told : IsFirstAwake x.nest.awake (flat (keyed key f)) least None → NoneAwake h (flat f) start (length (flat f))
        none_told none i m low high e zero_mark =
            let far = next i m low e zero_mark in
            asleep i m far e (none i (key m) far (ap (λ ks. slice_get ks i) (keyed_flat key f) ∙ image_of key (flat f) i m e)) zero_mark

        -- the key that it tells is that of a membrane
        told : (n k : ℕ) → IsAwakeFrom x.nest.awake (flat (keyed key f)) least n k → (m : ℕ) × (slice_get (flat f) n ≡ Some m) × (key m ≡ k)
        told n k r = image_at key (flat f) n k (ap (λ ks. slice_get ks n) (sym (keyed_flat key f)) ∙ r.there)

        pub told_low : (n k : ℕ) → IsAwakeFrom x.nest.awake (flat (keyed key f)) least n k → k < length cells
        told_low n k r = let m = told n k r in subst (λ z. z < length cells) m.2 (get_below cells (key m.0) m.0 (x.cells m.0 (member m.0 (in_at (flat f) n m.0 m.1))))

        -- which is the first that is awake
        pub some_told : (n k c : ℕ) → IsAwakeFrom x.nest.awake (flat (keyed key f)) least n k → slice_get cells k ≡ Some c → IsNextAwake h (flat f) start n c
        some_told n k c r at =
            let m = told n k r in
            let cell : slice_get cells k ≡ Some m.0 = subst (λ z. slice_get cells z ≡ Some m.0) m.2 (x.cells m.0 (member m.0 (in_at (flat f) n m.0 m.1))) in
            let same : m.0 ≡ c = same_Some m.0 c (sym cell ∙ at) in
            let first = one in
            let low = r.least in
            let begun = since in
            subst (λ z. IsNextAwake h (flat f) start n z) same (record {
              least = omega (arith, low, begun);
              is = m.1;
              awake = eqb-true (mem_mark_of h m.0) 0 (sym (awake_key n m.0 (omega (arith, low, first)) m.1) ∙ ap x.nest.awake m.2 ∙ r.awake);
              none = λ i y from_start high e zero_mark.
                  let far = next i y from_start e zero_mark in
                  asleep i y far e (r.first i (key y) far high (ap (λ ks. slice_get ks i) (keyed_flat key f) ∙ image_of key (flat f) i y e)) zero_mark;
            })
