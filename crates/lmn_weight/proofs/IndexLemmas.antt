-- The functors of weights by a rising order, and what is found by it.
use Rattle.std.proofs.Common.{ℕ, zero, suc, ℤ, pos, ◌≡◌, ◌<◌, ◌≤◌, ◌+◌, ◌⊎◌, inl, inr, Bool, true, false, List, [], ◌∷◌, ◌++◌, drop, length, get_or, map, take, refl, sym, ap, subst, ◌∙◌, arith, if◌then◌else◌}
use Rattle.std.specs.Cmp.{IsTotalOrder, bool_cmp_total, nat_cmp_is}
use Rattle.std.specs.declared.cmp.Ordering.{Ordering}
use Rattle.std.specs.declared.cmp.Ordering.TheVariants.{Less, Equal, Greater}
use Rattle.std.specs.List.Sorted.{IsPartitionedBy, IsPermutation, IsSorted}
use Rattle.std.specs.Ordering.{bool_cmp, int_cmp, is_eq, is_lt, nat_cmp, ordering_reverse, ordering_then}
use Rattle.std.proofs.Math.Nat.{zero-add}
use Rattle.std.proofs.lemmas.Bool.{cases_lt}
use Rattle.std.proofs.lemmas.Bool.Decides.{Decides-int_eq}
use Rattle.std.proofs.lemmas.Cmp.{int_cmp_total, nat_cmp_total, on_total, then_total}
use Rattle.std.proofs.lemmas.List.{get_or-map, length-map, map-id, take_at}
use Rattle.std.proofs.lemmas.List.FromFn.{get_or-range_with_len, length-range_with_len, map-range_with_len_more}
use Rattle.std.proofs.lemmas.List.Sorted.{Contains-permutation, IsPermutation-sym, length_permutation}
use Rattle.std.specs.List.{range_with_len}
use Rattle.std.proofs.lemmas.Map.Keys.{ge_from_not_lt}
use Rattle.std.proofs.lemmas.Map.Lookups.{exact_unsigned}
use Rattle.lmn_base.specs.declared.functor.Functor.{Functor}
use Rattle.lmn_base.specs.declared.functor.Label.{Label}
use Rattle.lmn_base.specs.declared.functor.Label.TheVariants.{Int, Name}
use Rattle.lmn_store_heap.proofs.WithFunctor.{functor_is, functor_same}
use Rattle.lmn_store_heap.specs.Functors.{same_functor}
use Rattle.lmn_weight.specs.declared.index.Entry.{Entry}
use Rattle.lmn_weight.specs.Index.{IsFirstPlace, IsIndexOf, IsRising, entry_at, entry_cmp, entry_of, is_at, label_number}
use Rattle.lmn_weight.specs.Plains.{is_integer_label, listed_weight}
use Rattle.lmn_base.proofs.Lists.{read_as as any_default}

-- ---- the order

then_equal : (a b : Ordering) → ordering_then a b ≡ Equal → (a ≡ Equal) × (b ≡ Equal)
then_equal Less b e = absurd (cc)
then_equal Equal b e = (refl, e)
then_equal Greater b e = absurd (cc)

then_twice : (a b c : Ordering) → ordering_then a (ordering_then b c) ≡ ordering_then (ordering_then a b) c
then_twice Less b c = refl
then_twice Equal b c = refl
then_twice Greater b c = refl

-- functors by their labels and then by their arities
abbrev label_cmp : Label → Label → Ordering
label_cmp k l = ordering_then (bool_cmp (is_integer_label k) (is_integer_label l)) (int_cmp (label_number k) (label_number l))

abbrev functor_cmp : Functor → Functor → Ordering
functor_cmp f g = ordering_then (label_cmp f.label g.label) (nat_cmp f.arity g.arity)

functors_total : IsTotalOrder functor_cmp
functors_total = then_total (then_total (on_total (λ f. is_integer_label f.label) bool_cmp_total) (on_total (λ f. label_number f.label) int_cmp_total)) (on_total (λ f. f.arity) nat_cmp_total)

-- entries are ordered
pub entries_total : IsTotalOrder entry_cmp
entries_total = then_total (on_total (λ e. e.is_integer) bool_cmp_total) (then_total (on_total (λ e. e.number) int_cmp_total) (then_total (on_total (λ e. e.arity) nat_cmp_total) (on_total (λ e. e.place) nat_cmp_total)))

-- entries are compared by their functors, and then by their places
entries_compared : (f g : Functor) (k m : ℕ) → entry_cmp (entry_of f k) (entry_of g m) ≡ ordering_then (functor_cmp f g) (nat_cmp k m)
entries_compared f g k m =
    let a = bool_cmp (is_integer_label f.label) (is_integer_label g.label) in
    let b = int_cmp (label_number f.label) (label_number g.label) in
    let c = nat_cmp f.arity g.arity in
    let d = nat_cmp k m in
    then_twice a b (ordering_then c d) ∙ then_twice (ordering_then a b) c d

one_integer : (y z : ℤ) → int_cmp y z ≡ Equal → y ≡ z
one_integer y z h = (Decides-int_eq y z).0 (ap is_eq h)

one_label : (k l : Label) → bool_cmp (is_integer_label k) (is_integer_label l) ≡ Equal → int_cmp (label_number k) (label_number l) ≡ Equal → k ≡ l
one_label (Name m) (Name n) e h = let same : pos m ≡ pos n = one_integer (pos m) (pos n) h in ap Name (let r : m ≡ n = cc in r)
one_label (Name m) (Int z) e h = absurd (cc)
one_label (Int y) (Name n) e h = absurd (cc)
one_label (Int y) (Int z) e h = ap Int (one_integer y z h)

one_functor : (f g : Functor) → functor_cmp f g ≡ Equal → f ≡ g
one_functor f g e =
    let parts = then_equal (label_cmp f.label g.label) (nat_cmp f.arity g.arity) e in
    let label = then_equal (bool_cmp (is_integer_label f.label) (is_integer_label g.label)) (int_cmp (label_number f.label) (label_number g.label)) parts.0 in
    let labels = one_label f.label g.label label.0 label.1 in
    let arities = exact_unsigned f.arity g.arity parts.1 in
    λ i. record { label = labels i; arity = arities i }

-- ---- a total order

module _ {K : Type 0} (R : K → K → Ordering) (o : IsTotalOrder R) where
  not_below_itself : (x : K) → is_lt (R x x) ≡ false
  not_below_itself x = by (R x x) (o.antisymm x x)
    where
      by : (a : Ordering) → a ≡ ordering_reverse a → is_lt a ≡ false
      by Less e = absurd (cc)
      by Equal e = refl
      by Greater e = refl

  less : (a : Ordering) → is_lt a ≡ true → a ≡ Less
  less Less e = refl
  less Equal e = absurd (cc)
  less Greater e = absurd (cc)

  -- what is below something is below all that isn't below that
  below_more : (x y z : K) → is_lt (R x y) ≡ true → is_lt (R z y) ≡ false → is_lt (R x z) ≡ true
  below_more x y z h k = by (R z y) refl k
    where
      low : R x y ≡ Less
      low = less (R x y) h

      by : (a : Ordering) → R z y ≡ a → is_lt a ≡ false → is_lt (R x z) ≡ true
      by Less e k = absurd (cc)
      by Equal e k = ap is_lt (o.antisymm x z ∙ ap ordering_reverse (o.congr z y x e) ∙ sym (o.antisymm x y) ∙ low)
      by Greater e k = ap is_lt (o.trans x y z low (o.antisymm y z ∙ ap ordering_reverse e))

  -- in a rising list nothing is below what stands before it
  not_below : (xs : List K) → IsSorted R xs → (i n : ℕ) (d : K) → i + n < length xs → is_lt (R (get_or xs (i + n) d) (get_or xs i d)) ≡ false
  not_below xs s i zero d l = ap (λ j. is_lt (R (get_or xs j d) (get_or xs i d))) (let e : i + 0 ≡ i = omega arith in e) ∙ not_below_itself (get_or xs i d)
  not_below xs s i (suc n) d l = by (is_lt (R (get_or xs (i + suc n) d) (get_or xs i d))) refl (not_below xs s i n d (omega (arith, l)))
    where
      last : is_lt (R (get_or xs (i + n + 1) d) (get_or xs (i + n) d)) ≡ false
      last = s (i + n) d (omega arith) (omega (arith, l))

      by : (b : Bool) → is_lt (R (get_or xs (i + suc n) d) (get_or xs i d)) ≡ b → is_lt (R (get_or xs (i + n) d) (get_or xs i d)) ≡ false → is_lt (R (get_or xs (i + suc n) d) (get_or xs i d)) ≡ false
      by false e h = e
      by true e h =
          let same : i + suc n ≡ i + n + 1 = omega arith in
          let low = below_more (get_or xs (i + suc n) d) (get_or xs i d) (get_or xs (i + n) d) e h in
          absurd (let z = sym low ∙ ap (λ j. is_lt (R (get_or xs j d) (get_or xs (i + n) d))) same ∙ last in cc)

  not_below_at : (xs : List K) → IsSorted R xs → (i j : ℕ) (d : K) → i ≤ j → j < length xs → is_lt (R (get_or xs j d) (get_or xs i d)) ≡ false
  not_below_at xs s i j d h l =
      let n : (n : ℕ) × (i + n ≡ j) = rest i j h in
      subst (λ k. is_lt (R (get_or xs k d) (get_or xs i d)) ≡ false) n.1 (not_below xs s i n.0 d (let e = n.1 in omega (arith, e, l)))
    where
      rest : (i j : ℕ) → i ≤ j → (n : ℕ) × (i + n ≡ j)
      rest zero j h = (j, omega arith)
      rest (suc i) zero h = absurd (omega (arith, h))
      rest (suc i) (suc j) h = let r = rest i j (omega (arith, h)) in (r.0, (let e = r.1 in omega (arith, e)))

  -- so what is below something stands at its front
  pub front_is_below : (xs : List K) → IsSorted R xs → (w : K) → IsPartitionedBy (λ x. is_lt (R x w)) xs
  front_is_below xs s w i j d h l e = by (is_lt (R (get_or xs i d) w)) refl
    where
      by : (b : Bool) → is_lt (R (get_or xs i d) w) ≡ b → is_lt (R (get_or xs i d) w) ≡ true
      by true f = f
      by false f = absurd (let z = sym (below_more (get_or xs j d) w (get_or xs i d) e f) ∙ not_below_at xs s i j d h l in cc)

-- ---- places, and what stands there

-- what stands at each of the places
abbrev entries_at : List Functor → List ℕ → List Entry
entries_at fs ps = map (entry_at fs) ps

entry_read : (fs : List Functor) (ps : List ℕ) (i : ℕ) (e : Entry) → i < length ps → get_or (entries_at fs ps) i e ≡ entry_at fs (get_or ps i 0)
entry_read fs ps i e l = get_or-map (entry_at fs) ps i 0 e l

entries_size : (fs : List Functor) (ps : List ℕ) → length (entries_at fs ps) ≡ length ps
entries_size fs ps = length-map ps (entry_at fs)

-- at rising places the entries rise
entries_rise : (fs : List Functor) (ps : List ℕ) → IsRising fs ps → IsSorted entry_cmp (entries_at fs ps)
entries_rise fs ps h k e z l =
    let size = entries_size fs ps in
    let low = entry_read fs ps k e (omega (arith, l, size)) in
    let high = entry_read fs ps (k + 1) e (omega (arith, l, size)) in
    ap is_lt (λ i. entry_cmp (high i) (low i)) ∙ h k 0 z (omega (arith, l, size))

-- what is below something stands at the front of such places
pub places_below : (fs : List Functor) (ps : List ℕ) → IsRising fs ps → (w : Entry) → IsPartitionedBy (λ k. is_lt (entry_cmp (entry_at fs k) w)) ps
places_below fs ps h w i j d le l e =
    let size = entries_size fs ps in
    let at : (k : ℕ) → k < length ps → get_or (entries_at fs ps) k (entry_at fs d) ≡ entry_at fs (get_or ps k d) = λ k s. get_or-map (entry_at fs) ps k d (entry_at fs d) s in
    let low : is_lt (entry_cmp (get_or (entries_at fs ps) j (entry_at fs d)) w) ≡ true = ap (λ x. is_lt (entry_cmp x w)) (at j l) ∙ e in
    sym (ap (λ x. is_lt (entry_cmp x w)) (at i (omega (arith, le, l)))) ∙ front_is_below entry_cmp entries_total (entries_at fs ps) (entries_rise fs ps h) w i j (entry_at fs d) le (omega (arith, l, size)) low

-- one place more
pub one_place_more : (n : ℕ) → range_with_len 0 n ++ n ∷ [] ≡ range_with_len 0 (n + 1)
one_place_more n =
    let longer = map-range_with_len_more (λ (k : ℕ). k) 0 n n (zero-add n) in
    sym (sym (map-id (range_with_len 0 (n + 1))) ∙ longer ∙ ap (λ ps. ps ++ n ∷ []) (map-id (range_with_len 0 n)))

-- all places, sorted, are an index
pub sorted_index : (fs : List Functor) (ps qs : List ℕ) (n : ℕ) → ps ≡ range_with_len 0 n → n ≡ length fs → IsPermutation ps qs → IsRising fs qs → IsIndexOf fs (take (length ps) (qs ++ drop (length qs) ps))
sorted_index fs ps qs n all same of rising =
    let size = length_permutation ps qs of in
    let whole : qs ≡ take (length ps) (qs ++ drop (length qs) ps) = sym (take_at qs (drop (length qs) ps) (length ps) size) in
    subst (IsIndexOf fs) whole (record { of = subst (λ xs. IsPermutation xs qs) (all ∙ ap (range_with_len 0) same) of; rising = rising })

module _ (fs : List Functor) (ps : List ℕ) (index : IsIndexOf fs ps) (d : Functor) where
  -- each place is one of the functors, so each entry is of a functor at its place
  entry_is : (i : ℕ) (e : Entry) → i < length ps → (m : ℕ) × (m < length fs) × (m ≡ get_or ps i 0) × (get_or (entries_at fs ps) i e ≡ entry_of (get_or fs m d) m)
  entry_is i e l =
      let m = get_or ps i 0 in
      let there = Contains-permutation ps (range_with_len 0 (length fs)) m (IsPermutation-sym (range_with_len 0 (length fs)) ps index.of) (i, l, any_default ps i m 0 l) in
      let size = length-range_with_len 0 (length fs) in
      let few : there.0 < length fs = (let n = there.1 in omega (arith, n, size)) in
      let same : m ≡ 0 + there.0 = sym there.2 ∙ get_or-range_with_len 0 (length fs) there.0 m few in
      let within : m < length fs = omega (arith, same, few) in
      (m, within, refl, entry_read fs ps i e l ∙ ap (λ f. entry_of f m) (any_default fs m _ d within))

  -- and each functor has its entry
  entry_of_place : (m : ℕ) → m < length fs → (i : ℕ) × (i < length ps) × (get_or (entries_at fs ps) i (entry_of (get_or fs m d) m) ≡ entry_of (get_or fs m d) m)
  entry_of_place m l =
      let size = length-range_with_len 0 (length fs) in
      let own : get_or (range_with_len 0 (length fs)) m m ≡ m = get_or-range_with_len 0 (length fs) m m l ∙ zero-add m in
      let there = Contains-permutation (range_with_len 0 (length fs)) ps m index.of (m, omega (arith, size, l), own) in
      let place : get_or ps there.0 0 ≡ m = any_default ps there.0 0 m there.1 ∙ there.2 in
      (there.0, there.1, entry_read fs ps there.0 _ there.1 ∙ ap (entry_at fs) place ∙ ap (λ f. entry_of f m) (any_default fs m _ d l))

-- ---- what is found

-- between an entry of a functor at 0 and one at k stand such entries alone
between : (f g : Functor) (k m : ℕ) → is_lt (entry_cmp (entry_of g m) (entry_of f 0)) ≡ false → is_lt (entry_cmp (entry_of f k) (entry_of g m)) ≡ false → (g ≡ f) × (m ≤ k)
between f g k m low high = by (functor_cmp g f) refl (sym (ap is_lt (entries_compared g f m 0)) ∙ low) (sym (ap is_lt (entries_compared f g k m)) ∙ high)
  where
    by : (a : Ordering) → functor_cmp g f ≡ a → is_lt (ordering_then (functor_cmp g f) (nat_cmp m 0)) ≡ false → is_lt (ordering_then (functor_cmp f g) (nat_cmp k m)) ≡ false → (g ≡ f) × (m ≤ k)
    by Less e h j = absurd (let z = sym h ∙ ap (λ a. is_lt (ordering_then a (nat_cmp m 0))) e in cc)
    by Greater e h j = absurd (
        let back : functor_cmp f g ≡ Less = functors_total.antisymm f g ∙ ap ordering_reverse e in
        let z = sym j ∙ ap (λ a. is_lt (ordering_then a (nat_cmp k m))) back in
        cc
        )
    by Equal e h j =
        let back : functor_cmp f g ≡ Equal = functors_total.antisymm f g ∙ ap ordering_reverse e in
        (one_functor g f e, ge_from_not_lt k m (sym (ap (λ a. is_lt (ordering_then a (nat_cmp k m))) back) ∙ j))

-- a functor isn't below its entry at 0
not_below_first : (f : Functor) (k : ℕ) → is_lt (entry_cmp (entry_of f k) (entry_of f 0)) ≡ false
not_below_first f k = ap is_lt (entries_compared f f k 0) ∙ by (functor_cmp f f) (not_below_itself functor_cmp functors_total f)
  where
    zero_least : (k : ℕ) → is_lt (nat_cmp k 0) ≡ false
    zero_least zero = refl
    zero_least (suc k) = sym (ap is_lt (nat_cmp_is (suc k) 0 Greater (omega arith)))

    by : (a : Ordering) → is_lt a ≡ false → is_lt (ordering_then a (nat_cmp k 0)) ≡ false
    by Less e = absurd (cc)
    by Equal e = zero_least k
    by Greater e = refl

listed_first : (gs : List Functor) (vs : List ℕ) (f : Functor) (m : ℕ) → length gs ≡ length vs → m < length gs → is_at gs m f ≡ true → ((k : ℕ) → k < length gs → is_at gs k f ≡ true → m ≤ k) → listed_weight gs vs f ≡ get_or vs m 0
listed_first [] vs f m s l e first = absurd (omega (arith, l))
listed_first (g ∷ gs) [] f m s l e first = absurd (omega (arith, s))
listed_first (g ∷ gs) (v ∷ vs) f zero s l e first = ap (λ b. if b then v else listed_weight gs vs f) e
listed_first (g ∷ gs) (v ∷ vs) f (suc m) s l e first = by (same_functor g f) refl (listed_first gs vs f m (omega (arith, s)) (omega (arith, l)) e (λ k h t. (let later = first (suc k) (omega (arith, h)) t in omega (arith, later))))
  where
    by : (b : Bool) → same_functor g f ≡ b → listed_weight gs vs f ≡ get_or vs m 0 → (if b then v else listed_weight gs vs f) ≡ get_or vs m 0
    by true t rest = absurd (let early = first 0 (omega arith) t in omega (arith, early))
    by false t rest = rest

listed_none : (gs : List Functor) (vs : List ℕ) (f : Functor) → ((k : ℕ) → k < length gs → is_at gs k f ≡ true → ⊥) → listed_weight gs vs f ≡ 0
listed_none [] vs f none = refl
listed_none (g ∷ gs) [] f none = refl
listed_none (g ∷ gs) (v ∷ vs) f none = by (same_functor g f) refl (listed_none gs vs f (λ k h t. none (suc k) (omega (arith, h)) t))
  where
    by : (b : Bool) → same_functor g f ≡ b → listed_weight gs vs f ≡ 0 → (if b then v else listed_weight gs vs f) ≡ 0
    by true t rest = absurd (none 0 (omega arith) t)
    by false t rest = rest

module _ (fs : List Functor) (ps vs : List ℕ) (index : IsIndexOf fs ps) (f : Functor) (at : ℕ) (p : IsFirstPlace fs ps f at) where
  abbrev es : List Entry
  es = entries_at fs ps

  size : length es ≡ length ps
  size = entries_size fs ps

  below_it : (i : ℕ) (e : Entry) → i < at → i < length ps → is_lt (entry_cmp (get_or es i e) (entry_of f 0)) ≡ true
  below_it i e h l = ap (λ x. is_lt (entry_cmp x (entry_of f 0))) (entry_read fs ps i e l) ∙ p.0 i 0 (omega arith) h

  not_below_it : (i : ℕ) (e : Entry) → at ≤ i → i < length ps → is_lt (entry_cmp (get_or es i e) (entry_of f 0)) ≡ false
  not_below_it i e h l = ap (λ x. is_lt (entry_cmp x (entry_of f 0))) (entry_read fs ps i e l) ∙ p.1 i 0 h l

  -- where the functor stands at a place, an entry of it that isn't later was found
  place_found : (k : ℕ) → k < length fs → is_at fs k f ≡ true → (at < length ps) × ((e : Entry) (g : Functor) (m : ℕ) → get_or es at e ≡ entry_of g m → (g ≡ f) × (m ≤ k))
  place_found k l t = by (cases_lt i at)
    where
      own : get_or fs k f ≡ f
      own = functor_is (get_or fs k f) f t

      there : (i : ℕ) × (i < length ps) × (get_or es i (entry_of f k) ≡ entry_of f k)
      there = let r = entry_of_place fs ps index f k l in (r.0, r.1, subst (λ g. get_or es r.0 (entry_of g k) ≡ entry_of g k) own r.2)

      i : ℕ
      i = there.0

      by : (i < at) ⊎ (at ≤ i) → (at < length ps) × ((e : Entry) (g : Functor) (m : ℕ) → get_or es at e ≡ entry_of g m → (g ≡ f) × (m ≤ k))
      by (inl h) = absurd (
          let low = below_it i (entry_of f k) h there.1 in
          let z = sym low ∙ ap (λ x. is_lt (entry_cmp x (entry_of f 0))) there.2 ∙ not_below_first f k in
          cc
          )
      by (inr h) =
          let short = there.1 in
          let within : at < length ps = omega (arith, h, short) in (
            within,
            λ e g m same. (
                let d = entry_of f k in
                let here : get_or es at d ≡ entry_of g m = any_default es at d e (omega (arith, within, size)) ∙ same in
                let low = sym (ap (λ x. is_lt (entry_cmp x (entry_of f 0))) here) ∙ not_below_it at d (omega arith) within in
                let high = (λ j. is_lt (entry_cmp (sym there.2 j) (sym here j))) ∙ not_below_at entry_cmp entries_total es (entries_rise fs ps index.rising) at i d h (omega (arith, short, size)) in
                between f g k m low high
                ),
          )

  -- so what stands at the place that was found is the weight
  pub found_weight : at < length ps → length fs ≡ length vs → (d : ℕ) → (if is_at fs (get_or ps at d) f then get_or vs (get_or ps at d) 0 else 0) ≡ listed_weight fs vs f
  found_weight l lists d =
      let e = entry_of f 0 in
      let here = entry_is fs ps index f at e l in
      let place : get_or ps at d ≡ here.0 = any_default ps at d 0 l ∙ sym here.2 in
      ap (λ k. if is_at fs k f then get_or vs k 0 else 0) place ∙ by here.0 here.1 e here.3 (is_at fs here.0 f) refl
    where
      by : (m : ℕ) → m < length fs → (e : Entry) → get_or es at e ≡ entry_of (get_or fs m f) m → (b : Bool) → is_at fs m f ≡ b → (if b then get_or vs m 0 else 0) ≡ listed_weight fs vs f
      by m few e is true t = sym (listed_first fs vs f m lists few t (λ k h u. ((place_found k h u).1 e (get_or fs m f) m is).1))
      by m few e is false t = sym (listed_none fs vs f (λ k h u. (
          let same = ((place_found k h u).1 e (get_or fs m f) m is).0 in
          let z = sym t ∙ ap (λ g. same_functor g f) same ∙ functor_same f in
          absurd (cc)
          )))

  -- and nothing is found at the end where there is none
  pub none_found : length ps ≤ at → 0 ≡ listed_weight fs vs f
  none_found l = sym (listed_none fs vs f (λ k h u. (let within = (place_found k h u).0 in omega (arith, within, l))))

-- each place of an index is one of the functors
pub place_within : (fs : List Functor) (ps : List ℕ) → IsIndexOf fs ps → (i d : ℕ) → i < length ps → get_or ps i d < length fs
place_within fs ps index i d l =
    let f : Functor = record { label = Int (pos 0); arity = 0 } in
    let here = entry_is fs ps index f i (entry_of f 0) l in
    let few = here.1 in
    let place = any_default ps i d 0 l ∙ sym here.2 in
    omega (arith, few, place)
