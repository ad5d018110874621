-- The rest of a membrane.
use Rattle.std.proofs.Common.{◌≡◌, ◌∙◌, ◌⊎◌, ◌↔◌, ℕ, zero, suc, ◌+◌, ◌<◌, ◌≤◌, Bool, IsTrue, List, [], ◌∷◌, ◌++◌, length, take, slice_get, slice_index_or, Option, Some, refl, sym, ap, subst, inl, inr, arith}
use Rattle.std.proofs.lemmas.Option.{same_Some}
use Rattle.lmn_base.specs.Lists.{In}
use Rattle.lmn_base.specs.Graphs.{Port}
use Rattle.lmn_base.proofs.Lists.{in_snoc}
use Rattle.lmn_store_heap.specs.Heap.{Heap, IsAtom, atoms_in, mems_in, arity_of, link_of}
use Rattle.lmn_store_heap.specs.Sound.{Valid}
use Rattle.lmn_store_heap.proofs.Common.{place_home}
use Rattle.lmn_store_heap.proofs.Listing.{home_place}
use Rattle.lmn_store_heap.proofs.ListLemmas.{in_left, in_right}
use Rattle.lmn_store_heap.proofs.Replacing.{port_within}
use Rattle.lmn_solid_search.specs.Walking.{IsMarked, AreBelow}
use Rattle.lmn_solid_search.specs.Closing.{IsRestAt, AreRest, PortsStay, IsClosedAt}
use Rattle.lmn_solid_search.proofs.WalkingLemmas.{blank, no_marks}
use Rattle.lmn_solid_search.proofs.WholeLemmas.{in_longer, in_whole, in_part}

-- what stands in a longer beginning of a list
here : (qs : List ℕ) (j : ℕ) → j < length qs → In (slice_index_or qs j 0) (take (j + 1) qs)
here [] j l = absurd (omega (arith, l))
here (q ∷ qs) zero l = inl refl
here (q ∷ qs) (suc j) l = let e : suc (j + 1) ≡ suc j + 1 = omega arith in subst (λ (n : ℕ). In (slice_index_or qs j 0) (take n (q ∷ qs))) e (inr (here qs j (omega (arith, l))))

further : (a : ℕ) (qs : List ℕ) (j : ℕ) → In a (take j qs) → In a (take (j + 1) qs)
further a [] zero k = absurd k
further a [] (suc j) k = absurd k
further a (q ∷ qs) zero k = absurd k
further a (q ∷ qs) (suc j) (inl e) = let e' : suc (j + 1) ≡ suc j + 1 = omega arith in subst (λ (n : ℕ). In a (take n (q ∷ qs))) e' (inl e)
further a (q ∷ qs) (suc j) (inr k) = let e' : suc (j + 1) ≡ suc j + 1 = omega arith in subst (λ (n : ℕ). In a (take n (q ∷ qs))) e' (inr (further a qs j k))

one_longer : (a : ℕ) (xs : List ℕ) (i : ℕ) → i < length xs → In a (take (i + 1) xs) ↔ (In a (take i xs) ⊎ (slice_index_or xs i 0 ≡ a))
one_longer a xs i l = (in_longer a xs i l, λ j. elim j [ inl k ↦ further a xs i k | inr e ↦ subst (λ (z : ℕ). In z (take (i + 1) xs)) e (here xs i l) ])

pushed : (xs ys : List ℕ) (n a : ℕ) → ys ≡ xs ++ n ∷ [] → In a ys ↔ (In a xs ⊎ (n ≡ a))
pushed xs ys n a e = (
  (λ i. elim (in_snoc a n xs (subst (In a) e i)) [ inl k ↦ inl k | inr g ↦ inr (sym g) ]),
  λ j. subst (In a) (sym e) (elim j [ inl k ↦ in_left a xs (n ∷ []) k | inr g ↦ in_right a xs (n ∷ []) (inl g) ]),
)

-- a number was added, unless Q holds of it
pub other_added : (Q : ℕ → Type 0) (xs ys : List ℕ) (n : ℕ) → (Q n → ⊥) → ys ≡ xs ++ n ∷ [] → (a : ℕ) → In a ys ↔ (In a xs ⊎ ((n ≡ a) × (Q a → ⊥)))
other_added Q xs ys n d e a = (
  (λ i. elim ((pushed xs ys n a e).0 i) [ inl k ↦ inl k | inr g ↦ inr (g, subst (λ (z : ℕ). Q z → ⊥) g d) ]),
  λ j. (pushed xs ys n a e).1 (elim j [ inl k ↦ inl k | inr g ↦ inr g.0 ]),
)

pub other_kept : (Q : ℕ → Type 0) (xs : List ℕ) (n : ℕ) → Q n → (a : ℕ) → In a xs ↔ (In a xs ⊎ ((n ≡ a) × (Q a → ⊥)))
other_kept Q xs n q a = ((λ i. inl i), λ j. elim j [ inl k ↦ k | inr g ↦ absurd (g.1 (subst Q g.0 q)) ])

-- the others of a longer beginning
pub others_more : (Q : ℕ → Type 0) (numbers xs ys : List ℕ) (i : ℕ) → i < length numbers → ((a : ℕ) → In a xs ↔ (In a (take i numbers) × (Q a → ⊥))) → ((a : ℕ) → In a ys ↔ (In a xs ⊎ ((slice_index_or numbers i 0 ≡ a) × (Q a → ⊥))))
    → (a : ℕ) → In a ys ↔ (In a (take (i + 1) numbers) × (Q a → ⊥))
others_more Q numbers xs ys i l h m a = (
  (λ k. elim ((m a).0 k) [ inl j ↦ (let r = (h a).0 j in ((one_longer a numbers i l).1 (inl r.0), r.1)) | inr g ↦ ((one_longer a numbers i l).1 (inr g.0), g.1) ]),
  λ r. (m a).1 (elim ((one_longer a numbers i l).0 r.0) [ inl j ↦ inl ((h a).1 (j, r.1)) | inr g ↦ inr (g, r.1) ]),
)

pub others_all : (Q : ℕ → Type 0) (numbers xs : List ℕ) (i : ℕ) → length numbers ≤ i → ((a : ℕ) → In a xs ↔ (In a (take i numbers) × (Q a → ⊥))) → (a : ℕ) → In a xs ↔ (In a numbers × (Q a → ⊥))
others_all Q numbers xs i l h a = ((λ k. (let r = (h a).0 k in (in_part a numbers i r.0, r.1))), λ r. (h a).1 (in_whole a numbers i l r.0, r.1))

-- all of a longer beginning
pub all_more : (numbers old xs ys : List ℕ) (i : ℕ) → i < length numbers → ys ≡ xs ++ slice_index_or numbers i 0 ∷ [] → ((a : ℕ) → In a xs ↔ (In a old ⊎ In a (take i numbers))) → (a : ℕ) → In a ys ↔ (In a old ⊎ In a (take (i + 1) numbers))
all_more numbers old xs ys i l e h a = (
  (λ k. elim ((pushed xs ys (slice_index_or numbers i 0) a e).0 k) [
    | inl j ↦ elim ((h a).0 j) [ inl o ↦ inl o | inr t ↦ inr ((one_longer a numbers i l).1 (inl t)) ]
    | inr g ↦ inr ((one_longer a numbers i l).1 (inr g))
  ]),
  λ j. (pushed xs ys (slice_index_or numbers i 0) a e).1 (elim j [
    | inl o ↦ inl ((h a).1 (inl o))
    | inr t ↦ elim ((one_longer a numbers i l).0 t) [ inl u ↦ inl ((h a).1 (inr u)) | inr g ↦ inr g ]
  ]),
)

pub all_added : (numbers old xs : List ℕ) (i : ℕ) → length numbers ≤ i → ((a : ℕ) → In a xs ↔ (In a old ⊎ In a (take i numbers))) → (a : ℕ) → In a xs ↔ (In a old ⊎ In a numbers)
all_added numbers old xs i l h a = (
  (λ k. elim ((h a).0 k) [ inl o ↦ inl o | inr t ↦ inr (in_part a numbers i t) ]),
  λ j. (h a).1 (elim j [ inl o ↦ inl o | inr t ↦ inr (in_whole a numbers i l t) ]),
)

-- the atoms of one membrane more
pub atoms_more : (F : ℕ → List ℕ) (ms old xs ys zs : List ℕ) (i : ℕ) → i < length ms → zs ≡ F (slice_index_or ms i 0) → ((a : ℕ) → In a ys ↔ (In a xs ⊎ In a zs))
    → ((a : ℕ) → In a xs ↔ (In a old ⊎ ((m : ℕ) × In m (take i ms) × In a (F m)))) → (a : ℕ) → In a ys ↔ (In a old ⊎ ((m : ℕ) × In m (take (i + 1) ms) × In a (F m)))
atoms_more F ms old xs ys zs i l e m h a = (
  (λ k. elim ((m a).0 k) [
    | inl j ↦ elim ((h a).0 j) [ inl o ↦ inl o | inr t ↦ inr (t.0, (one_longer t.0 ms i l).1 (inl t.1), t.2) ]
    | inr j ↦ inr (slice_index_or ms i 0, (one_longer (slice_index_or ms i 0) ms i l).1 (inr refl), subst (In a) e j)
  ]),
  λ j. (m a).1 (elim j [
    | inl o ↦ inl ((h a).1 (inl o))
    | inr t ↦ elim ((one_longer t.0 ms i l).0 t.1) [
      | inl u ↦ inl ((h a).1 (inr (t.0, u, t.2)))
      | inr g ↦ inr (subst (In a) (sym e) (subst (λ (z : ℕ). In a (F z)) (sym g) t.2))
    ]
  ]),
)

pub atoms_all : (F : ℕ → List ℕ) (ms old xs : List ℕ) (i : ℕ) → length ms ≤ i → ((a : ℕ) → In a xs ↔ (In a old ⊎ ((m : ℕ) × In m (take i ms) × In a (F m)))) → (a : ℕ) → In a xs ↔ (In a old ⊎ ((m : ℕ) × In m ms × In a (F m)))
atoms_all F ms old xs i l h a = (
  (λ k. elim ((h a).0 k) [ inl o ↦ inl o | inr t ↦ inr (t.0, in_part t.0 ms i t.1, t.2) ]),
  λ j. (h a).1 (elim j [ inl o ↦ inl o | inr t ↦ inr (t.0, in_whole t.0 ms i l t.1, t.2) ]),
)

-- the rest is what is left of the lists
pub rest_is : (h : Heap) (v : Valid h) (m : ℕ) (images : List ℕ) (mine marks : List (Option ℕ)) (ms as' starts starts' inner inner' first rest : List ℕ) → ms ≡ mems_in h m → as' ≡ atoms_in h m → starts' ≡ starts → inner' ≡ inner
    → ((c : ℕ) → In c starts ↔ (In c ms × (In c images → ⊥))) → AreBelow h starts' marks inner → ((a : ℕ) → In a first ↔ (In a as' × (IsMarked mine a → ⊥)))
    → ((a : ℕ) → In a rest ↔ (In a first ⊎ ((n : ℕ) × In n inner' × In a (atoms_in h n)))) → AreRest h m images mine rest
rest_is h v m images mine marks ms as' starts starts' inner inner' first rest e g s t left below here' all b = (
  (λ i. elim ((all b).0 i) [
    | inl f ↦ (let r = (here' b).0 f in inl (subst (In b) g r.0, r.1))
    | inr (n, k, j) ↦ (
        let d = below.right n (subst (In n) t k) in
        let r = (left d.0).0 (subst (In d.0) s d.2) in
        inr (d.0, subst (In d.0) e r.0, r.1, (n, d.1, place_home h b n ((v.sound.listed.atoms n b).0 j), d.3)))
  ]),
  λ r. (all b).1 (by r),
)
  where
    by : IsRestAt h m images mine b → In b first ⊎ ((n : ℕ) × In n inner' × In b (atoms_in h n))
    by (inl (i, d)) = inl ((here' b).1 (subst (In b) (sym g) i, d))
    by (inr (c, i, d, (n, k, home, up))) = inr (n, subst (In n) (sym t) (below.all n (c, k, subst (In c) (sym s) ((left c).1 (subst (In c) (sym e) i, d)), up)), (v.sound.listed.atoms n b).1 (home_place (h.atoms b) n home))

-- ---- closed

pub rest_there : (h : Heap) (m : ℕ) (images : List ℕ) (mine : List (Option ℕ)) (b : ℕ) → Valid h → ((a n : ℕ) → In a (atoms_in h n) → IsAtom h a) → IsRestAt h m images mine b → IsAtom h b
rest_there h m images mine b v atom (inl (i, d)) = atom b m i
rest_there h m images mine b v atom (inr (c, i, d, (n, k, home, up))) = atom b n ((v.sound.listed.atoms n b).1 (home_place (h.atoms b) n home))

-- marks tell the rest
pub rest_marked : (h : Heap) (m : ℕ) (images : List ℕ) (mine within within' within'' : List (Option ℕ)) (rest rest' : List ℕ) → rest' ≡ rest → AreRest h m images mine rest → within' ≡ blank within
    → ((a : ℕ) → (IsMarked within'' a → IsMarked within' a ⊎ In a rest') × ((IsMarked within' a ⊎ In a rest') → IsMarked within'' a)) → (b : ℕ) → IsMarked within'' b ↔ IsRestAt h m images mine b
rest_marked h m images mine within within' within'' rest rest' e are clear h' b = (
  (λ k. elim ((h' b).0 k) [ inl old ↦ absurd (no_marks within b old.0 (ap (λ ms. slice_get ms b) (sym clear) ∙ old.1)) | inr i ↦ (are b).0 (subst (In b) e i) ]),
  λ r. (h' b).1 (inr (subst (In b) (sym e) ((are b).1 r))),
)

pub closed_by : (h : Heap) (m : ℕ) (images : List ℕ) (mine within : List (Option ℕ)) (rest rest' : List ℕ) (b : Bool) → rest' ≡ rest → AreRest h m images mine rest → ((a : ℕ) → IsMarked within a ↔ IsRestAt h m images mine a)
    → (IsTrue b ↔ ((a : ℕ) → In a rest' → PortsStay h within a)) → IsTrue b ↔ IsClosedAt h m images mine
closed_by h m images mine within rest rest' b e are marks all = (
  (λ z a i p r link. (marks p.0).0 (all.0 z a (subst (In a) (sym e) ((are a).1 r)) i p link)),
  λ f. all.1 (λ a k i p link. (marks p.0).1 (f a i p ((are a).0 (subst (In a) e k)) link)),
)

pub stays_by : (h : Heap) (a i : ℕ) (p : Port) (within : List (Option ℕ)) (b : Bool) → link_of h a i ≡ Some p → (IsTrue b ↔ IsMarked within p.0) → IsTrue b ↔ ((q : Port) → link_of h a i ≡ Some q → IsMarked within q.0)
stays_by h a i p within b e m = ((λ z q g. subst (λ (r : Port). IsMarked within r.0) (same_Some _ _ (sym e ∙ g)) (m.0 z)), λ f. m.1 (f p e))

-- all ports of an atom stay
pub ports_all : (h : Heap) (a n k : ℕ) (within : List (Option ℕ)) → n ≡ arity_of h a → n ≤ k → ((i : ℕ) (p : Port) → i < k → link_of h a i ≡ Some p → IsMarked within p.0) → PortsStay h within a
ports_all h a n k within e l f i p link = f i p (let m = port_within h a i p link in omega (arith, e, l, m)) link
