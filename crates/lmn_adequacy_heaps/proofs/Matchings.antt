-- Lists of numbers that match one by one in some order.
use Rattle.std.proofs.Common.{ℕ, ◌≡◌, ◌≢◌, ◌⊎◌, ◌==◌, cond, List, [], ◌∷◌, map, refl, sym, ap, subst, ◌∙◌, inl, inr}
use Rattle.std.proofs.lemmas.Bool.{cases_eq, eq-eqb}
use Rattle.lmn_store_heap.specs.Lists.{Distinct, without}
use Rattle.lmn_store_heap.proofs.ListLemmas.{each_in, in_without}
use Rattle.lmn_store_heap.proofs.Listing.{in_without_of, distinct_without}
use Rattle.lmn_congruence.specs.Orders.{Put, here, there, Shuffle, none, more}
use Rattle.lmn_congruence.proofs.Solids.{put_map}
use Rattle.lmn_base.proofs.Numbers.{not_equal as apart_test}
use Rattle.lmn_base.specs.Lists.{In}
use Rattle.std.specs.List.{AllByRecursion}

put_without : (b : ℕ) (ys : List ℕ) → In b ys → Put b (without b ys) ys
put_without b [] k = absurd k
put_without b (y ∷ ys) k = elim (cases_eq y b) [
  | inl e ↦ rw (eq-eqb y b e) (subst (λ z. Put b ys (z ∷ ys)) (sym e) here)
  | inr d ↦ rw (apart_test y b d) (there (put_without b ys (elim k [ inl e ↦ absurd (d e) | inr m ↦ m ])))
]

-- what is put in stands in the list
pub put_in : {b : ℕ} {ys zs : List ℕ} → Put b ys zs → In b zs
put_in here = inl refl
put_in (there p) = inr (put_in p)

-- and all others stay
pub put_keeps : {b : ℕ} {ys zs : List ℕ} → Put b ys zs → (c : ℕ) → In c ys → In c zs
put_keeps here c k = inr k
put_keeps (there p) c (inl e) = inl e
put_keeps (there p) c (inr k) = inr (put_keeps p c k)

-- and nothing else is there
pub in_put : {b : ℕ} {ys zs : List ℕ} → Put b ys zs → (c : ℕ) → In c zs → (b ≡ c) ⊎ In c ys
in_put here c (inl e) = inl e
in_put here c (inr k) = inr k
in_put (there p) c (inl e) = inr (inl e)
in_put (there p) c (inr k) = elim (in_put p c k) [ inl e ↦ inl e | inr m ↦ inr (inr m) ]

-- what is put into a list of distinct numbers wasn't there, and the others are distinct
put_new : {b : ℕ} {ys zs : List ℕ} → Put b ys zs → Distinct zs → In b ys → ⊥
put_new (here {y = b} {ys = ys}) d k = each_in (λ z. b ≢ z) ys b d.0 k refl
put_new (there {y = b} {z = z} {zs = zs} p) d (inl e) = each_in (λ w. z ≢ w) zs b d.0 (put_in p) e
put_new (there p) d (inr k) = put_new p d.1 k

put_distinct : {b : ℕ} {ys zs : List ℕ} → Put b ys zs → Distinct zs → Distinct ys
put_distinct here d = d.1
put_distinct (there {y = b} {z = z} {ys = ys} {zs = zs} p) d = (others ys (λ c k. each_in (λ w. z ≢ w) zs c d.0 (put_keeps p c k)), put_distinct p d.1)
  where
    others : (cs : List ℕ) → ((c : ℕ) → In c cs → z ≢ c) → AllByRecursion (λ w. z ≢ w) cs
    others [] h = tt
    others (c ∷ cs) h = (h c (inl refl), others cs (λ w k. h w (inr k)))

-- a map that is one to one from one list onto the other matches them
pub matching : (f : ℕ → ℕ) (xs ys : List ℕ) → Distinct xs → Distinct ys → ((x : ℕ) → In x xs → In (f x) ys) → ((x y : ℕ) → In x xs → In y xs → f x ≡ f y → x ≡ y) →
    ((y : ℕ) → In y ys → (x : ℕ) × In x xs × (f x ≡ y)) → Shuffle (λ x y. f x ≡ y) xs ys
matching f [] [] d e into one onto = none
matching f [] (y ∷ ys) d e into one onto = absurd ((onto y (inl refl)).1)
matching f (x ∷ xs) ys d e into one onto =
    more refl
    (matching f xs (without (f x) ys) d.1 (distinct_without (f x) ys e)
    (λ z k. in_without (f x) (f z) ys (into z (inr k)) (λ q. each_in (λ w. x ≢ w) xs z d.0 k (sym (one z x (inr k) (inl refl) q))))
    (λ a b k m q. one a b (inr k) (inr m) q)
    (λ y k.
    let w = in_without_of (f x) y ys e k in
    let u = onto y w.0 in
    elim u.1 [
      | inl s ↦ absurd (w.1 (sym u.2 ∙ ap f (sym s)))
      | inr m ↦ (u.0, m, u.2)
    ]))
    (put_without (f x) ys (into x (inl refl)))

-- what is made of lists that match matches, where it does one by one
pub shuffle_mapped : {B : Type 0} {R : ℕ → ℕ → Type 0} {S : B → B → Type 0} (g : ℕ → B) {xs ys : List ℕ} → Shuffle R xs ys → ((x y : ℕ) → In x xs → R x y → S (g x) (g y)) → Shuffle S (map g xs) (map g ys)
shuffle_mapped g none h = none
shuffle_mapped g (more {x = x} {y = y} e s p) h = more (h x y (inl refl) e) (shuffle_mapped g s (λ a b k. h a b (inr k))) (put_map g p)

-- ---- and back

put_unmapped : {B : Type 0} (g : ℕ → B) (ts : List ℕ) {y : B} {ys zs : List B} → Put y ys zs → zs ≡ map g ts → (b : ℕ) × (us : List ℕ) × (y ≡ g b) × (ys ≡ map g us) × Put b us ts
put_unmapped g [] here e = absurd (cc)
put_unmapped g [] (there p) e = absurd (cc)
put_unmapped g (t ∷ ts) (here {y = y} {ys = ys}) e =
    let a : y ≡ g t = cc in
    let b : ys ≡ map g ts = cc in
    (t, ts, a, b, here)
put_unmapped g (t ∷ ts) (there {y = y} {z = z} {ys = ys} {zs = zs} p) e =
    let a : z ≡ g t = cc in
    let b : zs ≡ map g ts = cc in
    let u = put_unmapped g ts p b in
    (u.0, t ∷ u.1, u.2, (λ i. a i ∷ u.3 i), there u.4)

-- images that match do so as what they are of
pub shuffle_unmapped : {B : Type 0} {R : B → B → Type 0} (g : ℕ → B) (ss ts : List ℕ) {xs ys : List B} → Shuffle R xs ys → xs ≡ map g ss → ys ≡ map g ts → Shuffle (λ a b. R (g a) (g b)) ss ts
shuffle_unmapped g [] [] none e f = none
shuffle_unmapped g [] (t ∷ ts) none e f = absurd (cc)
shuffle_unmapped g (s ∷ ss) ts none e f = absurd (cc)
shuffle_unmapped g [] ts (more w k p) e f = absurd (cc)
shuffle_unmapped {R = R} g (s ∷ ss) ts (more {x = x} {y = y} {xs = xs} w k p) e f =
    let a : x ≡ g s = cc in
    let b : xs ≡ map g ss = cc in
    let u = put_unmapped g ts p f in
    more (subst (λ z. R z (g u.0)) a (subst (R x) u.2 w)) (shuffle_unmapped g ss u.1 k b u.3) u.4

-- the number that a number is matched with
abbrev pub matched : {R : ℕ → ℕ → Type 0} {xs ys : List ℕ} → Shuffle R xs ys → ℕ → ℕ
matched none z = z
matched (more {x = x} {y = y} e s p) z = cond (x == z) y (matched s z)

-- each element is related to its match
pub matched_related : {R : ℕ → ℕ → Type 0} {xs ys : List ℕ} (s : Shuffle R xs ys) (a : ℕ) → In a xs → R a (matched s a)
matched_related none a k = absurd k
matched_related {R = R} (more {x = x} {y = y} e s p) a k = elim (cases_eq x a) [
  | inl q ↦ rw (eq-eqb x a q) (subst (λ z. R z y) q e)
  | inr d ↦ rw (apart_test x a d) (matched_related s a (elim k [ inl q ↦ absurd (d q) | inr m ↦ m ]))
]

-- which stands in the other list
pub matched_in : {R : ℕ → ℕ → Type 0} {xs ys : List ℕ} (s : Shuffle R xs ys) (a : ℕ) → In a xs → In (matched s a) ys
matched_in none a k = absurd k
matched_in (more {x = x} {y = y} e s p) a k = elim (cases_eq x a) [
  | inl q ↦ rw (eq-eqb x a q) (put_in p)
  | inr d ↦ rw (apart_test x a d) (put_keeps p (matched s a) (matched_in s a (elim k [ inl q ↦ absurd (d q) | inr m ↦ m ])))
]

-- and each of that is a match
pub matched_onto : {R : ℕ → ℕ → Type 0} {xs ys : List ℕ} (s : Shuffle R xs ys) → Distinct xs → (b : ℕ) → In b ys → (a : ℕ) × In a xs × (matched s a ≡ b)
matched_onto none d b k = absurd k
matched_onto (more {x = x} {y = y} {xs = xs} e s p) d b k = elim (in_put p b k) [
  | inl q ↦ (x, inl refl, rw (eq-eqb x x refl) q)
  | inr m ↦
      let u = matched_onto s d.1 b m in
      (u.0, inr u.1, rw (apart_test x u.0 (each_in (λ w. x ≢ w) xs u.0 d.0 u.1)) u.2)
]

-- of one element
pub matched_one : {R : ℕ → ℕ → Type 0} {xs ys : List ℕ} (s : Shuffle R xs ys) → Distinct ys → (a b : ℕ) → In a xs → In b xs → matched s a ≡ matched s b → a ≡ b
matched_one none d a b k m q = absurd k
matched_one (more {x = x} {y = y} {ys = ys} e s p) d a b k m q = elim (cases_eq x a) [
  | inl f ↦ elim (cases_eq x b) [
    | inl g ↦ sym f ∙ g
    | inr g ↦ absurd (
        let w : y ≡ matched s b = (let u : cond (x == a) y (matched s a) ≡ y = rw (eq-eqb x a f) refl in let t : cond (x == b) y (matched s b) ≡ matched s b = rw (apart_test x b g) refl in sym u ∙ q ∙ t) in
        put_new p d (subst (λ z. In z ys) (sym w) (matched_in s b (elim m [ inl e ↦ absurd (g e) | inr n ↦ n ]))))
  ]
  | inr f ↦ elim (cases_eq x b) [
    | inl g ↦ absurd (
        let w : y ≡ matched s a = (let u : cond (x == b) y (matched s b) ≡ y = rw (eq-eqb x b g) refl in let t : cond (x == a) y (matched s a) ≡ matched s a = rw (apart_test x a f) refl in sym u ∙ sym q ∙ t) in
        put_new p d (subst (λ z. In z ys) (sym w) (matched_in s a (elim k [ inl e ↦ absurd (f e) | inr n ↦ n ]))))
    | inr g ↦
        let u : cond (x == a) y (matched s a) ≡ matched s a = rw (apart_test x a f) refl in
        let t : cond (x == b) y (matched s b) ≡ matched s b = rw (apart_test x b g) refl in
        matched_one s (put_distinct p d) a b (elim k [ inl e ↦ absurd (f e) | inr n ↦ n ]) (elim m [ inl e ↦ absurd (g e) | inr n ↦ n ]) (sym u ∙ q ∙ t)
  ]
]
