-- The membranes in each membrane, by the one round each of them.
use Rattle.std.proofs.Common.{ℕ, zero, suc, Bool, true, false, ◌≡◌, ◌≢◌, ◌+◌, ◌-◌, ◌<◌, ◌≤◌, ◌⊎◌, inl, inr, List, [], ◌∷◌, ◌++◌, length, refl, sym, ap, subst, ◌∙◌, arith}
use Rattle.std.specs.Prelude.{Option, Some, None, ◌==◌, if◌then◌else◌, slice_get}
use Rattle.std.proofs.lemmas.List.{append_assoc}
use Rattle.lmn_base.specs.Lists.{In}
use Rattle.lmn_base.proofs.Lists.{in_either, plus_nothing}
use Rattle.lmn_base.proofs.Numbers.{below_or_from, equal_itself, equal_when, three_ways, unequal}
use Rattle.lmn_store_heap.specs.Heap.{Heap, mems_in}
use Rattle.lmn_store_heap.specs.Lists.{Distinct}
use Rattle.lmn_store_heap.specs.Sound.{Forms}
use Rattle.lmn_store_heap.proofs.ListLemmas.{each_of, in_left, in_right}
use Rattle.lmn_solid_tables.specs.declared.tables.FlatMembrane.{FlatMembrane}
use Rattle.lmn_solid_tables.specs.Tables.{Rises}
use Rattle.lmn_solid_tables.specs.Building.{Trees, none, tree, size, Tables, children, parent_by}
use Rattle.lmn_solid_tables.proofs.Preorder.{Stands, count, forest, heads}

-- in each membrane stand the outer ones of what is in it
abbrev pub Kids : (ℕ → List ℕ) → Trees → ℕ → Type 0
Kids K none k = Unit {0}
Kids K (tree atoms rules inner rest) k = (K k ≡ heads (suc k) inner) × Kids K inner (suc k) × Kids K rest (suc k + size inner)

pub kids_alike : (K L : ℕ → List ℕ) (ts : Trees) (k : ℕ) → ((m : ℕ) → m < k + size ts → K m ≡ L m) → Kids K ts k → Kids L ts k
kids_alike K L none k e h = tt
kids_alike K L (tree atoms rules inner rest) k e h = (
  sym (e k (omega arith)) ∙ h.0,
  kids_alike K L inner (suc k) (λ m l. e m (omega (arith, l))) h.1,
  kids_alike K L rest (suc k + size inner) (λ m l. e m (omega (arith, l))) h.2,
)

-- such membranes are a forest
pub forms_are : (h : Heap) (ts : Trees) (k : ℕ) → Kids (mems_in h) ts k → Forms h (forest k ts) (heads k ts)
forms_are h none k s = refl
forms_are h (tree atoms rules inner rest) k s =
    (heads (suc k + size inner) rest, refl, subst (Forms h (forest (suc k) inner)) (sym s.0) (forms_are h inner (suc k) s.1), forms_are h rest (suc k + size inner) s.2)

module _ (ms : List FlatMembrane) where
  abbrev pub parent_at : ℕ → ℕ
  parent_at i = parent_by (slice_get ms i)

  abbrev pub pick : ℕ → ℕ → List ℕ
  pick m i = if parent_at i == m then i ∷ [] else []

  -- those of the membranes from s on, so many, that stand in m
  abbrev pub picks : ℕ → ℕ → ℕ → List ℕ
  picks m s zero = []
  picks m s (suc n) = pick m s ++ picks m (suc s) n

  picks_both : (m s n l : ℕ) → picks m s (n + l) ≡ picks m s n ++ picks m (s + n) l
  picks_both m s zero l =
      let e : 0 + l ≡ l = omega arith in
      let d : s ≡ s + 0 = omega arith in
      ap (picks m s) e ∙ ap (λ b. picks m b l) d
  picks_both m s (suc n) l =
      let e : suc n + l ≡ suc (n + l) = omega arith in
      let d : suc s + n ≡ s + suc n = omega arith in
      ap (picks m s) e
      ∙ ap (λ xs. pick m s ++ xs) (picks_both m (suc s) n l ∙ ap (λ b. picks m (suc s) n ++ picks m b l) d)
      ∙ sym (append_assoc (pick m s) (picks m (suc s) n) (picks m (s + suc n) l))

  pub children_picks : (n m : ℕ) → children ms (suc n) m ≡ picks m 1 n
  children_picks zero m = refl
  children_picks (suc n) m =
      let e : suc n ≡ 1 + n = omega arith in
      let d : n + 1 ≡ suc n = omega arith in
      ap (λ xs. xs ++ pick m (suc n)) (children_picks n m)
      ∙ ap (λ xs. picks m 1 n ++ xs) (sym (plus_nothing (pick m (suc n))))
      ∙ ap (λ b. picks m 1 n ++ picks m b 1) e
      ∙ sym (picks_both m 1 n 1)
      ∙ ap (picks m 1) d

  picked : (m i : ℕ) → parent_at i ≡ m → pick m i ≡ i ∷ []
  picked m i e = ap (λ p. if p == m then i ∷ [] else []) e ∙ ap (λ b. if b then i ∷ [] else []) (equal_itself m)

  not_picked : (m i : ℕ) → parent_at i ≢ m → pick m i ≡ []
  not_picked m i n = ap (λ b. if b then i ∷ [] else []) (unequal (parent_at i) m n)

  picks_none : (m s n : ℕ) → ((i : ℕ) → s ≤ i → i < s + n → parent_at i ≢ m) → picks m s n ≡ []
  picks_none m s zero f = refl
  picks_none m s (suc n) f =
      ap (λ xs. xs ++ picks m (suc s) n) (not_picked m s (f s (omega arith) (omega arith)))
      ∙ picks_none m (suc s) n (λ i l b. f i (omega (arith, l)) (omega (arith, b)))

  in_pick : (n m i : ℕ) → In n (pick m i) → (n ≡ i) × (parent_at i ≡ m)
  in_pick n m i h = by_test (parent_at i == m) refl h
    where
      by_test : (b : Bool) → (parent_at i == m) ≡ b → In n (if b then i ∷ [] else []) → (n ≡ i) × (parent_at i ≡ m)
      by_test true e (inl d) = (sym d, equal_when (parent_at i) m e)
      by_test true e (inr d) = absurd d
      by_test false e d = absurd d

  -- what stands among them
  pub in_picks : (n m s l : ℕ) → In n (picks m s l) → (s ≤ n) × (n < s + l) × (parent_at n ≡ m)
  in_picks n m s zero h = absurd h
  in_picks n m s (suc l) h = by_part (in_either n (pick m s) (picks m (suc s) l) h) (λ i. in_picks n m (suc s) l i)
    where
      by_part : In n (pick m s) ⊎ In n (picks m (suc s) l) → (In n (picks m (suc s) l) → (suc s ≤ n) × (n < suc s + l) × (parent_at n ≡ m)) → (s ≤ n) × (n < s + suc l) × (parent_at n ≡ m)
      by_part (inl i) f = let r = in_pick n m s i in (omega (arith, r.0), omega (arith, r.0), ap parent_at r.0 ∙ r.1)
      by_part (inr i) f = let r = f i in (omega (arith, r.0), omega (arith, r.1), r.2)

  pub picks_in : (n m s l : ℕ) → s ≤ n → n < s + l → parent_at n ≡ m → In n (picks m s l)
  picks_in n m s zero a b e = absurd (omega (arith, a, b))
  picks_in n m s (suc l) a b e = by_order (three_ways s n) (λ d. picks_in n m (suc s) l (omega (arith, d)) (omega (arith, b)) e)
    where
      by_order : (s < n) ⊎ ((s ≡ n) ⊎ (n < s)) → (s < n → In n (picks m (suc s) l)) → In n (picks m s (suc l))
      by_order (inl d) f = in_right n (pick m s) (picks m (suc s) l) (f d)
      by_order (inr (inl d)) f = in_left n (pick m s) (picks m (suc s) l) (subst (In n) (sym (picked m s (ap parent_at d ∙ e))) (inl d))
      by_order (inr (inr d)) f = absurd (omega (arith, a, d))

  pub picks_once : (m s l : ℕ) → Distinct (picks m s l)
  picks_once m s zero = tt
  picks_once m s (suc l) = by_test (parent_at s == m) (picks_once m (suc s) l)
    where
      by_test : (b : Bool) → Distinct (picks m (suc s) l) → Distinct ((if b then s ∷ [] else []) ++ picks m (suc s) l)
      by_test true d = (each_of (λ y. s ≢ y) (picks m (suc s) l) (λ y i e. let r = in_picks y m (suc s) l i in omega (arith, r.0, e)), d)
      by_test false d = d

module _ (u : Tables) (rises : Rises u.membranes) where
  risen : (i : ℕ) → 1 ≤ i → parent_at u.membranes i < i
  risen zero l = absurd (omega (arith, l))
  risen (suc i) l = by_option (slice_get u.membranes (suc i)) refl
    where
      by_option : (o : Option FlatMembrane) → slice_get u.membranes (suc i) ≡ o → parent_by o < suc i
      by_option None e = omega arith
      by_option (Some x) e = rises i x e

  -- round a membrane of the regions stands one of them, or the one in which they stand
  parents_in : (ts : Trees) (p k a : ℕ) → Stands u ts p k a → (i : ℕ) → k ≤ i → i < k + size ts → (parent_at u.membranes i ≡ p) ⊎ ((k ≤ parent_at u.membranes i) × (parent_at u.membranes i < k + size ts))
  parents_in none p k a s i l b = absurd (omega (arith, l, b))
  parents_in (tree atoms rules inner rest) p k a s i l b =
      by_order (three_ways k i) (below_or_from i (suc k + size inner))
      (λ d e. parents_in inner k (suc k) (a + length atoms) s.2 i (omega (arith, d)) e)
      (λ d. parents_in rest p (suc k + size inner) (a + length atoms + count inner) s.3 i d (omega (arith, b)))
    where
      by_inner : (parent_at u.membranes i ≡ k) ⊎ ((suc k ≤ parent_at u.membranes i) × (parent_at u.membranes i < suc k + size inner)) → (parent_at u.membranes i ≡ p) ⊎ ((k ≤ parent_at u.membranes i) × (parent_at u.membranes i < k + size (tree atoms rules inner rest)))
      by_inner (inl e) = inr (omega (arith, e), omega (arith, e))
      by_inner (inr r) = inr (omega (arith, r.0), omega (arith, r.1))

      by_rest : (parent_at u.membranes i ≡ p) ⊎ ((suc k + size inner ≤ parent_at u.membranes i) × (parent_at u.membranes i < suc k + size inner + size rest)) → (parent_at u.membranes i ≡ p) ⊎ ((k ≤ parent_at u.membranes i) × (parent_at u.membranes i < k + size (tree atoms rules inner rest)))
      by_rest (inl e) = inl e
      by_rest (inr r) = inr (omega (arith, r.0), omega (arith, r.1))

      by_order : (k < i) ⊎ ((k ≡ i) ⊎ (i < k)) → (i < suc k + size inner) ⊎ (suc k + size inner ≤ i)
          → (k < i → i < suc k + size inner → (parent_at u.membranes i ≡ k) ⊎ ((suc k ≤ parent_at u.membranes i) × (parent_at u.membranes i < suc k + size inner)))
          → (suc k + size inner ≤ i → (parent_at u.membranes i ≡ p) ⊎ ((suc k + size inner ≤ parent_at u.membranes i) × (parent_at u.membranes i < suc k + size inner + size rest)))
          → (parent_at u.membranes i ≡ p) ⊎ ((k ≤ parent_at u.membranes i) × (parent_at u.membranes i < k + size (tree atoms rules inner rest)))
      by_order (inl d) (inl e) f g = by_inner (f d e)
      by_order (inl d) (inr e) f g = by_rest (g e)
      by_order (inr (inl d)) o f g = inl (ap (parent_at u.membranes) (sym d) ∙ ap parent_by s.0)
      by_order (inr (inr d)) o f g = absurd (omega (arith, l, d))

  -- of the regions those that stand in no other one
  pub heads_are : (ts : Trees) (p k a : ℕ) → Stands u ts p k a → p < k → picks u.membranes p k (size ts) ≡ heads k ts
  heads_are none p k a s l = refl
  heads_are (tree atoms rules inner rest) p k a s l =
      let ms = u.membranes in
      ap (λ xs. xs ++ picks ms p (suc k) (size inner + size rest)) (picked ms p k (ap parent_by s.0))
      ∙ ap (λ xs. k ∷ xs) (
      picks_both ms p (suc k) (size inner) (size rest)
      ∙ ap (λ xs. xs ++ picks ms p (suc k + size inner) (size rest)) (picks_none ms p (suc k) (size inner) (λ i b c e. by_parent i e (parents_in inner k (suc k) (a + length atoms) s.2 i b c)))
      ∙ heads_are rest p (suc k + size inner) (a + length atoms + count inner) s.3 (omega (arith, l)))
    where
      by_parent : (i : ℕ) → parent_at u.membranes i ≡ p → (parent_at u.membranes i ≡ k) ⊎ ((suc k ≤ parent_at u.membranes i) × (parent_at u.membranes i < suc k + size inner)) → ⊥
      by_parent i e (inl d) = omega (arith, l, e, d)
      by_parent i e (inr d) = omega (arith, l, e, d.0)

  -- in each membrane of the regions stand the outer ones of what is in it
  pub kids_are : (n : ℕ) (ts : Trees) (p k a : ℕ) → Stands u ts p k a → p < k → k + size ts ≤ suc n
      → ((i : ℕ) → k + size ts ≤ i → i < suc n → (parent_at u.membranes i < k) ⊎ (k + size ts ≤ parent_at u.membranes i)) → Kids (λ m. picks u.membranes m 1 n) ts k
  kids_are n none p k a s l b f = tt
  kids_are n (tree atoms rules inner rest) p k a s l b f =
      let ms = u.membranes in
      let after = n - (k + size inner) in
      let e : n ≡ k + (size inner + after) = omega (arith, b) in
      let d : 1 + k ≡ suc k = omega arith in (
        ap (picks ms k 1) e
            ∙ picks_both ms k 1 k (size inner + after)
            ∙ ap (λ xs. xs ++ picks ms k (1 + k) (size inner + after)) (picks_none ms k 1 k (λ i x y z. let r = risen i x in omega (arith, r, y, z)))
            ∙ ap (λ c. picks ms k c (size inner + after)) d
            ∙ picks_both ms k (suc k) (size inner) after
            ∙ ap (λ xs. picks ms k (suc k) (size inner) ++ xs) (picks_none ms k (suc k + size inner) after (λ i x y z.
            by_part i z (below_or_from i (k + size (tree atoms rules inner rest)))
            (λ c. parents_in rest p (suc k + size inner) (a + length atoms + count inner) s.3 i x (omega (arith, c)))
            (λ c. f i c (omega (arith, y, b)))))
            ∙ plus_nothing (picks ms k (suc k) (size inner))
            ∙ heads_are inner k (suc k) (a + length atoms) s.2 (omega arith),
        kids_are n inner k (suc k) (a + length atoms) s.2 (omega arith) (omega (arith, b)) (λ i x y.
            outside_inner i (below_or_from i (k + size (tree atoms rules inner rest)))
            (λ c. parents_in rest p (suc k + size inner) (a + length atoms + count inner) s.3 i x (omega (arith, c)))
            (λ c. f i c y)),
        kids_are n rest p (suc k + size inner) (a + length atoms + count inner) s.3 (omega (arith, l)) (omega (arith, b)) (λ i x y. outside_rest i (f i (omega (arith, x)) y)),
      )
    where
      by_part : (i : ℕ) → parent_at u.membranes i ≡ k → (i < k + size (tree atoms rules inner rest)) ⊎ (k + size (tree atoms rules inner rest) ≤ i)
          → (i < k + size (tree atoms rules inner rest) → (parent_at u.membranes i ≡ p) ⊎ ((suc k + size inner ≤ parent_at u.membranes i) × (parent_at u.membranes i < suc k + size inner + size rest)))
          → (k + size (tree atoms rules inner rest) ≤ i → (parent_at u.membranes i < k) ⊎ (k + size (tree atoms rules inner rest) ≤ parent_at u.membranes i)) → ⊥
      by_part i e (inl c) g h = within_rest (g c)
        where
          within_rest : (parent_at u.membranes i ≡ p) ⊎ ((suc k + size inner ≤ parent_at u.membranes i) × (parent_at u.membranes i < suc k + size inner + size rest)) → ⊥
          within_rest (inl d) = omega (arith, l, e, d)
          within_rest (inr d) = omega (arith, e, d.0)
      by_part i e (inr c) g h = beyond (h c)
        where
          beyond : (parent_at u.membranes i < k) ⊎ (k + size (tree atoms rules inner rest) ≤ parent_at u.membranes i) → ⊥
          beyond (inl d) = omega (arith, e, d)
          beyond (inr d) = omega (arith, e, d)

      outside_inner : (i : ℕ) → (i < k + size (tree atoms rules inner rest)) ⊎ (k + size (tree atoms rules inner rest) ≤ i)
          → (i < k + size (tree atoms rules inner rest) → (parent_at u.membranes i ≡ p) ⊎ ((suc k + size inner ≤ parent_at u.membranes i) × (parent_at u.membranes i < suc k + size inner + size rest)))
          → (k + size (tree atoms rules inner rest) ≤ i → (parent_at u.membranes i < k) ⊎ (k + size (tree atoms rules inner rest) ≤ parent_at u.membranes i))
          → (parent_at u.membranes i < suc k) ⊎ (suc k + size inner ≤ parent_at u.membranes i)
      outside_inner i (inl c) g h = within_rest (g c)
        where
          within_rest : (parent_at u.membranes i ≡ p) ⊎ ((suc k + size inner ≤ parent_at u.membranes i) × (parent_at u.membranes i < suc k + size inner + size rest)) → (parent_at u.membranes i < suc k) ⊎ (suc k + size inner ≤ parent_at u.membranes i)
          within_rest (inl d) = inl (omega (arith, l, d))
          within_rest (inr d) = inr d.0
      outside_inner i (inr c) g h = beyond (h c)
        where
          beyond : (parent_at u.membranes i < k) ⊎ (k + size (tree atoms rules inner rest) ≤ parent_at u.membranes i) → (parent_at u.membranes i < suc k) ⊎ (suc k + size inner ≤ parent_at u.membranes i)
          beyond (inl d) = inl (omega (arith, d))
          beyond (inr d) = inr (omega (arith, d))

      outside_rest : (i : ℕ) → (parent_at u.membranes i < k) ⊎ (k + size (tree atoms rules inner rest) ≤ parent_at u.membranes i) → (parent_at u.membranes i < suc k + size inner) ⊎ (suc k + size inner + size rest ≤ parent_at u.membranes i)
      outside_rest i (inl d) = inl (omega (arith, d))
      outside_rest i (inr d) = inr (omega (arith, d))
