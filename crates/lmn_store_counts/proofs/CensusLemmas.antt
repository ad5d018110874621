-- Items are counted, and what one more or one less does to the count.
use Rattle.std.proofs.Common.{◌≡◌, ◌≢◌, ℕ, ◌+◌, ◌-◌, ◌≤◌, ◌==◌, ◌↔◌, Bool, true, false, cond, List, [], ◌∷◌, Option, Some, None, IsSome, refl, sym, ap, subst, ◌∙◌, inl, inr, arith}
use Rattle.std.proofs.lemmas.Bool.{cases_eq, eq-eqb, eqb-true}
use Rattle.std.specs.Option.{option_map}
use Rattle.lmn_store_heap.specs.Lists.{Distinct, without}
use Rattle.lmn_store_heap.specs.Heap.{alter}
use Rattle.lmn_store_heap.proofs.ListLemmas.{each_of, each_in, in_without}
use Rattle.lmn_store_heap.proofs.Listing.{alter_at, alter_away, in_without_of, distinct_without}
use Rattle.lmn_store_counts.specs.Census.{weight, total, Census}
use Rattle.lmn_base.specs.Lists.{In}

module _ {X : Type 0} (w : X → ℕ) where
  pub total_same : (f g : ℕ → Option X) (ks : List ℕ) → ((k : ℕ) → In k ks → weight w (g k) ≡ weight w (f k)) → total w g ks ≡ total w f ks
  total_same f g [] e = refl
  total_same f g (k ∷ ks) e = let h = e k (inl refl) in let r = total_same f g ks (λ j i. e j (inr i)) in omega arith

  pub total_without : (f : ℕ → Option X) (k : ℕ) (ks : List ℕ) → In k ks → total w f ks ≡ weight w (f k) + total w f (without k ks)
  total_without f k [] i = absurd i
  total_without f k (j ∷ ks) i = by (j == k) refl i (total_without f k ks)
    where
      by : (b : Bool) → (j == k) ≡ b → In k (j ∷ ks) → (In k ks → total w f ks ≡ weight w (f k) + total w f (without k ks))
          → weight w (f j) + total w f ks ≡ weight w (f k) + total w f (cond b ks (j ∷ without k ks))
      by true e i rest = ap (λ z. weight w (f z) + total w f ks) (eqb-true j k e)
      by false e (inl same) rest = absurd (let u : (j == k) ≡ true = eq-eqb j k same in let v : false ≡ true = sym e ∙ u in cc)
      by false e (inr i) rest = let r = rest i in omega arith

  -- two lists of the same numbers have one total
  pub total_two : (f : ℕ → Option X) (ks js : List ℕ) → Distinct ks → Distinct js → ((k : ℕ) → In k ks ↔ In k js) → total w f ks ≡ total w f js
  total_two f [] [] d e same = refl
  total_two f [] (j ∷ js) d e same = absurd ((same j).1 (inl refl))
  total_two f (k ∷ ks) js d e same =
      let r = total_two f ks (without k js) d.1 (distinct_without k js e) (λ z. (
        λ i. in_without k z js ((same z).0 (inr i)) (λ h. each_in (λ y. k ≢ y) ks z d.0 i (sym h)),
        λ i. let u = in_without_of k z js e i in elim ((same z).1 u.0) [ inl h ↦ absurd (u.1 (sym h)) | inr j ↦ j ],
      )) in
      let t = total_without f k js ((same k).0 (inl refl)) in
      omega arith

  pub census_add : (f : ℕ → Option X) (n k : ℕ) (x : X) → f k ≡ None → Census w f n → Census w (alter f k (λ _. Some x)) (n + w x)
  census_add f n k x none c = record {
    keys = k ∷ c.keys;
    once = (each_of _ c.keys (λ j i same. absent j i same), c.once);
    all = λ j. elim (cases_eq j k) [
      | inl e ↦ (λ i. subst (λ z. IsSome (alter f k (λ _. Some x) z)) (sym e) (rw (alter_at f k (λ _. Some x)) refl), λ h. inl (sym e))
      | inr d ↦ rw (alter_away f k (λ _. Some x) j d) (
        λ i. elim i [ inl e ↦ absurd (d (sym e)) | inr h ↦ (c.all j).0 h ],
        λ h. inr ((c.all j).1 h),
      )
    ];
    weighs =
        let here : weight w (alter f k (λ _. Some x) k) ≡ w x = ap (weight w) (alter_at f k (λ _. Some x)) in
        let rest = total_same f (alter f k (λ _. Some x)) c.keys (λ j i. ap (weight w) (alter_away f k (λ _. Some x) j (λ e. absent j i (sym e)))) in
        let n' = c.weighs in omega arith;
  }
    where
      absent : (j : ℕ) → In j c.keys → k ≢ j
      absent j i same = let h : IsSome (f k) = subst (λ z. IsSome (f z)) (sym same) ((c.all j).0 i) in let g : IsSome {T = X} None = subst (λ (o : Option X). IsSome o) none h in absurd (cc)

  pub census_less : (f : ℕ → Option X) (n k : ℕ) (x : X) → f k ≡ Some x → Census w f n → w x ≤ n
  census_less f n k x some c =
      let i : In k c.keys = (c.all k).1 (subst (λ (o : Option X). IsSome o) (sym some) refl) in
      let t = total_without f k c.keys i in
      let h : weight w (f k) ≡ w x = ap (weight w) some in
      let n' = c.weighs in omega arith

  pub census_drop : (f : ℕ → Option X) (n k : ℕ) (x : X) → f k ≡ Some x → Census w f n → Census w (alter f k (λ _. None)) (n - w x)
  census_drop f n k x some c = record {
    keys = without k c.keys;
    once = distinct_without k c.keys c.once;
    all = λ j. elim (cases_eq j k) [
      | inl e ↦ (
        λ i. absurd ((in_without_of k j c.keys c.once i).1 e),
        λ h. let g : IsSome (alter f k (λ _. None) k) = subst (λ z. IsSome (alter f k (λ _. None) z)) e h in
            let u : IsSome {T = X} None = subst (λ (o : Option X). IsSome o) (alter_at f k (λ _. None)) g in absurd (cc),
      )
      | inr d ↦ rw (alter_away f k (λ _. None) j d) (
        λ i. (c.all j).0 (in_without_of k j c.keys c.once i).0,
        λ h. in_without k j c.keys ((c.all j).1 h) d,
      )
    ];
    weighs =
        let i : In k c.keys = (c.all k).1 (subst (λ (o : Option X). IsSome o) (sym some) refl) in
        let t = total_without f k c.keys i in
        let h : weight w (f k) ≡ w x = ap (weight w) some in
        let rest = total_same f (alter f k (λ _. None)) (without k c.keys) (λ j i. ap (weight w) (alter_away f k (λ _. None) j (in_without_of k j c.keys c.once i).1)) in
        let n' = c.weighs in omega arith;
  }

  -- a change of items that keeps which there are and what each weighs
  pub census_same : (f g : ℕ → Option X) (n : ℕ) → ((k : ℕ) → IsSome (g k) ↔ IsSome (f k)) → ((k : ℕ) → weight w (g k) ≡ weight w (f k)) → Census w f n → Census w g n
  census_same f g n is same c = record {
    keys = c.keys;
    once = c.once;
    all = λ k. (λ i. (is k).1 ((c.all k).0 i), λ h. (c.all k).1 ((is k).0 h));
    weighs = c.weighs ∙ sym (total_same f g c.keys (λ k i. same k));
  }

  pub census_alter : (f : ℕ → Option X) (n a : ℕ) (h : X → X) → ((x : X) → w (h x) ≡ w x) → Census w f n → Census w (alter f a (option_map h)) n
  census_alter f n a h e c = census_same f (alter f a (option_map h)) n (λ k. there (k == a) (f k)) (λ k. weighs (k == a) (f k)) c
    where
      there : (b : Bool) (o : Option X) → IsSome (cond b (option_map h o) o) ↔ IsSome o
      there true None = (λ x. x, λ x. x)
      there true (Some x) = (λ _. refl, λ _. refl)
      there false o = (λ x. x, λ x. x)

      weighs : (b : Bool) (o : Option X) → weight w (cond b (option_map h o) o) ≡ weight w o
      weighs true None = refl
      weighs true (Some x) = e x
      weighs false o = refl

  -- one item weighs something else
  pub census_set : (f : ℕ → Option X) (n a : ℕ) (x : X) (h : X → X) → f a ≡ Some x → Census w f n → Census w (alter f a (option_map h)) (n - w x + w (h x))
  census_set f n a x h some c =
      let f1 = alter f a (λ (_ : Option X). None) in
      let c2 = census_add f1 (n - w x) a (h x) (alter_at f a (λ _. None)) (census_drop f n a x some c) in
      subst (λ g. Census w g (n - w x + w (h x))) (λ j k. same k j) c2
    where
      same : (k : ℕ) → alter (alter f a (λ _. None)) a (λ _. Some (h x)) k ≡ alter f a (option_map h) k
      same k = elim (cases_eq k a) [
        | inl e ↦ subst (λ z. alter (alter f a (λ _. None)) a (λ _. Some (h x)) z ≡ alter f a (option_map h) z) (sym e)
            (alter_at (alter f a (λ _. None)) a (λ _. Some (h x)) ∙ sym (alter_at f a (option_map h) ∙ ap (option_map h) some))
        | inr d ↦ alter_away (alter f a (λ _. None)) a (λ _. Some (h x)) k d ∙ alter_away f a (λ _. None) k d ∙ sym (alter_away f a (option_map h) k d)
      ]
