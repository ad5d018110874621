-- The copy of a rest goes to its place: lists grow by the copies of those of the rest.
use Rattle.std.proofs.Common.{ℕ, ◌≡◌, ◌≢◌, ◌==◌, Bool, true, false, cond, List, [], ◌∷◌, ◌++◌, map, Option, Some, None, IsSome, refl, sym, ap, subst, ◌∙◌, inl, inr, arith}
use Rattle.std.proofs.lemmas.Bool.{cases_eq, eq-eqb, eqb-true}
use Rattle.std.proofs.lemmas.List.{append_assoc, map-append}
use Rattle.std.specs.Option.{option_map, option_and_then}
use Rattle.lmn_store_heap.specs.Heap.{Heap, HeapMem, Distinct, home_by, mem_place_of, parent_of, atoms_in, mems_in, rules_in, placed, placed_mem, rules_copied}
use Rattle.lmn_store_heap.specs.Sound.{Forest, bare, mem, flat, Forms}
use Rattle.lmn_store_heap.proofs.ListLemmas.{in_left, in_right, each_in, distinct_left, distinct_right}
use Rattle.lmn_ground_parts.specs.Copies.{answer}
use Rattle.lmn_ground_parts.specs.Rests.{CopyWaits, atoms_placed, atoms_of_all, copy_round, membrane_placed, membranes_placed, rest_placed}
use Rattle.lmn_ground_parts.proofs.AnswerLaws.{answer_here, answer_on, answer_in, answer_one, map_answer}
use Rattle.lmn_solid_bodies.specs.Running.{all_placed}
use Rattle.lmn_solid_bodies.specs.RestCopies.{given}
use Rattle.lmn_solid_bodies.proofs.Growing.{Grown, grown_none, grown_after, grown_all_placed, grown_placed_mem, grown_rules, only_at, only_other, some_there}
use Rattle.lmn_base.specs.Lists.{In}
use Rattle.lmn_base.proofs.Lists.{in_either, plus_nothing}
use Rattle.lmn_base.proofs.Common.{map_same}
use Rattle.lmn_ground_parts.proofs.Common.{keep_all}
use Rattle.lmn_store_heap.proofs.Groves.{list_inside, child_inside}

-- ---- what some membranes give

-- what is given comes from one of them
pub in_given : (list : ℕ → List ℕ) (to : ℕ → ℕ) (ks : List ℕ) (x b : ℕ) → In b (given list to ks x) → (k : ℕ) × In k ks × (to k ≡ x) × In b (list k)
in_given list to [] x b i = absurd i
in_given list to (k ∷ ks) x b i = by (to k == x) refl i (λ j. in_given list to ks x b j)
  where
    by : (t : Bool) → (to k == x) ≡ t → In b (cond t (list k) [] ++ given list to ks x) → (In b (given list to ks x) → (j : ℕ) × In j ks × (to j ≡ x) × In b (list j)) → (j : ℕ) × In j (k ∷ ks) × (to j ≡ x) × In b (list j)
    by true e i on = elim (in_either b (list k) (given list to ks x) i) [
      | inl j ↦ (k, inl refl, eqb-true (to k) x e, j)
      | inr j ↦ (let w = on j in (w.0, inr w.1, w.2, w.3))
    ]
    by false e i on = let w = on i in (w.0, inr w.1, w.2, w.3)

-- and what one of them holds is given
pub given_in : (list : ℕ → List ℕ) (to : ℕ → ℕ) (ks : List ℕ) (k b : ℕ) → In k ks → In b (list k) → In b (given list to ks (to k))
given_in list to [] k b i j = absurd i
given_in list to (y ∷ ks) k b (inl e) j =
    in_left b (cond (to y == to k) (list y) []) (given list to ks (to k)) (subst (λ t. In b (cond t (list y) [])) (sym (eq-eqb (to y) (to k) (ap to e))) (subst (λ z. In b (list z)) (sym e) j))
given_in list to (y ∷ ks) k b (inr i) j = in_right b (cond (to y == to k) (list y) []) (given list to ks (to k)) (given_in list to ks k b i j)

-- equal lists give the same
pub given_same : (f g : ℕ → List ℕ) (to : ℕ → ℕ) (ks : List ℕ) (x : ℕ) → ((k : ℕ) → In k ks → g k ≡ f k) → given g to ks x ≡ given f to ks x
given_same f g to [] x e = refl
given_same f g to (k ∷ ks) x e =
    let here = e k (inl refl) in
    let rest = given_same f g to ks x (λ j i. e j (inr i)) in
    λ t. cond (to k == x) (here t) [] ++ rest t

-- nothing is given to another membrane
pub given_none : (list : ℕ → List ℕ) (to : ℕ → ℕ) (ks : List ℕ) (x : ℕ) → ((k : ℕ) → In k ks → to k ≢ x) → given list to ks x ≡ []
given_none list to [] x d = refl
given_none list to (k ∷ ks) x d = by (to k == x) refl ∙ given_none list to ks x (λ j i. d j (inr i))
  where
    by : (t : Bool) → (to k == x) ≡ t → cond t (list k) [] ++ given list to ks x ≡ given list to ks x
    by true e = absurd (d k (inl refl) (eqb-true (to k) x e))
    by false e = refl

given_append : (list : ℕ → List ℕ) (to : ℕ → ℕ) (js ks : List ℕ) (x : ℕ) → given list to (js ++ ks) x ≡ given list to js x ++ given list to ks x
given_append list to [] ks x = refl
given_append list to (j ∷ js) ks x = ap (λ zs. cond (to j == x) (list j) [] ++ zs) (given_append list to js ks x) ∙ sym (append_assoc (cond (to j == x) (list j) []) (given list to js x) (given list to ks x))

-- ---- membranes go to the copies of those round them

-- what membrane x gets when the copy of each membrane goes to the copy of the one round it
abbrev pub rounds : Heap → (ℕ → ℕ) → List ℕ → ℕ → List ℕ
rounds s cm [] x = []
rounds s cm (k ∷ ks) x = only_at (copy_round cm (parent_of s k)) (cm k ∷ []) x ++ rounds s cm ks x

rounds_append : (s : Heap) (cm : ℕ → ℕ) (js ks : List ℕ) (x : ℕ) → rounds s cm (js ++ ks) x ≡ rounds s cm js x ++ rounds s cm ks x
rounds_append s cm [] ks x = refl
rounds_append s cm (j ∷ js) ks x =
    ap (λ zs. only_at (copy_round cm (parent_of s j)) (cm j ∷ []) x ++ zs) (rounds_append s cm js ks x) ∙ sym (append_assoc (only_at (copy_round cm (parent_of s j)) (cm j ∷ []) x) (rounds s cm js x) (rounds s cm ks x))

rounds_same : (s t : Heap) (cm : ℕ → ℕ) (ks : List ℕ) (x : ℕ) → ((k : ℕ) → In k ks → parent_of t k ≡ parent_of s k) → rounds t cm ks x ≡ rounds s cm ks x
rounds_same s t cm [] x e = refl
rounds_same s t cm (k ∷ ks) x e =
    let here = e k (inl refl) in
    let rest = rounds_same s t cm ks x (λ j i. e j (inr i)) in
    λ v. only_at (copy_round cm (here v)) (cm k ∷ []) x ++ rest v

-- two pieces of which one is nothing may be exchanged
exchanged : (cp x : ℕ) (us vs : List ℕ) → (cp ≡ x → vs ≡ []) → vs ++ only_at cp us x ≡ only_at cp us x ++ vs
exchanged cp x us vs d = elim (cases_eq cp x) [
  | inl e ↦ ap (λ zs. zs ++ only_at cp us x) (d e) ∙ sym (plus_nothing (only_at cp us x)) ∙ ap (λ zs. only_at cp us x ++ zs) (sym (d e))
  | inr o ↦ ap (λ zs. vs ++ zs) (only_other cp x us (λ e. o (sym e))) ∙ plus_nothing vs ∙ ap (λ zs. zs ++ vs) (sym (only_other cp x us (λ e. o (sym e))))
]

joined_at : (cp x k : ℕ) (us : List ℕ) → only_at cp (k ∷ []) x ++ only_at cp us x ≡ only_at cp (k ∷ us) x
joined_at cp x k us = by (cp == x)
  where
    by : (t : Bool) → cond t (k ∷ []) [] ++ cond t us [] ≡ cond t (k ∷ us) []
    by true = refl
    by false = refl

-- In preorder each list comes whole and in its order.
regrouped : (s : Heap) (cm : ℕ → ℕ) (x : ℕ) (f : Forest) (roots : List ℕ) (p : ℕ) → Forms s f roots
    → ((k : ℕ) → In k roots → parent_of s k ≡ Some p) → ((q k : ℕ) → In q (flat f) → In k (mems_in s q) → parent_of s k ≡ Some q)
    → ((k : ℕ) → In k (flat f) → cm k ≢ cm p) → Distinct (flat f) → ((j k : ℕ) → In j (flat f) → In k (flat f) → cm j ≡ cm k → j ≡ k)
    → rounds s cm (flat f) x ≡ only_at (cm p) (map cm roots) x ++ given (λ k. map cm (mems_in s k)) cm (flat f) x
regrouped s cm x bare roots p forms home homes d once one = sym (ap (λ zs. only_at (cm p) (map cm zs) x ++ []) forms ∙ by (cm p == x))
  where
    by : (t : Bool) → ◌≡◌ {A = List ℕ} (cond t [] [] ++ []) []
    by true = refl
    by false = refl
regrouped s cm x (mem k inner rest) roots p (others, are, forms_in, forms_rest) home homes d once one =
    let G : List ℕ → List ℕ = λ zs. given (λ j. map cm (mems_in s j)) cm zs x in
    let fi = flat inner in
    let fr = flat rest in
    let parent_k : parent_of s k ≡ Some p = home k (subst (In k) (sym are) (inl refl)) in
    let into_i : (j : ℕ) → In j fi → In j (k ∷ (fi ++ fr)) = λ j i. inr (in_left j fi fr i) in
    let into_r : (j : ℕ) → In j fr → In j (k ∷ (fi ++ fr)) = λ j i. inr (in_right j fi fr i) in
    let hi : rounds s cm fi x ≡ only_at (cm k) (map cm (mems_in s k)) x ++ G fi =
    regrouped s cm x inner (mems_in s k) k forms_in (λ j i. homes k j (inl refl) i) (λ q j i. homes q j (into_i q i))
    (λ j i e. each_in (λ z. k ≢ z) (fi ++ fr) j once.0 (in_left j fi fr i) (one k j (inl refl) (into_i j i) (sym e)))
    (distinct_left fi fr once.1) (λ i j a b. one i j (into_i i a) (into_i j b)) in
    let hr : rounds s cm fr x ≡ only_at (cm p) (map cm others) x ++ G fr =
    regrouped s cm x rest others p forms_rest (λ j i. home j (subst (In j) (sym are) (inr i))) (λ q j i. homes q j (into_r q i)) (λ j i. d j (into_r j i)) (distinct_right fi fr once.1) (λ i j a b. one i j (into_r i a) (into_r j b)) in
    let V = only_at (cm k) (map cm (mems_in s k)) x ++ G fi in
    let none : cm p ≡ x → V ≡ [] = λ e.
    (λ t. only_other (cm k) x (map cm (mems_in s k)) (λ q. d k (inl refl) (sym q ∙ sym e)) t
    ++ given_none (λ j. map cm (mems_in s j)) cm fi x (λ j i q. d j (into_i j i) (q ∙ sym e)) t) in
    ap (λ (o : Option ℕ). only_at (copy_round cm o) (cm k ∷ []) x ++ rounds s cm (fi ++ fr) x) parent_k
    ∙ ap (λ zs. only_at (cm p) (cm k ∷ []) x ++ zs) (rounds_append s cm fi fr x ∙ (λ t. hi t ++ hr t)
    ∙ sym (append_assoc V (only_at (cm p) (map cm others) x) (G fr)) ∙ ap (λ zs. zs ++ G fr) (exchanged (cm p) x (map cm others) V none)
    ∙ append_assoc (only_at (cm p) (map cm others) x) V (G fr))
    ∙ sym (append_assoc (only_at (cm p) (cm k ∷ []) x) (only_at (cm p) (map cm others) x) (V ++ G fr))
    ∙ ap (λ zs. zs ++ (V ++ G fr)) (joined_at (cm p) x (cm k) (map cm others) ∙ ap (λ zs. only_at (cm p) (map cm zs) x) (sym are))
    ∙ ap (λ zs. only_at (cm p) (map cm roots) x ++ zs) (append_assoc (only_at (cm k) (map cm (mems_in s k)) x) (G fi) (G fr)
    ∙ ap (λ zs. only_at (cm k) (map cm (mems_in s k)) x ++ zs) (sym (given_append (λ j. map cm (mems_in s j)) cm fi fr x)))

-- ---- growth, membrane by membrane

-- atoms of a list go to a membrane one by one
pub placed_pairs : (copy : ℕ → ℕ) (n : ℕ) (xs : List ℕ) (s : Heap) → atoms_placed copy s n xs ≡ all_placed s (map (λ y. (n, y)) (map copy xs))
placed_pairs copy n [] s = refl
placed_pairs copy n (x ∷ xs) s = placed_pairs copy n xs (placed s n (copy x))

-- the atoms of these membranes, copied, one membrane after the other
abbrev pub copies_in : Heap → (ℕ → ℕ) → List ℕ → List ℕ
copies_in s copy [] = []
copies_in s copy (k ∷ ks) = map copy (atoms_in s k) ++ copies_in s copy ks

-- equal lists have the same copies
pub copies_same : (s t : Heap) (copy : ℕ → ℕ) (ks : List ℕ) → ((k : ℕ) → In k ks → atoms_in t k ≡ atoms_in s k) → copies_in t copy ks ≡ copies_in s copy ks
copies_same s t copy [] e = refl
copies_same s t copy (k ∷ ks) e = let here = e k (inl refl) in let rest = copies_same s t copy ks (λ j i. e j (inr i)) in λ v. map copy (here v) ++ rest v

-- the same growth, said otherwise
grown_said : (ks : List ℕ) (s t : Heap) (na nm na' nm' : List ℕ) (A M R A' M' R' : ℕ → List ℕ) → Grown ks s t [] na nm A M R → na ≡ na' → nm ≡ nm' → ((x : ℕ) → A x ≡ A' x) → ((x : ℕ) → M x ≡ M' x) → ((x : ℕ) → R x ≡ R' x)
    → Grown ks s t [] na' nm' A' M' R'
grown_said ks s t na nm na' nm' A M R A' M' R' g ea em a m r = record {
  same = g.same;
  atoms = λ x o. g.atoms x o ∙ ap (λ zs. atoms_in s x ++ zs) (a x);
  mems = λ x o. g.mems x o ∙ ap (λ zs. mems_in s x ++ zs) (m x);
  rules = λ x o. g.rules x o ∙ ap (λ zs. rules_in s x ++ zs) (r x);
  head_atoms = g.head_atoms;
  head_mems = g.head_mems;
  head_rules = g.head_rules;
  empty = g.empty;
  there = g.there;
  gone_before = g.gone_before;
  places = g.places;
  line = λ rest e. g.line rest (e ∙ ap (λ zs. zs ++ rest) (sym ea));
  mem_line = λ rest e. g.mem_line rest (e ∙ ap (λ zs. zs ++ rest) (sym em));
}

module _ (ks : List ℕ) (copy cm : ℕ → ℕ) where
  -- what is asked of the membranes whose copies are to be placed: they don't change, and their copies and those of the ones round
  -- them may get items
  pub record Placing (zs : List ℕ) (s : Heap) : Type 0 where
    pub kept : (k : ℕ) → In k zs → In k ks
    pub round : (k : ℕ) → In k zs → (p : ℕ) × (parent_of s k ≡ Some p) × (In (cm p) ks → ⊥) × IsSome (s.mems (cm p))
    pub target : (k : ℕ) → In k zs → (In (cm k) ks → ⊥) × IsSome (s.mems (cm k))

  pub parent_as : (s t : Heap) (k : ℕ) → mem_place_of t k ≡ mem_place_of s k → parent_of t k ≡ parent_of s k
  parent_as s t k e = by (t.mems k) (s.mems k) e
    where
      by : (o q : Option HeapMem) → option_map (λ y. y.place) o ≡ option_map (λ y. y.place) q → option_and_then (λ y. home_by y.place) o ≡ option_and_then (λ y. home_by y.place) q
      by None None e = refl
      by None (Some y) e = absurd (cc)
      by (Some x) None e = absurd (cc)
      by (Some x) (Some y) e = let g : x.place ≡ y.place = (cc) in ap home_by g

  pub placing_on : (zs : List ℕ) (s t : Heap) (na nm : List ℕ) (A M R : ℕ → List ℕ) → Grown ks s t [] na nm A M R → Placing zs s → Placing zs t
  placing_on zs s t na nm A M R g pl = record {
    kept = pl.kept;
    round = λ k i. let w = pl.round k i in (w.0, parent_as s t k (g.places k (pl.kept k i) (λ p j e. j)) ∙ w.1, w.2, some_there (s.mems (cm w.0)) (t.mems (cm w.0)) (g.there (cm w.0)) w.3);
    target = λ k i. let w = pl.target k i in (w.0, some_there (s.mems (cm k)) (t.mems (cm k)) (g.there (cm k)) w.1);
  }

  pub grown_membrane : (k : ℕ) (s : Heap) → Placing (k ∷ []) s
      → Grown ks s (membrane_placed cm copy s k) [] (map copy (atoms_in s k)) (cm k ∷ []) (only_at (cm k) (map copy (atoms_in s k))) (only_at (copy_round cm (parent_of s k)) (cm k ∷ [])) (only_at (cm k) (rules_in s k))
  grown_membrane k s pl =
      let n = cm k in
      let w = pl.round k (inl refl) in
      let q = pl.target k (inl refl) in
      let p = copy_round cm (parent_of s k) in
      let is_p : cm w.0 ≡ p = ap (copy_round cm) (sym w.1) in
      let xs = atoms_in s k in
      let s1 = placed_mem s p n in
      let g1 = grown_placed_mem ks s p n (λ i. w.2 (subst (λ z. In z ks) (sym is_p) i)) q.0 (subst (λ z. IsSome (s.mems z)) is_p w.3) in
      let there1 : IsSome (s1.mems n) = some_there (s.mems n) (s1.mems n) (g1.there n) q.1 in
      let s2 = rules_copied s1 k n in
      let same_rules : rules_in s1 k ≡ rules_in s k = g1.head_rules k (pl.kept k (inl refl)) in
      let g2 = grown_rules ks s1 n (rules_in s1 k) q.0 there1 in
      let there2 : IsSome (s2.mems n) = some_there (s1.mems n) (s2.mems n) (g2.there n) there1 in
      let s3 = all_placed s2 (map (λ y. (n, y)) (map copy xs)) in
      let g3 = grown_all_placed ks n (map copy xs) s2 q.0 there2 in
      let g12 = grown_after ks s s1 s2 [] [] [] [] (n ∷ []) [] (λ x. []) (only_at p (n ∷ [])) (λ x. []) (λ x. []) (λ x. []) (only_at n (rules_in s1 k)) (λ x i. absurd i) (λ x i j. i) g1 g2 in
      let g = grown_after ks s s2 s3 [] [] [] (map copy xs) (n ∷ []) [] (λ x. []) (λ x. only_at p (n ∷ []) x ++ []) (only_at n (rules_in s1 k)) (only_at n (map copy xs)) (λ x. []) (λ x. []) (λ x i. absurd i) (λ x i j. i) g12 g3 in
      subst (λ z. Grown ks s z [] (map copy xs) (n ∷ []) (only_at n (map copy xs)) (only_at p (n ∷ [])) (only_at n (rules_in s k))) (sym (placed_pairs copy n xs s2))
      (grown_said ks s s3 (map copy xs) (n ∷ []) (map copy xs) (n ∷ []) (only_at n (map copy xs)) (λ x. (only_at p (n ∷ []) x ++ []) ++ []) (λ x. only_at n (rules_in s1 k) x ++ [])
      (only_at n (map copy xs)) (only_at p (n ∷ [])) (only_at n (rules_in s k)) g refl refl (λ x. refl)
      (λ x. plus_nothing (only_at p (n ∷ []) x ++ []) ∙ plus_nothing (only_at p (n ∷ []) x))
      (λ x. plus_nothing (only_at n (rules_in s1 k) x) ∙ ap (λ zs. only_at n zs x) same_rules))

  grown_membranes : (zs : List ℕ) (s : Heap) → Placing zs s
      → Grown ks s (membranes_placed cm copy s zs) [] (copies_in s copy zs) (map cm zs) (given (λ k. map copy (atoms_in s k)) cm zs) (rounds s cm zs) (given (rules_in s) cm zs)
  grown_membranes [] s pl = grown_none ks s
  grown_membranes (k ∷ zs) s pl =
      let one = grown_membrane k s (record { kept = λ j i. elim i [ inl e ↦ pl.kept j (inl e) | inr v ↦ absurd v ]; round = λ j i. elim i [ inl e ↦ pl.round j (inl e) | inr v ↦ absurd v ]; target = λ j i. elim i [ inl e ↦ pl.target j (inl e) | inr v ↦ absurd v ] }) in
      let t = membrane_placed cm copy s k in
      let u = membranes_placed cm copy t zs in
      let A1 = only_at (cm k) (map copy (atoms_in s k)) in
      let M1 = only_at (copy_round cm (parent_of s k)) (cm k ∷ []) in
      let R1 = only_at (cm k) (rules_in s k) in
      let on = grown_membranes zs t (placing_on zs s t (map copy (atoms_in s k)) (cm k ∷ []) A1 M1 R1 one (record { kept = λ j i. pl.kept j (inr i); round = λ j i. pl.round j (inr i); target = λ j i. pl.target j (inr i) })) in
      let kept : (j : ℕ) → In j zs → In j ks = λ j i. pl.kept j (inr i) in
      let g = grown_after ks s t u [] [] (map copy (atoms_in s k)) (copies_in t copy zs) (cm k ∷ []) (map cm zs) A1 M1 R1 (given (λ j. map copy (atoms_in t j)) cm zs) (rounds t cm zs) (given (rules_in t) cm zs) (λ x i. absurd i) (λ x i j. i) one on in
      grown_said ks s u (map copy (atoms_in s k) ++ copies_in t copy zs) (cm k ∷ map cm zs) (copies_in s copy (k ∷ zs)) (map cm (k ∷ zs))
      (λ x. A1 x ++ given (λ j. map copy (atoms_in t j)) cm zs x) (λ x. M1 x ++ rounds t cm zs x) (λ x. R1 x ++ given (rules_in t) cm zs x)
      (given (λ j. map copy (atoms_in s j)) cm (k ∷ zs)) (rounds s cm (k ∷ zs)) (given (rules_in s) cm (k ∷ zs)) g
      (ap (λ ws. map copy (atoms_in s k) ++ ws) (copies_same s t copy zs (λ j i. one.head_atoms j (kept j i) (λ v. v))))
      refl
      (λ x. ap (λ ws. A1 x ++ ws) (given_same (λ j. map copy (atoms_in s j)) (λ j. map copy (atoms_in t j)) cm zs x (λ j i. ap (map copy) (one.head_atoms j (kept j i) (λ v. v)))))
      (λ x. ap (λ ws. M1 x ++ ws) (rounds_same s t cm zs x (λ j i. parent_as s t j (one.places j (kept j i) (λ p a e. a)))))
      (λ x. ap (λ ws. R1 x ++ ws) (given_same (rules_in s) (rules_in t) cm zs x (λ j i. one.head_rules j (kept j i))))

-- ---- the whole rest

-- each membrane of a forest stands in the list of the one round it
pub stands_round : (s : Heap) (f : Forest) (roots : List ℕ) (p k : ℕ) → Forms s f roots → ((j : ℕ) → In j roots → In j (mems_in s p)) → In k (flat f) → (q : ℕ) × In q (p ∷ flat f) × In k (mems_in s q)
stands_round s bare roots p k forms into i = absurd i
stands_round s (mem j inner rest) roots p k (others, are, forms_in, forms_rest) into (inl e) = (p, inl refl, into k (subst (In k) (sym are) (inl e)))
stands_round s (mem j inner rest) roots p k (others, are, forms_in, forms_rest) into (inr i) = elim (in_either k (flat inner) (flat rest) i) [
  | inl l ↦ (let w = stands_round s inner (mems_in s j) j k forms_in (λ z m. m) l in (w.0, inr (below w.0 w.1), w.2))
  | inr l ↦ (let w = stands_round s rest others p k forms_rest (λ z m. into z (subst (In z) (sym are) (inr m))) l in
      (w.0, elim w.1 [ inl e ↦ inl e | inr m ↦ inr (inr (in_right w.0 (flat inner) (flat rest) m)) ], w.2))
]
  where
    below : (q : ℕ) → In q (j ∷ flat inner) → In q (j ∷ (flat inner ++ flat rest))
    below q (inl e) = inl e
    below q (inr m) = inr (in_left q (flat inner) (flat rest) m)

all_copies : (s : Heap) (copy : ℕ → ℕ) (ks : List ℕ) → copies_in s copy ks ≡ map copy (atoms_of_all s ks)
all_copies s copy [] = refl
all_copies s copy (k ∷ ks) = ap (λ zs. map copy (atoms_in s k) ++ zs) (all_copies s copy ks) ∙ sym (map-append copy (atoms_in s k) (atoms_of_all s ks))

-- What is asked where the copy of what stands in m goes to n: none of it changes, and n and the copies of membranes may get items.
pub record Places (ks : List ℕ) (s : Heap) (m n : ℕ) (atoms membranes new : List ℕ) : Type 0 where
  pub kept : (k : ℕ) → In k (m ∷ membranes) → In k ks
  pub homes : (p k : ℕ) → In p (m ∷ membranes) → In k (mems_in s p) → parent_of s k ≡ Some p
  pub target : (In n ks → ⊥) × IsSome (s.mems n)
  pub made : (y : ℕ) → In y new → (In y ks → ⊥) × IsSome (s.mems y)
  pub atoms_once : Distinct atoms
  pub new_once : Distinct new
  pub apart : In n new → ⊥

module _ (ks : List ℕ) (s : Heap) (m n : ℕ) (atoms membranes copies new : List ℕ) (c : CopyWaits s m n atoms membranes copies new) (pl : Places ks s m n atoms membranes new) where
  abbrev copy : ℕ → ℕ
  copy = answer atoms copies

  abbrev cm : ℕ → ℕ
  cm = answer (m ∷ membranes) (n ∷ new)

  pub cm_m : cm m ≡ n
  cm_m = answer_here m n membranes new m refl

  cm_in : (k : ℕ) → In k membranes → cm k ≡ answer membranes new k
  cm_in k i = answer_on m n membranes new k (λ e. c.content.outside (subst (λ z. In z membranes) (sym e) i))

  cm_new : (k : ℕ) → In k membranes → In (cm k) new
  cm_new k i = subst (λ z. In z new) (sym (cm_in k i)) (answer_in membranes new k (omega (arith, c.long_membranes)) i)

  cm_good : (k : ℕ) → In k (m ∷ membranes) → (In (cm k) ks → ⊥) × IsSome (s.mems (cm k))
  cm_good k (inl e) = subst (λ z. (In z ks → ⊥) × IsSome (s.mems z)) (sym (ap cm (sym e) ∙ cm_m)) pl.target
  cm_good k (inr i) = pl.made (cm k) (cm_new k i)

  pub forms : Forms s c.content.forest (mems_in s m)
  forms = subst (Forms s c.content.forest) (keep_all (mems_in s m)) c.content.forms

  pub of_flat : (k : ℕ) → In k (flat c.content.forest) → In k membranes
  of_flat k i = subst (In k) (sym c.content.preorder) i

  to_flat : (k : ℕ) → In k membranes → In k (flat c.content.forest)
  to_flat k i = subst (In k) c.content.preorder i

  pub child_in : (p k : ℕ) → In p (m ∷ membranes) → In k (mems_in s p) → In k membranes
  child_in p k (inl e) j = of_flat k (list_inside s c.content.forest (mems_in s m) forms k (subst (λ z. In k (mems_in s z)) (sym e) j))
  child_in p k (inr i) j = of_flat k (child_inside s c.content.forest (mems_in s m) forms p k (to_flat p i) j)

  pub placing : Placing ks copy cm membranes s
  placing = record {
    kept = λ k i. pl.kept k (inr i);
    round = λ k i.
        let w = stands_round s c.content.forest (mems_in s m) m k forms (λ j a. a) (to_flat k i) in
        let q : In w.0 (m ∷ membranes) = elim w.1 [ inl e ↦ inl e | inr a ↦ inr (of_flat w.0 a) ] in
        let good = cm_good w.0 q in
        (w.0, pl.homes w.0 k q w.2, good.0, good.1);
    target = λ k i. cm_good k (inr i);
  }

  pub all_atoms : map copy (atoms_in s m) ++ copies_in s copy membranes ≡ copies
  all_atoms = ap (λ zs. map copy (atoms_in s m) ++ zs) (all_copies s copy membranes) ∙ sym (map-append copy (atoms_in s m) (atoms_of_all s membranes))
      ∙ ap (map copy) (ap (λ zs. zs ++ atoms_of_all s membranes) (sym (keep_all (atoms_in s m))) ∙ sym c.content.in_order) ∙ map_answer atoms copies pl.atoms_once c.long

  pub all_membranes : map cm membranes ≡ new
  all_membranes = map_same cm (answer membranes new) membranes cm_in ∙ map_answer membranes new c.content.once c.long_membranes

  in_lists : (x : ℕ) → rounds s cm membranes x ≡ given (λ k. map (answer membranes new) (mems_in s k)) cm (m ∷ membranes) x
  in_lists x =
      ap (λ zs. rounds s cm zs x) c.content.preorder
      ∙ regrouped s cm x c.content.forest (mems_in s m) m forms (λ k i. pl.homes m k (inl refl) i) (λ q k i j. pl.homes q k (inr (of_flat q i)) j)
      (λ k i e. pl.apart (subst (λ z. In z new) (e ∙ cm_m) (cm_new k (of_flat k i)))) (subst Distinct c.content.preorder c.content.once)
      (λ j k a b e. answer_one membranes new j k (omega (arith, c.long_membranes)) pl.new_once (of_flat j a) (of_flat k b) (sym (cm_in j (of_flat j a)) ∙ e ∙ cm_in k (of_flat k b)))
      ∙ ap (λ zs. only_at (cm m) (map cm (mems_in s m)) x ++ given (λ k. map cm (mems_in s k)) cm zs x) (sym c.content.preorder)
      ∙ given_same (λ k. map (answer membranes new) (mems_in s k)) (λ k. map cm (mems_in s k)) cm (m ∷ membranes) x (λ k i. map_same cm (answer membranes new) (mems_in s k) (λ j a. cm_in j (child_in k j i a)))

  -- Lists grow by the copies of those of the rest.
  pub grown_rest : Grown ks s (rest_placed s m n atoms membranes copies new) [] copies new
      (given (λ k. map (answer atoms copies) (atoms_in s k)) (answer (m ∷ membranes) (n ∷ new)) (m ∷ membranes))
      (given (λ k. map (answer membranes new) (mems_in s k)) (answer (m ∷ membranes) (n ∷ new)) (m ∷ membranes))
      (given (rules_in s) (answer (m ∷ membranes) (n ∷ new)) membranes)
  grown_rest =
      let first = map copy (atoms_in s m) in
      let t0 = all_placed s (map (λ y. (n, y)) first) in
      let t = atoms_placed copy s n (atoms_in s m) in
      let u = membranes_placed cm copy t membranes in
      let g0 : Grown ks s t [] first [] (only_at n first) (λ x. []) (λ x. []) = subst (λ z. Grown ks s z [] first [] (only_at n first) (λ x. []) (λ x. [])) (sym (placed_pairs copy n (atoms_in s m) s)) (grown_all_placed ks n first s pl.target.0 pl.target.1) in
      let g1 = grown_membranes ks copy cm membranes t (placing_on ks copy cm membranes s t first [] (only_at n first) (λ x. []) (λ x. []) g0 placing) in
      let kept : (k : ℕ) → In k membranes → In k ks = λ k i. pl.kept k (inr i) in
      let g = grown_after ks s t u [] [] first (copies_in t copy membranes) [] (map cm membranes) (only_at n first) (λ x. []) (λ x. []) (given (λ k. map copy (atoms_in t k)) cm membranes) (rounds t cm membranes) (given (rules_in t) cm membranes) (λ x i. absurd i) (λ x i j. i) g0 g1 in
      grown_said ks s u (first ++ copies_in t copy membranes) (map cm membranes) copies new
      (λ x. only_at n first x ++ given (λ k. map copy (atoms_in t k)) cm membranes x) (rounds t cm membranes) (given (rules_in t) cm membranes)
      (given (λ k. map copy (atoms_in s k)) cm (m ∷ membranes)) (given (λ k. map (answer membranes new) (mems_in s k)) cm (m ∷ membranes)) (given (rules_in s) cm membranes) g
      (ap (λ zs. first ++ zs) (copies_same s t copy membranes (λ k i. g0.head_atoms k (kept k i) (λ j. j))) ∙ all_atoms)
      all_membranes
      (λ x. (λ v. only_at ((sym cm_m) v) first x ++ given_same (λ k. map copy (atoms_in s k)) (λ k. map copy (atoms_in t k)) cm membranes x (λ k i. ap (map copy) (g0.head_atoms k (kept k i) (λ j. j))) v))
      (λ x. rounds_same s t cm membranes x (λ k i. parent_as ks copy cm s t k (g0.places k (kept k i) (λ p a e. a))) ∙ in_lists x)
      (λ x. given_same (rules_in s) (rules_in t) cm membranes x (λ k i. g0.head_rules k (kept k i)))
