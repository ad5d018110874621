-- Those of a list that pass a test, where an element comes or goes.
use Rattle.std.proofs.Common.{◌≡◌, ◌≢◌, ◌==◌, ◌++◌, ℕ, Bool, true, false, cond, if◌then◌else◌, List, [], ◌∷◌, Option, Some, None, refl, sym, ap, subst, ◌∙◌, inl, inr}
use Rattle.std.proofs.lemmas.Bool.{eq-eqb, eqb-true}
use Rattle.std.proofs.lemmas.List.Elements.{filter-append}
use Rattle.std.specs.List.{filter}
use Rattle.lmn_base.specs.Lists.{In}
use Rattle.lmn_base.proofs.Lists.{plus_nothing}
use Rattle.lmn_base.proofs.Numbers.{not_equal}
use Rattle.lmn_base.proofs.Truth.{if_no, bool_cases}
use Rattle.lmn_store_heap.specs.Lists.{Distinct, from, after, without}
use Rattle.lmn_store_heap.proofs.ListLemmas.{each_in}
use Rattle.lmn_web_cells.specs.Cells.{HeldCell}
use Rattle.lmn_web_cells.specs.Runs.{put_before}
use Rattle.lmn_web_cells.proofs.CellRows.{if_yes}
use Rattle.lmn_web.specs.Classes.{key_in, is_key, of_class, put_at, ClassBecomes}
use Rattle.lmn_web.proofs.Reclassing.{key_same, key_true}
use Rattle.lmn_store_heap.proofs.Common.{in_after}
use Rattle.lmn_store_heap.proofs.Filters.{in_filter, filter_yes}

-- two tests that agree on a list
pub filter_same : (s t : ℕ → Bool) (xs : List ℕ) → ((x : ℕ) → In x xs → s x ≡ t x) → filter s xs ≡ filter t xs
filter_same s t [] h = refl
filter_same s t (x ∷ xs) h = let rest = filter_same s t xs (λ y i. h y (inr i)) in λ u. cond (h x (inl refl) u) (x ∷ rest u) (rest u)

-- one that doesn't pass
filter_no : (test : ℕ → Bool) (x : ℕ) (xs : List ℕ) → test x ≡ false → filter test (x ∷ xs) ≡ filter test xs
filter_no test x xs e = ap (λ b. cond b (x ∷ filter test xs) (filter test xs)) e

-- At the end

end_yes : (test : ℕ → Bool) (c : ℕ) (xs : List ℕ) → test c ≡ true → filter test (xs ++ c ∷ []) ≡ filter test xs ++ c ∷ []
end_yes test c xs e = filter-append test xs (c ∷ []) ∙ ap (λ us. filter test xs ++ us) (filter_yes test c [] e)

end_no : (test : ℕ → Bool) (c : ℕ) (xs : List ℕ) → test c ≡ false → filter test (xs ++ c ∷ []) ≡ filter test xs
end_no test c xs e = filter-append test xs (c ∷ []) ∙ ap (λ us. filter test xs ++ us) (filter_no test c [] e) ∙ plus_nothing (filter test xs)

-- Without one

without_yes : (test : ℕ → Bool) (c : ℕ) (xs : List ℕ) → test c ≡ true → filter test (without c xs) ≡ without c (filter test xs)
without_yes test c [] e = refl
without_yes test c (x ∷ xs) e = by (x == c) refl (test x) refl (without_yes test c xs e)
  where
    by : (t : Bool) → (x == c) ≡ t → (b : Bool) → test x ≡ b → filter test (without c xs) ≡ without c (filter test xs)
        → filter test (if t then xs else x ∷ without c xs) ≡ without c (cond b (x ∷ filter test xs) (filter test xs))
    by true s true k rest = sym (if_yes (x == c) (filter test xs) (x ∷ without c (filter test xs)) s)
    by true s false k rest = absurd (let z : true ≡ false = sym e ∙ ap test (sym (eqb-true x c s)) ∙ k in cc)
    by false s true k rest = filter_yes test x (without c xs) k ∙ ap (λ us. x ∷ us) rest ∙ sym (if_no (x == c) (filter test xs) (x ∷ without c (filter test xs)) s)
    by false s false k rest = filter_no test x (without c xs) k ∙ rest

without_no : (test : ℕ → Bool) (c : ℕ) (xs : List ℕ) → test c ≡ false → filter test (without c xs) ≡ filter test xs
without_no test c [] e = refl
without_no test c (x ∷ xs) e = by (x == c) refl (without_no test c xs e)
  where
    by : (t : Bool) → (x == c) ≡ t → filter test (without c xs) ≡ filter test xs → filter test (if t then xs else x ∷ without c xs) ≡ filter test (x ∷ xs)
    by true s rest = sym (filter_no test x xs (ap test (eqb-true x c s) ∙ e))
    by false s rest = (λ u. cond (test x) (x ∷ rest u) (rest u))

-- Before another

before_no : (test : ℕ → Bool) (c a : ℕ) (xs : List ℕ) → test c ≡ false → filter test (put_before c a xs) ≡ filter test xs
before_no test c a [] e = refl
before_no test c a (x ∷ xs) e = by (x == a) (before_no test c a xs e)
  where
    by : (t : Bool) → filter test (put_before c a xs) ≡ filter test xs → filter test (if t then c ∷ x ∷ xs else x ∷ put_before c a xs) ≡ filter test (x ∷ xs)
    by true rest = filter_no test c (x ∷ xs) e
    by false rest = (λ u. cond (test x) (x ∷ rest u) (rest u))

-- where none that passes stands from there on
before_end : (test : ℕ → Bool) (c a : ℕ) (xs : List ℕ) → test c ≡ true → In a xs → [] ≡ filter test (from (Some a) xs) → filter test (put_before c a xs) ≡ filter test xs ++ c ∷ []
before_end test c a [] e i none = absurd i
before_end test c a (x ∷ xs) e i none = by (x == a) refl (before_end test c a xs e) none
  where
    by : (t : Bool) → (x == a) ≡ t → (In a xs → [] ≡ filter test (a ∷ after a xs) → filter test (put_before c a xs) ≡ filter test xs ++ c ∷ [])
        → [] ≡ filter test (a ∷ (if t then xs else after a xs)) → filter test (if t then c ∷ x ∷ xs else x ∷ put_before c a xs) ≡ filter test (x ∷ xs) ++ c ∷ []
    by true s rest n =
        let z : [] ≡ filter test (x ∷ xs) = n ∙ ap (λ u. filter test (u ∷ xs)) (sym (eqb-true x a s)) in
        filter_yes test c (x ∷ xs) e ∙ ap (λ us. c ∷ us) (sym z) ∙ ap (λ us. us ++ c ∷ []) z
    by false s rest n = elim i [
      | inl q ↦ absurd (let z : true ≡ false = sym (eq-eqb x a q) ∙ s in cc)
      | inr j ↦ (let r = rest j n in elim (bool_cases (test x)) [
        | inl k ↦ filter_yes test x (put_before c a xs) k ∙ ap (λ us. x ∷ us) r ∙ ap (λ us. us ++ c ∷ []) (sym (filter_yes test x xs k))
        | inr k ↦ filter_no test x (put_before c a xs) k ∙ r ∙ ap (λ us. us ++ c ∷ []) (sym (filter_no test x xs k))
      ])
    ]

-- where one does
before_other : (test : ℕ → Bool) (c a d : ℕ) (xs : List ℕ) → test c ≡ true → Distinct xs → In a xs → d ∷ after d (filter test xs) ≡ filter test (from (Some a) xs) → filter test (put_before c a xs) ≡ put_before c d (filter test xs)
before_other test c a d [] e apart i next = absurd i
before_other test c a d (x ∷ xs) e apart i next = by (x == a) refl (before_other test c a d xs e apart.1) next
  where
    by : (t : Bool) → (x == a) ≡ t → (In a xs → d ∷ after d (filter test xs) ≡ filter test (a ∷ after a xs) → filter test (put_before c a xs) ≡ put_before c d (filter test xs))
        → d ∷ after d (filter test (x ∷ xs)) ≡ filter test (a ∷ (if t then xs else after a xs)) → filter test (if t then c ∷ x ∷ xs else x ∷ put_before c a xs) ≡ put_before c d (filter test (x ∷ xs))
    by true s rest n =
        let z : d ∷ after d (filter test (x ∷ xs)) ≡ filter test (x ∷ xs) = n ∙ ap (λ u. filter test (u ∷ xs)) (sym (eqb-true x a s)) in
        filter_yes test c (x ∷ xs) e ∙ ap (λ us. c ∷ us) (sym z) ∙ sym (if_yes (d == d) (c ∷ d ∷ after d (filter test (x ∷ xs))) (d ∷ put_before c d (after d (filter test (x ∷ xs)))) (eq-eqb d d refl)) ∙ ap (put_before c d) z
    by false s rest n = elim i [
      | inl q ↦ absurd (let z : true ≡ false = sym (eq-eqb x a q) ∙ s in cc)
      | inr j ↦ (
          let d_in : In d xs = elim (in_filter test d (a ∷ after a xs) (subst (λ us. In d us) n (inl refl))).0 [ inl q ↦ subst (λ u. In u xs) q j | inr k ↦ in_after a d xs k ] in
          let other : (x == d) ≡ false = not_equal x d (each_in (λ u. x ≢ u) xs d apart.0 d_in) in
          elim (bool_cases (test x)) [
            | inl k ↦ (
                let shown : after d (filter test (x ∷ xs)) ≡ after d (filter test xs) = ap (after d) (filter_yes test x xs k) ∙ if_no (x == d) (filter test xs) (after d (filter test xs)) other in
                filter_yes test x (put_before c a xs) k ∙ ap (λ us. x ∷ us) (rest j (ap (λ us. d ∷ us) (sym shown) ∙ n))
                ∙ sym (if_no (x == d) (c ∷ x ∷ filter test xs) (x ∷ put_before c d (filter test xs)) other) ∙ ap (put_before c d) (sym (filter_yes test x xs k)))
            | inr k ↦ (
                let shown : after d (filter test (x ∷ xs)) ≡ after d (filter test xs) = ap (after d) (filter_no test x xs k) in
                filter_no test x (put_before c a xs) k ∙ rest j (ap (λ us. d ∷ us) (sym shown) ∙ n) ∙ ap (put_before c d) (sym (filter_no test x xs k)))
          ])
    ]

-- One class

-- another class, the other way round
key_apart : (p q : ℕ × ℕ) → is_key q p ≡ false → is_key p q ≡ false
key_apart p q e = elim (bool_cases (is_key p q)) [ inl t ↦ absurd (let z : true ≡ false = sym (key_same q) ∙ ap (λ u. is_key q u) (sym (key_true p q t)) ∙ e in cc) | inr f ↦ f ]

-- an atom comes to the end
pub one_last : (f : ℕ → Option HeldCell) (c : ℕ) (xs : List ℕ) → ClassBecomes f (key_in f c) xs (put_at c None (of_class f (key_in f c) xs)) (xs ++ c ∷ [])
one_last f c xs = record {
  others = λ q e. end_no (λ a. is_key (key_in f a) q) c xs (key_apart (key_in f c) q e);
  own = end_yes (λ a. is_key (key_in f a) (key_in f c)) c xs (key_same (key_in f c));
}

-- leaves
pub one_without : (f : ℕ → Option HeldCell) (c : ℕ) (xs : List ℕ) → ClassBecomes f (key_in f c) xs (without c (of_class f (key_in f c) xs)) (without c xs)
one_without f c xs = record {
  others = λ q e. without_no (λ a. is_key (key_in f a) q) c xs (key_apart (key_in f c) q e);
  own = without_yes (λ a. is_key (key_in f a) (key_in f c)) c xs (key_same (key_in f c));
}

-- or comes before another, where d is the first of its class from there on
pub one_before : (f : ℕ → Option HeldCell) (c a : ℕ) (d : Option ℕ) (xs : List ℕ) → Distinct xs → In a xs → from d (of_class f (key_in f c) xs) ≡ of_class f (key_in f c) (from (Some a) xs)
    → ClassBecomes f (key_in f c) xs (put_at c d (of_class f (key_in f c) xs)) (put_before c a xs)
one_before f c a None xs apart i e = record {
  others = λ q e. before_no (λ a. is_key (key_in f a) q) c a xs (key_apart (key_in f c) q e);
  own = before_end (λ a. is_key (key_in f a) (key_in f c)) c a xs (key_same (key_in f c)) i e;
}
one_before f c a (Some d) xs apart i e = record {
  others = λ q e. before_no (λ a. is_key (key_in f a) q) c a xs (key_apart (key_in f c) q e);
  own = before_other (λ a. is_key (key_in f a) (key_in f c)) c a d xs (key_same (key_in f c)) apart i e;
}

-- that one is of the class
pub place_in : (f : ℕ → Option HeldCell) (p : ℕ × ℕ) (a : ℕ) (o : Option ℕ) (xs : List ℕ) → In a xs → from o (of_class f p xs) ≡ of_class f p (from (Some a) xs) → (d : ℕ) → o ≡ Some d → In d xs × (key_in f d ≡ p)
place_in f p a o xs i e d s =
    let n : d ∷ after d (of_class f p xs) ≡ of_class f p (a ∷ after a xs) = ap (λ u. from u (of_class f p xs)) (sym s) ∙ e in
    let w = in_filter (λ z. is_key (key_in f z) p) d (a ∷ after a xs) (subst (λ us. In d us) n (inl refl)) in (
      elim w.0 [ inl q ↦ subst (λ u. In u xs) q i | inr k ↦ in_after a d xs k ],
      key_true (key_in f d) p w.1,
    )
