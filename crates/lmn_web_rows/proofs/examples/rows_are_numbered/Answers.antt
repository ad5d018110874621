use Rattle.std.proofs.Common.{◌≡◌, ◌≢◌, ◌⊎◌, ◌==◌, ℕ, true, false, List, [], ◌∷◌, None, if◌then◌else◌, refl, sym, ap, ◌∙◌, get_or, subst, inl, inr, arith}
use Rattle.std.proofs.lemmas.Bool.{cases_eq}
use Rattle.lmn_base.proofs.Numbers.{not_equal}
use Rattle.lmn_base.proofs.Truth.{if_no, false_not_true}
use Rattle.lmn_web_rows.specs.Rows.{Item, Row, NUMBER_WORD, blank, numbered, items_in, live_in}
use Rattle.lmn_web_rows.specs.Seen.{HasNumber}
use Rattle.lmn_web_rows.specs.Examples.{used, with_number}
use Rattle.lmn_web_rows.proofs.StoreLemmas.{one_number}
use Rattle.lmn_web_rows.proofs.examples.rows_are_numbered.Goals as goal

abbrev two : List Row
two = used 8 (with_number 0) ∷ used 16 (with_number 1) ∷ []

not_live : (n : ℕ) → n ≢ 8 → n ≢ 16 → live_in two n ≡ false
not_live n d o = if_no (8 == n) true (if 16 == n then true else false) (not_equal 8 n (λ e. d (sym e))) ∙ if_no (16 == n) true false (not_equal 16 n (λ e. o (sym e)))

no_words : (n : ℕ) → n ≢ 8 → n ≢ 16 → items_in two n ≡ []
no_words n d o = if_no (8 == n) (with_number 0) (if 16 == n then with_number 1 else []) (not_equal 8 n (λ e. d (sym e))) ∙ if_no (16 == n) (with_number 1) [] (not_equal 16 n (λ e. o (sym e)))

no_number : (n i : ℕ) (rows : List Row) → items_in rows n ≡ [] → HasNumber rows n i → ⊥
no_number n i rows none h = absurd (let e : blank ≡ numbered i h.0 = sym (ap (λ (is : List Item). get_or is NUMBER_WORD blank) none) ∙ h.1 in cc)

which : (n i : ℕ) → HasNumber two n i → ((n ≡ 8) × (i ≡ 0)) ⊎ ((n ≡ 16) × (i ≡ 1))
which n i h = elim (cases_eq n 8) [
  | inl z ↦ inl (z, (let g = subst (λ (u : ℕ). HasNumber two u i) z h in one_number i 0 g.0 None (sym g.1)))
  | inr d ↦ elim (cases_eq n 16) [
    | inl z ↦ inr (z, (let g = subst (λ (u : ℕ). HasNumber two u i) z h in one_number i 1 g.0 None (sym g.1)))
    | inr o ↦ absurd (no_number n i two (no_words n d o) h)
  ]
]

pub returns-clause-two : goal.returns-clause-two
returns-clause-two c = record {
  every = λ n l. elim (cases_eq n 8) [
    | inl z ↦ (0, subst (λ (u : ℕ). HasNumber two u 0) (sym z) (None, refl))
    | inr d ↦ elim (cases_eq n 16) [ inl z ↦ (1, subst (λ (u : ℕ). HasNumber two u 1) (sym z) (None, refl)) | inr o ↦ absurd (false_not_true (sym (not_live n d o) ∙ l)) ]
  ];
  below = λ n i h. elim (which n i h) [ inl e ↦ (let v = e.1 in omega (arith, v)) | inr e ↦ (let v = e.1 in omega (arith, v)) ];
  single = λ n m i h k. elim (which n i h) [
    | inl e ↦ elim (which m i k) [ inl f ↦ e.0 ∙ sym f.0 | inr f ↦ (let v = e.1 in let w = f.1 in absurd (omega (arith, v, w))) ]
    | inr e ↦ elim (which m i k) [ inl f ↦ (let v = e.1 in let w = f.1 in absurd (omega (arith, v, w))) | inr f ↦ e.0 ∙ sym f.0 ]
  ];
}

pub returns-clause-one : goal.returns-clause-one
returns-clause-one c = λ m. (let e = m.single 8 16 0 (None, refl) (None, refl) in absurd (omega (arith, e)))
