-- All ties of a body, one after the other.
use Rattle.std.proofs.Common.{ℕ, ◌≡◌, ◌≢◌, ◌⊎◌, List, [], ◌∷◌, Some, None, refl, sym, ap, subst, ◌∙◌, inl, inr}
use Rattle.std.proofs.lemmas.Bool.{cases_eq}
use Rattle.lmn_congruence_splice.specs.Ports.{Partners, Joined, Coloured}
use Rattle.lmn_congruence_splice.specs.Ties.{Tie, newlink, relink, unify, Effect, Effects, done, next, first_of, second_of, IsNew, IsOld, AnyNew, Live, Apart, TiesFit, Ties}
use Rattle.lmn_congruence_splice.proofs.Joining.{not_none, merge_first, live_end, new_end, joins, leaves}
use Rattle.lmn_base.specs.Graphs.{Port}
use Rattle.lmn_congruence.specs.Process.{replace}
use Rattle.lmn_base.proofs.Common.{port_cases}
use Rattle.lmn_congruence.proofs.Counts.{replaced_here as merge_second, replaced_other as merge_other}

-- the cases of a merged colour
merged_is : (a b z : ℕ) → (replace a b z ≡ z) ⊎ (replace a b z ≡ a)
merged_is a b z = elim (cases_eq z b) [ inl e ↦ inr (ap (replace a b) e ∙ merge_second a b) | inr d ↦ inl (merge_other a b z d) ]

decide_new : (r : Port) (t : Tie Port) → IsNew r t ⊎ (IsNew r t → ⊥)
decide_new r (newlink p q) = elim (port_cases r p) [
  | inl e ↦ inl (inl e)
  | inr d ↦ elim (port_cases r q) [ inl e ↦ inl (inr e) | inr w ↦ inr (λ v. elim v [ inl e ↦ d e | inr e ↦ w e ]) ]
]
decide_new r (relink p h) = port_cases r p
decide_new r (unify g h) = inr (λ v. v)

-- One tie before others.
module _ (F : Port → Type 0) (c : Port → ℕ) (k k' : Partners) (t : Tie Port) (ts : List (Tie Port)) (fits : TiesFit F c k (t ∷ ts)) (h : Coloured c (Live F (t ∷ ts)) k) (effect : Effect t k k') where
  abbrev a : Port
  a = first_of t

  abbrev b : Port
  b = second_of t

  -- what lives before and is no port of the tie lives after it
  back : (r : Port) → Live F (t ∷ ts) r → (IsOld r t → ⊥) → Live F ts r
  back r (inl w) d = inl (w.0, λ v. w.1 (inr v))
  back r (inr (inl o)) d = absurd (d o)
  back r (inr (inr o)) d = inr o

  new_lives : (r : Port) → IsNew r t → Live F ts r
  new_lives r n = inl (fits.made r (inl n), λ v. fits.apart.1 r n v)

  new_not_live : (r : Port) → IsNew r t → Live F (t ∷ ts) r → ⊥
  new_not_live r n (inl w) = w.1 (inl n)
  new_not_live r n (inr o) = fits.gone r o (fits.made r (inl n))

  -- what lives after the tie is new in it, or lived before and isn't old in it
  into : (r : Port) → Live F ts r → IsNew r t ⊎ (Live F (t ∷ ts) r × (IsNew r t → ⊥) × (IsOld r t → ⊥))
  into r (inl w) = elim (decide_new r t) [
    | inl n ↦ inl n
    | inr d ↦ inr (inl (w.0, λ v. elim v [ inl n ↦ d n | inr n ↦ w.1 n ]), d, λ o. fits.gone r (inl o) w.0)
  ]
  into r (inr o) = inr (inr (inr o), (λ n. fits.gone r (inr o) (fits.made r (inl n))), λ p. fits.apart.2 r p o)

-- the ties that are left fit what the tie makes
fits_rest : (F : Port → Type 0) (c : Port → ℕ) (k k' : Partners) (t : Tie Port) (ts : List (Tie Port)) → TiesFit F c k (t ∷ ts)
    → ((r : Port) → AnyNew r ts → k' r ≡ None) → ((r : Port) → IsOld r t → Live F (t ∷ ts) r)
    → ((r : Port) → (r ≡ first_of t) ⊎ (r ≡ second_of t) → IsNew r t ⊎ IsOld r t) → TiesFit F (λ r. replace (c (first_of t)) (c (second_of t)) (c r)) k' ts
fits_rest F c k k' t ts fits none old which = record {
  apart = apart_kept ts fits.apart.4 (λ r n. n);
  made = λ r n. fits.made r (inr n);
  no_partner = none;
  gone = λ r o. fits.gone r (inr o);
  fresh = λ r q n l e. elim (merged_is (c (first_of t)) (c (second_of t)) (c q)) [
    | inl g ↦ differs_from r q n l (sym (stays r n) ∙ e ∙ g)
    | inr g ↦ not_of_tie r n (first_of t) (inl refl) (sym (stays r n) ∙ e ∙ g)
  ];
}
  where
    -- a new port that is left has the colour of no port of the tie
    not_of_tie : (r : Port) → AnyNew r ts → (q : Port) → (q ≡ first_of t) ⊎ (q ≡ second_of t) → c r ≢ c q
    not_of_tie r n q w e = elim (which q w) [ inl m ↦ fits.apart.3 q r m n (sym e) | inr o ↦ fits.fresh r q (inr n) (old q o) e ]

    stays : (r : Port) → AnyNew r ts → replace (c (first_of t)) (c (second_of t)) (c r) ≡ c r
    stays r n = merge_other (c (first_of t)) (c (second_of t)) (c r) (not_of_tie r n (second_of t) (inr refl))

    differs_from : (r q : Port) → AnyNew r ts → Live F ts q → c r ≢ c q
    differs_from r q n (inr o) e = fits.fresh r q (inr n) (inr (inr o)) e
    differs_from r q n (inl w) e = elim (decide_new q t) [
      | inl m ↦ fits.apart.3 q r m n (sym e)
      | inr d ↦ fits.fresh r q (inr n) (inl (w.0, λ v. elim v [ inl m ↦ d m | inr m ↦ w.1 m ])) e
    ]

    apart_kept : (us : List (Tie Port)) → Apart c us → ((r : Port) → AnyNew r us → AnyNew r ts) → Apart (λ r. replace (c (first_of t)) (c (second_of t)) (c r)) us
    apart_kept [] d sub = tt
    apart_kept (u ∷ us) d sub = (
      d.0,
      d.1,
      d.2,
      (λ r q n m e. d.3 r q n m (sym (stays r (sub r (inl n))) ∙ e ∙ stays q (sub q (inr m)))),
      apart_kept us d.4 (λ r n. sub r (inr n)),
    )

-- after a tie: colours and partners, and what is left fits
pub one_tie : (F : Port → Type 0) (c : Port → ℕ) (k k' : Partners) (t : Tie Port) (ts : List (Tie Port)) → TiesFit F c k (t ∷ ts) → Coloured c (Live F (t ∷ ts)) k → Effect t k k'
    → Coloured (λ r. replace (c (first_of t)) (c (second_of t)) (c r)) (Live F ts) k' × TiesFit F (λ r. replace (c (first_of t)) (c (second_of t)) (c r)) k' ts
one_tie F c k k' (newlink p q) ts fits h j = (
  joins c (Live F (newlink p q ∷ ts)) (Live F ts) k k' h p q p q
      (new_end c (Live F (newlink p q ∷ ts)) k p (fits.no_partner p (inl (inl refl))) (λ r l. fits.fresh p r (inl (inl refl)) l))
      (new_end c (Live F (newlink p q ∷ ts)) k q (fits.no_partner q (inl (inr refl))) (λ r l. fits.fresh q r (inl (inr refl)) l))
      fits.apart.0 (new_lives F c k k' (newlink p q) ts fits h j p (inl refl)) (new_lives F c k k' (newlink p q) ts fits h j q (inr refl)) j
      (λ r l. elim (into F c k k' (newlink p q) ts fits h j r l) [
        | inl n ↦ elim n [ inl e ↦ inl e | inr e ↦ inr (inl e) ]
        | inr w ↦ inr (inr (w.0, (λ e. w.1 (inl e)), (λ e. w.1 (inr e))))
      ])
      (λ r l dp dq. back F c k k' (newlink p q) ts fits h j r l (λ o. o)),
  fits_rest F c k k' (newlink p q) ts fits
      (λ r n. j.others r (λ e. fits.apart.1 p (inl refl) (subst (λ z. AnyNew z ts) e n)) (λ e. fits.apart.1 q (inr refl) (subst (λ z. AnyNew z ts) e n))
      (λ e. not_none r (sym (fits.no_partner p (inl (inl refl))) ∙ e)) (λ e. not_none r (sym (fits.no_partner q (inl (inr refl))) ∙ e)) ∙ fits.no_partner r (inr n))
      (λ r o. absurd o) (λ r w. inl w),
)
one_tie F c k k' (relink p o) ts fits h effect =
    let w = h.partner o (inr (inl refl)) in
    let x = w.0 in
    let j : Joined k p x k' = effect x w.2 in
    let not_live = new_not_live F c k k' (relink p o) ts fits h effect in
    let px : p ≢ x = λ e. not_live p refl (subst (Live F (relink p o ∷ ts)) (sym e) w.1) in (
      joins c (Live F (relink p o ∷ ts)) (Live F ts) k k' h p o p x
          (new_end c (Live F (relink p o ∷ ts)) k p (fits.no_partner p (inl refl)) (λ r l. fits.fresh p r (inl refl) l))
          (live_end c (Live F (relink p o ∷ ts)) k h o x (inr (inl refl)) w.2)
          px (new_lives F c k k' (relink p o) ts fits h effect p refl) (back F c k k' (relink p o) ts fits h effect x w.1 w.3) j
          (λ r l. elim (into F c k k' (relink p o) ts fits h effect r l) [ inl e ↦ inl e | inr v ↦ inr (inr (v.0, v.1, v.2)) ])
          (λ r l dp d. back F c k k' (relink p o) ts fits h effect r l d),
      fits_rest F c k k' (relink p o) ts fits
          (λ r n. j.others r (λ e. fits.apart.1 p refl (subst (λ z. AnyNew z ts) e n))
          (λ e. fits.fresh r x (inr n) w.1 (ap c e))
          (λ e. not_none r (sym (fits.no_partner p (inl refl)) ∙ e))
          (λ e. fits.fresh r o (inr n) (inr (inl refl)) (ap c ((live_end c (Live F (relink p o ∷ ts)) k h o x (inr (inl refl)) w.2).was r e))) ∙ fits.no_partner r (inr n))
          (λ r e. inr (inl e)) (λ r v. v),
    )
one_tie F c k k' (unify g o) ts fits h effect =
    let wg = h.partner g (inr (inl (inl refl))) in
    let wo = h.partner o (inr (inl (inr refl))) in
    let eg = live_end c (Live F (unify g o ∷ ts)) k h g wg.0 (inr (inl (inl refl))) wg.2 in
    let eo = live_end c (Live F (unify g o ∷ ts)) k h o wo.0 (inr (inl (inr refl))) wo.2 in
    let both = effect wg.0 wo.0 wg.2 wo.2 in
    elim (port_cases wg.0 o) [
      | inl e ↦ (
        leaves c (Live F (unify g o ∷ ts)) (Live F ts) k k' h g o (inr (inl (inl refl))) (inr (inl (inr refl))) (wg.2 ∙ ap (λ z. Some z) e) (both.0 e)
            (λ r l. elim (into F c k k' (unify g o) ts fits h effect r l) [ inl n ↦ absurd n | inr v ↦ (v.0, (λ f. v.2 (inl f)), (λ f. v.2 (inr f))) ])
            (λ r l dg d. back F c k k' (unify g o) ts fits h effect r l (λ v. elim v [ inl f ↦ dg f | inr f ↦ d f ])),
        fits_rest F c k k' (unify g o) ts fits (λ r n. both.0 e r ∙ fits.no_partner r (inr n)) (λ r v. inr (inl v)) (λ r v. inr v),
      )
      | inr d ↦ (let j : Joined k wg.0 wo.0 k' = both.1 d in
          let back_to : wo.0 ≢ g = λ e. elim (eo.alone g (inr (inl (inl refl))) (ap c (sym e) ∙ eo.colour)) [
            | inl f ↦ fits.apart.0 f
            | inr f ↦ elim (eg.alone o (inr (inl (inr refl))) (sym eo.colour ∙ ap c e)) [ inl v ↦ fits.apart.0 (sym v) | inr v ↦ d (sym v) ]
          ] in
          let apart : wg.0 ≢ wo.0 = λ e. elim (eg.alone o (inr (inl (inr refl))) (sym eo.colour ∙ ap c (sym e) ∙ eg.colour)) [ inl v ↦ fits.apart.0 (sym v) | inr v ↦ d (sym v) ] in
          let lives = back F c k k' (unify g o) ts fits h effect in (
            joins c (Live F (unify g o ∷ ts)) (Live F ts) k k' h g o wg.0 wo.0 eg eo apart
                (lives wg.0 wg.1 (λ v. elim v [ inl f ↦ wg.3 f | inr f ↦ d f ])) (lives wo.0 wo.1 (λ v. elim v [ inl f ↦ back_to f | inr f ↦ wo.3 f ])) j
                (λ r l. elim (into F c k k' (unify g o) ts fits h effect r l) [ inl n ↦ absurd n | inr v ↦ inr (inr (v.0, (λ f. v.2 (inl f)), (λ f. v.2 (inr f)))) ])
                (λ r l dg dh. lives r l (λ v. elim v [ inl f ↦ dg f | inr f ↦ dh f ])),
            fits_rest F c k k' (unify g o) ts fits
                (λ r n. j.others r (λ e. fits.fresh r wg.0 (inr n) wg.1 (ap c e)) (λ e. fits.fresh r wo.0 (inr n) wo.1 (ap c e))
                (λ e. fits.fresh r g (inr n) (inr (inl (inl refl))) (ap c (eg.was r e))) (λ e. fits.fresh r o (inr n) (inr (inl (inr refl))) (ap c (eo.was r e)))
                ∙ fits.no_partner r (inr n))
                (λ r v. inr (inl v)) (λ r v. inr v),
          ))
    ]

ties_after : (m n : ℕ → ℕ) (c : Port → ℕ) (us : List (Tie Port)) → Ties n (λ r. m (c r)) us → Ties (λ z. n (m z)) c us
ties_after m n c [] w = tt
ties_after m n c (u ∷ us) w = (w.0, ties_after m n c us w.1)

-- After all ties one map of colours joins the two ports of each, and colours what lives in the end.
pub spliced : (F : Port → Type 0) (c : Port → ℕ) (k k' : Partners) (ts : List (Tie Port)) → Effects ts k k' → TiesFit F c k ts → Coloured c (Live F ts) k
    → (m : ℕ → ℕ) × Ties m c ts × Coloured (λ r. m (c r)) F k'
spliced F c k k' [] done fits h = (λ z. z, tt, ended F c k h)
  where
    ended : (F : Port → Type 0) (c : Port → ℕ) (k : Partners) → Coloured c (Live F []) k → Coloured c F k
    ended F c k h = record {
      partner = λ p l. let w = h.partner p (inl (l, λ v. v)) in (w.0, elim w.1 [ inl v ↦ v.0 | inr v ↦ absurd v ], w.2, w.3, w.4);
      only = λ p q lp lq. h.only p q (inl (lp, λ v. v)) (inl (lq, λ v. v));
    }
spliced F c k k' (t ∷ ts) (next {m = n} e rs) fits h =
    let one = one_tie F c k n t ts fits h e in
    let rest = spliced F (λ r. replace (c (first_of t)) (c (second_of t)) (c r)) n k' ts rs one.1 one.0 in
    let m = replace (c (first_of t)) (c (second_of t)) in (
      λ z. rest.0 (m z),
      (ap rest.0 (merge_first (c (first_of t)) (c (second_of t)) ∙ sym (merge_second (c (first_of t)) (c (second_of t)))), ties_after m rest.0 c ts rest.1),
      rest.2,
    )
