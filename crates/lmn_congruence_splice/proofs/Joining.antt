-- One tie.
use Rattle.std.proofs.Common.{ℕ, ◌≡◌, ◌≢◌, ◌⊎◌, Option, Some, None, refl, sym, ap, subst, ◌∙◌, inl, inr}
use Rattle.std.proofs.lemmas.Bool.{cases_eq, eq-eqb}
use Rattle.lmn_congruence_splice.specs.Ports.{Partners, Joined, Coloured}
use Rattle.lmn_base.specs.Graphs.{Port}
use Rattle.lmn_congruence.specs.Process.{replace}
use Rattle.lmn_base.proofs.Common.{port_cases}
use Rattle.lmn_congruence.proofs.Counts.{replaced_here as merge_second, replaced_other as merge_other}

-- ports are the same where they are so as values that are there
pub same_some : (p q : Port) → ◌≡◌ {A = Option Port} (Some p) (Some q) → p ≡ q
same_some p q h = (cc)

-- a port that is there is not none
pub not_none : (p : Port) → ◌≡◌ {A = Option Port} None (Some p) → ⊥
not_none p h = absurd (cc)

-- Merging

-- of two merged links the first stays
pub merge_first : (a b : ℕ) → replace a b a ≡ a
merge_first a b = elim (cases_eq a b) [ inl e ↦ rw (eq-eqb a b e) refl | inr d ↦ merge_other a b a d ]

-- The end x that a tie joins for its port a: a itself where it is new, and else its partner.
pub record End (c : Port → ℕ) (L : Port → Type 0) (k : Partners) (a x : Port) : Type 0 where
  pub colour : c x ≡ c a
  pub alone : (r : Port) → L r → c r ≡ c a → (r ≡ a) ⊎ (r ≡ x)
  pub was : (r : Port) → k x ≡ Some r → r ≡ a

-- the end of a live port is its partner
pub live_end : (c : Port → ℕ) (L : Port → Type 0) (k : Partners) → Coloured c L k → (a x : Port) → L a → k a ≡ Some x → End c L k a x
live_end c L k h a x la e =
    let w = h.partner a la in
    let same : w.0 ≡ x = same_some w.0 x (sym w.2 ∙ e) in
    let lx : L x = subst L same w.1 in
    let cx : c x ≡ c a = subst (λ z. c z ≡ c a) same w.4 in
    record {
      colour = cx;
      alone = λ r lr cr. elim (h.only a r la lr (sym cr)) [ inl f ↦ inl (sym f) | inr f ↦ inr (same_some r x (sym f ∙ e)) ];
      was = λ r f. elim (h.only x a lx la cx) [
        | inl g ↦ absurd (w.3 (same ∙ g))
        | inr g ↦ same_some r a (sym f ∙ g)
      ];
    }

-- the end of a port without a partner is itself
pub new_end : (c : Port → ℕ) (L : Port → Type 0) (k : Partners) (a : Port) → k a ≡ None → ((r : Port) → L r → c a ≢ c r) → End c L k a a
new_end c L k a e d = record { colour = refl; alone = λ r lr cr. absurd (d r lr (sym cr)); was = λ r f. absurd (not_none r (sym e ∙ f)) }

-- The ends of a tie are joined: the colours of its ports become one.
module _ (c : Port → ℕ) (L L' : Port → Type 0) (k k' : Partners) (h : Coloured c L k) (a b x y : Port)
    (ea : End c L k a x) (eb : End c L k b y) (differ : x ≢ y) (lx : L' x) (ly : L' y) (j : Joined k x y k')
    (into : (r : Port) → L' r → (r ≡ x) ⊎ (r ≡ y) ⊎ (L r × (r ≢ a) × (r ≢ b))) (back : (r : Port) → L r → r ≢ a → r ≢ b → L' r) where
  abbrev m : ℕ → ℕ
  m = replace (c a) (c b)

  mx : m (c x) ≡ c a
  mx = ap m ea.colour ∙ merge_first (c a) (c b)

  my : m (c y) ≡ c a
  my = ap m eb.colour ∙ merge_second (c a) (c b)

  -- a live port that is neither of the ends
  abbrev Rest : Port → Type 0
  Rest r = L r × (r ≢ a) × (r ≢ b) × (r ≢ x) × (r ≢ y)

  sort : (r : Port) → L' r → (r ≡ x) ⊎ (r ≡ y) ⊎ Rest r
  sort r l = elim (port_cases r x) [
    | inl e ↦ inl e
    | inr dx ↦ elim (port_cases r y) [
      | inl e ↦ inr (inl e)
      | inr dy ↦ elim (into r l) [
        | inl e ↦ absurd (dx e)
        | inr w ↦ elim w [ inl e ↦ absurd (dy e) | inr v ↦ inr (inr (v.0, v.1, v.2, dx, dy)) ]
      ]
    ]
  ]

  stays : (r : Port) → Rest r → k' r ≡ k r
  stays r w = j.others r w.3 w.4 (λ e. w.1 (ea.was r e)) (λ e. w.2 (eb.was r e))

  not_first : (r : Port) → Rest r → c r ≢ c a
  not_first r w e = elim (ea.alone r w.0 e) [ inl f ↦ w.1 f | inr f ↦ w.3 f ]

  not_second : (r : Port) → Rest r → c r ≢ c b
  not_second r w e = elim (eb.alone r w.0 e) [ inl f ↦ w.2 f | inr f ↦ w.4 f ]

  keeps : (r : Port) → Rest r → m (c r) ≡ c r
  keeps r w = merge_other (c a) (c b) (c r) (not_second r w)

  abbrev Answer : Port → Type 0
  Answer r = (q : Port) × L' q × (k' r ≡ Some q) × (q ≢ r) × (m (c q) ≡ m (c r))

  partners : (r : Port) → L' r → Answer r
  partners r l = elim (sort r l) [
    | inl e ↦ subst Answer (sym e) (y, ly, j.first, (λ f. differ (sym f)), my ∙ sym mx)
    | inr v ↦ elim v [
      | inl e ↦ subst Answer (sym e) (x, lx, j.second, differ, mx ∙ sym my)
      | inr w ↦ (let p = h.partner r w.0 in
          (p.0, back p.0 p.1 (λ e. not_first r w (sym p.4 ∙ ap c e)) (λ e. not_second r w (sym p.4 ∙ ap c e)), stays r w ∙ p.2, p.3, ap m p.4))
    ]
  ]

  abbrev Same : Port → Port → Type 0
  Same r q = (r ≡ q) ⊎ (k' r ≡ Some q)

  -- an end has the colour of no other live port
  lone : (r : Port) → Rest r → c a ≡ m (c r) → ⊥
  lone r w e = not_first r w (sym (keeps r w) ∙ sym e)

  at_first : (q : Port) → m (c x) ≡ m (c q) → (q ≡ x) ⊎ (q ≡ y) ⊎ Rest q → Same x q
  at_first q e (inl f) = inl (sym f)
  at_first q e (inr (inl f)) = inr (j.first ∙ ap (λ z. Some z) (sym f))
  at_first q e (inr (inr w)) = absurd (lone q w (sym mx ∙ e))

  at_second : (q : Port) → m (c y) ≡ m (c q) → (q ≡ x) ⊎ (q ≡ y) ⊎ Rest q → Same y q
  at_second q e (inl f) = inr (j.second ∙ ap (λ z. Some z) (sym f))
  at_second q e (inr (inl f)) = inl (sym f)
  at_second q e (inr (inr w)) = absurd (lone q w (sym my ∙ e))

  at_rest : (r q : Port) → Rest r → m (c r) ≡ m (c q) → (q ≡ x) ⊎ (q ≡ y) ⊎ Rest q → Same r q
  at_rest r q w e (inl f) = absurd (lone r w (sym mx ∙ ap (λ z. m (c z)) (sym f) ∙ sym e))
  at_rest r q w e (inr (inl f)) = absurd (lone r w (sym my ∙ ap (λ z. m (c z)) (sym f) ∙ sym e))
  at_rest r q w e (inr (inr v)) = elim (h.only r q w.0 v.0 (sym (keeps r w) ∙ e ∙ keeps q v)) [ inl f ↦ inl f | inr f ↦ inr (stays r w ∙ f) ]

  onlys : (r q : Port) → L' r → L' q → m (c r) ≡ m (c q) → Same r q
  onlys r q lr lq e = elim (sort r lr) [
    | inl f ↦ subst (λ z. Same z q) (sym f) (at_first q (subst (λ z. m (c z) ≡ m (c q)) f e) (sort q lq))
    | inr v ↦ elim v [
      | inl f ↦ subst (λ z. Same z q) (sym f) (at_second q (subst (λ z. m (c z) ≡ m (c q)) f e) (sort q lq))
      | inr w ↦ at_rest r q w e (sort q lq)
    ]
  ]

  pub joins : Coloured (λ r. replace (c a) (c b) (c r)) L' k'
  joins = record { partner = partners; only = onlys }

-- Two partners leave together.
pub leaves : (c : Port → ℕ) (L L' : Port → Type 0) (k k' : Partners) → Coloured c L k → (a b : Port) → L a → L b → k a ≡ Some b → ((r : Port) → k' r ≡ k r)
    → ((r : Port) → L' r → L r × (r ≢ a) × (r ≢ b)) → ((r : Port) → L r → r ≢ a → r ≢ b → L' r) → Coloured (λ r. replace (c a) (c b) (c r)) L' k'
leaves c L L' k k' h a b la lb e same into back =
    let w = h.partner a la in
    let cb : c b ≡ c a = subst (λ z. c z ≡ c a) (same_some w.0 b (sym w.2 ∙ e)) w.4 in
    let ab : (z : ℕ) → replace (c a) (c b) z ≡ z = λ z. elim (cases_eq z (c b)) [ inl f ↦ ap (replace (c a) (c b)) f ∙ merge_second (c a) (c b) ∙ sym cb ∙ sym f | inr d ↦ merge_other (c a) (c b) z d ] in
    let ea = live_end c L k h a b la e in
    let back_to : k b ≡ Some a = elim (h.only b a lb la cb) [ inl f ↦ absurd (w.3 (same_some w.0 b (sym w.2 ∙ e) ∙ f)) | inr f ↦ f ] in
    record {
      partner = λ r l. let v = into r l in let p = h.partner r v.0 in (
        p.0,
        back p.0 p.1 (λ f. elim (ea.alone r v.0 (sym p.4 ∙ ap c f)) [ inl g ↦ v.1 g | inr g ↦ v.2 g ])
            (λ f. elim (ea.alone r v.0 (sym p.4 ∙ ap c f ∙ cb)) [ inl g ↦ v.1 g | inr g ↦ v.2 g ]),
        same r ∙ p.2,
        p.3,
        ap (replace (c a) (c b)) p.4,
      );
      only = λ r q lr lq f. elim (h.only r q (into r lr).0 (into q lq).0 (sym (ab (c r)) ∙ f ∙ ab (c q))) [ inl g ↦ inl g | inr g ↦ inr (same r ∙ g) ];
    }
