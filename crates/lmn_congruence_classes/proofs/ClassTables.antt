-- Tables of classes: a way made shorter, and two classes joined.
use Rattle.std.proofs.Common.{ℕ, ◌≤◌, ◌<◌, ◌≡◌, List, length, get_or, sym, ap, subst, ◌∙◌, inl, inr, arith, length-set}
use Rattle.std.specs.Prelude.{min, max, slice_set, slice_get, Some}
use Rattle.std.proofs.lemmas.List.{get_or-set_same, get_or-set_other}
use Rattle.std.proofs.lemmas.Option.{get_or_from_slice_get}
use Rattle.std.proofs.lemmas.Bool.{cases_eq, cases_lt}
use Rattle.std.proofs.Math.Nat.{min-eq_left, max-eq_right, min_comm, max_comm}
use Rattle.lmn_congruence_splice.specs.Classes.{with_joined, classes}
use Rattle.lmn_congruence_splice.proofs.Joining.{merge_first}
use Rattle.lmn_congruence.specs.Process.{replace}
use Rattle.lmn_base.proofs.Numbers.{less_at_most as weak}
use Rattle.lmn_congruence.proofs.Counts.{replaced_here as merge_second, replaced_other as merge_other}
use Rattle.lmn_congruence_classes.specs.Tables.{IsForest, Represents}

-- a table leads to these classes by the connectors that are left
pub record Leads (table : List ℕ) (es : List (ℕ × ℕ)) (whole : ℕ → ℕ) : Type 0 where
  pub class : ℕ → ℕ
  pub now : Represents table class
  pub rest : classes class es ≡ whole

-- a table with a lower number at a place is still a forest
pub lowered : (t : List ℕ) (x y : ℕ) → IsForest t → x < length t → y ≤ x → IsForest (slice_set t x y)
lowered t x y f l h = record {
  down = λ z k. elim (cases_eq z x) [
    | inl e ↦ subst (λ w. get_or (slice_set t x y) w 0 ≤ w) (sym e) (subst (λ w. w ≤ x) (sym (get_or-set_same t x y 0 l)) h)
    | inr d ↦ subst (λ w. w ≤ z) (sym (get_or-set_other t x z y 0 d)) (f.down z (subst (λ w. z < w) (length-set t x y) k))
  ];
}

-- a shorter way to the same class leaves the classes
pub shortened : (t : List ℕ) (m : ℕ → ℕ) (x y z : ℕ) → IsForest t → Represents t m → x < length t → y < x → get_or t x 0 ≡ y → get_or t y 0 ≡ z → Represents (slice_set t x z) m
shortened t m x y z f r l d ey ez = record {
  same = λ w k. elim (cases_eq w x) [
    | inl e ↦ subst (λ v. m (get_or (slice_set t x z) v 0) ≡ m v) (sym e) (ap m (get_or-set_same t x z 0 l) ∙ here)
    | inr n ↦ ap m (get_or-set_other t x w z 0 n) ∙ r.same w (subst (λ v. w < v) (length-set t x z) k)
  ];
  root = λ w k h. elim (cases_eq w x) [
    | inl e ↦ absurd (never (sym (get_or-set_same t x z 0 l) ∙ subst (λ v. get_or (slice_set t x z) v 0 ≡ v) e h))
    | inr n ↦ r.root w (subst (λ v. w < v) (length-set t x z) k) (sym (get_or-set_other t x w z 0 n) ∙ h)
  ];
}
  where
    ly : y < length t
    ly = omega (arith, l, d)

    here : m z ≡ m x
    here = ap m (sym ez) ∙ (r.same y ly ∙ (ap m (sym ey) ∙ r.same x l))

    never : z ≡ x → ⊥
    never e = let k = f.down y ly in omega (arith, k, ez, d, e)

merge_fixed : (a b : ℕ) (m : ℕ → ℕ) → m a ≡ a → replace a b (m a) ≡ a
merge_fixed a b m e = ap (replace a b) e ∙ merge_first a b

-- the least link of one class under that of another
under : (t : List ℕ) (m : ℕ → ℕ) (lo hi : ℕ) → Represents t m → hi < length t → m lo ≡ lo → m hi ≡ hi → Represents (slice_set t hi lo) (λ z. replace lo hi (m z))
under t m lo hi r l el eh = record {
  same = λ w k. elim (cases_eq w hi) [
    | inl e ↦ subst (λ v. replace lo hi (m (get_or (slice_set t hi lo) v 0)) ≡ replace lo hi (m v)) (sym e)
        (ap (λ v. replace lo hi (m v)) (get_or-set_same t hi lo 0 l) ∙ (merge_fixed lo hi m el ∙ sym (ap (replace lo hi) eh ∙ merge_second lo hi)))
    | inr n ↦ ap (λ v. replace lo hi (m v)) (get_or-set_other t hi w lo 0 n) ∙ ap (replace lo hi) (r.same w (subst (λ v. w < v) (length-set t hi lo) k))
  ];
  root = λ w k h. elim (cases_eq w hi) [
    | inl e ↦ (let same : lo ≡ hi = sym (get_or-set_same t hi lo 0 l) ∙ subst (λ v. get_or (slice_set t hi lo) v 0 ≡ v) e h in
        ap (λ v. replace lo hi (m v)) e ∙ (ap (replace lo hi) eh ∙ (merge_second lo hi ∙ (same ∙ sym e))))
    | inr n ↦ (let fixed : m w ≡ w = r.root w (subst (λ v. w < v) (length-set t hi lo) k) (sym (get_or-set_other t hi w lo 0 n) ∙ h) in
        ap (replace lo hi) fixed ∙ merge_other lo hi w n)
  ];
}

-- the greater of the two goes under the lesser one
pub joined_less : (t : List ℕ) (m : ℕ → ℕ) (x y a b : ℕ) → Represents t m → a < b → b < length t → a ≡ m x → b ≡ m y → m a ≡ a → m b ≡ b → Represents (slice_set t b a) (with_joined m x y)
joined_less t m x y a b r h l ea eb fa fb =
    let lo : min (m x) (m y) ≡ a = ap (λ z. min z (m y)) (sym ea) ∙ (ap (min a) (sym eb) ∙ min-eq_left (weak a b h)) in
    let hi : max (m x) (m y) ≡ b = ap (λ z. max z (m y)) (sym ea) ∙ (ap (max a) (sym eb) ∙ max-eq_right (weak a b h)) in
    subst (λ p. Represents (slice_set t b a) (λ z. replace p (max (m x) (m y)) (m z))) (sym lo)
    (subst (λ p. Represents (slice_set t b a) (λ z. replace a p (m z))) (sym hi) (under t m a b r l fa fb))

-- two classes that are joined are one
pub joined_other : (t : List ℕ) (m : ℕ → ℕ) (x y a b : ℕ) → Represents t m → b ≤ a → a < length t → a ≡ m x → b ≡ m y → m a ≡ a → m b ≡ b → Represents (slice_set t a b) (with_joined m x y)
joined_other t m x y a b r h l ea eb fa fb =
    let lo : min (m x) (m y) ≡ b = ap (λ z. min z (m y)) (sym ea) ∙ (ap (min a) (sym eb) ∙ (min_comm a b ∙ min-eq_left h)) in
    let hi : max (m x) (m y) ≡ a = ap (λ z. max z (m y)) (sym ea) ∙ (ap (max a) (sym eb) ∙ (max_comm a b ∙ max-eq_right h)) in
    subst (λ p. Represents (slice_set t a b) (λ z. replace p (max (m x) (m y)) (m z))) (sym lo)
    (subst (λ p. Represents (slice_set t a b) (λ z. replace b p (m z))) (sym hi) (under t m b a r l fb fa))

-- one step to the least link
pub find_step : (old t u : List ℕ) (x y z link : ℕ) → link < length old → length t ≡ length old → IsForest t → x ≤ link → slice_get t x ≡ Some y → (y ≡ x → ⊥) → slice_get t y ≡ Some z → u ≡ slice_set t x z →
    ((m : ℕ → ℕ) → Represents old m → Represents t m × (m x ≡ m link)) →
    (length u ≡ length old) × IsForest u × (z ≤ link) × ((m : ℕ → ℕ) → Represents old m → Represents u m × (m z ≡ m link))
find_step old t u x y z link below size f le ex differ ez s c = (
  ap length s ∙ (length-set t x z ∙ size),
  subst IsForest (sym s) (lowered t x z f lx (weak z x zx)),
  (omega (arith, zx, le)),
  λ m r. (let w = c m r in (subst (λ v. Represents v m) (sym s) (shortened t m x y z f w.0 lx yx gx gy), here m w.0 ∙ w.1)),
)
  where
    gx : get_or t x 0 ≡ y
    gx = get_or_from_slice_get t x y 0 ex

    gy : get_or t y 0 ≡ z
    gy = get_or_from_slice_get t y z 0 ez

    lx : x < length t
    lx = omega (arith, below, size, le)

    yx : y < x
    yx = let k = f.down x lx in elim (cases_lt y x) [ inl h ↦ h | inr h ↦ absurd (differ (omega (arith, k, gx, h))) ]

    zx : z < x
    zx = let k = f.down y (omega (arith, lx, yx)) in omega (arith, k, gy, yx)

    here : (m : ℕ → ℕ) → Represents t m → m z ≡ m x
    here m r = ap m (sym gy) ∙ (r.same y (omega (arith, lx, yx)) ∙ (ap m (sym gx) ∙ r.same x lx))
