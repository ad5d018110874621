-- Rows that fill their blocks go on filling them.
use Rattle.std.proofs.Common.{◌≡◌, ◌⊎◌, ℕ, ◌+◌, ◌-◌, ◌*◌, ◌<◌, ◌^◌, ◌==◌, Bool, true, false, List, [], ◌∷◌, length, take, drop, if◌then◌else◌, refl, sym, ap, ◌∙◌, subst, inl, inr, arith}
use Rattle.std.proofs.lemmas.Bool.{cases_eq, eq-eqb}
use Rattle.std.proofs.lemmas.List.{length-take-le, length-drop}
use Rattle.lmn_base.proofs.Numbers.{not_equal}
use Rattle.lmn_web_rows.specs.Rows.{Item, Row, items_in, with_items, with_use, cut_row, first_rows, later_rows, AreSideBySide}
use Rattle.lmn_web_rows.specs.Tiles.{AreTiled}

-- where a row lies, and how many words it has
abbrev pub span : Row → ℕ × ℕ
span r = (r.at, length r.items)

-- rows that lie as others do
abbrev pub LieAlike : List Row → List Row → Type 0
LieAlike [] [] = Unit {0}
LieAlike [] (s ∷ ss) = ⊥
LieAlike (r ∷ rs) [] = ⊥
LieAlike (r ∷ rs) (s ∷ ss) = (r.at ≡ s.at) × (length r.items ≡ length s.items) × LieAlike rs ss

pub alike : (rs : List Row) → LieAlike rs rs
alike [] = tt
alike (r ∷ rs) = (refl, refl, alike rs)

-- they lie side by side as those do
pub side_alike : (rs ss : List Row) (n c : ℕ) → LieAlike rs ss → AreSideBySide n c rs → AreSideBySide n c ss
side_alike [] [] n c a s = s
side_alike [] (x ∷ ss) n c a s = absurd a
side_alike (r ∷ rs) [] n c a s = absurd a
side_alike (r ∷ rs) (x ∷ ss) n c a s =
    let same = a.1 in let some = s.1 in let few = s.2 in (
      sym a.0 ∙ s.0,
      omega (arith, same, some),
      omega (arith, same, few),
      subst (λ (m : ℕ). AreSideBySide (n + m) (c - m) ss) same (side_alike rs ss (n + length r.items) (c - length r.items) a.2 s.3),
    )

first_alike : (rs ss : List Row) (c : ℕ) → LieAlike rs ss → LieAlike (first_rows c rs) (first_rows c ss)
first_alike [] [] c a = tt
first_alike [] (x ∷ ss) c a = absurd a
first_alike (r ∷ rs) [] c a = absurd a
first_alike (r ∷ rs) (x ∷ ss) c a = by (c == 0) (subst (λ (m : ℕ). LieAlike (first_rows (c - length r.items) rs) (first_rows (c - m) ss)) a.1 (first_alike rs ss (c - length r.items) a.2))
  where
    by : (t : Bool) → LieAlike (first_rows (c - length r.items) rs) (first_rows (c - length x.items) ss) → LieAlike (if t then [] else r ∷ first_rows (c - length r.items) rs) (if t then [] else x ∷ first_rows (c - length x.items) ss)
    by true h = tt
    by false h = (a.0, a.1, h)

later_alike : (rs ss : List Row) (c : ℕ) → LieAlike rs ss → LieAlike (later_rows c rs) (later_rows c ss)
later_alike [] [] c a = tt
later_alike [] (x ∷ ss) c a = absurd a
later_alike (r ∷ rs) [] c a = absurd a
later_alike (r ∷ rs) (x ∷ ss) c a = by (c == 0) (subst (λ (m : ℕ). LieAlike (later_rows (c - length r.items) rs) (later_rows (c - m) ss)) a.1 (later_alike rs ss (c - length r.items) a.2))
  where
    by : (t : Bool) → LieAlike (later_rows (c - length r.items) rs) (later_rows (c - length x.items) ss) → LieAlike (if t then r ∷ rs else later_rows (c - length r.items) rs) (if t then x ∷ ss else later_rows (c - length x.items) ss)
    by true h = a
    by false h = h

-- rows that lie as some do that fill their blocks fill them too
pub tiled_alike : (bs : List ℕ) (rs ss : List Row) → LieAlike rs ss → AreTiled bs rs → AreTiled bs ss
tiled_alike [] [] [] a t = refl
tiled_alike [] [] (x ∷ ss) a t = absurd a
tiled_alike [] (r ∷ rs) ss a t = absurd (let z : r ∷ rs ≡ [] = t in cc)
tiled_alike (b ∷ bs) rs ss a t = (
  side_alike (first_rows (2 ^ 18) rs) (first_rows (2 ^ 18) ss) (b * 2 ^ 18) (2 ^ 18) (first_alike rs ss (2 ^ 18) a) t.0,
  tiled_alike bs (later_rows (2 ^ 18) rs) (later_rows (2 ^ 18) ss) (later_alike rs ss (2 ^ 18) a) t.1,
)

-- a row with as many words lies as before
pub items_alike : (rs : List Row) (n : ℕ) (is : List Item) → length is ≡ length (items_in rs n) → LieAlike rs (with_items n is rs)
items_alike [] n is e = tt
items_alike (r ∷ rs) n is e = elim (cases_eq r.at n) [
  | inl s ↦ subst Same (sym (eq-eqb r.at n s)) (λ h. (refl, sym h, alike rs)) e
  | inr d ↦ subst Same (sym (not_equal r.at n d)) (λ h. (refl, refl, items_alike rs n is h)) e
]
  where
    Same : Bool → Type 0
    Same t = length is ≡ length (if t then r.items else items_in rs n) → LieAlike (r ∷ rs) (if t then record r { items = is } ∷ rs else r ∷ with_items n is rs)

-- whether it is in use or not
pub use_alike : (t : Bool) (rs : List Row) (n : ℕ) → LieAlike rs (with_use t n rs)
use_alike t [] n = tt
use_alike t (r ∷ rs) n = by (r.at == n) (use_alike t rs n)
  where
    by : (u : Bool) → LieAlike rs (with_use t n rs) → LieAlike (r ∷ rs) (if u then record r { live = t } ∷ rs else r ∷ with_use t n rs)
    by true h = (refl, refl, alike rs)
    by false h = (refl, refl, h)

-- Cutting a row in two

-- what is shown of a row that is cut and of those behind it
both_parts : (r : Row) (rs : List Row) (n c m k : ℕ) → r.at ≡ n → 0 < c → c < length r.items → AreSideBySide m k (r ∷ rs)
    → AreSideBySide m k (record r { items = take c r.items } ∷ record r { at = n + c; items = drop c r.items } ∷ rs)
both_parts r rs n c m k e some near s =
    let few = s.2 in let here = s.0 in
    let a : length (take c r.items) ≡ c = (let x = length-take-le c r.items (omega (arith, near)) in x) in let b : length (drop c r.items) ≡ length r.items - c = length-drop c r.items in
    let p : m + length r.items ≡ m + length (take c r.items) + length (drop c r.items) = omega (arith, a, b, near) in
    let q : k - length r.items ≡ k - length (take c r.items) - length (drop c r.items) = omega (arith, a, b, near) in (
      here,
      omega (arith, a, some),
      omega (arith, a, near, few),
      (
        omega (arith, a, e, here),
        omega (arith, b, near),
        omega (arith, a, b, near, few),
        subst (λ (u : ℕ). AreSideBySide u (k - length (take c r.items) - length (drop c r.items)) rs) p (subst (λ (u : ℕ). AreSideBySide (m + length r.items) u rs) q s.3),
      ),
    )

pub first_none : (c : ℕ) (rs : List Row) → c ≡ 0 → first_rows c rs ≡ []
first_none c [] e = refl
first_none c (r ∷ rs) e = ap (λ (t : Bool). if t then [] else r ∷ first_rows (c - length r.items) rs) (eq-eqb c 0 e)

pub later_all : (c : ℕ) (rs : List Row) → c ≡ 0 → later_rows c rs ≡ rs
later_all c [] e = refl
later_all c (r ∷ rs) e = ap (λ (t : Bool). if t then r ∷ rs else later_rows (c - length r.items) rs) (eq-eqb c 0 e)

pub first_more : (c : ℕ) (r : Row) (rs : List Row) → (c ≡ 0 → ⊥) → first_rows c (r ∷ rs) ≡ r ∷ first_rows (c - length r.items) rs
first_more c r rs d = ap (λ (t : Bool). if t then [] else r ∷ first_rows (c - length r.items) rs) (not_equal c 0 d)

pub later_more : (c : ℕ) (r : Row) (rs : List Row) → (c ≡ 0 → ⊥) → later_rows c (r ∷ rs) ≡ later_rows (c - length r.items) rs
later_more c r rs d = ap (λ (t : Bool). if t then r ∷ rs else later_rows (c - length r.items) rs) (not_equal c 0 d)

-- what stands behind the first rows where one of all is cut: the same, or the row is one of them
abbrev Later : ℕ → ℕ → ℕ → List Row → List Row → Type 0
Later n c k rs ss = (later_rows k ss ≡ later_rows k rs) ⊎ ((later_rows k ss ≡ cut_row n c (later_rows k rs)) × (c < length (items_in (later_rows k rs) n)))

cut_parts : (rs : List Row) (n c m k : ℕ) → AreSideBySide m k (first_rows k rs) → 0 < c → c < length (items_in rs n)
    → AreSideBySide m k (first_rows k (cut_row n c rs)) × Later n c k rs (cut_row n c rs)
cut_parts [] n c m k s some low = absurd (omega (arith, low))
cut_parts (r ∷ rs) n c m k s some low = elim (cases_eq k 0) [
  | inl z ↦ (
    subst (AreSideBySide m k) (sym (first_none k (cut_row n c (r ∷ rs)) z)) z,
    inr (
      later_all k (cut_row n c (r ∷ rs)) z ∙ ap (cut_row n c) (sym (later_all k (r ∷ rs) z)),
      subst (λ (xs : List Row). c < length (items_in xs n)) (sym (later_all k (r ∷ rs) z)) low,
    ),
  )
  | inr d ↦ (let t : AreSideBySide m k (r ∷ first_rows (k - length r.items) rs) = subst (AreSideBySide m k) (first_more k r rs d) s in
      elim (cases_eq r.at n) [
        | inl e ↦ subst Parts (sym (eq-eqb r.at n e)) (λ near. here r rs d t e near) low
        | inr o ↦ subst Parts (sym (not_equal r.at n o)) (λ near. there d t (cut_parts rs n c (m + length r.items) (k - length r.items) t.3 some near)) low
      ])
]
  where
    Parts : Bool → Type 0
    Parts t = c < length (if t then r.items else items_in rs n)
        → AreSideBySide m k (first_rows k (if t then record r { items = take c r.items } ∷ record r { at = n + c; items = drop c r.items } ∷ rs else r ∷ cut_row n c rs))
        × Later n c k (r ∷ rs) (if t then record r { items = take c r.items } ∷ record r { at = n + c; items = drop c r.items } ∷ rs else r ∷ cut_row n c rs)

    there : (k ≡ 0 → ⊥) → AreSideBySide m k (r ∷ first_rows (k - length r.items) rs)
        → AreSideBySide (m + length r.items) (k - length r.items) (first_rows (k - length r.items) (cut_row n c rs)) × Later n c (k - length r.items) rs (cut_row n c rs)
        → AreSideBySide m k (first_rows k (r ∷ cut_row n c rs)) × Later n c k (r ∷ rs) (r ∷ cut_row n c rs)
    there d t h = (
      subst (AreSideBySide m k) (sym (first_more k r (cut_row n c rs) d)) (t.0, t.1, t.2, h.0),
      elim h.1 [
        | inl same ↦ inl (later_more k r (cut_row n c rs) d ∙ same ∙ sym (later_more k r rs d))
        | inr cut ↦ inr (
          later_more k r (cut_row n c rs) d ∙ cut.0 ∙ ap (cut_row n c) (sym (later_more k r rs d)),
          subst (λ (xs : List Row). c < length (items_in xs n)) (sym (later_more k r rs d)) cut.1,
        )
      ],
    )

    here : (r : Row) (rs : List Row) → (k ≡ 0 → ⊥) → AreSideBySide m k (r ∷ first_rows (k - length r.items) rs) → r.at ≡ n → c < length r.items
        → AreSideBySide m k (first_rows k (record r { items = take c r.items } ∷ record r { at = n + c; items = drop c r.items } ∷ rs))
        × Later n c k (r ∷ rs) (record r { items = take c r.items } ∷ record r { at = n + c; items = drop c r.items } ∷ rs)
    here r rs d t e near =
        let one : Row = record r { items = take c r.items } in let two : Row = record r { at = n + c; items = drop c r.items } in let few = t.2 in
        let a : length (take c r.items) ≡ c = length-take-le c r.items (omega (arith, near)) in let b : length (drop c r.items) ≡ length r.items - c = length-drop c r.items in
        let more : k - length one.items ≡ 0 → ⊥ = (λ z. absurd (omega (arith, z, a, near, few))) in
        let rest : k - length one.items - length two.items ≡ k - length r.items = omega (arith, a, b, near) in (
          subst (AreSideBySide m k) (sym (first_more k one (two ∷ rs) d ∙ ap (λ xs. one ∷ xs) (first_more (k - length one.items) two rs more) ∙ ap (λ (u : ℕ). one ∷ two ∷ first_rows u rs) rest))
              (both_parts r (first_rows (k - length r.items) rs) n c m k e some near t),
          inl (later_more k one (two ∷ rs) d ∙ later_more (k - length one.items) two rs more ∙ ap (λ (u : ℕ). later_rows u rs) rest ∙ sym (later_more k r rs d)),
        )

-- rows that fill their blocks fill them when one is cut in two
pub tiled_cut : (bs : List ℕ) (rs : List Row) (n c : ℕ) → AreTiled bs rs → 0 < c → c < length (items_in rs n) → AreTiled bs (cut_row n c rs)
tiled_cut [] rs n c t some low = absurd (let z = subst (λ (xs : List Row). c < length (items_in xs n)) t low in omega (arith, z))
tiled_cut (b ∷ bs) rs n c t some low = let h = cut_parts rs n c (b * 2 ^ 18) (2 ^ 18) t.0 some low in (
  h.0,
  elim h.1 [
    | inl same ↦ subst (AreTiled bs) (sym same) t.1
    | inr cut ↦ subst (AreTiled bs) (sym cut.0) (tiled_cut bs (later_rows (2 ^ 18) rs) n c t.1 some cut.1)
  ],
)
