-- What stands at a place of the rows, after each change.
use Rattle.std.proofs.Common.{◌≡◌, ◌≢◌, ℕ, ◌+◌, ◌-◌, ◌*◌, ◌^◌, ◌<◌, ◌==◌, Bool, true, false, List, [], ◌∷◌, length, take, drop, if◌then◌else◌, refl, sym, subst, ap, ◌∙◌, inl, inr, arith}
use Rattle.std.proofs.lemmas.Bool.{cases_eq, eq-eqb}
use Rattle.lmn_base.proofs.Numbers.{not_equal, equal_when}
use Rattle.lmn_base.proofs.Truth.{if_no, false_not_true}
use Rattle.lmn_web_rows.specs.Rows.{Item, Row, items_in, live_in, with_items, with_use, cut_row, first_rows, later_rows, AreSideBySide}
use Rattle.lmn_web_rows.specs.Tiles.{AreTiled}
use Rattle.lmn_web_rows.specs.Seen.{shown}
use Rattle.lmn_web_rows.proofs.Tiling.{first_more, later_more, later_all}

-- a choice whose test is true
pub if_yes : {X : Type 0} (t : Bool) (x y : X) → t ≡ true → (if t then x else y) ≡ x
if_yes true x y e = refl
if_yes false x y e = absurd cc

-- Other words

-- the words that a place was given
pub items_same : (rs : List Row) (n : ℕ) (is : List Item) → 0 < length (items_in rs n) → items_in (with_items n is rs) n ≡ is
items_same [] n is l = absurd (omega (arith, l))
items_same (r ∷ rs) n is l = by (r.at == n) refl (items_same rs n is) l
  where
    by : (t : Bool) → (r.at == n) ≡ t → (0 < length (items_in rs n) → items_in (with_items n is rs) n ≡ is) → 0 < length (if t then r.items else items_in rs n)
        → items_in (if t then record r { items = is } ∷ rs else r ∷ with_items n is rs) n ≡ is
    by true e h low = ap (λ (v : Bool). if v then is else items_in rs n) e
    by false e h low = ap (λ (v : Bool). if v then r.items else items_in (with_items n is rs) n) e ∙ h low

-- those of other places
pub items_away : (rs : List Row) (n : ℕ) (is : List Item) (j : ℕ) → j ≢ n → items_in (with_items n is rs) j ≡ items_in rs j
items_away [] n is j d = refl
items_away (r ∷ rs) n is j d = by (r.at == n) refl (items_away rs n is j d)
  where
    by : (t : Bool) → (r.at == n) ≡ t → items_in (with_items n is rs) j ≡ items_in rs j
        → items_in (if t then record r { items = is } ∷ rs else r ∷ with_items n is rs) j ≡ (if r.at == j then r.items else items_in rs j)
    by true e h = let o : (r.at == j) ≡ false = not_equal r.at j (λ z. d (sym z ∙ equal_when r.at n e)) in if_no (r.at == j) is (items_in rs j) o ∙ sym (if_no (r.at == j) r.items (items_in rs j) o)
    by false e h = ap (λ (is' : List Item). if r.at == j then r.items else is') h

-- rows are in use as before
pub live_items : (rs : List Row) (n : ℕ) (is : List Item) (j : ℕ) → live_in (with_items n is rs) j ≡ live_in rs j
live_items [] n is j = refl
live_items (r ∷ rs) n is j = by (r.at == n) (live_items rs n is j)
  where
    by : (t : Bool) → live_in (with_items n is rs) j ≡ live_in rs j → live_in (if t then record r { items = is } ∷ rs else r ∷ with_items n is rs) j ≡ (if r.at == j then r.live else live_in rs j)
    by true h = refl
    by false h = ap (λ (u : Bool). if r.at == j then r.live else u) h

-- In use or not

pub items_use : (t : Bool) (n : ℕ) (rs : List Row) (j : ℕ) → items_in (with_use t n rs) j ≡ items_in rs j
items_use t n [] j = refl
items_use t n (r ∷ rs) j = by (r.at == n) (items_use t n rs j)
  where
    by : (u : Bool) → items_in (with_use t n rs) j ≡ items_in rs j → items_in (if u then record r { live = t } ∷ rs else r ∷ with_use t n rs) j ≡ (if r.at == j then r.items else items_in rs j)
    by true h = refl
    by false h = ap (λ (is : List Item). if r.at == j then r.items else is) h

pub live_use : (t : Bool) (n : ℕ) (rs : List Row) → 0 < length (items_in rs n) → live_in (with_use t n rs) n ≡ t
live_use t n [] l = absurd (omega (arith, l))
live_use t n (r ∷ rs) l = by (r.at == n) refl (live_use t n rs) l
  where
    by : (u : Bool) → (r.at == n) ≡ u → (0 < length (items_in rs n) → live_in (with_use t n rs) n ≡ t) → 0 < length (if u then r.items else items_in rs n)
        → live_in (if u then record r { live = t } ∷ rs else r ∷ with_use t n rs) n ≡ t
    by true e h low = ap (λ (v : Bool). if v then t else live_in rs n) e
    by false e h low = ap (λ (v : Bool). if v then r.live else live_in (with_use t n rs) n) e ∙ h low

pub live_away : (t : Bool) (n : ℕ) (rs : List Row) (j : ℕ) → j ≢ n → live_in (with_use t n rs) j ≡ live_in rs j
live_away t n [] j d = refl
live_away t n (r ∷ rs) j d = by (r.at == n) refl (live_away t n rs j d)
  where
    by : (u : Bool) → (r.at == n) ≡ u → live_in (with_use t n rs) j ≡ live_in rs j
        → live_in (if u then record r { live = t } ∷ rs else r ∷ with_use t n rs) j ≡ (if r.at == j then r.live else live_in rs j)
    by true e h = let o : (r.at == j) ≡ false = not_equal r.at j (λ z. d (sym z ∙ equal_when r.at n e)) in if_no (r.at == j) t (live_in rs j) o ∙ sym (if_no (r.at == j) r.live (live_in rs j) o)
    by false e h = ap (λ (v : Bool). if r.at == j then r.live else v) h

-- Rows as they are seen

pub seen : (rs : List Row) (n : ℕ) → items_in (shown rs) n ≡ (if live_in rs n then items_in rs n else [])
seen [] n = refl
seen (r ∷ rs) n = by (r.at == n) (seen rs n)
  where
    by : (t : Bool) → items_in (shown rs) n ≡ (if live_in rs n then items_in rs n else [])
        → (if t then (if r.live then r.items else []) else items_in (shown rs) n) ≡ (if (if t then r.live else live_in rs n) then (if t then r.items else items_in rs n) else [])
    by true h = refl
    by false h = h

-- a row in use is seen with its words
pub seen_live : (rs : List Row) (n : ℕ) → live_in rs n ≡ true → items_in (shown rs) n ≡ items_in rs n
seen_live rs n e = seen rs n ∙ ap (λ (t : Bool). if t then items_in rs n else []) e

-- one that isn't has none
pub seen_spare : (rs : List Row) (n : ℕ) → live_in rs n ≡ false → items_in (shown rs) n ≡ []
seen_spare rs n e = seen rs n ∙ ap (λ (t : Bool). if t then items_in rs n else []) e

-- what is seen with words is in use
pub live_seen : (rs : List Row) (n : ℕ) → 0 < length (items_in (shown rs) n) → live_in rs n ≡ true
live_seen rs n l = by (live_in rs n) refl
  where
    by : (t : Bool) → live_in rs n ≡ t → live_in rs n ≡ true
    by true e = e
    by false e = absurd (let none = ap (λ (is : List Item). length is) (seen_spare rs n e) in omega (arith, l, none))

-- words of a row in use are seen when they are others
pub shown_items : (rs : List Row) (n : ℕ) (is : List Item) → live_in rs n ≡ true → shown (with_items n is rs) ≡ with_items n is (shown rs)
shown_items [] n is e = refl
shown_items (r ∷ rs) n is e = by (r.at == n) (shown_items rs n is) e
  where
    by : (t : Bool) → (live_in rs n ≡ true → shown (with_items n is rs) ≡ with_items n is (shown rs)) → (if t then r.live else live_in rs n) ≡ true
        → shown (if t then record r { items = is } ∷ rs else r ∷ with_items n is rs)
        ≡ (if t then record r { items = is } ∷ shown rs else record r { items = if r.live then r.items else [] } ∷ with_items n is (shown rs))
    by true h e = ap (λ (js : List Item). record r { items = js } ∷ shown rs) (if_yes r.live is [] e)
    by false h e = ap (λ (ss : List Row). record r { items = if r.live then r.items else [] } ∷ ss) (h e)

-- A row that is cut

-- no row is at a place
abbrev pub Absent : ℕ → List Row → Type 0
Absent n [] = Unit {0}
Absent n (r ∷ rs) = (r.at ≢ n) × Absent n rs

-- each row has words
abbrev pub Filled : List Row → Type 0
Filled [] = Unit {0}
Filled (r ∷ rs) = (0 < length r.items) × Filled rs

filled_parts : (rs : List Row) (m k : ℕ) → AreSideBySide m k (first_rows k rs) → Filled (later_rows k rs) → Filled rs
filled_parts [] m k s h = tt
filled_parts (r ∷ rs) m k s h = elim (cases_eq k 0) [
  | inl z ↦ subst Filled (later_all k (r ∷ rs) z) h
  | inr d ↦ (let t : AreSideBySide m k (r ∷ first_rows (k - length r.items) rs) = subst (AreSideBySide m k) (first_more k r rs d) s in
      (t.1, filled_parts rs (m + length r.items) (k - length r.items) t.3 (subst Filled (later_more k r rs d) h)))
]

-- rows that fill blocks have words
pub filled : (bs : List ℕ) (rs : List Row) → AreTiled bs rs → Filled rs
filled [] rs t = subst Filled (sym t) tt
filled (b ∷ bs) rs t = filled_parts rs (b * 2 ^ 18) (2 ^ 18) t.0 (filled bs (later_rows (2 ^ 18) rs) t.1)

-- where there are no words, there is no row
pub absent : (rs : List Row) (n : ℕ) → Filled rs → items_in rs n ≡ [] → Absent n rs
absent [] n f e = tt
absent (r ∷ rs) n f e = by (r.at == n) refl (absent rs n f.1) e
  where
    by : (t : Bool) → (r.at == n) ≡ t → (items_in rs n ≡ [] → Absent n rs) → (if t then r.items else items_in rs n) ≡ [] → (r.at ≢ n) × Absent n rs
    by true s h none = absurd (let some = f.0 in let l = ap (λ (is : List Item). length is) none in omega (arith, some, l))
    by false s h none = ((λ z. false_not_true (sym s ∙ eq-eqb r.at n z)), h none)

-- the words at a place, and whether they are in use
abbrev pub found_in : List Row → ℕ → List Item × Bool
found_in [] n = ([], false)
found_in (r ∷ rs) n = if r.at == n then (r.items, r.live) else found_in rs n

pub found_is : (rs : List Row) (n : ℕ) → found_in rs n ≡ (items_in rs n, live_in rs n)
found_is [] n = refl
found_is (r ∷ rs) n = by (r.at == n) (found_is rs n)
  where
    by : (t : Bool) → found_in rs n ≡ (items_in rs n, live_in rs n) → (if t then (r.items, r.live) else found_in rs n) ≡ ((if t then r.items else items_in rs n), (if t then r.live else live_in rs n))
    by true h = refl
    by false h = h

-- the first of its parts
pub cut_here : (rs : List Row) (n c : ℕ) → 0 < length (items_in rs n) → found_in (cut_row n c rs) n ≡ (take c (items_in rs n), live_in rs n)
cut_here [] n c l = absurd (omega (arith, l))
cut_here (r ∷ rs) n c l = by (r.at == n) refl (cut_here rs n c) l
  where
    two : List Row
    two = record r { at = n + c; items = drop c r.items } ∷ rs

    by : (t : Bool) → (r.at == n) ≡ t → (0 < length (items_in rs n) → found_in (cut_row n c rs) n ≡ (take c (items_in rs n), live_in rs n)) → 0 < length (if t then r.items else items_in rs n)
        → found_in (if t then record r { items = take c r.items } ∷ two else r ∷ cut_row n c rs) n ≡ (take c (if t then r.items else items_in rs n), (if t then r.live else live_in rs n))
    by true e h low = ap (λ (v : Bool). if v then (take c r.items, r.live) else found_in two n) e
    by false e h low = ap (λ (v : Bool). if v then (r.items, r.live) else found_in (cut_row n c rs) n) e ∙ h low

-- the second one
pub cut_next : (rs : List Row) (n c : ℕ) → 0 < length (items_in rs n) → Absent (n + c) rs → found_in (cut_row n c rs) (n + c) ≡ (drop c (items_in rs n), live_in rs n)
cut_next [] n c l a = absurd (omega (arith, l))
cut_next (r ∷ rs) n c l a = by (r.at == n) refl (λ low. cut_next rs n c low a.1) l
  where
    two : List Row
    two = record r { at = n + c; items = drop c r.items } ∷ rs

    by : (t : Bool) → (r.at == n) ≡ t → (0 < length (items_in rs n) → found_in (cut_row n c rs) (n + c) ≡ (drop c (items_in rs n), live_in rs n)) → 0 < length (if t then r.items else items_in rs n)
        → found_in (if t then record r { items = take c r.items } ∷ two else r ∷ cut_row n c rs) (n + c) ≡ (drop c (if t then r.items else items_in rs n), (if t then r.live else live_in rs n))
    by true e h low = ap (λ (v : Bool). if v then (take c r.items, r.live) else found_in two (n + c)) (not_equal r.at (n + c) a.0)
        ∙ ap (λ (v : Bool). if v then (drop c r.items, r.live) else found_in rs (n + c)) (eq-eqb (n + c) (n + c) refl)
    by false e h low = ap (λ (v : Bool). if v then (r.items, r.live) else found_in (cut_row n c rs) (n + c)) (not_equal r.at (n + c) a.0) ∙ h low

-- and any other
pub cut_away : (rs : List Row) (n c j : ℕ) → j ≢ n → j ≢ n + c → found_in (cut_row n c rs) j ≡ found_in rs j
cut_away [] n c j d o = refl
cut_away (r ∷ rs) n c j d o = by (r.at == n) refl (cut_away rs n c j d o)
  where
    two : List Row
    two = record r { at = n + c; items = drop c r.items } ∷ rs

    by : (t : Bool) → (r.at == n) ≡ t → found_in (cut_row n c rs) j ≡ found_in rs j
        → found_in (if t then record r { items = take c r.items } ∷ two else r ∷ cut_row n c rs) j ≡ (if r.at == j then (r.items, r.live) else found_in rs j)
    by true e h = let no : (r.at == j) ≡ false = not_equal r.at j (λ z. d (sym z ∙ equal_when r.at n e)) in
        ap (λ (v : Bool). if v then (take c r.items, r.live) else found_in two j) no ∙ ap (λ (v : Bool). if v then (drop c r.items, r.live) else found_in rs j) (not_equal (n + c) j (λ z. o (sym z)))
        ∙ sym (ap (λ (v : Bool). if v then (r.items, r.live) else found_in rs j) no)
    by false e h = ap (λ (x : List Item × Bool). if r.at == j then (r.items, r.live) else x) h
