-- Rows of one block, cut apart and joined again. Assumes `Logic`.
use Rattle.std.proofs.Common.{◌≡◌, ℕ, zero, suc, ◌+◌, ◌-◌, ◌*◌, ◌/◌, ◌%◌, ◌^◌, ◌<◌, ◌≤◌, ◌==◌, Bool, true, false, List, [], ◌∷◌, ◌++◌, length, take, drop, replicate, get_or, set, slice_get, Some, if◌then◌else◌, refl, sym, ap, subst, inl, inr, arith}
use Rattle.std.proofs.lemmas.Bool.{cases_eq, eq-eqb}
use Rattle.std.proofs.lemmas.List.{length-append}
use seplogic.Ra.Ura.{Ura}
use base.Logic.{ent, sep, via, id⊢, mono∗, mono_l, mono_r}
use types.Logic.{Logic, sem}
use types.Kit.{‵, ◌⊛◌, ◌$◌, ◌∵◌, !, qed, move, drop as dropped, use1, use2, split, frame, rewrite, fsplit, fjoin, done}
use denote.Steps.{nothing}
use base.Fml.{ftrue}
use Rattle.lmn_base.proofs.Numbers.{not_equal}
use Rattle.lmn_web_rows.specs.Rows.{Item, blank, Row, NUMBER_WORD, forgotten, block_at, byte_at, items_in, with_items, with_use, cut_row, first_rows, later_rows, AreSideBySide}
use Rattle.lmn_web_rows.specs.Owned.{item_own, items_own, row_own, rows_own}
use Rattle.lmn_web_rows.proofs.Blocks.{emptied, items_room}
use Rattle.lmn_web_rows.proofs.Writing.{item_room}

-- the words of some rows, one behind the other
abbrev pub all_items : List Row → List Item
all_items [] = []
all_items (r ∷ rs) = r.items ++ all_items rs

-- rows side by side have so many words together
pub joined_count : (rs : List Row) (n c : ℕ) → AreSideBySide n c rs → length (all_items rs) ≡ c
joined_count [] n c s = sym s
joined_count (r ∷ rs) n c s = let r' = joined_count rs (n + length r.items) (c - length r.items) s.3 in let a = length-append r.items (all_items rs) in let low = s.2 in omega (arith, r', a, low)

-- Places

-- a place some words behind lies in the same block
pub same_block : (n c : ℕ) → n % 2 ^ 18 + c < 2 ^ 18 → block_at (n + c) ≡ block_at n
same_block n c l = omega (arith, l)

-- by its byte as many words behind
pub byte_behind : (n c : ℕ) → n % 2 ^ 18 + c < 2 ^ 18 → byte_at (n + c) ≡ c * 8 + byte_at n
byte_behind n c l = omega (arith, l)

-- a block begins at its first place
pub starts_block : (b : ℕ) → block_at (b * 2 ^ 18 + 0 / 8) ≡ b
starts_block b = omega arith

pub starts_byte : (b : ℕ) → byte_at (b * 2 ^ 18 + 0 / 8) ≡ 0
starts_byte b = omega arith

-- a list that begins with an element
pub first_is : (xs : List ℕ) (x : ℕ) → slice_get xs 0 ≡ Some x → xs ≡ x ∷ drop 1 xs
first_is [] x e = absurd cc
first_is (y ∷ ys) x e = let same : y ≡ x = cc in ap (λ z. z ∷ ys) same

module _ {M : Type 1} {𝓤 : Ura M} (𝓛 : Logic 𝓤) where
  open 𝓛 use {H}

  -- words are their first ones and the others
  pub items_cut : (is : List Item) (c b e e' : ℕ) → e' ≡ c * 8 + e → c ≤ length is
      → ent 𝓤 (sem 𝓛 (items_own is b e)) (sep 𝓤 (sem 𝓛 (items_own (take c is) b e)) (sem 𝓛 (items_own (drop c is) b e')))
  items_cut is zero b e e' at near = let same : e ≡ e' = omega (arith, at) in
      qed 𝓛 (‵ (items_own is b e) ∷ []) ∵ rewrite ! 0 (λ (m : ℕ). ‵ (items_own is b m)) same refl $ nothing ! $ frame ! $ done !
  items_cut [] (suc c) b e e' at near = absurd (omega (arith, near))
  items_cut (i ∷ is) (suc c) b e e' at near =
      qed 𝓛 (‵ (item_own i b e) ∷ ‵ (items_own is b (e + 8)) ∷ []) ∵ move ! (1 ∷ []) $
      use1 𝓛 (‵ (items_own (take c is) b (e + 8)) ⊛ ‵ (items_own (drop c is) b e')) (items_cut is c b (e + 8) e' (omega (arith, at)) (omega (arith, near))) $ split ! $
      move ! (2 ∷ 0 ∷ []) $ fjoin ! $ frame ! $ done !

  -- and words side by side are words
  pub items_join : (is js : List Item) (b e e' : ℕ) → e' ≡ length is * 8 + e
      → ent 𝓤 (sep 𝓤 (sem 𝓛 (items_own is b e)) (sem 𝓛 (items_own js b e'))) (sem 𝓛 (items_own (is ++ js) b e))
  items_join [] js b e e' at = let same : e' ≡ e = omega (arith, at) in
      qed 𝓛 (‵ ftrue ∷ ‵ (items_own js b e') ∷ []) ∵ dropped ! $ rewrite ! 0 (λ (m : ℕ). ‵ (items_own js b m)) same refl $ done !
  items_join (i ∷ is) js b e e' at =
      qed 𝓛 (‵ (items_own (i ∷ is) b e) ∷ ‵ (items_own js b e') ∷ []) ∵ fsplit ! $ move ! (1 ∷ 2 ∷ []) $
      use2 𝓛 (‵ (items_own (is ++ js) b (e + 8))) (items_join is js b (e + 8) e' (omega (arith, at))) $ move ! (1 ∷ 0 ∷ []) $ fjoin ! $ done !

  -- rows side by side are the words of all of them
  pub rows_join : (rs : List Row) (n c : ℕ) → AreSideBySide n c rs → n % 2 ^ 18 + c ≤ 2 ^ 18 → ent 𝓤 (sem 𝓛 (rows_own rs)) (sem 𝓛 (items_own (all_items rs) (block_at n) (byte_at n)))
  rows_join [] n c s l = id⊢ 𝓤 _
  rows_join (r ∷ []) n c s l = qed 𝓛 (‵ (row_own r) ∷ ‵ ftrue ∷ []) ∵ rewrite ! 0 (λ (m : ℕ). ‵ (items_own r.items (block_at m) (byte_at m))) s.0 refl $ move ! (1 ∷ []) $
      move ! (1 ∷ 0 ∷ []) $ use2 𝓛 (‵ (items_own (r.items ++ []) (block_at n) (byte_at n))) (items_join r.items [] (block_at n) (byte_at n) (length r.items * 8 + byte_at n) refl) $ done !
  rows_join (r ∷ q ∷ rs) n c s l =
      let len = length r.items in let one = s.3.1 in let few = s.3.2 in let inside : n % 2 ^ 18 + len < 2 ^ 18 = omega (arith, l, one, few) in let low = s.2 in
      let next : (n + len) % 2 ^ 18 + (c - len) ≤ 2 ^ 18 = omega (arith, l, inside, low) in
      qed 𝓛 (‵ (row_own r) ∷ ‵ (rows_own (q ∷ rs)) ∷ []) ∵ rewrite ! 0 (λ (m : ℕ). ‵ (items_own r.items (block_at m) (byte_at m))) s.0 refl $ move ! (1 ∷ []) $
      use1 𝓛 (‵ (items_own (all_items (q ∷ rs)) (block_at (n + len)) (byte_at (n + len)))) (rows_join (q ∷ rs) (n + len) (c - len) s.3 next) $
      rewrite ! 0 (λ (m : ℕ). ‵ (items_own (all_items (q ∷ rs)) m (byte_at (n + len)))) (same_block n len inside) refl $ move ! (1 ∷ 0 ∷ []) $
      use2 𝓛 (‵ (items_own (all_items (r ∷ q ∷ rs)) (block_at n) (byte_at n))) (items_join r.items (all_items (q ∷ rs)) (block_at n) (byte_at n) (byte_at (n + len)) (byte_behind n len inside)) $ done !

  -- whether rows are in use is nothing that is owned
  pub used : (t : Bool) (n : ℕ) (rs : List Row) → ent 𝓤 (sem 𝓛 (rows_own rs)) (sem 𝓛 (rows_own (with_use t n rs)))
  used t n [] = id⊢ 𝓤 _
  used t n (r ∷ rs) = elim (cases_eq r.at n) [
    | inl e ↦ subst (λ (u : Bool). ent 𝓤 (sem 𝓛 (rows_own (r ∷ rs))) (sem 𝓛 (rows_own (if u then record r { live = t } ∷ rs else r ∷ with_use t n rs)))) (sym (eq-eqb r.at n e)) (id⊢ 𝓤 _)
    | inr d ↦ subst (λ (u : Bool). ent 𝓤 (sem 𝓛 (rows_own (r ∷ rs))) (sem 𝓛 (rows_own (if u then record r { live = t } ∷ rs else r ∷ with_use t n rs)))) (sym (not_equal r.at n d)) (mono_r 𝓤 (sem 𝓛 (row_own r)) (used t n rs))
  ]

  -- a row that is cut
  pub cut_own : (rs : List Row) (n c : ℕ) → c ≤ length (items_in rs n) → n % 2 ^ 18 + c < 2 ^ 18 → ent 𝓤 (sem 𝓛 (rows_own rs)) (sem 𝓛 (rows_own (cut_row n c rs)))
  cut_own [] n c near l = id⊢ 𝓤 _
  cut_own (r ∷ rs) n c near l = elim (cases_eq r.at n) [
    | inl e ↦ subst (Cut true) (sym (eq-eqb r.at n e)) (here e) near
    | inr d ↦ subst (Cut false) (sym (not_equal r.at n d)) (λ low. mono_r 𝓤 (sem 𝓛 (row_own r)) (cut_own rs n c low l)) near
  ]
    where
      Cut : Bool → Bool → Type 1
      Cut _ t = c ≤ length (if t then r.items else items_in rs n) → ent 𝓤 (sem 𝓛 (rows_own (r ∷ rs))) (sem 𝓛 (rows_own (if t then record r { items = take c r.items } ∷ record r { at = n + c; items = drop c r.items } ∷ rs else r ∷ cut_row n c rs)))

      here : r.at ≡ n → Cut true true
      here e low =
          qed 𝓛 (‵ (row_own r) ∷ ‵ (rows_own rs) ∷ []) ∵ rewrite ! 0 (λ (m : ℕ). ‵ (items_own r.items (block_at m) (byte_at m))) e refl $
          use1 𝓛 (‵ (items_own (take c r.items) (block_at n) (byte_at n)) ⊛ ‵ (items_own (drop c r.items) (block_at n) (byte_at (n + c)))) (items_cut r.items c (block_at n) (byte_at n) (byte_at (n + c)) (byte_behind n c l) low) $ split ! $
          rewrite ! 0 (λ (m : ℕ). ‵ (items_own (take c r.items) (block_at m) (byte_at m))) (sym e) refl $
          rewrite ! 1 (λ (m : ℕ). ‵ (items_own (drop c r.items) m (byte_at (n + c)))) (sym (same_block n c l)) refl $
          move ! (1 ∷ 2 ∷ []) $ fjoin ! $ move ! (1 ∷ 0 ∷ []) $ fjoin ! $ done !

  -- of all words but one nothing is known any more
  items_forget : (is : List Item) (k b e : ℕ) → ent 𝓤 (sem 𝓛 (items_own is b e)) (sem 𝓛 (items_own (set (replicate (length is) blank) k (get_or is k blank)) b e))
  items_forget [] k b e = id⊢ 𝓤 _
  items_forget (i ∷ is) zero b e = mono_r 𝓤 (sem 𝓛 (item_own i b e)) (via 𝓤 _ (items_room 𝓛 is b (e + 8)) (emptied 𝓛 (length is) b (e + 8)))
  items_forget (i ∷ is) (suc k) b e = mono∗ 𝓤 (item_room 𝓛 i b e) (items_forget is k b (e + 8))

  -- nothing is known of the words of a row any more, but of the one with its number
  pub forgets : (rs : List Row) (n : ℕ) → ent 𝓤 (sem 𝓛 (rows_own rs)) (sem 𝓛 (rows_own (with_items n (forgotten (items_in rs n)) rs)))
  forgets [] n = id⊢ 𝓤 _
  forgets (r ∷ rs) n = elim (cases_eq r.at n) [
    | inl e ↦ subst Forgets (sym (eq-eqb r.at n e)) (mono_l 𝓤 (sem 𝓛 (rows_own rs)) (items_forget r.items NUMBER_WORD (block_at r.at) (byte_at r.at)))
    | inr d ↦ subst Forgets (sym (not_equal r.at n d)) (mono_r 𝓤 (sem 𝓛 (row_own r)) (forgets rs n))
  ]
    where
      Forgets : Bool → Type 1
      Forgets t = let is = forgotten (if t then r.items else items_in rs n) in ent 𝓤 (sem 𝓛 (rows_own (r ∷ rs))) (sem 𝓛 (rows_own (if t then record r { items = is } ∷ rs else r ∷ with_items n is rs)))

  -- rows are the first ones and the others
  pub rows_split : (rs : List Row) (c : ℕ) → ent 𝓤 (sem 𝓛 (rows_own rs)) (sep 𝓤 (sem 𝓛 (rows_own (first_rows c rs))) (sem 𝓛 (rows_own (later_rows c rs))))
  rows_split [] c = qed 𝓛 (‵ ftrue ∷ []) ∵ nothing ! $ frame ! $ done !
  rows_split (r ∷ rs) c = by (rows_split rs (c - length r.items)) (c == 0)
    where
      by : ent 𝓤 (sem 𝓛 (rows_own rs)) (sep 𝓤 (sem 𝓛 (rows_own (first_rows (c - length r.items) rs))) (sem 𝓛 (rows_own (later_rows (c - length r.items) rs)))) → (t : Bool) → ent 𝓤 (sem 𝓛 (rows_own (r ∷ rs))) (sep 𝓤 (sem 𝓛 (rows_own (if t then [] else r ∷ first_rows (c - length r.items) rs))) (sem 𝓛 (rows_own (if t then r ∷ rs else later_rows (c - length r.items) rs))))
      by rest true = qed 𝓛 (‵ (rows_own (r ∷ rs)) ∷ []) ∵ nothing ! $ frame ! $ done !
      by rest false = qed 𝓛 (‵ (row_own r) ∷ ‵ (rows_own rs) ∷ []) ∵ move ! (1 ∷ []) $
          use1 𝓛 (‵ (rows_own (first_rows (c - length r.items) rs)) ⊛ ‵ (rows_own (later_rows (c - length r.items) rs))) rest $ split ! $ move ! (2 ∷ 0 ∷ []) $ fjoin ! $ frame ! $ done !
