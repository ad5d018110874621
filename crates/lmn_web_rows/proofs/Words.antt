-- One word of the rows is taken out and put back. Assumes `Logic`.
use Rattle.std.proofs.Common.{◌≡◌, ℕ, zero, suc, ◌+◌, ◌*◌, ◌<◌, Bool, true, false, List, [], ◌∷◌, length, get_or, set, Option, Some, if◌then◌else◌, refl, sym, subst, inl, inr, arith}
use Rattle.std.proofs.lemmas.Bool.{cases_eq, eq-eqb}
use seplogic.Ra.Ura.{Ura}
use base.Logic.{SProp, ent, sep, wand, all, all_e, apply∗, fst∗, snd∗, via}
use base.Fml.{Lft}
use types.Logic.{Logic, sem}
use types.Kit.{‵, raw, ◌⊛◌, ◌$◌, ◌∵◌, !, qed, move, use1, use2, split, frame, each, assume, rewrite, fjoin, done}
use denote.RawPtr.{Ptr}
use Rattle.lmn_base.proofs.Numbers.{not_equal}
use Rattle.lmn_web_rows.specs.Rows.{Item, blank, Row, block_at, byte_at, items_in, with_items}
use Rattle.lmn_web_rows.specs.Owned.{item_own, items_own, row_own, rows_own, item_lent, items_lent, rows_lent}

module _ {M : Type 1} {𝓤 : Ura M} (𝓛 : Logic 𝓤) where
  abbrev pub Back : List Item → ℕ → ℕ → ℕ → ℕ → Item → SProp 𝓤
  Back is k b e e' i = wand 𝓤 (sem 𝓛 (item_own i b e')) (sem 𝓛 (items_own (set is k i) b e))

  -- one word of a row
  pub item_at : (is : List Item) (k b e e' : ℕ) → e' ≡ k * 8 + e → k < length is
      → ent 𝓤 (sem 𝓛 (items_own is b e)) (sep 𝓤 (sem 𝓛 (item_own (get_or is k blank) b e')) (all 𝓤 (Back is k b e e')))
  item_at [] k b e e' at near = absurd (omega (arith, near))
  item_at (i ∷ is) zero b e e' at near = let same : e ≡ e' = omega (arith, at) in
      qed 𝓛 (‵ (item_own i b e) ∷ ‵ (items_own is b (e + 8)) ∷ []) ∵ rewrite ! 0 (λ (n : ℕ). ‵ (item_own i b n)) same refl $ frame ! $
      each ! (Back (i ∷ is) 0 b e e') (λ j. assume ! (‵ (item_own j b e')) $ rewrite ! 0 (λ (n : ℕ). ‵ (item_own j b n)) (sym same) refl $ done !)
  item_at (i ∷ is) (suc k) b e e' at near =
      qed 𝓛 (‵ (item_own i b e) ∷ ‵ (items_own is b (e + 8)) ∷ []) ∵ move ! (1 ∷ []) $
      use1 𝓛 (‵ (item_own (get_or is k blank) b e') ⊛ raw (all 𝓤 (Back is k b (e + 8) e'))) (item_at is k b (e + 8) e' (omega (arith, at)) (omega (arith, near))) $ split ! $ frame ! $
      each ! (Back (i ∷ is) (suc k) b e e') (λ j. use1 𝓛 (raw (Back is k b (e + 8) e' j)) (all_e 𝓤 (Back is k b (e + 8) e') j) $ assume ! (‵ (item_own j b e')) $
      use2 𝓛 (‵ (items_own (set is k j) b (e + 8))) (apply∗ 𝓤 (sem 𝓛 (item_own j b e')) (sem 𝓛 (items_own (set is k j) b (e + 8)))) $ move ! (1 ∷ 0 ∷ []) $ done !)

  -- the rows with another word, for that word
  abbrev pub Again : List Row → ℕ → ℕ → Item → SProp 𝓤
  Again rs n k i = wand 𝓤 (sem 𝓛 (item_own i (block_at n) (k * 8 + byte_at n))) (sem 𝓛 (rows_own (with_items n (set (items_in rs n) k i) rs)))

  -- what is shown of the rows, where t says whether the first one is that at the place
  abbrev Goal : Row → List Row → ℕ → ℕ → Bool → Type 1
  Goal r rs n k t = k < length (if t then r.items else items_in rs n) → ent 𝓤 (sem 𝓛 (rows_own (r ∷ rs)))
      (sep 𝓤 (sem 𝓛 (item_own (get_or (if t then r.items else items_in rs n) k blank) (block_at n) (k * 8 + byte_at n)))
      (all 𝓤 (λ i. wand 𝓤 (sem 𝓛 (item_own i (block_at n) (k * 8 + byte_at n)))
      (sem 𝓛 (rows_own (if t then record r { items = set (if t then r.items else items_in rs n) k i } ∷ rs else r ∷ with_items n (set (if t then r.items else items_in rs n) k i) rs))))))

  found : (r : Row) (rs : List Row) (n k : ℕ) → r.at ≡ n → Goal r rs n k true
  found r rs n k same near = let b = block_at n in let e = byte_at n in let e' = k * 8 + e in
      qed 𝓛 (‵ (row_own r) ∷ ‵ (rows_own rs) ∷ []) ∵
      rewrite ! 0 (λ (m : ℕ). ‵ (items_own r.items (block_at m) (byte_at m))) same refl $
      use1 𝓛 (‵ (item_own (get_or r.items k blank) b e') ⊛ raw (all 𝓤 (Back r.items k b e e'))) (item_at r.items k b e e' refl near) $ split ! $ frame ! $
      each ! (λ i. wand 𝓤 (sem 𝓛 (item_own i b e')) (sem 𝓛 (rows_own (record r { items = set r.items k i } ∷ rs)))) (λ i.
      use1 𝓛 (raw (Back r.items k b e e' i)) (all_e 𝓤 (Back r.items k b e e') i) $ assume ! (‵ (item_own i b e')) $
      use2 𝓛 (‵ (items_own (set r.items k i) b e)) (apply∗ 𝓤 (sem 𝓛 (item_own i b e')) (sem 𝓛 (items_own (set r.items k i) b e))) $
      rewrite ! 0 (λ (m : ℕ). ‵ (items_own (set r.items k i) (block_at m) (byte_at m))) (sym same) refl $ fjoin ! $ done !)

  passed : (r : Row) (rs : List Row) (n k : ℕ)
      → (k < length (items_in rs n) → ent 𝓤 (sem 𝓛 (rows_own rs)) (sep 𝓤 (sem 𝓛 (item_own (get_or (items_in rs n) k blank) (block_at n) (k * 8 + byte_at n))) (all 𝓤 (Again rs n k))))
      → Goal r rs n k false
  passed r rs n k rest near = let b = block_at n in let e' = k * 8 + byte_at n in
      qed 𝓛 (‵ (row_own r) ∷ ‵ (rows_own rs) ∷ []) ∵ move ! (1 ∷ []) $
      use1 𝓛 (‵ (item_own (get_or (items_in rs n) k blank) b e') ⊛ raw (all 𝓤 (Again rs n k))) (rest near) $ split ! $ frame ! $
      each ! (λ i. wand 𝓤 (sem 𝓛 (item_own i b e')) (sem 𝓛 (rows_own (r ∷ with_items n (set (items_in rs n) k i) rs)))) (λ i.
      use1 𝓛 (raw (Again rs n k i)) (all_e 𝓤 (Again rs n k) i) $ assume ! (‵ (item_own i b e')) $
      use2 𝓛 (‵ (rows_own (with_items n (set (items_in rs n) k i) rs))) (apply∗ 𝓤 (sem 𝓛 (item_own i b e')) (sem 𝓛 (rows_own (with_items n (set (items_in rs n) k i) rs)))) $
      move ! (1 ∷ 0 ∷ []) $ fjoin ! $ done !)

  -- one word of the rows
  pub word_at : (rs : List Row) (n k : ℕ) → k < length (items_in rs n)
      → ent 𝓤 (sem 𝓛 (rows_own rs)) (sep 𝓤 (sem 𝓛 (item_own (get_or (items_in rs n) k blank) (block_at n) (k * 8 + byte_at n))) (all 𝓤 (Again rs n k)))
  word_at [] n k = λ near. absurd (omega (arith, near))
  word_at (r ∷ rs) n k = elim (cases_eq r.at n) [
    | inl e ↦ subst (Goal r rs n k) (sym (eq-eqb r.at n e)) (found r rs n k e)
    | inr d ↦ subst (Goal r rs n k) (sym (not_equal r.at n d)) (passed r rs n k (word_at rs n k))
  ]

  -- Through a `&`

  -- one word of a row
  item_seen : (κ : Lft) (is : List Item) (k b e e' : ℕ) → e' ≡ k * 8 + e → k < length is
      → ent 𝓤 (sem 𝓛 (items_lent is b e κ)) (sem 𝓛 (item_lent (get_or is k blank) b e' κ))
  item_seen κ [] k b e e' at near = absurd (omega (arith, near))
  item_seen κ (i ∷ is) zero b e e' at near = subst (λ (n : ℕ). ent 𝓤 (sem 𝓛 (items_lent (i ∷ is) b e κ)) (sem 𝓛 (item_lent i b n κ))) (omega (arith, at)) (fst∗ 𝓤 (sem 𝓛 (item_lent i b e κ)) (sem 𝓛 (items_lent is b (e + 8) κ)))
  item_seen κ (i ∷ is) (suc k) b e e' at near =
      via 𝓤 (sem 𝓛 (items_lent is b (e + 8) κ)) (snd∗ 𝓤 (sem 𝓛 (item_lent i b e κ)) (sem 𝓛 (items_lent is b (e + 8) κ))) (item_seen κ is k b (e + 8) e' (omega (arith, at)) (omega (arith, near)))

  -- what is shown of rows that are lent
  abbrev Shown : Lft → Row → List Row → ℕ → ℕ → Bool → Type 1
  Shown κ r rs n k t = k < length (if t then r.items else items_in rs n) → ent 𝓤 (sem 𝓛 (rows_lent (r ∷ rs) κ)) (sem 𝓛 (item_lent (get_or (if t then r.items else items_in rs n) k blank) (block_at n) (k * 8 + byte_at n) κ))

  seen_here : (κ : Lft) (r : Row) (rs : List Row) (n k : ℕ) → r.at ≡ n → Shown κ r rs n k true
  seen_here κ r rs n k same near = via 𝓤 (sem 𝓛 (items_lent r.items (block_at r.at) (byte_at r.at) κ)) (fst∗ 𝓤 (sem 𝓛 (items_lent r.items (block_at r.at) (byte_at r.at) κ)) (sem 𝓛 (rows_lent rs κ)))
      (subst (λ (m : ℕ). ent 𝓤 (sem 𝓛 (items_lent r.items (block_at r.at) (byte_at r.at) κ)) (sem 𝓛 (item_lent (get_or r.items k blank) (block_at m) (k * 8 + byte_at m) κ))) same
      (item_seen κ r.items k (block_at r.at) (byte_at r.at) (k * 8 + byte_at r.at) refl near))

  -- one word of rows that are lent
  pub word_seen : (κ : Lft) (rs : List Row) (n k : ℕ) → k < length (items_in rs n)
      → ent 𝓤 (sem 𝓛 (rows_lent rs κ)) (sem 𝓛 (item_lent (get_or (items_in rs n) k blank) (block_at n) (k * 8 + byte_at n) κ))
  word_seen κ [] n k = λ near. absurd (omega (arith, near))
  word_seen κ (r ∷ rs) n k = elim (cases_eq r.at n) [
    | inl e ↦ subst (Shown κ r rs n k) (sym (eq-eqb r.at n e)) (seen_here κ r rs n k e)
    | inr d ↦ subst (Shown κ r rs n k) (sym (not_equal r.at n d)) (λ near. via 𝓤 (sem 𝓛 (rows_lent rs κ)) (snd∗ 𝓤 (sem 𝓛 (items_lent r.items (block_at r.at) (byte_at r.at) κ)) (sem 𝓛 (rows_lent rs κ))) (word_seen κ rs n k near))
  ]

-- a word that isn't blank is one of the row
pub within : (is : List Item) (k : ℕ) (x : Option Ptr × (ℕ × List (Option ℕ))) → get_or is k blank ≡ Some x → k < length is
within [] k x e = absurd cc
within (i ∷ is) zero x e = omega arith
within (i ∷ is) (suc k) x e = let r = within is k x e in omega (arith, r)
