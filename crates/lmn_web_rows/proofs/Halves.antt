-- One half of a word of the rows is taken out and put back. Assumes `Logic`.
use Rattle.std.proofs.Common.{◌≡◌, ℕ, zero, suc, ◌+◌, ◌*◌, ◌<◌, List, [], ◌∷◌, length, get_or, set, replicate, Option, Some, None, refl, sym, subst, ◌∙◌, arith, length-set}
use seplogic.Ra.Ura.{Ura}
use base.Fraction.{full_share}
use base.Logic.{SProp, ent, sep, wand, all, all_e, apply∗, fst∗, snd∗, via, id⊢}
use base.Fml.{Lft, froom}
use types.Logic.{Logic, sem}
use types.Kit.{‵, raw, ◌⊛◌, ◌$◌, ◌∵◌, !, qed, move, use1, use2, split, frame, each, assume, rewrite, done}
use denote.Builtin.{u32}
use denote.Memory.{part_at}
use Rattle.lmn_web_rows.specs.Rows.{Item, blank, Row, block_at, byte_at, items_in, with_items, halves_in, of_halves, with_half}
use Rattle.lmn_web_rows.specs.Owned.{half, half_own, halves_own, whole_word, item_own, rows_own, half_lent, halves_lent, item_lent, rows_lent}
use Rattle.lmn_web_rows.proofs.Words.{word_at, word_seen, Again}
use Rattle.lmn_web_rows.proofs.Writing.{item_halves, half_room}

none_written : (m j : ℕ) → ◌≡◌ {A = Option ℕ} (get_or (replicate m None) j None) None
none_written zero j = refl
none_written (suc m) zero = refl
none_written (suc m) (suc j) = none_written m j

-- a word with a half is one of the row
pub within_halves : (is : List Item) (k j n : ℕ) → get_or (halves_in (get_or is k blank)) j None ≡ Some n → k < length is
within_halves [] k j n e = absurd (let none : ◌≡◌ {A = Option ℕ} None (Some n) = sym (none_written 2 j) ∙ e in cc)
within_halves (i ∷ is) zero j n e = omega arith
within_halves (i ∷ is) (suc k) j n e = let r = within_halves is k j n e in omega (arith, r)

module _ {M : Type 1} {𝓤 : Ura M} (𝓛 : Logic 𝓤) where
  open 𝓛 use {H}

  abbrev Back : List (Option ℕ) → ℕ → ℕ → ℕ → ℕ → Option ℕ → SProp 𝓤
  Back xs j b e e' x = wand 𝓤 (sem 𝓛 (half_own x b e')) (sem 𝓛 (halves_own (set xs j x) b e))

  -- one half of some
  half_among : (xs : List (Option ℕ)) (j b e e' : ℕ) → e' ≡ j * 4 + e → j < length xs
      → ent 𝓤 (sem 𝓛 (halves_own xs b e)) (sep 𝓤 (sem 𝓛 (half_own (get_or xs j None) b e')) (all 𝓤 (Back xs j b e e')))
  half_among [] j b e e' at near = absurd (omega (arith, near))
  half_among (x ∷ xs) zero b e e' at near = let same : e ≡ e' = omega (arith, at) in
      qed 𝓛 (‵ (half_own x b e) ∷ ‵ (halves_own xs b (e + 4)) ∷ []) ∵ rewrite ! 0 (λ (n : ℕ). ‵ (half_own x b n)) same refl $ frame ! $
      each ! (Back (x ∷ xs) 0 b e e') (λ y. assume ! (‵ (half_own y b e')) $ rewrite ! 0 (λ (n : ℕ). ‵ (half_own y b n)) (sym same) refl $ done !)
  half_among (x ∷ xs) (suc j) b e e' at near =
      qed 𝓛 (‵ (half_own x b e) ∷ ‵ (halves_own xs b (e + 4)) ∷ []) ∵ move ! (1 ∷ []) $
      use1 𝓛 (‵ (half_own (get_or xs j None) b e') ⊛ raw (all 𝓤 (Back xs j b (e + 4) e'))) (half_among xs j b (e + 4) e' (omega (arith, at)) (omega (arith, near))) $ split ! $ frame ! $
      each ! (Back (x ∷ xs) (suc j) b e e') (λ y. use1 𝓛 (raw (Back xs j b (e + 4) e' y)) (all_e 𝓤 (Back xs j b (e + 4) e') y) $ assume ! (‵ (half_own y b e')) $
      use2 𝓛 (‵ (halves_own (set xs j y) b (e + 4))) (apply∗ 𝓤 (sem 𝓛 (half_own y b e')) (sem 𝓛 (halves_own (set xs j y) b (e + 4)))) $ move ! (1 ∷ 0 ∷ []) $ done !)

  -- halves are a word again
  whole_again : (xs : List (Option ℕ)) (b e : ℕ) → 0 < length xs → ent 𝓤 (sep 𝓤 (sem 𝓛 (halves_own xs b e)) (sem 𝓛 (whole_word (length xs) b e))) (sem 𝓛 (item_own (of_halves xs) b e))
  whole_again [] b e some = absurd (omega (arith, some))
  whole_again (x ∷ xs) b e some = id⊢ 𝓤 _

  set_again : (xs : List (Option ℕ)) (j n b e : ℕ) → j < length xs
      → ent 𝓤 (sep 𝓤 (sem 𝓛 (halves_own (set xs j (Some n)) b e)) (sem 𝓛 (whole_word (length xs) b e))) (sem 𝓛 (item_own (of_halves (set xs j (Some n))) b e))
  set_again xs j n b e near =
      subst (λ (m : ℕ). ent 𝓤 (sep 𝓤 (sem 𝓛 (halves_own (set xs j (Some n)) b e)) (sem 𝓛 (whole_word m b e))) (sem 𝓛 (item_own (of_halves (set xs j (Some n))) b e))) (length-set xs j (Some n))
      (whole_again (set xs j (Some n)) b e (let l = length-set xs j (Some n) in omega (arith, l, near)))

  -- the rows with another half
  abbrev pub Anew : List Row → ℕ → ℕ → ℕ → ℕ → ℕ → SProp 𝓤
  Anew rs m k j e' n = wand 𝓤 (sem 𝓛 (part_at u32 full_share n (block_at m) e')) (sem 𝓛 (rows_own (with_items m (set (items_in rs m) k (with_half j n (get_or (items_in rs m) k blank))) rs)))

  -- room for one half of the rows
  pub half_of : (rs : List Row) (m k j e' : ℕ) → k < length (items_in rs m) → j < length (halves_in (get_or (items_in rs m) k blank)) → e' ≡ j * 4 + (k * 8 + byte_at m)
      → ent 𝓤 (sem 𝓛 (rows_own rs)) (sep 𝓤 (H.room half (block_at m) e') (all 𝓤 (Anew rs m k j e')))
  half_of rs m k j e' near low at =
      let b : ℕ = block_at m in let i : Item = get_or (items_in rs m) k blank in let xs : List (Option ℕ) = halves_in i in let e : ℕ = k * 8 + byte_at m in
      qed 𝓛 (‵ (rows_own rs) ∷ []) ∵
      use1 𝓛 (‵ (item_own i b e) ⊛ raw (all 𝓤 (Again 𝓛 rs m k))) (word_at 𝓛 rs m k near) $ split ! $
      use1 𝓛 (‵ (halves_own xs b e) ⊛ ‵ (whole_word (length xs) b e)) (item_halves 𝓛 i b e) $ split ! $
      use1 𝓛 (‵ (half_own (get_or xs j None) b e') ⊛ raw (all 𝓤 (Back xs j b e e'))) (half_among xs j b e e' at low) $ split ! $
      use1 𝓛 (‵ (froom half b e')) (half_room 𝓛 (get_or xs j None) b e') $ frame ! $
      each ! (Anew rs m k j e') (λ n. use1 𝓛 (raw (Back xs j b e e' (Some n))) (all_e 𝓤 (Back xs j b e e') (Some n)) $ assume ! (‵ (half_own (Some n) b e')) $
      use2 𝓛 (‵ (halves_own (set xs j (Some n)) b e)) (apply∗ 𝓤 (sem 𝓛 (half_own (Some n) b e')) (sem 𝓛 (halves_own (set xs j (Some n)) b e))) $
      use2 𝓛 (‵ (item_own (with_half j n i) b e)) (set_again xs j n b e low) $ move ! (1 ∷ []) $
      use1 𝓛 (raw (Again 𝓛 rs m k (with_half j n i))) (all_e 𝓤 (Again 𝓛 rs m k) (with_half j n i)) $ move ! (1 ∷ 0 ∷ []) $
      use2 𝓛 (‵ (rows_own (with_items m (set (items_in rs m) k (with_half j n i)) rs))) (apply∗ 𝓤 (sem 𝓛 (item_own (with_half j n i) b e)) (sem 𝓛 (rows_own (with_items m (set (items_in rs m) k (with_half j n i)) rs)))) $ done !)

  -- Through a `&`

  half_seen : (κ : Lft) (xs : List (Option ℕ)) (j b e e' n : ℕ) → e' ≡ j * 4 + e → get_or xs j None ≡ Some n → ent 𝓤 (sem 𝓛 (halves_lent xs b e κ)) (sem 𝓛 (half_lent (Some n) b e' κ))
  half_seen κ [] j b e e' n at is = absurd cc
  half_seen κ (x ∷ xs) zero b e e' n at is = let same : e ≡ e' = omega (arith, at) in
      subst (λ (m : ℕ). ent 𝓤 (sem 𝓛 (halves_lent (x ∷ xs) b e κ)) (sem 𝓛 (half_lent (Some n) b m κ))) same
      (subst (λ (y : Option ℕ). ent 𝓤 (sem 𝓛 (halves_lent (x ∷ xs) b e κ)) (sem 𝓛 (half_lent y b e κ))) is (fst∗ 𝓤 (sem 𝓛 (half_lent x b e κ)) (sem 𝓛 (halves_lent xs b (e + 4) κ))))
  half_seen κ (x ∷ xs) (suc j) b e e' n at is =
      via 𝓤 (sem 𝓛 (halves_lent xs b (e + 4) κ)) (snd∗ 𝓤 (sem 𝓛 (half_lent x b e κ)) (sem 𝓛 (halves_lent xs b (e + 4) κ))) (half_seen κ xs j b (e + 4) e' n (omega (arith, at)) is)

  item_seen : (κ : Lft) (i : Item) (j b e e' n : ℕ) → e' ≡ j * 4 + e → get_or (halves_in i) j None ≡ Some n → ent 𝓤 (sem 𝓛 (item_lent i b e κ)) (sem 𝓛 (half_lent (Some n) b e' κ))
  item_seen κ None j b e e' n at is = absurd (let none : ◌≡◌ {A = Option ℕ} None (Some n) = sym (none_written 2 j) ∙ is in cc)
  item_seen κ (Some (Some p, x)) j b e e' n at is = absurd (let none : ◌≡◌ {A = Option ℕ} None (Some n) = sym (none_written 2 j) ∙ is in cc)
  item_seen κ (Some (None, (m, []))) j b e e' n at is = absurd (let none : ◌≡◌ {A = Option ℕ} None (Some n) = sym (none_written 2 j) ∙ is in cc)
  item_seen κ (Some (None, (m, x ∷ xs))) j b e e' n at is = half_seen κ (x ∷ xs) j b e e' n at is

  -- one half of rows that are lent
  pub half_in_word : (κ : Lft) (rs : List Row) (m k j e' n : ℕ) → e' ≡ j * 4 + (k * 8 + byte_at m) → get_or (halves_in (get_or (items_in rs m) k blank)) j None ≡ Some n
      → ent 𝓤 (sem 𝓛 (rows_lent rs κ)) (sem 𝓛 (half_lent (Some n) (block_at m) e' κ))
  half_in_word κ rs m k j e' n at is =
      via 𝓤 (sem 𝓛 (item_lent (get_or (items_in rs m) k blank) (block_at m) (k * 8 + byte_at m) κ)) (word_seen 𝓛 κ rs m k (within_halves (items_in rs m) k j n is)) (item_seen κ (get_or (items_in rs m) k blank) j (block_at m) (k * 8 + byte_at m) e' n at is)
