-- A word of the rows is room, for a pointer, for a number or for eight halves. Assumes `Logic`.
use Rattle.lmn_web_rows.proofs.Steps.{ℕ, ◌+◌, List, [], ◌∷◌, length, replicate, Some, None, refl, ap, w32, w64, Ura, full_share, ent, sep, wand, apply∗, via, fst∗, id⊢, ftrue, fat, froom, ty_ptr, ty_array, Val, vint, Logic, sem, ‵, ◌⊛◌, some, ◌$◌, ◌∵◌, !, qed, by, done, drop, nothing, move, use1, use2, split, feq_i, feq_l, pick, rewrite, part_at, uint_out, Ptr, RawPtr, ptr_val, only, part_in, part_out}
use prog.Align.{dv_self}
use Rattle.std.proofs.Common.{Option, zero, suc}
use base.Logic.{mono∗, mono_l, mono_r}
use prog.Align.{dv_mul}
use Rattle.lmn_web_rows.specs.Rows.{Item, halves_in}
use Rattle.lmn_web_rows.specs.Owned.{word, half, half_own, halves_own, whole_word, item_own}

module _ {M : Type 1} {𝓤 : Ura M} (𝓛 : Logic 𝓤) where
  open 𝓛 use {H}

  -- room for a number is room for a pointer, and the other way round
  pub as_pointer : (b e : ℕ) → ent 𝓤 (H.room word b e) (H.room ty_ptr b e)
  as_pointer b e = via 𝓤 _ (𝓛.laws.room_as word ty_ptr b e refl (dv_self 8)) (fst∗ 𝓤 (H.room ty_ptr b e) (wand 𝓤 (H.room ty_ptr b e) (H.room word b e)))

  as_number : (b e : ℕ) → ent 𝓤 (H.room ty_ptr b e) (H.room word b e)
  as_number b e = via 𝓤 _ (𝓛.laws.room_as ty_ptr word b e refl (dv_self 8)) (fst∗ 𝓤 (H.room word b e) (wand 𝓤 (H.room word b e) (H.room ty_ptr b e)))

  -- a pointer in memory is a machine value there
  pub pointer_out : (p : Ptr) (b e : ℕ) → ent 𝓤 (sem 𝓛 (part_at RawPtr full_share p b e)) (H.at full_share ty_ptr b e (ptr_val p))
  pointer_out p b e = qed 𝓛 (‵ (part_at RawPtr full_share p b e) ∷ []) {P = sem 𝓛 (fat full_share ty_ptr b e (ptr_val p))} (
      use1 𝓛 (some (λ (v : Val). ‵ (fat full_share ty_ptr b e v) ⊛ ‵ (RawPtr.own_val p (v ∷ [])))) (part_out 𝓛 RawPtr refl full_share p b e) $ pick ! (λ v. split ! $ move ! (1 ∷ []) $ feq_l ! (λ same.
      rewrite ! 0 (λ (w : Val). ‵ (fat full_share ty_ptr b e w)) (ap only same) refl $ done !)))

  -- a machine value in memory is a pointer
  pub pointer_in : (p : Ptr) (b e : ℕ) → ent 𝓤 (H.at full_share ty_ptr b e (ptr_val p)) (sem 𝓛 (part_at RawPtr full_share p b e))
  pointer_in p b e = qed 𝓛 (‵ (fat full_share ty_ptr b e (ptr_val p)) ∷ []) {P = sem 𝓛 (part_at RawPtr full_share p b e)} (
      feq_i ! (List Val) (ptr_val p ∷ []) (ptr_val p ∷ []) refl $ move ! (1 ∷ 0 ∷ []) $ use2 𝓛 (‵ (part_at RawPtr full_share p b e)) (part_in 𝓛 RawPtr refl full_share p b e (ptr_val p)) $ done !)

  -- a half is room for one
  pub half_room : (x : Option ℕ) (b e : ℕ) → ent 𝓤 (sem 𝓛 (half_own x b e)) (H.room half b e)
  half_room None b e = id⊢ 𝓤 _
  half_room (Some n) b e = via 𝓤 _ (uint_out 𝓛 full_share w32 n b e) (𝓛.laws.at_room half b e (vint w32 n))

  -- halves are room for as many
  halves_room : (xs : List (Option ℕ)) (b e : ℕ) → ent 𝓤 (sem 𝓛 (halves_own xs b e)) (H.room (ty_array half (length xs)) b e)
  halves_room [] b e = qed 𝓛 (‵ ftrue ∷ []) ∵ drop ! $ by ! (𝓛.laws.room_nil half b e)
  halves_room (x ∷ xs) b e = via 𝓤 _ (mono∗ 𝓤 (half_room x b e) (halves_room xs b (e + 4))) (𝓛.laws.room_cons half (length xs) b e)

  -- room for halves is halves that aren't written
  unwritten : (n b e : ℕ) → ent 𝓤 (H.room (ty_array half n) b e) (sem 𝓛 (halves_own (replicate n None) b e))
  unwritten zero b e = qed 𝓛 (‵ (froom (ty_array half 0) b e) ∷ []) ∵ drop ! $ nothing ! $ done !
  unwritten (suc n) b e = via 𝓤 _ (𝓛.laws.room_uncons half n b e) (mono_r 𝓤 (H.room half b e) (unwritten n b (e + 4)))

  -- whatever a word holds, it is room
  pub item_room : (i : Item) (b e : ℕ) → ent 𝓤 (sem 𝓛 (item_own i b e)) (H.room word b e)
  item_room None b e = id⊢ 𝓤 _
  item_room (Some (Some p, x)) b e = via 𝓤 _ (pointer_out p b e) (via 𝓤 _ (𝓛.laws.at_room ty_ptr b e (ptr_val p)) (as_number b e))
  item_room (Some (None, (n, []))) b e = via 𝓤 _ (uint_out 𝓛 full_share w64 n b e) (𝓛.laws.at_room word b e (vint w64 n))
  item_room (Some (None, (n, x ∷ xs))) b e =
      via 𝓤 _ (mono_l 𝓤 (sem 𝓛 (whole_word (length (x ∷ xs)) b e)) (halves_room (x ∷ xs) b e)) (apply∗ 𝓤 (H.room (ty_array half (length (x ∷ xs))) b e) (H.room word b e))

  -- a word is halves, none of which is written, and what makes it a word again
  pub cut_word : (b e : ℕ) → ent 𝓤 (H.room word b e) (sep 𝓤 (sem 𝓛 (halves_own (replicate 2 None) b e)) (sem 𝓛 (whole_word 2 b e)))
  cut_word b e = via 𝓤 _ (𝓛.laws.room_as word (ty_array half 2) b e refl (dv_mul 4 4 2 (dv_self 4))) (mono_l 𝓤 (wand 𝓤 (H.room (ty_array half 2) b e) (H.room word b e)) (unwritten 2 b e))

  -- whatever a word holds, it is its halves, and what makes them a word again
  pub item_halves : (i : Item) (b e : ℕ) → ent 𝓤 (sem 𝓛 (item_own i b e)) (sep 𝓤 (sem 𝓛 (halves_own (halves_in i) b e)) (sem 𝓛 (whole_word (length (halves_in i)) b e)))
  item_halves None b e = cut_word b e
  item_halves (Some (Some p, x)) b e = via 𝓤 _ (item_room (Some (Some p, x)) b e) (cut_word b e)
  item_halves (Some (None, (n, []))) b e = via 𝓤 _ (item_room (Some (None, (n, []))) b e) (cut_word b e)
  item_halves (Some (None, (n, x ∷ xs))) b e = id⊢ 𝓤 _
