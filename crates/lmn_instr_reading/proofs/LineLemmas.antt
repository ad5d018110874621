-- Lines of a text.
use Rattle.std.proofs.Common.{ℕ, zero, suc, ◌≡◌, ◌≤◌, ◌<◌, ◌+◌, ◌-◌, List, [], ◌∷◌, ◌++◌, length, take, drop, get_or, refl, sym, ap, subst, ◌∙◌, arith}
use Rattle.std.proofs.lemmas.Grind.{flat_map-append}
use Rattle.std.proofs.lemmas.List.{append-nil, append_assoc, drop_more, take-append-drop, take_more}
use Rattle.lmn_base.proofs.Lists.{head_is, tail_is}
use Rattle.lmn_instr_reading.specs.Lines.{HasNoSpace, joined}
use Rattle.lmn_base.proofs.Numbers.{take_none as take_nothing}

-- ---- spaces

-- a space stands where one is written
pub no_space_within : (u v : List ℕ) → HasNoSpace (u ++ 32 ∷ v) → ⊥
no_space_within [] v h = h.0 refl
no_space_within (x ∷ u) v h = no_space_within u v h.1

-- a line is split at its last space in one way
pub last_split : (u v s t : List ℕ) → HasNoSpace v → HasNoSpace t → u ++ 32 ∷ v ≡ s ++ 32 ∷ t → (u ≡ s) × (v ≡ t)
last_split [] v [] t h k e = (refl, tail_is e)
last_split [] v (y ∷ s) t h k e = absurd (no_space_within s t (subst HasNoSpace (tail_is e) h))
last_split (x ∷ u) v [] t h k e = absurd (no_space_within u v (subst HasNoSpace (sym (tail_is e)) k))
last_split (x ∷ u) v (y ∷ s) t h k e =
    let r = last_split u v s t h k (tail_is e) in
    (λ i. head_is e i ∷ r.0 i, r.1)

-- and it is split at a place where one stands
pub split_at : (line : List ℕ) (at : ℕ) → at < length line → get_or line at 0 ≡ 32 → line ≡ take at line ++ 32 ∷ drop (at + 1) line
split_at line at l e = sym (take-append-drop at line) ∙ ap (λ t. take at line ++ t) (drop_more line at 0 l) ∙ ap (λ x. take at line ++ x ∷ drop (at + 1) line) e

-- ---- texts of lines

-- a line more
pub joined_more : (lines : List (List ℕ)) (line : List ℕ) → joined (lines ++ line ∷ []) ≡ joined lines ++ (line ++ 10 ∷ [])
joined_more lines line = flat_map-append (λ l. l ++ 10 ∷ []) lines (line ∷ []) ∙ ap (λ t. joined lines ++ t) (append-nil (line ++ 10 ∷ []))

-- what stands up to the end of the next line
pub taken_more : (text : List ℕ) (at end : ℕ) → at ≤ end → end < length text → get_or text end 0 ≡ 10 → take (end + 1) text ≡ take at text ++ (take (end - at) (drop at text) ++ 10 ∷ [])
taken_more text at end h l e =
    take_more text end 0 l ∙ ap (λ x. take end text ++ x ∷ []) e ∙ ap (λ t. t ++ 10 ∷ []) (taken text at end h)
    ∙ append_assoc (take at text) (take (end - at) (drop at text)) (10 ∷ [])
  where
    taken : (text : List ℕ) (at end : ℕ) → at ≤ end → take end text ≡ take at text ++ take (end - at) (drop at text)
    taken text zero end h = ap (λ n. take n text) (let e : end ≡ end - 0 = omega arith in e)
    taken [] (suc at) (suc end) h = sym (take_nothing (suc end - suc at))
    taken (x ∷ text) (suc at) (suc end) h =
        let e : end - at ≡ suc end - suc at = omega arith in
        ap (λ t. x ∷ t) (taken text at end (omega (arith, h))) ∙ ap (λ n. x ∷ (take at text ++ take n (drop at text))) e
    taken text (suc at) zero h = absurd (omega (arith, h))
