-- What stands between quotes, from its front on.
use Rattle.std.proofs.Common.{◌≡◌, ℕ, ◌+◌, ◌<◌, ◌≤◌, true, List, [], ◌∷◌, ◌++◌, length, get_or, take, drop, ◌⊎◌, inl, inr, refl, sym, ap, ◌∙◌, subst, arith, suc}
use Rattle.std.specs.Prelude.{⊤}
use Rattle.std.proofs.Math.Seq.{take-add, drop-cons}
use Rattle.std.proofs.lemmas.List.{take-append-drop, length-drop, take_more}
use Rattle.lmn_lexer.specs.Spelling.{Quotes, nothing, quote, byte, is_quotable}
use Rattle.lmn_lexer.proofs.Found.{quotes_append}
use Rattle.lmn_base.proofs.Lists.{tail_is}

abbrev Inside : List ℕ → Type 0
Inside bs = (name : List ℕ) × Quotes bs name

-- how it begins
abbrev Begins : List ℕ → Type 0
Begins [] = ⊤
Begins (b ∷ bs) = ((is_quotable b ≡ true) × Inside bs) ⊎ ((b ≡ 39) × ((rest : List ℕ) × (bs ≡ 39 ∷ rest) × Inside rest))

begins : {bs name : List ℕ} → Quotes bs name → Begins bs
begins nothing = tt
begins (quote {bs = bs} {name = name} h) = inr (refl, (bs, refl, (name, h)))
begins (byte {name = name} e h) = inl (e, (name, h))

-- what is left behind a part is such a part too
rest_inside : {xs m : List ℕ} → Quotes xs m → (ys : List ℕ) → Inside (xs ++ ys) → Inside ys
rest_inside nothing ys h = h
rest_inside (quote {bs = bs} k) ys (n, h) = go (begins h) (rest_inside k ys)
  where
    go : Begins (39 ∷ 39 ∷ (bs ++ ys)) → (Inside (bs ++ ys) → Inside ys) → Inside ys
    go (inl (e, i)) again = absurd (cc)
    go (inr (e, (rest, f, i))) again = again (let P : List ℕ → Type 0 = Inside in subst P (sym (tail_is f)) i)
rest_inside (byte {b = b} {bs = bs} q k) ys (n, h) = go (begins h) (rest_inside k ys)
  where
    go : Begins (b ∷ (bs ++ ys)) → (Inside (bs ++ ys) → Inside ys) → Inside ys
    go (inl (e, i)) again = again i
    go (inr (e, r)) again = absurd (let z = sym (ap is_quotable e) ∙ q in cc)

left_inside : (inside name : List ℕ) (at : ℕ) → Inside inside → Quotes (take at inside) name → Inside (drop at inside)
left_inside inside name at h k = let P : List ℕ → Type 0 = Inside in rest_inside k (drop at inside) (subst P (sym (take-append-drop at inside)) h)

left_begins : (inside name : List ℕ) (at : ℕ) → at < length inside → Inside inside → Quotes (take at inside) name → Begins (get_or inside at 0 ∷ drop (at + 1) inside)
left_begins inside name at l h k =
    let left = left_inside inside name at h k in
    let one : suc at ≡ at + 1 = omega arith in
    let P : List ℕ → Type 0 = Begins in
    subst P (drop-cons inside at 0 l ∙ ap (λ n. get_or inside at 0 ∷ drop n inside) one) (begins left.1)

-- the next byte of the name

abbrev Went : List ℕ → ℕ → List ℕ → Type 0
Went inside at name = (at ≤ length inside) × Quotes (take at inside) name

-- a byte in quotes goes to the name
pub byte_went : (inside name : List ℕ) (at : ℕ) → at < length inside → Inside inside → Quotes (take at inside) name → (get_or inside at 0 ≡ 39 → ⊥)
    → Went inside (at + 1) (name ++ get_or inside at 0 ∷ [])
byte_went inside name at l h k n = go (left_begins inside name at l h k)
  where
    go : Begins (get_or inside at 0 ∷ drop (at + 1) inside) → Went inside (at + 1) (name ++ get_or inside at 0 ∷ [])
    go (inl (e, i)) =
        let P : List ℕ → Type 0 = λ x. Quotes x (name ++ get_or inside at 0 ∷ []) in
        (omega arith, subst P (sym (take_more inside at 0 l)) (quotes_append k (byte e nothing)))
    go (inr (e, r)) = absurd (n e)

-- and two quotes go as one
pub quote_went : (inside name : List ℕ) (at : ℕ) → at < length inside → Inside inside → Quotes (take at inside) name → get_or inside at 0 ≡ 39
    → Went inside (at + 1 + 1) (name ++ get_or inside at 0 ∷ [])
quote_went inside name at l h k q = go (left_begins inside name at l h k)
  where
    go : Begins (get_or inside at 0 ∷ drop (at + 1) inside) → Went inside (at + 1 + 1) (name ++ get_or inside at 0 ∷ [])
    go (inl (e, i)) = absurd (let z = sym (ap is_quotable q) ∙ e in cc)
    go (inr (e, (rest, f, i))) =
        let size = length-drop (at + 1) inside in
        let more = ap length f in
        let two : at + 2 ≡ at + 1 + 1 = omega arith in
        let one : suc at ≡ at + 1 = omega arith in
        let both : drop at inside ≡ 39 ∷ 39 ∷ rest = drop-cons inside at 0 l ∙ ap (λ b. b ∷ drop (suc at) inside) q ∙ ap (λ m. 39 ∷ drop m inside) one ∙ ap (λ x. 39 ∷ x) f in
        let front : take (at + 2) inside ≡ take at inside ++ 39 ∷ 39 ∷ [] =
        take-add at 2 inside ∙ ap (λ x. take at inside ++ take 2 x) both in
        let P : List ℕ → Type 0 = λ x. Quotes x (name ++ get_or inside at 0 ∷ []) in
        let Q : ℕ → Type 0 = λ b. Quotes (take at inside ++ 39 ∷ 39 ∷ []) (name ++ b ∷ []) in
        (omega arith, subst P (sym front ∙ ap (λ m. take m inside) two) (subst Q (sym q) (quotes_append k (quote nothing))))
