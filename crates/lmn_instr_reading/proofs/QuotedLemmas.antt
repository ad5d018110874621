-- Names in quotes, byte by byte, and texts that are split at their last `/`.
use Rattle.std.proofs.Common.{◌≡◌, ◌≢◌, ◌<◌, ◌≤◌, ◌+◌, ◌^◌, ℕ, Bool, true, false, if◌then◌else◌, eqb, List, [], ◌∷◌, ◌++◌, length, get_or, drop, take, refl, sym, ap, ◌∙◌, subst, arith, rules, true≢false, ◌↔◌}
use Rattle.std.specs.Prelude.{codes, Result, Ok, Err, OnOk, IsOk, is_err}
use Rattle.std.specs.List.{flat_map}
use Rattle.std.specs.Fmt.{decimal}
use Rattle.std.specs.Str.Parse.{AllDigits}
use Rattle.std.proofs.lemmas.Bool.Decides.{Decides-eqb}
use Rattle.std.proofs.lemmas.List.{append_assoc, append-nil, drop_more, drop_all, take-append-drop, length-drop, append_cancel_left, append_cancel_right, length_push}
use Rattle.std.proofs.lemmas.List.Concat.{flat_map-append}
use Rattle.std.proofs.lemmas.Fmt.{decimal_is_IsNumeral}
use Rattle.std.proofs.lemmas.Str.Parse.{digit_from_value}
use Rattle.lmn_base.proofs.Lists.{head_is, tail_is}
use Rattle.lmn_lexer.specs.NameText.{quoted_byte}
use Rattle.lmn_instr_reading.specs.Reading.{HasNoSlash}

-- the text of a byte begins with it
pub quoted_begins : (b : ℕ) → (rest : List ℕ) × (quoted_byte b ≡ b ∷ rest)
quoted_begins b = go (eqb b 39) (Decides-eqb b 39).0
  where
    go : (t : Bool) → (t ≡ true → b ≡ 39) → (rest : List ℕ) × ((if t then codes "''" else b ∷ []) ≡ b ∷ rest)
    go true is = (39 ∷ [], ap (λ x. x ∷ 39 ∷ []) (sym (is refl)))
    go false is = ([], refl)

-- a quote stands twice
pub quoted_quote : (b : ℕ) → b ≡ 39 → quoted_byte b ≡ 39 ∷ 39 ∷ []
quoted_quote b e = subst (λ x. quoted_byte x ≡ 39 ∷ 39 ∷ []) (sym e) refl

-- and every other byte once
pub quoted_other : (b : ℕ) → b ≢ 39 → quoted_byte b ≡ b ∷ []
quoted_other b n = go (eqb b 39) (Decides-eqb b 39).0
  where
    go : (t : Bool) → (t ≡ true → b ≡ 39) → (if t then codes "''" else b ∷ []) ≡ b ∷ []
    go true is = absurd (n (is refl))
    go false is = refl

-- the text of a name that isn't empty begins with its first byte
pub first_of_name : (name rest : List ℕ) (b : ℕ) → flat_map quoted_byte name ≡ b ∷ rest → (more : List ℕ) × (name ≡ b ∷ more) × (quoted_byte b ++ flat_map quoted_byte more ≡ b ∷ rest)
first_of_name [] rest b e = absurd (cc)
first_of_name (x ∷ xs) rest b e =
    let q = quoted_begins x in
    let same : x ≡ b = head_is (ap (λ t. t ++ flat_map quoted_byte xs) (sym q.1) ∙ e) in
    (xs, ap (λ z. z ∷ xs) same, subst (λ z. quoted_byte z ++ flat_map quoted_byte xs ≡ b ∷ rest) same e)

-- The first bytes up to a place are the text of a name, and each name of which the whole is the text goes on from there.
pub record Undoubled (inside : List ℕ) (at : ℕ) (name : List ℕ) : Type 0 where
  pub within : at ≤ length inside
  pub few : length name ≤ 255
  pub front : flat_map quoted_byte name ≡ take at inside
  pub rest : (whole : List ℕ) → flat_map quoted_byte whole ≡ inside → (more : List ℕ) × (whole ≡ name ++ more) × (flat_map quoted_byte more ≡ drop at inside)

-- one byte more
pub undoubled_more : (inside : List ℕ) (at width : ℕ) (name : List ℕ) (b : ℕ) → Undoubled inside at name → at < length inside → b ≡ get_or inside at 0
    → drop at inside ≡ quoted_byte b ++ drop (at + width) inside → at + width ≤ length inside → length name < 255 → Undoubled inside (at + width) (name ++ b ∷ [])
undoubled_more inside at width name b u l is e w room = record {
  within = w;
  few = let size = length_push name b in omega arith;
  front =
      let parts : take at inside ++ drop at inside ≡ take (at + width) inside ++ drop (at + width) inside = take-append-drop at inside ∙ sym (take-append-drop (at + width) inside) in
      let whole : (take at inside ++ quoted_byte b) ++ drop (at + width) inside ≡ take (at + width) inside ++ drop (at + width) inside =
      append_assoc (take at inside) (quoted_byte b) (drop (at + width) inside) ∙ ap (λ t. take at inside ++ t) (sym e) ∙ parts in
      flat_map-append quoted_byte name (b ∷ []) ∙ ap (λ t. t ++ (quoted_byte b ++ [])) u.front ∙ ap (λ t. take at inside ++ t) (append-nil (quoted_byte b)) ∙ cancel _ _ _ whole;
  rest = λ whole h.
      let r = u.rest whole h in
      let here : drop at inside ≡ b ∷ drop (at + 1) inside = drop_more inside at 0 l ∙ ap (λ z. z ∷ drop (at + 1) inside) (sym is) in
      let f = first_of_name r.0 (drop (at + 1) inside) b (r.2 ∙ here) in (
        f.0,
        r.1 ∙ ap (λ t. name ++ t) f.1 ∙ sym (append_assoc name (b ∷ []) f.0),
        append_cancel_left (quoted_byte b) _ _ (f.2 ∙ sym here ∙ e),
      );
}
  where
    cancel : (s t u : List ℕ) → s ++ u ≡ t ++ u → s ≡ t
    cancel s t u h = append_cancel_right s t u h

-- nothing is left
pub undoubled_all : (inside : List ℕ) (at : ℕ) (name whole : List ℕ) → Undoubled inside at name → length inside ≤ at → flat_map quoted_byte whole ≡ inside → name ≡ whole
undoubled_all inside at name whole u l e =
    let r = u.rest whole e in
    sym (r.1 ∙ ap (λ t. name ++ t) (none r.0 (r.2 ∙ drop_all at inside l)) ∙ append-nil name)
  where
    none : (more : List ℕ) → flat_map quoted_byte more ≡ [] → more ≡ []
    none [] h = refl
    none (x ∷ xs) h = absurd (let q = (quoted_begins x).1 in let z = ap (λ t. t ++ flat_map quoted_byte xs) (sym q) ∙ h in cc)

-- no name goes on with a quote that stands once
pub no_lone_quote : (inside name : List ℕ) (at : ℕ) → at < length inside → get_or inside at 0 ≡ 39 → ((at + 1 < length inside) → get_or inside (at + 1) 0 ≢ 39) → flat_map quoted_byte name ≡ drop at inside → ⊥
no_lone_quote inside name at l q n e =
    let here : drop at inside ≡ 39 ∷ drop (at + 1) inside = drop_more inside at 0 l ∙ ap (λ z. z ∷ drop (at + 1) inside) q in
    let f = first_of_name name (drop (at + 1) inside) 39 (e ∙ here) in
    let next : 39 ∷ flat_map quoted_byte f.0 ≡ drop (at + 1) inside = tail_is f.2 in
    let size = length-drop (at + 1) inside in
    let long = ap length next in
    let within : at + 1 < length inside = omega arith in
    n within (sym (head_is (next ∙ drop_more inside (at + 1) 0 within)))

-- ---- the last `/`

no_slash_within : (u v : List ℕ) → HasNoSlash (u ++ 47 ∷ v) → ⊥
no_slash_within [] v h = h.0 refl
no_slash_within (x ∷ u) v h = no_slash_within u v h.1

-- a text is split at its last `/` in one way
pub last_split : (u v s t : List ℕ) → HasNoSlash v → HasNoSlash t → u ++ 47 ∷ v ≡ s ++ 47 ∷ t → (u ≡ s) × (v ≡ t)
last_split [] v [] t h k e = (refl, tail_is e)
last_split [] v (y ∷ s) t h k e = absurd (no_slash_within s t (subst HasNoSlash (tail_is e) h))
last_split (x ∷ u) v [] t h k e = absurd (no_slash_within u v (subst HasNoSlash (sym (tail_is e)) k))
last_split (x ∷ u) v (y ∷ s) t h k e =
    let r = last_split u v s t h k (tail_is e) in
    (λ i. head_is e i ∷ r.0 i, r.1)

-- digits have none
pub no_slash_digits : (ds : List ℕ) → AllDigits 10 ds → HasNoSlash ds
no_slash_digits [] h = tt
no_slash_digits (c ∷ cs) h = (λ e. (let r = digit_from_value c h.0 in omega (arith, r.0, r.1)), no_slash_digits cs h.1)

pub no_slash_decimal : (n : ℕ) → n < 2 ^ 64 → HasNoSlash (decimal n)
no_slash_decimal n l = no_slash_digits (decimal n) (decimal_is_IsNumeral n l).0.1

-- the parts of the text of a functor
pub functor_parts : (text : List ℕ) (at : ℕ) → at < length text → get_or text at 0 ≡ 47 → HasNoSlash (drop (at + 1) text)
    → (label : List ℕ) (arity : ℕ) → arity ≤ 255 → label ++ (codes "/" ++ decimal arity) ≡ text → (label ≡ take at text) × (decimal arity ≡ drop (at + 1) text)
functor_parts text at l slash none label arity low e =
    let whole : take at text ++ 47 ∷ drop (at + 1) text ≡ text =
    ap (λ z. take at text ++ z ∷ drop (at + 1) text) (sym slash) ∙ ap (λ z. take at text ++ z) (sym (drop_more text at 0 l)) ∙ take-append-drop at text in
    last_split label (decimal arity) (take at text) (drop (at + 1) text) (no_slash_decimal arity (omega arith)) none (e ∙ sym whole)

-- a text without `/` is of no functor
pub no_functor : (text label : List ℕ) (arity : ℕ) → HasNoSlash text → label ++ (codes "/" ++ decimal arity) ≡ text → ⊥
no_functor text label arity h e = no_slash_within label (decimal arity) (subst HasNoSlash (sym e) h)

-- ---- answers

-- a push that didn't fail
pub pushed : {T E : Type 0} (r : Result T E) {P Q : Type 0} → is_err r ≡ false → OnOk r P → (IsOk r ↔ Q) → P × Q
pushed (Ok x) e p q = (p, q.0 (search rules))
pushed (Err y) e p q = absurd (true≢false e)
