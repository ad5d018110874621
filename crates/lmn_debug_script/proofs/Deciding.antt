-- Each text has a first wrong line, or lines that may stand.
use Rattle.std.proofs.Common.{ℕ, ℤ, pos, negsuc, zero, suc, ◌≡◌, ◌≢◌, ◌≤◌, ◌<◌, ◌+◌, ◌^◌, ◌⊎◌, inl, inr, Bool, true, false, List, [], ◌∷◌, ◌++◌, Option, Some, None, codes, length, drop, refl, sym, ap, subst, ◌∙◌, arith, true≢false}
use Rattle.std.specs.Prelude.{bytes_eq}
use Rattle.std.specs.Fmt.{decimal, signed_decimal}
use Rattle.std.specs.List.{AllByRecursion, flat_map}
use Rattle.std.specs.Str.Parse.{digits_value}
use Rattle.std.proofs.Math.Seq.{drop-append_seam}
use Rattle.std.proofs.lemmas.Fmt.{decimal_injective, decimal_is_IsNumeral}
use Rattle.std.proofs.lemmas.List.{append-nil, append_cancel_left}
use Rattle.std.proofs.lemmas.Slice.Eq.{bytes_eq-Decides}
use Rattle.lmn_base.proofs.Lists.{head_is, tail_is, last_one as ends_alike}
use Rattle.lmn_base.proofs.Numbers.{below_or_from, same_or_not}
use Rattle.lmn_base.proofs.Truth.{Decided}
use Rattle.lmn_base.specs.declared.guard.Cmp.{Cmp}
use Rattle.lmn_base.specs.declared.guard.Cmp.TheVariants.{Eq, Ge, Gt, Le, Lt, Ne}
use Rattle.lmn_base.specs.declared.refusal.Refusal.{Refusal}
use Rattle.lmn_instr_reading.proofs.QuotedLemmas.{first_of_name, no_functor, no_slash_decimal, quoted_other, quoted_quote}
use Rattle.lmn_instr_reading.proofs.QuotedLemmas as slashes
use Rattle.lmn_instr_reading.specs.Reading.{IsFunctorText, IsIn64Bits, IsLabelText}
use Rattle.lmn_lexer.specs.NameText.{name_text, quoted, quoted_byte}
use Rattle.lmn_lexer.specs.Spelling.{is_bare_name}
use Rattle.lmn_instr_reading.proofs.LineLemmas.{last_split, no_space_within}
use Rattle.lmn_instr_reading.specs.Lines.{HasNoSpace, IsOneLine, joined, number_written}
use Rattle.lmn_debug_script.proofs.Cuts.{last_all, lines_of, with_last}
use Rattle.lmn_debug_script.proofs.LineLemmas.{FrontForm, back_front, front_form, line_unnumbered, line_unsplit, operator_spaceless, step_front, until_front, until_no_back, until_no_step}
use Rattle.lmn_instr_reading.proofs.NameTexts.{one_name}
use Rattle.lmn_debug_script.proofs.OneOrder.{quoted_once, short}
use Rattle.lmn_debug_script.specs.Scripts.{AreLines, HasForm, IsFirstWrong, IsCountedOrder, MayStand, cmp_text, of_back, of_show, of_step, of_until}
use Rattle.lmn_lexer.proofs.Common.{bare_or_quoted as written, text_bare, text_quoted}
use Rattle.lmn_instr_reading.proofs.LinesCommon.{joined_first}

-- ---- bytes

-- two texts are equal or not
pub same_bytes : (a b : List ℕ) → Decided (a ≡ b)
same_bytes a b = go (bytes_eq a b) refl
  where
    go : (t : Bool) → bytes_eq a b ≡ t → Decided (a ≡ b)
    go true e = inl ((bytes_eq-Decides a b).0 e)
    go false e = inr (λ same. true≢false (sym ((bytes_eq-Decides a b).1 same) ∙ e))

-- a byte stands last at a place of a text, or nowhere
abbrev LastOf : ℕ → List ℕ → Type 0
LastOf x text = (u : List ℕ) × (v : List ℕ) × (text ≡ u ++ x ∷ v) × AllByRecursion (λ b. b ≢ x) v

last_of : (x : ℕ) (text : List ℕ) → LastOf x text ⊎ AllByRecursion (λ b. b ≢ x) text
last_of x [] = inr tt
last_of x (b ∷ bs) = go (last_of x bs) (same_or_not b x)
  where
    go : LastOf x bs ⊎ AllByRecursion (λ b. b ≢ x) bs → (b ≡ x) ⊎ (b ≢ x) → LastOf x (b ∷ bs) ⊎ AllByRecursion (λ b. b ≢ x) (b ∷ bs)
    go (inl (u, v, e, none)) s = inl (b ∷ u, v, ap (λ t. b ∷ t) e, none)
    go (inr none) (inl e) = inl ([], bs, ap (λ y. y ∷ bs) e, none)
    go (inr none) (inr d) = inr (d, none)

-- a text begins with another, or doesn't
begins_decided : (front text : List ℕ) → Decided ((rest : List ℕ) × (text ≡ front ++ rest))
begins_decided front text = go (same_bytes (front ++ drop (length front) text) text)
  where
    go : Decided (front ++ drop (length front) text ≡ text) → Decided ((rest : List ℕ) × (text ≡ front ++ rest))
    go (inl e) = inl (drop (length front) text, sym e)
    go (inr d) = inr (λ r. d (ap (λ t. front ++ drop (length front) t) r.1 ∙ ap (λ t. front ++ t) (drop-append_seam front r.0) ∙ sym r.1))

-- a text is empty, or has a last byte
ends : (text : List ℕ) → (text ≡ []) ⊎ ((front : List ℕ) × (last : ℕ) × (text ≡ front ++ last ∷ []))
ends [] = inl refl
ends (b ∷ bs) = go (ends bs)
  where
    go : (bs ≡ []) ⊎ ((front : List ℕ) × (last : ℕ) × (bs ≡ front ++ last ∷ [])) → (b ∷ bs ≡ []) ⊎ ((front : List ℕ) × (last : ℕ) × (b ∷ bs ≡ front ++ last ∷ []))
    go (inl e) = inr ([], b, ap (λ t. b ∷ t) e)
    go (inr (front, last, e)) = inr (b ∷ front, last, ap (λ t. b ∷ t) e)

-- ---- numbers

decimal_decided : (most : ℕ) (text : List ℕ) → most < 2 ^ 64 → Decided ((n : ℕ) × (n ≤ most) × (decimal n ≡ text))
decimal_decided most text h = go (same_bytes (decimal (digits_value 10 text)) text) (below_or_from most (digits_value 10 text))
  where
    value : (n : ℕ) → n ≤ most → decimal n ≡ text → digits_value 10 text ≡ n
    value n l e = ap (digits_value 10) (sym e) ∙ (decimal_is_IsNumeral n (omega (arith, l, h))).1

    go : Decided (decimal (digits_value 10 text) ≡ text) → (most < digits_value 10 text) ⊎ (digits_value 10 text ≤ most) → Decided ((n : ℕ) × (n ≤ most) × (decimal n ≡ text))
    go (inl e) (inr l) = inl (digits_value 10 text, l, e)
    go (inl e) (inl l) = inr (λ r. (let v = value r.0 r.1 r.2 in let k = r.1 in omega (arith, v, k, l)))
    go (inr d) w = inr (λ r. d (ap decimal (value r.0 r.1 r.2) ∙ r.2))

integer_decided : (text : List ℕ) → Decided ((z : ℤ) × IsIn64Bits z × (signed_decimal z ≡ text))
integer_decided text = go (decimal_decided 9223372036854775807 text (omega arith)) (begins_decided (codes "-") text)
  where
    below : (n : ℕ) → n ≤ 9223372036854775807 → n < 2 ^ 63
    below n l = omega (arith, l)

    negative : (rest : List ℕ) → text ≡ 45 ∷ rest → ¬ ((n : ℕ) × (n ≤ 9223372036854775807) × (decimal n ≡ text)) → Decided ((n : ℕ) × (n ≤ 9223372036854775808) × (decimal n ≡ rest)) → Decided ((z : ℤ) × IsIn64Bits z × (signed_decimal z ≡ text))
    negative rest e none (inl (zero, l, d)) = inr (λ r. refused r.0 r.1 r.2)
      where
        refused : (z : ℤ) → IsIn64Bits z → signed_decimal z ≡ text → ⊥
        refused (pos n) h f = none (n, omega (arith, h), f)
        refused (negsuc n) h f = (let same = decimal_injective (suc n) 0 (omega (arith, h)) (omega arith) (tail_is (f ∙ e) ∙ sym d) in omega (arith, same))
    negative rest e none (inl (suc n, l, d)) = inl (negsuc n, omega (arith, l), ap (λ t. 45 ∷ t) d ∙ sym e)
    negative rest e none (inr d) = inr (λ r. refused r.0 r.1 r.2)
      where
        refused : (z : ℤ) → IsIn64Bits z → signed_decimal z ≡ text → ⊥
        refused (pos n) h f = none (n, omega (arith, h), f)
        refused (negsuc n) h f = d (suc n, omega (arith, h), tail_is (f ∙ e))

    go : Decided ((n : ℕ) × (n ≤ 9223372036854775807) × (decimal n ≡ text)) → Decided ((rest : List ℕ) × (text ≡ codes "-" ++ rest)) → Decided ((z : ℤ) × IsIn64Bits z × (signed_decimal z ≡ text))
    go (inl (n, l, e)) s = inl (pos n, below n l, e)
    go (inr none) (inl (rest, e)) = negative rest e none (decimal_decided 9223372036854775808 rest (omega arith))
    go (inr none) (inr d) = inr (λ r. refused r.0 r.1 r.2)
      where
        refused : (z : ℤ) → IsIn64Bits z → signed_decimal z ≡ text → ⊥
        refused (pos n) h f = none (n, omega (arith, h), f)
        refused (negsuc n) h f = d (decimal (suc n), sym f)

-- ---- names

undoubled_decided : (inside : List ℕ) → Decided ((name : List ℕ) × (flat_map quoted_byte name ≡ inside))
undoubled_decided [] = inl ([], refl)
undoubled_decided (b ∷ []) = go (same_or_not b 39)
  where
    go : (b ≡ 39) ⊎ (b ≢ 39) → Decided ((name : List ℕ) × (flat_map quoted_byte name ≡ b ∷ []))
    go (inl e) = inr (λ r.
        let f = first_of_name r.0 [] b r.1 in
        let z : 39 ∷ flat_map quoted_byte f.0 ≡ [] = tail_is (ap (λ t. t ++ flat_map quoted_byte f.0) (sym (quoted_quote b e)) ∙ f.2) in
        absurd (cc))
    go (inr d) = inl (b ∷ [], ap (λ t. t ++ []) (quoted_other b d))
undoubled_decided (b ∷ c ∷ rest) = go (same_or_not b 39) (same_or_not c 39) (undoubled_decided (c ∷ rest)) (undoubled_decided rest)
  where
    go : (b ≡ 39) ⊎ (b ≢ 39) → (c ≡ 39) ⊎ (c ≢ 39) → Decided ((name : List ℕ) × (flat_map quoted_byte name ≡ c ∷ rest)) → Decided ((name : List ℕ) × (flat_map quoted_byte name ≡ rest))
        → Decided ((name : List ℕ) × (flat_map quoted_byte name ≡ b ∷ c ∷ rest))
    go (inr d) t (inl (name, e)) s = inl (b ∷ name, ap (λ u. u ++ flat_map quoted_byte name) (quoted_other b d) ∙ ap (λ u. b ∷ u) e)
    go (inr d) t (inr none) s = inr (λ r.
        let f = first_of_name r.0 (c ∷ rest) b r.1 in
        none (f.0, tail_is (ap (λ u. u ++ flat_map quoted_byte f.0) (sym (quoted_other b d)) ∙ f.2)))
    go (inl e) (inr d) s t = inr (λ r.
        let f = first_of_name r.0 (c ∷ rest) b r.1 in
        d (sym (head_is (tail_is (ap (λ u. u ++ flat_map quoted_byte f.0) (sym (quoted_quote b e)) ∙ f.2)))))
    go (inl e) (inl same) s (inl (name, f)) = inl (39 ∷ name, (λ i. sym e i ∷ (sym same i ∷ f i)))
    go (inl e) (inl same) s (inr none) = inr (λ r.
        let f = first_of_name r.0 (c ∷ rest) b r.1 in
        none (f.0, tail_is (tail_is (ap (λ u. u ++ flat_map quoted_byte f.0) (sym (quoted_quote b e)) ∙ f.2))))

unquoted_decided : (text : List ℕ) → Decided ((name : List ℕ) × (quoted name ≡ text))
unquoted_decided text = go (begins_decided (codes "'") text)
  where
    closed : (rest : List ℕ) → text ≡ 39 ∷ rest → (rest ≡ []) ⊎ ((inside : List ℕ) × (last : ℕ) × (rest ≡ inside ++ last ∷ [])) → Decided ((name : List ℕ) × (quoted name ≡ text))
    closed rest e (inl z) = inr (λ r. short (flat_map quoted_byte r.0) 39 (sym z ∙ sym (tail_is (r.1 ∙ e))))
    closed rest e (inr (inside, last, f)) = by (same_or_not last 39) (undoubled_decided inside)
      where
        by : (last ≡ 39) ⊎ (last ≢ 39) → Decided ((name : List ℕ) × (flat_map quoted_byte name ≡ inside)) → Decided ((name : List ℕ) × (quoted name ≡ text))
        by (inr d) s = inr (λ r. d (sym (ends_alike (flat_map quoted_byte r.0) inside 39 last (tail_is (r.1 ∙ e) ∙ f)).1))
        by (inl same) (inl (name, g)) = inl (name, (λ i. 39 ∷ (g i ++ sym same i ∷ [])) ∙ ap (λ t. 39 ∷ t) (sym f) ∙ sym e)
        by (inl same) (inr none) = inr (λ r. none (r.0, (ends_alike (flat_map quoted_byte r.0) inside 39 last (tail_is (r.1 ∙ e) ∙ f)).0))

    go : Decided ((rest : List ℕ) × (text ≡ codes "'" ++ rest)) → Decided ((name : List ℕ) × (quoted name ≡ text))
    go (inl (rest, e)) = closed rest e (ends rest)
    go (inr d) = inr (λ r. d (flat_map quoted_byte r.0 ++ codes "'", sym r.1))

named_decided : (text : List ℕ) → Decided ((name : List ℕ) × (name_text name ≡ text))
named_decided text = go (is_bare_name text) refl
  where
    quotes : is_bare_name text ≡ false → Decided ((name : List ℕ) × (quoted name ≡ text)) → Decided ((name : List ℕ) × (name_text name ≡ text))
    quotes h (inl (name, e)) = by (is_bare_name name) refl
      where
        by : (t : Bool) → is_bare_name name ≡ t → Decided ((name : List ℕ) × (name_text name ≡ text))
        by false k = inl (name, text_quoted name k ∙ e)
        by true k = inr (λ r. refused r.0 (written r.0 text r.1))
          where
            refused : (other : List ℕ) → ((is_bare_name other ≡ true) × (other ≡ text)) ⊎ ((is_bare_name other ≡ false) × (quoted other ≡ text)) → ⊥
            refused other (inl w) = true≢false (sym w.0 ∙ ap is_bare_name w.1 ∙ h)
            refused other (inr w) = true≢false (sym k ∙ ap is_bare_name (quoted_once name other (e ∙ sym w.1)) ∙ w.0)
    quotes h (inr none) = inr (λ r. refused r.0 (written r.0 text r.1))
      where
        refused : (other : List ℕ) → ((is_bare_name other ≡ true) × (other ≡ text)) ⊎ ((is_bare_name other ≡ false) × (quoted other ≡ text)) → ⊥
        refused other (inl w) = true≢false (sym w.0 ∙ ap is_bare_name w.1 ∙ h)
        refused other (inr w) = none (other, w.1)

    go : (t : Bool) → is_bare_name text ≡ t → Decided ((name : List ℕ) × (name_text name ≡ text))
    go true h = inl (text, text_bare text h)
    go false h = quotes h (unquoted_decided text)

label_decided : (text : List ℕ) → Decided (IsLabelText text)
label_decided text = go (integer_decided text) (named_decided text)
  where
    go : Decided ((z : ℤ) × IsIn64Bits z × (signed_decimal z ≡ text)) → Decided ((name : List ℕ) × (name_text name ≡ text)) → Decided (IsLabelText text)
    go (inl z) s = inl (inr z)
    go (inr no_integer) (inl (name, e)) = by (below_or_from 255 (length name))
      where
        refused : 255 < length name → IsLabelText text → ⊥
        refused l (inl (other, k, f)) = (let same = ap length (one_name name other (e ∙ sym f)) in omega (arith, same, k, l))
        refused l (inr z) = no_integer z

        by : (255 < length name) ⊎ (length name ≤ 255) → Decided (IsLabelText text)
        by (inl l) = inr (refused l)
        by (inr l) = inl (inl (name, l, e))
    go (inr no_integer) (inr no_name) = inr refused
      where
        refused : IsLabelText text → ⊥
        refused (inl (name, l, e)) = no_name (name, e)
        refused (inr z) = no_integer z

functor_decided : (text : List ℕ) → Decided (IsFunctorText text)
functor_decided text = go (last_of 47 text)
  where
    split : (u v : List ℕ) → text ≡ u ++ 47 ∷ v → AllByRecursion (λ b. b ≢ 47) v → Decided (IsLabelText u) → Decided ((n : ℕ) × (n ≤ 255) × (decimal n ≡ v)) → Decided (IsFunctorText text)
    split u v e none label arity = by label arity
      where
        parts : (t : IsFunctorText text) → (t.0 ≡ u) × (decimal t.1 ≡ v)
        parts t = (let l = t.3 in slashes.last_split t.0 (decimal t.1) u v (no_slash_decimal t.1 (omega (arith, l))) none (t.4 ∙ e))

        by : Decided (IsLabelText u) → Decided ((n : ℕ) × (n ≤ 255) × (decimal n ≡ v)) → Decided (IsFunctorText text)
        by (inl l) (inl (n, k, d)) = inl (u, n, l, k, ap (λ t. u ++ 47 ∷ t) d ∙ sym e)
        by (inl l) (inr d) = inr (λ t. d (t.1, t.3, (parts t).1))
        by (inr d) s = inr (λ t. d (subst IsLabelText (parts t).0 t.2))

    go : LastOf 47 text ⊎ AllByRecursion (λ b. b ≢ 47) text → Decided (IsFunctorText text)
    go (inl (u, v, e, none)) = split u v e none (label_decided u) (decimal_decided 255 v (omega arith))
    go (inr none) = inr (λ t. no_functor text t.0 t.1 none t.4)

-- ---- lines

operator_decided : (text : List ℕ) → Decided ((op : Cmp) × (cmp_text op ≡ text))
operator_decided text = go (is Lt) (is Le) (is Gt) (is Ge) (is Eq) (is Ne)
  where
    is : (op : Cmp) → Decided (cmp_text op ≡ text)
    is op = same_bytes (cmp_text op) text

    none : ¬ (cmp_text Lt ≡ text) → ¬ (cmp_text Le ≡ text) → ¬ (cmp_text Gt ≡ text) → ¬ (cmp_text Ge ≡ text) → ¬ (cmp_text Eq ≡ text) → ¬ (cmp_text Ne ≡ text) → (op : Cmp) → cmp_text op ≡ text → ⊥
    none a b c d e f Lt = a
    none a b c d e f Le = b
    none a b c d e f Gt = c
    none a b c d e f Ge = d
    none a b c d e f Eq = e
    none a b c d e f Ne = f

    go : Decided (cmp_text Lt ≡ text) → Decided (cmp_text Le ≡ text) → Decided (cmp_text Gt ≡ text) → Decided (cmp_text Ge ≡ text) → Decided (cmp_text Eq ≡ text) → Decided (cmp_text Ne ≡ text) → Decided ((op : Cmp) × (cmp_text op ≡ text))
    go (inl e) t u v w x = inl (Lt, e)
    go (inr a) (inl e) u v w x = inl (Le, e)
    go (inr a) (inr b) (inl e) v w x = inl (Gt, e)
    go (inr a) (inr b) (inr c) (inl e) w x = inl (Ge, e)
    go (inr a) (inr b) (inr c) (inr d) (inl e) x = inl (Eq, e)
    go (inr a) (inr b) (inr c) (inr d) (inr e) (inl f) = inl (Ne, f)
    go (inr a) (inr b) (inr c) (inr d) (inr e) (inr f) = inr (λ r. none a b c d e f r.0 r.1)

-- a functor, an operator, and a space between them
abbrev Wish : List ℕ → Type 0
Wish wish = (item : List ℕ) × (op : Cmp) × (wish ≡ item ++ (32 ∷ cmp_text op)) × IsFunctorText item

wish_decided : (wish : List ℕ) → Decided (Wish wish)
wish_decided wish = go (last_of 32 wish)
  where
    split : (u v : List ℕ) → wish ≡ u ++ 32 ∷ v → AllByRecursion (λ b. b ≢ 32) v → Decided (IsFunctorText u) → Decided ((op : Cmp) × (cmp_text op ≡ v)) → Decided (Wish wish)
    split u v e none functor operator = by functor operator
      where
        parts : (w : Wish wish) → (w.0 ≡ u) × (cmp_text w.1 ≡ v)
        parts w = last_split w.0 (cmp_text w.1) u v (operator_spaceless w.1) none (sym w.2 ∙ e)

        by : Decided (IsFunctorText u) → Decided ((op : Cmp) × (cmp_text op ≡ v)) → Decided (Wish wish)
        by (inl f) (inl (op, o)) = inl (u, op, e ∙ ap (λ t. u ++ 32 ∷ t) (sym o), f)
        by (inl f) (inr d) = inr (λ w. d (w.1, (parts w).1))
        by (inr d) s = inr (λ w. d (subst IsFunctorText (parts w).0 w.3))

    go : LastOf 32 wish ⊎ AllByRecursion (λ b. b ≢ 32) wish → Decided (Wish wish)
    go (inl (u, v, e, none)) = split u v e none (functor_decided u) (operator_decided v)
    go (inr none) = inr (λ w. no_space_within w.0 (cmp_text w.1) (subst HasNoSpace w.2 none))

front_decided : (front : List ℕ) (n : ℕ) → Decided (FrontForm front n)
front_decided front n = go (same_bytes front (codes "step")) (same_bytes front (codes "back")) (begins_decided (codes "until ") front) (below_or_from 0 n)
  where
    of_wish : (wish : List ℕ) → front ≡ codes "until " ++ wish → front ≢ codes "step" → front ≢ codes "back" → Decided (Wish wish) → Decided (FrontForm front n)
    of_wish wish e s b (inl (item, op, f, g)) = inl (until_front item op (e ∙ ap (λ t. codes "until " ++ t) f) g)
    of_wish wish e s b (inr d) = inr refused
      where
        refused : FrontForm front n → ⊥
        refused (step_front f l) = s f
        refused (back_front f l) = b f
        refused (until_front item op f g) = d (item, op, append_cancel_left (codes "until ") wish (item ++ (32 ∷ cmp_text op)) (sym e ∙ f), g)

    no_number : n ≤ 0 → (front ≡ codes "step") ⊎ (front ≡ codes "back") → FrontForm front n → ⊥
    no_number z s (step_front f l) = omega (arith, z, l)
    no_number z s (back_front f l) = omega (arith, z, l)
    no_number z (inl s) (until_front item op f g) = until_no_step (item ++ (32 ∷ cmp_text op)) (sym f ∙ s)
    no_number z (inr s) (until_front item op f g) = until_no_back (item ++ (32 ∷ cmp_text op)) (sym f ∙ s)

    nothing : front ≢ codes "step" → front ≢ codes "back" → ¬ ((rest : List ℕ) × (front ≡ codes "until " ++ rest)) → FrontForm front n → ⊥
    nothing s b u (step_front f l) = s f
    nothing s b u (back_front f l) = b f
    nothing s b u (until_front item op f g) = u (item ++ (32 ∷ cmp_text op), f)

    go : Decided (front ≡ codes "step") → Decided (front ≡ codes "back") → Decided ((rest : List ℕ) × (front ≡ codes "until " ++ rest)) → (0 < n) ⊎ (n ≤ 0) → Decided (FrontForm front n)
    go (inl s) b u (inl l) = inl (step_front s (omega (arith, l)))
    go (inl s) b u (inr z) = inr (no_number z (inl s))
    go (inr s) (inl b) u (inl l) = inl (back_front b (omega (arith, l)))
    go (inr s) (inl b) u (inr z) = inr (no_number z (inr b))
    go (inr s) (inr b) (inl (wish, e)) l = of_wish wish e s b (wish_decided wish)
    go (inr s) (inr b) (inr u) l = inr (nothing s b u)

-- what stands in front of its number makes a line an order
form_of_front : (front line : List ℕ) (n : ℕ) → IsCountedOrder front line n → FrontForm front n → HasForm line
form_of_front front line n w (step_front e l) = of_step (subst (λ f. IsCountedOrder f line n) e w) l
form_of_front front line n w (back_front e l) = of_back (subst (λ f. IsCountedOrder f line n) e w) l
form_of_front front line n w (until_front item op e f) = of_until {item = item} {op = op} {n = n} (record { front = front; numbered = w; is = e }) f

form_decided : (line : List ℕ) → Decided (HasForm line)
form_decided line = go (same_bytes line (codes "show")) (last_of 32 line)
  where
    numbered : (u v : List ℕ) → line ≡ u ++ 32 ∷ v → AllByRecursion (λ b. b ≢ 32) v → line ≢ codes "show" → (o : Option ℕ) → number_written v ≡ o → Decided (HasForm line)
    numbered u v e none s None w = inr (line_unnumbered line u v e none w s)
    numbered u v e none s (Some n) w = by (front_decided u n)
      where
        by : Decided (FrontForm u n) → Decided (HasForm line)
        by (inl f) = inl (form_of_front u line n (record { digits = v; number = w; is = e }) f)
        by (inr d) = inr (λ h. d (front_form u line n (record { digits = v; number = w; is = e }) h))

    go : Decided (line ≡ codes "show") → LastOf 32 line ⊎ AllByRecursion (λ b. b ≢ 32) line → Decided (HasForm line)
    go (inl e) t = inl (of_show e)
    go (inr s) (inl (u, v, e, none)) = numbered u v e none s (number_written v) refl
    go (inr s) (inr none) = inr (line_unsplit line none s)

may_decided : (line : List ℕ) → Decided (MayStand line)
may_decided [] = inl (inl refl)
may_decided (b ∷ bs) = go (form_decided (b ∷ bs))
  where
    go : Decided (HasForm (b ∷ bs)) → Decided (MayStand (b ∷ bs))
    go (inl f) = inl (inr f)
    go (inr d) = inr refused
      where
        refused : MayStand (b ∷ bs) → ⊥
        refused (inl e) = absurd (cc)
        refused (inr f) = d f

-- ---- texts

-- each text is cut into lines and a last one, which may be empty
record Cut (text : List ℕ) : Type 0 where
  front : List (List ℕ)
  last : List ℕ
  apart : AllByRecursion IsOneLine front
  one : IsOneLine last
  is : joined front ++ last ≡ text

cut : (text : List ℕ) → Cut text
cut [] = record { front = []; last = []; apart = tt; one = tt; is = refl }
cut (b ∷ bs) = go (cut bs) (same_or_not b 10)
  where
    longer : (front : List (List ℕ)) (last : List ℕ) → AllByRecursion IsOneLine front → IsOneLine last → b ≢ 10 → joined front ++ last ≡ bs → Cut (b ∷ bs)
    longer [] last h k d e = record { front = []; last = b ∷ last; apart = tt; one = (d, k); is = ap (λ t. b ∷ t) e }
    longer (f ∷ fs) last h k d e = record { front = (b ∷ f) ∷ fs; last = last; apart = ((d, h.0), h.1); one = k; is = ap (λ t. b ∷ t) e }

    go : Cut bs → (b ≡ 10) ⊎ (b ≢ 10) → Cut (b ∷ bs)
    go c (inl e) = record { front = [] ∷ c.front; last = c.last; apart = (tt, c.apart); one = c.one; is = (λ i. sym e i ∷ c.is i) }
    go c (inr d) = longer c.front c.last c.apart c.one d c.is

-- a first wrong line
abbrev Wrong : List ℕ → Type 0
Wrong text = (refusal : Refusal) × IsFirstWrong text refusal

-- of lines and a last one, all may stand, or one is the first that may not
first_wrong : (front : List (List ℕ)) (last : List ℕ) → AllByRecursion IsOneLine front → IsOneLine last → (AllByRecursion MayStand front × MayStand last) ⊎ Wrong (joined front ++ last)
first_wrong [] last h k = go (may_decided last)
  where
    go : Decided (MayStand last) → (AllByRecursion MayStand [] × MayStand last) ⊎ Wrong last
    go (inl m) = inl (tt, m)
    go (inr d) =
        inr (
          record { code = 71; pos = record { line = 1; column = 1 } },
          record { lines = []; apart = tt; may = tt; line = last; rest = []; one = k; ends = tt; text_is = append-nil last; wrong = d; refused = refl },
        )
first_wrong (f ∷ fs) last h k = go (may_decided f) (first_wrong fs last h.1 k)
  where
    go : Decided (MayStand f) → (AllByRecursion MayStand fs × MayStand last) ⊎ Wrong (joined fs ++ last) → (AllByRecursion MayStand (f ∷ fs) × MayStand last) ⊎ Wrong (joined (f ∷ fs) ++ last)
    go (inr d) s =
        inr (
          record { code = 71; pos = record { line = 1; column = 1 } },
          record {
            lines = [];
            apart = tt;
            may = tt;
            line = f;
            rest = 10 ∷ (joined fs ++ last);
            one = h.0;
            ends = refl;
            text_is = sym (joined_first f fs last);
            wrong = d;
            refused = refl;
          },
        )
    go (inl m) (inl (all, end)) = inl ((m, all), end)
    go (inl m) (inr (r, w)) =
        inr (
          record { code = 71; pos = record { line = length (f ∷ w.lines) + 1; column = 1 } },
          record {
            lines = f ∷ w.lines;
            apart = (h.0, w.apart);
            may = (m, w.may);
            line = w.line;
            rest = w.rest;
            one = w.one;
            ends = w.ends;
            text_is = joined_first f w.lines (w.line ++ w.rest) ∙ ap (λ t. f ++ 10 ∷ t) w.text_is ∙ sym (joined_first f fs last);
            wrong = w.wrong;
            refused = refl;
          },
        )

-- each line of the text may stand
pub record MayAllStand (text : List ℕ) : Type 0 where
  pub lines : List (List ℕ)
  pub apart : AllByRecursion IsOneLine lines
  pub text_is : AreLines lines text
  pub may : AllByRecursion MayStand lines

-- each text has a first wrong line, or lines that may stand
pub some_wrong : (text : List ℕ) → MayAllStand text ⊎ ((refusal : Refusal) × IsFirstWrong text refusal)
some_wrong text = go (cut text)
  where
    go : Cut text → MayAllStand text ⊎ Wrong text
    go c = by (first_wrong c.front c.last c.apart c.one)
      where
        by : (AllByRecursion MayStand c.front × MayStand c.last) ⊎ Wrong (joined c.front ++ c.last) → MayAllStand text ⊎ Wrong text
        by (inl (all, end)) =
            let w = lines_of c.front c.last c.apart c.one in
            let whole : MayAllStand (joined c.front ++ c.last) =
            record { lines = with_last c.front c.last; apart = w.0; text_is = w.1; may = last_all MayStand c.front c.last all end } in
            inl (subst MayAllStand c.is whole)
        by (inr w) = inr (subst Wrong c.is w)
