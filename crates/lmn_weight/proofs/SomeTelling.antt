-- Each text tells weights, or a line of it is wrong.
use Rattle.std.proofs.Common.{ℕ, zero, suc, pos, negsuc, ◌≡◌, ◌≢◌, ◌<◌, ◌≤◌, ◌+◌, ◌-◌, ◌^◌, ◌⊎◌, inl, inr, Bool, true, false, List, [], ◌∷◌, ◌++◌, Option, Some, None, IsSome, codes, length, take, drop, get_or, refl, sym, ap, subst, ◌∙◌, arith}
use Rattle.std.specs.Prelude.{bytes_eq, Ok}
use Rattle.std.specs.Fmt.{decimal}
use Rattle.std.specs.List.{AllByRecursion, flat_map}
use Rattle.std.proofs.Math.Seq.{drop-append-add, get_or-append_seam, take-append_seam}
use Rattle.std.proofs.lemmas.Bool.{cases_lt}
use Rattle.std.proofs.lemmas.List.{append_assoc, append_cancel_right, get_or-drop, get_or_push, length-append, length-drop}
use Rattle.std.proofs.lemmas.List.Quantifiers.{all_pairs_push}
use Rattle.std.proofs.lemmas.Slice.Eq.{bytes_eq-Decides}
use Rattle.lmn_base.proofs.Lists.{head_is, tail_is, read_as as any_default}
use Rattle.lmn_base.proofs.Numbers.{same_or_not}
use Rattle.lmn_base.specs.declared.functor.Functor.{Functor}
use Rattle.lmn_base.specs.declared.functor.Label.TheVariants.{Int, Name}
use Rattle.lmn_base.specs.declared.refusal.Refusal.{Refusal}
use Rattle.lmn_base.specs.Names.{IsNames, first_names}
use Rattle.lmn_instr_reading.proofs.NameLemmas.{adds_both, adds_more, adds_none}
use Rattle.lmn_instr_reading.proofs.QuotedLemmas.{last_split, no_functor, no_slash_decimal, quoted_begins, quoted_other, quoted_quote}
use Rattle.lmn_instr_reading.specs.Reading.{AddsNames, IsFunctorText, IsLabelText}
use Rattle.lmn_instr_code.specs.Listings.{functor_text}
use Rattle.lmn_lexer.specs.NameText.{name_text, quoted, quoted_byte}
use Rattle.lmn_lexer.specs.Spelling.{is_bare_name}
use Rattle.lmn_instr_reading.specs.Lines.{HasNoSpace, IsOneLine, number_written}
use Rattle.lmn_instr_reading.proofs.NameTexts.{quoted_one}
use Rattle.lmn_weight.proofs.LineLemmas.{Reached, item_taken, line_taken, line_unsplit, line_untaken, reached_all, reached_more, reached_start, reached_unended, reached_wrong}
use Rattle.lmn_weight.specs.declared.told.Told.{Told}
use Rattle.lmn_weight.specs.declared.weights.Weights.{Weights}
use Rattle.lmn_weight.specs.Lines.{AreWeightsOf, HasText, IsFirstWrongWeightLine, MayBeNamed, TakesFunctor, TakesItem, TakesLine, integers, is_listed, membranes, nothing_told, or_nothing}
use Rattle.lmn_weight.specs.OneReading.{ToldOrWrong}
use Rattle.lmn_weight.specs.Plains.{is_integer}
use Rattle.lmn_lexer.proofs.Common.{bare_or_quoted, bare_unquoted, text_bare as bare_text, text_quoted as quoted_text}

-- ---- decided

same_text_or_not : (s t : List ℕ) → (s ≡ t) ⊎ (s ≢ t)
same_text_or_not s t = by (bytes_eq s t) (bytes_eq-Decides s t).0 (bytes_eq-Decides s t).1
  where
    by : (b : Bool) → (b ≡ true → s ≡ t) → (s ≡ t → b ≡ true) → (s ≡ t) ⊎ (s ≢ t)
    by true to back = inl (to refl)
    by false to back = inr (λ e. (let z = back e in absurd (cc)))

-- ---- where a byte stands

abbrev IsNo : ℕ → List ℕ → Type 0
IsNo c text = AllByRecursion (λ b. b ≢ c) text

-- a text has a byte, and none of it behind a last one, or it has none
abbrev LastByte : ℕ → List ℕ → Type 0
LastByte c text = ((u : List ℕ) × (v : List ℕ) × (text ≡ u ++ c ∷ v) × IsNo c v) ⊎ IsNo c text

last_byte : (c : ℕ) (text : List ℕ) → LastByte c text
last_byte c [] = inr tt
last_byte c (b ∷ bs) = go (last_byte c bs) (same_or_not b c)
  where
    go : LastByte c bs → (b ≡ c) ⊎ (b ≢ c) → LastByte c (b ∷ bs)
    go (inl (u, v, e, h)) t = inl (b ∷ u, v, ap (λ t. b ∷ t) e, h)
    go (inr h) (inl e) = inl ([], bs, ap (λ x. x ∷ bs) e, h)
    go (inr h) (inr n) = inr (n, h)

-- and none before a first one
abbrev FirstByte : ℕ → List ℕ → Type 0
FirstByte c text = ((u : List ℕ) × (v : List ℕ) × (text ≡ u ++ c ∷ v) × IsNo c u) ⊎ IsNo c text

first_byte : (c : ℕ) (text : List ℕ) → FirstByte c text
first_byte c [] = inr tt
first_byte c (b ∷ bs) = go (same_or_not b c) (first_byte c bs)
  where
    go : (b ≡ c) ⊎ (b ≢ c) → FirstByte c bs → FirstByte c (b ∷ bs)
    go (inl e) r = inl ([], bs, ap (λ x. x ∷ bs) e, tt)
    go (inr n) (inl (u, v, e, h)) = inl (b ∷ u, v, ap (λ t. b ∷ t) e, (n, h))
    go (inr n) (inr h) = inr (n, h)

-- ---- whether a text is that of a functor

-- one of the first n texts is this one, or none is
abbrev Below : (ℕ → List ℕ) → List ℕ → ℕ → Type 0
Below f text n = ((a : ℕ) × (a < n) × (f a ≡ text)) ⊎ ((a : ℕ) → a < n → f a ≡ text → ⊥)

find_below : (f : ℕ → List ℕ) (text : List ℕ) (n : ℕ) → Below f text n
find_below f text zero = inr (λ a l e. absurd (omega (arith, l)))
find_below f text (suc n) = go (same_text_or_not (f n) text) (find_below f text n)
  where
    by : (f n ≡ text → ⊥) → ((a : ℕ) → a < n → f a ≡ text → ⊥) → (a : ℕ) → a < suc n → f a ≡ text → (a < n) ⊎ (n ≤ a) → ⊥
    by other none a l e (inl m) = none a m e
    by other none a l e (inr m) = let same : a ≡ n = omega (arith, l, m) in other (subst (λ k. f k ≡ text) same e)

    go : (f n ≡ text) ⊎ (f n ≡ text → ⊥) → Below f text n → Below f text (suc n)
    go (inl e) r = inl (n, omega arith, e)
    go (inr other) (inl (a, l, e)) = inl (a, omega (arith, l), e)
    go (inr other) (inr none) = inr (λ a l e. by other none a l e (cases_lt a n))

-- a name in quotes, its first quote left out
abbrev IsEnded : List ℕ → List ℕ → Type 0
IsEnded name rest = flat_map quoted_byte name ++ 39 ∷ [] ≡ rest

abbrev Ended : List ℕ → Type 0
Ended rest = ((name : List ℕ) × IsEnded name rest) ⊎ ((name : List ℕ) → IsEnded name rest → ⊥)

-- the first byte of a name that has one, and the rest
ended_parts : (x : ℕ) (xs rest : List ℕ) → IsEnded (x ∷ xs) rest → quoted_byte x ++ (flat_map quoted_byte xs ++ 39 ∷ []) ≡ rest
ended_parts x xs rest e = sym (append_assoc (quoted_byte x) (flat_map quoted_byte xs) (39 ∷ [])) ∙ e

ended_first : (x : ℕ) (xs : List ℕ) (b : ℕ) (rest : List ℕ) → IsEnded (x ∷ xs) (b ∷ rest) → x ≡ b
ended_first x xs b rest e = head_is (ap (λ u. u ++ (flat_map quoted_byte xs ++ 39 ∷ [])) (sym (quoted_begins x).1) ∙ ended_parts x xs (b ∷ rest) e)

find_ended : (rest : List ℕ) → Ended rest
find_ended [] = inr none
  where
    none : (name : List ℕ) → IsEnded name [] → ⊥
    none name e = let n = ap length e in let s = length-append (flat_map quoted_byte name) (39 ∷ []) in omega (arith, n, s)
find_ended (b ∷ []) = go (same_or_not b 39)
  where
    none : b ≢ 39 → (name : List ℕ) → IsEnded name (b ∷ []) → ⊥
    none n [] e = n (sym (head_is e))
    none n (x ∷ xs) e =
        let parts = ended_parts x xs (b ∷ []) e in
        let q = quoted_begins x in
        let l = ap length (ap (λ u. u ++ (flat_map quoted_byte xs ++ 39 ∷ [])) (sym q.1) ∙ parts) in
        let s = length-append q.0 (flat_map quoted_byte xs ++ 39 ∷ []) in
        let t = length-append (flat_map quoted_byte xs) (39 ∷ []) in
        omega (arith, l, s, t)

    go : (b ≡ 39) ⊎ (b ≢ 39) → Ended (b ∷ [])
    go (inl e) = inl ([], ap (λ x. x ∷ []) (sym e))
    go (inr n) = inr (none n)
find_ended (b ∷ (c ∷ r)) = go (same_or_not b 39) (same_or_not c 39) (find_ended r) (find_ended (c ∷ r))
  where
    -- a quote stands twice
    twice : (x : ℕ) (xs : List ℕ) → b ≡ 39 → IsEnded (x ∷ xs) (b ∷ (c ∷ r)) → (c ≡ 39) × IsEnded xs r
    twice x xs q e =
        let first = ended_first x xs b (c ∷ r) e in
        let whole : 39 ∷ (39 ∷ (flat_map quoted_byte xs ++ 39 ∷ [])) ≡ b ∷ (c ∷ r) = ap (λ u. u ++ (flat_map quoted_byte xs ++ 39 ∷ [])) (sym (quoted_quote x (first ∙ q))) ∙ ended_parts x xs (b ∷ (c ∷ r)) e in
        (sym (head_is (tail_is whole)), tail_is (tail_is whole))

    -- and every other byte once
    single : (x : ℕ) (xs : List ℕ) → b ≢ 39 → IsEnded (x ∷ xs) (b ∷ (c ∷ r)) → IsEnded xs (c ∷ r)
    single x xs n e =
        let first = ended_first x xs b (c ∷ r) e in
        tail_is (ap (λ u. u ++ (flat_map quoted_byte xs ++ 39 ∷ [])) (sym (quoted_other x (λ q. n (sym first ∙ q)))) ∙ ended_parts x xs (b ∷ (c ∷ r)) e)

    empty : IsEnded [] (b ∷ (c ∷ r)) → ⊥
    empty e = let n = ap length e in omega (arith, n)

    lone : b ≡ 39 → c ≢ 39 → (name : List ℕ) → IsEnded name (b ∷ (c ∷ r)) → ⊥
    lone q n [] e = empty e
    lone q n (x ∷ xs) e = n (twice x xs q e).0

    quote_none : b ≡ 39 → ((name : List ℕ) → IsEnded name r → ⊥) → (name : List ℕ) → IsEnded name (b ∷ (c ∷ r)) → ⊥
    quote_none q none [] e = empty e
    quote_none q none (x ∷ xs) e = none xs (twice x xs q e).1

    other_none : b ≢ 39 → ((name : List ℕ) → IsEnded name (c ∷ r) → ⊥) → (name : List ℕ) → IsEnded name (b ∷ (c ∷ r)) → ⊥
    other_none n none [] e = empty e
    other_none n none (x ∷ xs) e = none xs (single x xs n e)

    go : (b ≡ 39) ⊎ (b ≢ 39) → (c ≡ 39) ⊎ (c ≢ 39) → Ended r → Ended (c ∷ r) → Ended (b ∷ (c ∷ r))
    go (inl q) (inl p) (inl (name, e)) later = inl (39 ∷ name, (let a = sym q in let b = sym p in λ i. a i ∷ (b i ∷ e i)))
    go (inl q) (inl p) (inr none) later = inr (quote_none q none)
    go (inl q) (inr n) here later = inr (lone q n)
    go (inr n) p here (inl (name, e)) =
        inl (b ∷ name, append_assoc (quoted_byte b) (flat_map quoted_byte name) (39 ∷ []) ∙ ap (λ u. u ++ (flat_map quoted_byte name ++ 39 ∷ [])) (quoted_other b n) ∙ ap (λ t. b ∷ t) e)
    go (inr n) p here (inr none) = inr (other_none n none)

-- a name of at most 255 bytes has the text, or none has it
abbrev Named : List ℕ → Type 0
Named text = ((name : List ℕ) × (length name ≤ 255) × (name_text name ≡ text)) ⊎ ((name : List ℕ) → length name ≤ 255 → name_text name ≡ text → ⊥)

-- the text is a bare name
find_bare : (text : List ℕ) → is_bare_name text ≡ true → Named text
find_bare text bare = by (cases_lt 255 (length text))
  where
    only : (name : List ℕ) → name_text name ≡ text → name ≡ text
    only name e = at (bare_or_quoted name text e)
      where
        at : ((is_bare_name name ≡ true) × (name ≡ text)) ⊎ ((is_bare_name name ≡ false) × (quoted name ≡ text)) → name ≡ text
        at (inl h) = h.1
        at (inr h) = absurd (bare_unquoted text _ bare (sym h.1))

    by : (255 < length text) ⊎ (length text ≤ 255) → Named text
    by (inl long) = inr (λ name few e. (let n = ap length (only name e) in omega (arith, n, long, few)))
    by (inr few) = inl (text, few, bare_text text bare)

-- or it isn't
find_quoted : (text : List ℕ) → is_bare_name text ≡ false → Named text
find_quoted text other = at text other
  where
    -- a name whose text is this is written in quotes
    inside : (text : List ℕ) → is_bare_name text ≡ false → (name : List ℕ) → name_text name ≡ text → (is_bare_name name ≡ false) × (quoted name ≡ text)
    inside text other name e = by (bare_or_quoted name text e)
      where
        by : ((is_bare_name name ≡ true) × (name ≡ text)) ⊎ ((is_bare_name name ≡ false) × (quoted name ≡ text)) → (is_bare_name name ≡ false) × (quoted name ≡ text)
        by (inl h) = absurd (let z = sym h.0 ∙ ap is_bare_name h.1 ∙ other in cc)
        by (inr h) = h

    -- it is the name that was found
    found : (name rest : List ℕ) → IsEnded name rest → (more : List ℕ) → quoted more ≡ 39 ∷ rest → more ≡ name
    found name rest e more q = quoted_one more name (append_cancel_right _ _ (39 ∷ []) (tail_is q ∙ sym e))

    ended : (rest : List ℕ) → is_bare_name (39 ∷ rest) ≡ false → Ended rest → Named (39 ∷ rest)
    ended rest other (inl (name, e)) = by (is_bare_name name) refl (cases_lt 255 (length name))
      where
        by : (b : Bool) → is_bare_name name ≡ b → (255 < length name) ⊎ (length name ≤ 255) → Named (39 ∷ rest)
        by true bare size = inr (λ more few f. (let h = inside (39 ∷ rest) other more f in let z = sym h.0 ∙ ap is_bare_name (found name rest e more h.1) ∙ bare in absurd (cc)))
        by false bare (inl long) = inr (λ more few f. (let h = inside (39 ∷ rest) other more f in let n = ap length (found name rest e more h.1) in omega (arith, n, long, few)))
        by false bare (inr few) = inl (name, few, quoted_text name bare ∙ ap (λ t. 39 ∷ t) e)
    ended rest other (inr none) = inr (λ more few f. none more (tail_is (inside (39 ∷ rest) other more f).1))

    at : (text : List ℕ) → is_bare_name text ≡ false → Named text
    at [] other = inr (λ more few f. (let h = (inside [] other more f).1 in let n = ap length h in omega (arith, n)))
    at (b ∷ rest) other = by (same_or_not b 39)
      where
        by : (b ≡ 39) ⊎ (b ≢ 39) → Named (b ∷ rest)
        by (inl q) = subst (λ x. Named (x ∷ rest)) (sym q) (ended rest (subst (λ x. is_bare_name (x ∷ rest) ≡ false) q other) (find_ended rest))
        by (inr n) = inr (λ more few f. n (sym (head_is (inside (b ∷ rest) other more f).1)))

find_name : (text : List ℕ) → Named text
find_name text = by (is_bare_name text) refl
  where
    by : (b : Bool) → is_bare_name text ≡ b → Named text
    by true h = find_bare text h
    by false h = find_quoted text h

-- the text is that of a label, or of none
find_label : (text : List ℕ) → IsLabelText text ⊎ (IsLabelText text → ⊥)
find_label text = by (find_name text) (find_below decimal text (2 ^ 63)) (find_below (λ n. 45 ∷ decimal (suc n)) text (2 ^ 63))
  where
    none : ((name : List ℕ) → length name ≤ 255 → name_text name ≡ text → ⊥) → ((n : ℕ) → n < 2 ^ 63 → decimal n ≡ text → ⊥) → ((n : ℕ) → n < 2 ^ 63 → 45 ∷ decimal (suc n) ≡ text → ⊥)
        → IsLabelText text → ⊥
    none a b c (inl (name, few, e)) = a name few e
    none a b c (inr (pos n, h, e)) = b n h e
    none a b c (inr (negsuc n, h, e)) = c n h e

    by : Named text → Below decimal text (2 ^ 63) → Below (λ n. 45 ∷ decimal (suc n)) text (2 ^ 63) → IsLabelText text ⊎ (IsLabelText text → ⊥)
    by (inl n) p q = inl (inl n)
    by (inr a) (inl (n, l, e)) q = inl (inr (pos n, l, e))
    by (inr a) (inr b) (inl (n, l, e)) = inl (inr (negsuc n, l, e))
    by (inr a) (inr b) (inr c) = inr (none a b c)

-- the text is that of a functor, or of none
find_functor : (text : List ℕ) → IsFunctorText text ⊎ (IsFunctorText text → ⊥)
find_functor text = by (last_byte 47 text)
  where
    split : (u v : List ℕ) → text ≡ u ++ 47 ∷ v → IsNo 47 v → (f : IsFunctorText text) → (f.0 ≡ u) × (decimal f.1 ≡ v)
    split u v e h f = let low = f.3 in last_split f.0 (decimal f.1) u v (no_slash_decimal f.1 (omega (arith, low))) h (f.4 ∙ e)

    parts : (u v : List ℕ) → text ≡ u ++ 47 ∷ v → IsNo 47 v → IsLabelText u ⊎ (IsLabelText u → ⊥) → Below decimal v 256 → IsFunctorText text ⊎ (IsFunctorText text → ⊥)
    parts u v e h (inl l) (inl (a, m, d)) = inl (u, a, l, omega (arith, m), ap (λ t. u ++ 47 ∷ t) d ∙ sym e)
    parts u v e h (inl l) (inr none) = inr (λ f. (let low = f.3 in none f.1 (omega (arith, low)) (split u v e h f).1))
    parts u v e h (inr none) a = inr (λ f. none (subst IsLabelText (split u v e h f).0 f.2))

    by : LastByte 47 text → IsFunctorText text ⊎ (IsFunctorText text → ⊥)
    by (inl (u, v, e, h)) = parts u v e h (find_label u) (find_below decimal v 256)
    by (inr h) = inr (λ f. no_functor text f.0 f.1 h f.4)

-- ---- a name that is put

abbrev NumberOf : List (List ℕ) → List ℕ → Type 0
NumberOf names name = ((n : ℕ) × (n < length names) × (get_or names n [] ≡ name)) ⊎ ((n : ℕ) → n < length names → get_or names n [] ≢ name)

number_of : (names : List (List ℕ)) (name : List ℕ) → NumberOf names name
number_of [] name = inr (λ n l e. omega (arith, l))
number_of (m ∷ names) name = by (same_text_or_not m name) (number_of names name)
  where
    none : m ≢ name → ((n : ℕ) → n < length names → get_or names n [] ≢ name) → (n : ℕ) → n < length (m ∷ names) → get_or (m ∷ names) n [] ≢ name
    none a b zero l = a
    none a b (suc n) l = b n (omega (arith, l))

    by : (m ≡ name) ⊎ (m ≢ name) → NumberOf names name → NumberOf (m ∷ names) name
    by (inl e) r = inl (zero, omega arith, e)
    by (inr a) (inl (n, l, e)) = inl (suc n, omega (arith, l), e)
    by (inr a) (inr b) = inr (none a b)

-- a list that has the name, and at most one more than another
abbrev Put : List (List ℕ) → List ℕ → Type 0
Put names name = (later : List (List ℕ)) × (n : ℕ) × AddsNames 1 names later × IsNames later × (n < length later) × (get_or later n [] ≡ name)

put_name : (names : List (List ℕ)) → IsNames names → (name : List ℕ) → Put names name
put_name names is name = by (number_of names name)
  where
    added : ((n : ℕ) → n < length names → get_or names n [] ≢ name) → Put names name
    added none =
        let size = length-append names (name ∷ []) in
        let more = is.begins.0 in (
          names ++ name ∷ [],
          length names,
          record { more = name ∷ []; are = refl; few = omega arith },
          record {
            begins = (more ++ name ∷ [], ap (λ ns. ns ++ name ∷ []) is.begins.1 ∙ append_assoc first_names more (name ∷ []));
            once = all_pairs_push (λ m n. m ≢ n) names name is.once (λ k d l e. none k l (any_default names k [] d l ∙ e));
          },
          omega (arith, size),
          get_or_push names name [] (length names) refl,
        )

    by : NumberOf names name → Put names name
    by (inl (n, l, e)) = (names, n, adds_none 1 names, is, l, e)
    by (inr none) = added none

-- ---- a line

-- what a line names is told, or it can't be, by a list of at most one name more
abbrev Item : List (List ℕ) → Told → List ℕ → ℕ → Type 0
Item names t item n = (later : List (List ℕ)) × AddsNames 1 names later × IsNames later × (b : Bool) × (new : Told) × TakesItem later item n t new b

module _ (names : List (List ℕ)) (is : IsNames names) (t : Told) where
  some_int : (item : List ℕ) (n : ℕ) → item ≡ codes "int" → Item names t item n
  some_int item n e = by t.int refl
    where
      by : (o : Option ℕ) → t.int ≡ o → Item names t item n
      by None o = (names, adds_none 1 names, is, true, record { functors = t.functors; values = t.values; int = Some n; membrane = t.membrane }, integers e o refl)
      by (Some m) o = (names, adds_none 1 names, is, false, t, (refl, λ may. inl (e, subst IsSome (sym o) refl)))

  some_membrane : (item : List ℕ) (n : ℕ) → item ≡ codes "{}" → Item names t item n
  some_membrane item n e = by t.membrane refl
    where
      by : (o : Option ℕ) → t.membrane ≡ o → Item names t item n
      by None o = (names, adds_none 1 names, is, true, record { functors = t.functors; values = t.values; int = t.int; membrane = Some n }, membranes e o refl)
      by (Some m) o = (names, adds_none 1 names, is, false, t, (refl, λ may. inr (inl (e, subst IsSome (sym o) refl))))

  -- a functor that has a text
  functor_item : (item : List ℕ) (n : ℕ) → item ≢ codes "int" → item ≢ codes "{}" → (later : List (List ℕ)) → AddsNames 1 names later → IsNames later → (f : Functor) → HasText later f → functor_text later f ≡ item
      → Item names t item n
  functor_item item n no_int no_membrane later adds also f has e = by (is_integer f) refl (is_listed f t.functors) refl
    where
      taken : (b : Bool) (new : Told) → TakesFunctor f n t new b → Item names t item n
      taken b new takes = (later, adds, also, b, new, item_taken later item n t new f (Ok b) (Some f) refl (has.held, e) has.short has.narrow no_int no_membrane takes)

      by : (i : Bool) → is_integer f ≡ i → (l : Bool) → is_listed f t.functors ≡ l → Item names t item n
      by true i l k = taken false t (refl, inl i)
      by false i true k = taken false t (refl, inr k)
      by false i false k = taken true (record { functors = t.functors ++ f ∷ []; values = t.values ++ n ∷ []; int = t.int; membrane = t.membrane }) (i, k, refl)

  some_functor : (item : List ℕ) (n : ℕ) → item ≢ codes "int" → item ≢ codes "{}" → IsFunctorText item → Item names t item n
  some_functor item n no_int no_membrane (label, arity, inl (name, short, e), low, whole) =
      let put = put_name names is name in
      let text = ap name_text put.5 ∙ e in
      functor_item item n no_int no_membrane put.0 put.2 put.3 (record { label = Name put.1; arity = arity })
      (record { held = put.4; short = (let s = ap length put.5 in omega (arith, s, short)); narrow = (tt, low) })
      (ap (λ l. l ++ (codes "/" ++ decimal arity)) text ∙ whole)
  some_functor item n no_int no_membrane (label, arity, inr (z, narrow, e), low, whole) =
      functor_item item n no_int no_membrane names (adds_none 1 names) is (record { label = Int z; arity = arity }) (record { held = tt; short = tt; narrow = (narrow, low) })
      (ap (λ l. l ++ (codes "/" ++ decimal arity)) e ∙ whole)

  some_item : (item : List ℕ) (n : ℕ) → Item names t item n
  some_item item n = by (same_text_or_not item (codes "int")) (same_text_or_not item (codes "{}")) (find_functor item)
    where
      none : item ≢ codes "int" → item ≢ codes "{}" → (IsFunctorText item → ⊥) → MayBeNamed item → ⊥
      none a b c (inl e) = a e
      none a b c (inr (inl e)) = b e
      none a b c (inr (inr f)) = c f.0

      by : (item ≡ codes "int") ⊎ (item ≢ codes "int") → (item ≡ codes "{}") ⊎ (item ≢ codes "{}") → IsFunctorText item ⊎ (IsFunctorText item → ⊥) → Item names t item n
      by (inl e) p q = some_int item n e
      by (inr a) (inl e) q = some_membrane item n e
      by (inr a) (inr b) (inl f) = some_functor item n a b f
      by (inr a) (inr b) (inr c) = (names, adds_none 1 names, is, false, t, (refl, λ may. absurd (none a b c may)))

  -- a line is told, or it can't be
  abbrev Line : List ℕ → Type 0
  Line line = (later : List (List ℕ)) × AddsNames 1 names later × IsNames later × (b : Bool) × (new : Told) × TakesLine later line t new b

  some_line : (line : List ℕ) → Line line
  some_line line = by (last_byte 32 line)
    where
      split : (u v : List ℕ) → line ≡ u ++ 32 ∷ v → HasNoSpace v → Line line
      split u v e h = numbered (number_written v) refl
        where
          long : length u < length line
          long = let s = ap length e in let t = length-append u (32 ∷ v) in omega (arith, s, t)

          space : get_or line (length u) 0 ≡ 32
          space = ap (λ l. get_or l (length u) 0) e ∙ get_or-append_seam u 32 v 0

          front : take (length u) line ≡ u
          front = ap (take (length u)) e ∙ take-append_seam u (32 ∷ v)

          behind : drop (length u + 1) line ≡ v
          behind = ap (drop (length u + 1)) e ∙ drop-append-add u (32 ∷ v) 1

          none : HasNoSpace (drop (length u + 1) line)
          none = subst HasNoSpace (sym behind) h

          numbered : (o : Option ℕ) → number_written v ≡ o → Line line
          numbered None w = (names, adds_none 1 names, is, false, t, (refl, line_untaken names t line (length u) long space none (ap number_written behind ∙ w)))
          numbered (Some n) w =
              let i = some_item (take (length u) line) n in
              (i.0, i.1, i.2, i.3, i.4, line_taken i.0 line (length u) n t i.4 (Ok i.3) long space none (ap number_written behind ∙ w) i.5)

      by : LastByte 32 line → Line line
      by (inl (u, v, e, h)) = split u v e h
      by (inr h) = (names, adds_none 1 names, is, false, t, (refl, line_unsplit names t line h))

-- ---- a text

module _ (before : List (List ℕ)) (text : List ℕ) where
  -- what is told in the end, or refused
  abbrev Ends : Type 0
  Ends = (later : List (List ℕ)) × AddsNames (length text) before later × IsNames later × (((w : Weights) × AreWeightsOf later text w) ⊎ ((refusal : Refusal) × IsFirstWrongWeightLine later text refusal))

  abbrev at_line : ℕ → Refusal
  at_line n = record { code = 85; pos = record { line = n; column = 1 } }

  module _ (names : List (List ℕ)) (is : IsNames names) (at number : ℕ) (told : Told) (r : Reached before names text at number told) where
    few_added : AddsNames (length text) before names
    few_added = let few = r.few in let within = r.within in adds_more (length r.lines) (length text) before names (omega (arith, few, within)) r.added

    all_read : length text ≤ at → Ends
    all_read l =
        let w : Weights = record { functors = told.functors; values = told.values; int = or_nothing told.int; membrane = or_nothing told.membrane } in
        (names, few_added, is, inl (w, reached_all before names text at number told w r l refl refl refl refl))

    unended : at < length text → IsOneLine (drop at text) → Ends
    unended l one = (names, few_added, is, inr (at_line number, reached_unended before names text at number told (at_line number) r l one refl))

    -- the next line
    abbrev Next : Type 0
    Next = (later : List (List ℕ)) × IsNames later × (end : ℕ) × (new : Told) × (at < end) × Reached before later text end (number + 1) new

    next_line : at < length text → (u v : List ℕ) → drop at text ≡ u ++ 10 ∷ v → IsOneLine u → Ends ⊎ Next
    next_line l u v e one = go (some_line names is told (take (end - at) (drop at text)))
      where
        end : ℕ
        end = at + length u

        size : length text ≡ at + (length u + suc (length v))
        size = let s = ap length e in let t = length-append u (10 ∷ v) in let d = length-drop at text in omega (arith, s, t, d, l)

        short : end < length text
        short = let s = size in omega (arith, s)

        feed : get_or text end 0 ≡ 10
        feed = sym (get_or-drop at text (length u) 0) ∙ ap (λ xs. get_or xs (length u) 0) e ∙ get_or-append_seam u 10 v 0

        is_line : take (end - at) (drop at text) ≡ u
        is_line = let n : end - at ≡ length u = omega arith in ap (λ k. take k (drop at text)) n ∙ ap (take (length u)) e ∙ take-append_seam u (10 ∷ v)

        own : IsOneLine (take (end - at) (drop at text))
        own = subst IsOneLine (sym is_line) one

        go : Line names is told (take (end - at) (drop at text)) → Ends ⊎ Next
        go (later, adds, also, true, new, takes) =
            inr (later, also, end + 1, new, omega arith, reached_more before names later text at number end told new r (omega arith) short feed own adds true refl takes)
        go (later, adds, also, false, new, takes) =
            inl (
              later,
              (let few = r.few in let w = l in adds_more (length r.lines + 1) (length text) before later (omega (arith, few, w)) (adds_both (length r.lines) 1 before names later r.added adds)),
              also,
              inr (at_line number, reached_wrong before names later text at number end told new (at_line number) r (omega arith) short feed own adds false refl takes refl),
            )

    next : at < length text → Ends ⊎ Next
    next l = by (first_byte 10 (drop at text))
      where
        by : FirstByte 10 (drop at text) → Ends ⊎ Next
        by (inl (u, v, e, one)) = next_line l u v e one
        by (inr one) = inl (unended l one)

  -- what is read from further on
  abbrev Rest : ℕ → ℕ → Type 0
  Rest at number = (later : List (List ℕ)) → IsNames later → (end : ℕ) (new : Told) → at < end → Reached before later text end (number + 1) new → Ends

  read_on : (fuel : ℕ) (names : List (List ℕ)) → IsNames names → (at number : ℕ) (told : Told) → Reached before names text at number told → length text ≤ at + fuel → Ends
  read_on zero names is at number told r l = all_read names is at number told r (omega (arith, l))
  read_on (suc fuel) names is at number told r l = by (λ later also end new more reached. read_on fuel later also end (number + 1) new reached (omega (arith, more, l))) (cases_lt at (length text))
    where
      goes : Rest at number → Ends ⊎ Next names is at number told r → Ends
      goes rest (inl ends) = ends
      goes rest (inr (later, also, end, new, more, reached)) = rest later also end new more reached

      by : Rest at number → (at < length text) ⊎ (length text ≤ at) → Ends
      by rest (inl m) = goes rest (next names is at number told r m)
      by rest (inr m) = all_read names is at number told r m

-- each text tells weights, or a line of it is wrong
pub told_or_wrong : ToldOrWrong
told_or_wrong names is text = read_on names text (length text) names is 0 1 nothing_told (reached_start names text nothing_told refl) (omega arith)
