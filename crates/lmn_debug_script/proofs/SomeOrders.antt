-- A text whose lines may stand has orders by names that are put behind those of a list.
use Rattle.std.proofs.Common.{ℕ, suc, ◌≡◌, ◌≢◌, ◌≤◌, ◌<◌, ◌+◌, ◌⊎◌, inl, inr, List, [], ◌∷◌, ◌++◌, Contains, codes, length, refl, sym, ap, subst, ◌∙◌, arith}
use Rattle.std.specs.Prelude.{slice_index_or}
use Rattle.std.specs.Fmt.{decimal}
use Rattle.std.specs.List.{AllByRecursion}
use Rattle.std.proofs.lemmas.List.{append-nil, append_assoc, length-append}
use Rattle.std.proofs.lemmas.Map.Made.{Contains-tail}
use Rattle.std.proofs.lemmas.Option.{get_or_from_slice_get}
use Rattle.lmn_base.proofs.HeldNames.{get_last, one_more}
use Rattle.lmn_base.proofs.Lists.{contains_none}
use Rattle.lmn_base.proofs.Truth.{Decided}
use Rattle.lmn_base.specs.declared.functor.Label.TheVariants.{Int, Name}
use Rattle.lmn_base.specs.declared.refusal.Refusal.{Refusal}
use Rattle.lmn_base.specs.Names.{IsNames}
use Rattle.lmn_instr_reading.proofs.NameLemmas.{adds_both, adds_more, adds_none}
use Rattle.lmn_instr_reading.specs.Reading.{AddsNames, IsLabelText}
use Rattle.lmn_lexer.specs.NameText.{name_text}
use Rattle.lmn_instr_reading.specs.Lines.{joined}
use Rattle.lmn_debug_script.proofs.Deciding.{MayAllStand, same_bytes, some_wrong}
use Rattle.lmn_debug_script.proofs.LineLemmas.{says_stays}
use Rattle.lmn_debug_script.specs.Laws.{HasOrders}
use Rattle.lmn_debug_script.specs.Scripts.{AreLines, HasForm, IsFirstWrong, IsOrder, IsUntil, MayStand, Says, an_empty_line, of_back, of_show, of_step, of_until, one_order, says_nothing}
use Rattle.lmn_debug_script.specs.declared.order.Order.{Order}
use Rattle.lmn_debug_script.specs.declared.order.Order.TheVariants.{Back, Show, Step, Until}

-- ---- names

-- a name stands at a place of a list, or nowhere
held : (names : List (List ℕ)) (name : List ℕ) → ((n : ℕ) × (n < length names) × (slice_index_or names n [] ≡ name)) ⊎ ¬ (Contains names name)
held [] name = inr (contains_none name)
held (first ∷ names) name = go (same_bytes first name) (held names name)
  where
    go : Decided (first ≡ name) → ((n : ℕ) × (n < length names) × (slice_index_or names n [] ≡ name)) ⊎ ¬ (Contains names name)
        → ((n : ℕ) × (n < length (first ∷ names)) × (slice_index_or (first ∷ names) n [] ≡ name)) ⊎ ¬ (Contains (first ∷ names) name)
    go (inl e) s = inl (0, omega arith, e)
    go (inr d) (inl (n, l, e)) = inl (suc n, omega (arith, l), e)
    go (inr d) (inr none) = inr (λ c. none (Contains-tail first names name d c))

-- names behind those of a list, among them one with a number
record Named (names : List (List ℕ)) (name : List ℕ) : Type 0 where
  later : List (List ℕ)
  added : AddsNames 1 names later
  are : IsNames later
  number : ℕ
  within : number < length later
  is : slice_index_or later number [] ≡ name

named : (names : List (List ℕ)) (name : List ℕ) → IsNames names → Named names name
named names name h = go (held names name)
  where
    go : ((n : ℕ) × (n < length names) × (slice_index_or names n [] ≡ name)) ⊎ ¬ (Contains names name) → Named names name
    go (inl (n, l, e)) = record { later = names; added = adds_none 1 names; are = h; number = n; within = l; is = e }
    go (inr none) = record {
      later = names ++ name ∷ [];
      added = record { more = name ∷ []; are = refl; few = omega arith };
      are = one_more names name h none;
      number = length names;
      within = (let size = length-append names (name ∷ []) in omega (arith, size));
      is = get_or_from_slice_get (names ++ name ∷ []) (length names) name [] (get_last names name);
    }

-- ---- lines

-- names behind those of a list, and the order that a line is by them
record Ordered (names : List (List ℕ)) (line : List ℕ) : Type 0 where
  later : List (List ℕ)
  added : AddsNames 1 names later
  are : IsNames later
  order : Order
  is : IsOrder later line order

ordered : (names : List (List ℕ)) (line : List ℕ) → IsNames names → HasForm line → Ordered names line
ordered names line h (of_step {n = n} w l) = record { later = names; added = adds_none 1 names; are = h; order = Step n; is = (w, l) }
ordered names line h (of_back {n = n} w l) = record { later = names; added = adds_none 1 names; are = h; order = Back n; is = (w, l) }
ordered names line h (of_show e) = record { later = names; added = adds_none 1 names; are = h; order = Show; is = e }
ordered names line h (of_until {item = item} {op = op} {n = n} u (label, arity, written, l, e)) = go written
  where
    go : IsLabelText label → Ordered names line
    go (inl (name, short, f)) = by (named names name h)
      where
        by : Named names name → Ordered names line
        by m = record {
          later = m.later;
          added = m.added;
          are = m.are;
          order = Until (record { label = Name m.number; arity = arity }) op n;
          is = (
            subst (λ t. IsUntil line t op n) (sym (ap (λ t. name_text t ++ (codes "/" ++ decimal arity)) m.is ∙ ap (λ t. t ++ (codes "/" ++ decimal arity)) f ∙ e)) u,
            (m.within, subst (λ t. length t ≤ 255) (sym m.is) short),
            l,
          );
        }
    go (inr (z, bits, f)) = record {
      later = names;
      added = adds_none 1 names;
      are = h;
      order = Until (record { label = Int z; arity = arity }) op n;
      is = (subst (λ t. IsUntil line t op n) (sym (ap (λ t. t ++ (codes "/" ++ decimal arity)) f ∙ e)) u, bits, l);
    }

-- what lines order by names behind those of a list
record AllOrdered (names : List (List ℕ)) (lines : List (List ℕ)) : Type 0 where
  later : List (List ℕ)
  added : AddsNames (length lines) names later
  are : IsNames later
  orders : List Order
  say : Says later lines orders

-- lines behind which others are ordered
ordered_behind : (names middle : List (List ℕ)) (done left : List (List ℕ)) (orders : List Order) → AddsNames (length done) names middle → IsNames middle → Says middle done orders → AllByRecursion MayStand left → AllOrdered names (done ++ left)
ordered_behind names middle done [] orders a h s may =
    subst (AllOrdered names) (sym (append-nil done)) (record { later = middle; added = a; are = h; orders = orders; say = s })
ordered_behind names middle done (line ∷ left) orders a h s (may, more) =
    subst (AllOrdered names) (append_assoc done (line ∷ []) left)
    (go may (λ (new : List (List ℕ)) (all : List Order) (b : AddsNames (length (done ++ line ∷ [])) names new) (k : IsNames new) (t : Says new (done ++ line ∷ []) all). ordered_behind names new (done ++ line ∷ []) left all b k t more))
  where
    size : length (done ++ line ∷ []) ≡ length done + 1
    size = length-append done (line ∷ [])

    go : MayStand line → ((new : List (List ℕ)) (all : List Order) → AddsNames (length (done ++ line ∷ [])) names new → IsNames new → Says new (done ++ line ∷ []) all → AllOrdered names ((done ++ line ∷ []) ++ left))
        → AllOrdered names ((done ++ line ∷ []) ++ left)
    go (inl e) again =
        again middle orders (adds_more (length done) (length (done ++ line ∷ [])) names middle (omega (arith, size)) a) h (subst (λ l. Says middle (done ++ l ∷ []) orders) (sym e) (an_empty_line s))
    go (inr f) again =
        let o = ordered middle line h f in
        again o.later (orders ++ o.order ∷ [])
        (adds_more (length done + 1) (length (done ++ line ∷ [])) names o.later (omega (arith, size)) (adds_both (length done) 1 names middle o.later a o.added)) o.are
        (one_order line o.order (says_stays 1 middle o.later o.added s) o.is)

-- ---- texts

-- lines have a line feed each
feeds : (lines : List (List ℕ)) → length lines ≤ length (joined lines)
feeds [] = omega arith
feeds (l ∷ ls) =
    let f = feeds ls in
    let all = length-append (l ++ 10 ∷ []) (joined ls) in
    let one = length-append l (10 ∷ []) in
    omega (arith, f, all, one)

-- a text has no more lines than bytes
lines_few : (lines : List (List ℕ)) (text : List ℕ) → AreLines lines text → length lines ≤ length text
lines_few lines text (inl e) = (let f = feeds lines in let size = ap length e in omega (arith, f, size))
lines_few lines text (inr (front, last, are, some, e)) = go last some are e
  where
    go : (last : List ℕ) → last ≢ [] → lines ≡ front ++ last ∷ [] → joined front ++ last ≡ text → length lines ≤ length text
    go [] some are e = absurd (some refl)
    go (b ∷ bs) some are e = (
        let f = feeds front in
        let count = ap length are ∙ length-append front ((b ∷ bs) ∷ []) in
        let size = sym (ap length e) ∙ length-append (joined front) (b ∷ bs) in
        omega (arith, f, count, size)
        )

-- each text has orders or a first wrong line
pub some_orders : (names : List (List ℕ)) (text : List ℕ) → IsNames names → HasOrders names text ⊎ ((refusal : Refusal) × IsFirstWrong text refusal)
some_orders names text h = go (some_wrong text)
  where
    go : MayAllStand text ⊎ ((refusal : Refusal) × IsFirstWrong text refusal) → HasOrders names text ⊎ ((refusal : Refusal) × IsFirstWrong text refusal)
    go (inr w) = inr w
    go (inl m) = inl (by (ordered_behind names names [] m.lines [] (adds_none 0 names) h says_nothing m.may))
      where
        by : AllOrdered names m.lines → HasOrders names text
        by o = record {
          later = o.later;
          added = adds_more (length m.lines) (length text) names o.later (lines_few m.lines text m.text_is) o.added;
          are = o.are;
          orders = o.orders;
          ordered = record { lines = m.lines; apart = m.apart; text_is = m.text_is; say = o.say };
        }
