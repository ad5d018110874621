-- Lines of a script.
use Rattle.std.proofs.Common.{ℕ, zero, suc, ◌≡◌, ◌≢◌, ◌≤◌, ◌<◌, ◌+◌, ◌-◌, ◌⊎◌, inl, inr, Bool, true, false, List, [], ◌∷◌, ◌++◌, Option, Some, None, codes, length, take, drop, get_or, refl, sym, ap, subst, ◌∙◌, arith, ◌==◌}
use Rattle.std.specs.Prelude.{All, not, slice_index_or}
use Rattle.std.specs.List.{AllByRecursion, list_all}
use Rattle.std.proofs.lemmas.List.Elements.{All-from_recursion}
use Rattle.std.proofs.lemmas.List.{append_cancel_left, drop-drop, get_or_append_left, length-append, length-drop, take-append-drop, take_all, take_rest}
use Rattle.std.proofs.lemmas.Option.{same_Some}
use Rattle.lmn_base.proofs.Lists.{all_append, head_is}
use Rattle.lmn_base.proofs.Numbers.{unequal_when}
use Rattle.lmn_base.proofs.Truth.{and_true, not_true}
use Rattle.lmn_base.specs.Names.{label_names}
use Rattle.lmn_base.specs.declared.functor.Functor.{Functor}
use Rattle.lmn_base.specs.declared.functor.Label.{Label}
use Rattle.lmn_base.specs.declared.functor.Label.TheVariants.{Int, Name}
use Rattle.lmn_base.specs.declared.guard.Cmp.{Cmp}
use Rattle.lmn_base.specs.declared.guard.Cmp.TheVariants.{Eq, Ge, Gt, Le, Lt, Ne}
use Rattle.lmn_base.specs.declared.refusal.Refusal.{Refusal}
use Rattle.lmn_instr_reading.proofs.NameLemmas.{adds_both, adds_more, adds_none, functor_stays}
use Rattle.lmn_instr_reading.specs.Reading.{AddsNames, IsFunctorText, IsLabelText}
use Rattle.lmn_instr_code.specs.Labels.{HasLabel, listed_label_text}
use Rattle.lmn_instr_code.specs.Listings.{functor_text}
use Rattle.lmn_lexer.specs.Gaps.{EndsLine}
use Rattle.lmn_instr_reading.proofs.LineLemmas.{joined_more, last_split, no_space_within, taken_more}
use Rattle.lmn_instr_reading.proofs.NumberLemmas.{digits_of, no_space, small_number}
use Rattle.lmn_instr_reading.specs.Lines.{HasNoSpace, IsOneLine, joined, number_written}
use Rattle.lmn_debug_script.specs.Asked.{AreAskedWith, IsAskedWith}
use Rattle.lmn_debug_script.specs.Lines.{Reads, TakesLine}
use Rattle.lmn_debug_script.specs.Scripts.{AreLines, AreOrdersOf, HasForm, IsFirstWrong, IsCountedOrder, IsOrder, IsUntil, IsWritable, MayStand, Says, an_empty_line, cmp_text, of_back, of_show, of_step, of_until, one_order, says_nothing}
use Rattle.lmn_debug_script.specs.declared.order.Order.{Order}
use Rattle.lmn_debug_script.specs.declared.order.Order.TheVariants.{Back, Show, Step, Until}

-- ---- the parts of a line

-- a byte doesn't stand in a text that is written out without it
pub without : (x : ℕ) (bytes : List ℕ) → list_all (λ b. not (b == x)) bytes ≡ true → AllByRecursion (λ b. b ≢ x) bytes
without x [] h = tt
without x (b ∷ bs) h =
    let a = and_true (not (b == x)) (list_all (λ b. not (b == x)) bs) h in
    ((λ e. other b e (not_true (b == x) a.0)), without x bs a.1)
  where
    other : (b : ℕ) → b ≡ x → (b == x) ≡ false → ⊥
    other b e k = unequal_when b x k e

spaceless : (bytes : List ℕ) → list_all (λ b. not (b == 32)) bytes ≡ true → HasNoSpace bytes
spaceless bytes h = without 32 bytes h

-- no operator has a space in it
pub operator_spaceless : (op : Cmp) → HasNoSpace (cmp_text op)
operator_spaceless Lt = spaceless (codes "<") refl
operator_spaceless Le = spaceless (codes "=<") refl
operator_spaceless Gt = spaceless (codes ">") refl
operator_spaceless Ge = spaceless (codes ">=") refl
operator_spaceless Eq = spaceless (codes "=:=") refl
operator_spaceless Ne = spaceless (codes "=\\=") refl

digits_spaceless : (front line : List ℕ) (n : ℕ) (w : IsCountedOrder front line n) → HasNoSpace w.digits
digits_spaceless front line n w = no_space w.digits (digits_of w.digits n w.number).0

-- what stands in front of the number of a line, and the number, are known by the line
pub numbered_once : (front other line : List ℕ) (m n : ℕ) → IsCountedOrder front line m → IsCountedOrder other line n → (front ≡ other) × (m ≡ n)
numbered_once front other line m n v w =
    let r = last_split front v.digits other w.digits (digits_spaceless front line m v) (digits_spaceless other line n w) (sym v.is ∙ w.is) in
    (r.0, same_Some m n (sym v.number ∙ ap number_written r.1 ∙ w.number))

-- so are what stands for a functor, and the operator
pub until_once : (item other : List ℕ) (op or : Cmp) → item ++ (32 ∷ cmp_text op) ≡ other ++ (32 ∷ cmp_text or) → (item ≡ other) × (cmp_text op ≡ cmp_text or)
until_once item other op or e = last_split item (cmp_text op) other (cmp_text or) (operator_spaceless op) (operator_spaceless or) e

-- a line with a number isn't `show`
pub numbered_no_show : (front line : List ℕ) (n : ℕ) → IsCountedOrder front line n → line ≡ codes "show" → ⊥
numbered_no_show front line n w e = no_space_within front w.digits (subst HasNoSpace (sym e ∙ w.is) (spaceless (codes "show") refl))

heads_differ : (x y : ℕ) (xs ys : List ℕ) → x ≢ y → x ∷ xs ≡ y ∷ ys → ⊥
heads_differ x y xs ys d e = d (head_is e)

-- no two words in front are one
pub step_no_back : codes "step" ≡ codes "back" → ⊥
step_no_back = heads_differ 115 98 (codes "tep") (codes "ack") (λ e. omega (arith, e))

pub until_no_step : (rest : List ℕ) → codes "until " ++ rest ≡ codes "step" → ⊥
until_no_step rest = heads_differ 117 115 (codes "ntil " ++ rest) (codes "tep") (λ e. omega (arith, e))

pub until_no_back : (rest : List ℕ) → codes "until " ++ rest ≡ codes "back" → ⊥
until_no_back rest = heads_differ 117 98 (codes "ntil " ++ rest) (codes "ack") (λ e. omega (arith, e))

-- What stands in front of the number of a line that has the form of an order.
pub data FrontForm (front : List ℕ) (n : ℕ) : Type 0 where
  step_front : front ≡ codes "step" → 1 ≤ n → FrontForm front n
  back_front : front ≡ codes "back" → 1 ≤ n → FrontForm front n
  until_front : (item : List ℕ) (op : Cmp) → front ≡ codes "until " ++ (item ++ (32 ∷ cmp_text op)) → IsFunctorText item → FrontForm front n

-- a line has one of these
pub front_form : (front line : List ℕ) (n : ℕ) → IsCountedOrder front line n → HasForm line → FrontForm front n
front_form front line n w (of_step {n = m} v l) = let r = numbered_once front (codes "step") line n m w v in step_front r.0 (subst (λ k. 1 ≤ k) (sym r.1) l)
front_form front line n w (of_back {n = m} v l) = let r = numbered_once front (codes "back") line n m w v in back_front r.0 (subst (λ k. 1 ≤ k) (sym r.1) l)
front_form front line n w (of_until {item = item} {op = op} {n = m} u f) = until_front item op ((numbered_once front u.front line n m w u.numbered).0 ∙ u.is) f
front_form front line n w (of_show e) = absurd (numbered_no_show front line n w e)

-- a line whose number stands behind something else
pub front_unknown : (front line : List ℕ) (n : ℕ) → front ≢ codes "step" → front ≢ codes "back" → ((rest : List ℕ) → front ≢ codes "until " ++ rest) → IsCountedOrder front line n → HasForm line → ⊥
front_unknown front line n s b u w h = go (front_form front line n w h)
  where
    go : FrontForm front n → ⊥
    go (step_front e l) = s e
    go (back_front e l) = b e
    go (until_front item op e f) = u (item ++ (32 ∷ cmp_text op)) e

-- what stands behind `until ` in front of that number
pub wish_form : (wish line : List ℕ) (n : ℕ) → IsCountedOrder (codes "until " ++ wish) line n → HasForm line → (item : List ℕ) × (op : Cmp) × (wish ≡ item ++ (32 ∷ cmp_text op)) × IsFunctorText item
wish_form wish line n w h = go (front_form (codes "until " ++ wish) line n w h)
  where
    go : FrontForm (codes "until " ++ wish) n → (item : List ℕ) × (op : Cmp) × (wish ≡ item ++ (32 ∷ cmp_text op)) × IsFunctorText item
    go (step_front e l) = absurd (until_no_step wish e)
    go (back_front e l) = absurd (until_no_back wish e)
    go (until_front item op e f) = (item, op, append_cancel_left (codes "until ") wish (item ++ (32 ∷ cmp_text op)) e, f)

-- a wish without a space is none
pub wish_unsplit : (wish line : List ℕ) (n : ℕ) → HasNoSpace wish → IsCountedOrder (codes "until " ++ wish) line n → HasForm line → ⊥
wish_unsplit wish line n none w h = let p = wish_form wish line n w h in no_space_within p.0 (cmp_text p.1) (subst HasNoSpace p.2 none)

-- one with a space is split there
pub wish_parts : (wish line u v : List ℕ) (n : ℕ) → wish ≡ u ++ 32 ∷ v → HasNoSpace v → IsCountedOrder (codes "until " ++ wish) line n → HasForm line → (op : Cmp) × (cmp_text op ≡ v) × IsFunctorText u
wish_parts wish line u v n e none w h =
    let p = wish_form wish line n w h in
    let r = last_split p.0 (cmp_text p.1) u v (operator_spaceless p.1) none (sym p.2 ∙ e) in
    (p.1, r.1, subst IsFunctorText r.0 p.3)

-- a line that isn't `show` has a number behind its last space
pub line_unnumbered : (line u v : List ℕ) → line ≡ u ++ 32 ∷ v → HasNoSpace v → number_written v ≡ None → (line ≡ codes "show" → ⊥) → HasForm line → ⊥
line_unnumbered line u v e none unwritten s h = go h
  where
    numbered : (front : List ℕ) (n : ℕ) → IsCountedOrder front line n → ⊥
    numbered front n w =
        let r = last_split front w.digits u v (digits_spaceless front line n w) none (sym w.is ∙ e) in
        let z : Some n ≡ None = sym w.number ∙ ap number_written r.1 ∙ unwritten in
        absurd (cc)

    go : HasForm line → ⊥
    go (of_step {n = n} w k) = numbered (codes "step") n w
    go (of_back {n = n} w k) = numbered (codes "back") n w
    go (of_until {n = n} w f) = numbered w.front n w.numbered
    go (of_show k) = s k

-- so it has a space
pub line_unsplit : (line : List ℕ) → HasNoSpace line → (line ≡ codes "show" → ⊥) → HasForm line → ⊥
line_unsplit line none s h = go h
  where
    numbered : (front : List ℕ) (n : ℕ) → IsCountedOrder front line n → ⊥
    numbered front n w = no_space_within front w.digits (subst HasNoSpace w.is none)

    go : HasForm line → ⊥
    go (of_step {n = n} w k) = numbered (codes "step") n w
    go (of_back {n = n} w k) = numbered (codes "back") n w
    go (of_until {n = n} w f) = numbered w.front n w.numbered
    go (of_show k) = s k

-- a line that is none may not stand, unless it is empty
pub line_wrong : (names : List (List ℕ)) (line : List ℕ) (found : Option Order) (empty : Bool) → found ≡ None → Reads names line found → empty ≡ (length line == 0) → empty ≡ false → MayStand line → ⊥
line_wrong names line found empty e r is some (inl z) = absurd (let yes : empty ≡ true = is ∙ ap (λ l. length l == 0) z in cc)
line_wrong names line found empty e r is some (inr f) = subst (Reads names line) e r f

-- ---- orders have the form of orders

-- what is written of a functor that can be written
pub functor_written : (names : List (List ℕ)) (f : Functor) → IsWritable names f.label → f.arity ≤ 255 → IsFunctorText (functor_text names f)
functor_written names f w l = (listed_label_text names f.label, f.arity, label f.label w, l, refl)
  where
    label : (x : Label) → IsWritable names x → IsLabelText (listed_label_text names x)
    label (Name k) w = inl (slice_index_or names k [], w.1, refl)
    label (Int z) w = inr (z, w, refl)

-- an order has the form of one
pub order_form : (names : List (List ℕ)) (line : List ℕ) (order : Order) → IsOrder names line order → HasForm line
order_form names line (Step n) o = of_step o.0 o.1
order_form names line (Back n) o = of_back o.0 o.1
order_form names line (Until f op n) o = of_until o.0 (functor_written names f o.1 o.2)
order_form names line Show o = of_show o

-- lines that order something may stand
pub says_may : (names : List (List ℕ)) {lines : List (List ℕ)} {orders : List Order} → Says names lines orders → AllByRecursion MayStand lines
says_may names says_nothing = tt
says_may names (an_empty_line {lines = lines} s) = all_append MayStand lines ([] ∷ []) (says_may names s) (inl refl, tt)
says_may names (one_order {lines = lines} line order s o) = all_append MayStand lines (line ∷ []) (says_may names s) (inr (order_form names line order o), tt)

-- each orders one thing at most
pub says_few : (names : List (List ℕ)) {lines : List (List ℕ)} {orders : List Order} → Says names lines orders → length orders ≤ length lines
says_few names says_nothing = omega arith
says_few names (an_empty_line {lines = lines} s) = let l = says_few names s in let size = length-append lines ([] ∷ []) in omega (arith, l, size)
says_few names (one_order {lines = lines} {orders = orders} line order s o) =
    let l = says_few names s in
    let size = length-append lines (line ∷ []) in
    let more = length-append orders (order ∷ []) in
    omega (arith, l, size, more)

-- ---- what is asked

order_asked : (names : List (List ℕ)) (line : List ℕ) (order : Order) → IsOrder names line order → IsAskedWith names order
order_asked names line (Step n) o = small_number (o.0).digits n (o.0).number
order_asked names line (Back n) o = tt
order_asked names line (Until f op n) o = named f.label o.1
  where
    named : (x : Label) → IsWritable names x → All (λ k. k < length names) (label_names x)
    named (Name k) w = All-from_recursion (λ k. k < length names) (k ∷ []) (w.0, tt)
    named (Int z) w = All-from_recursion (λ k. k < length names) [] tt
order_asked names line Show o = tt

-- what lines order is asked for with the names by which they are read
pub says_asked : (names : List (List ℕ)) {lines : List (List ℕ)} {orders : List Order} → Says names lines orders → AllByRecursion (IsAskedWith names) orders
says_asked names says_nothing = tt
says_asked names (an_empty_line s) = says_asked names s
says_asked names (one_order {orders = orders} line order s o) = all_append (IsAskedWith names) orders (order ∷ []) (says_asked names s) (order_asked names line order o, tt)

-- orders that were read are asked for with the names by which they were read
pub orders_asked : (names : List (List ℕ)) (lines : List (List ℕ)) (orders : List Order) → Says names lines orders → AreAskedWith names orders
orders_asked names lines orders s = All-from_recursion (IsAskedWith names) orders (says_asked names s)

-- ---- names that are put

writable_stays : (k : ℕ) (names later : List (List ℕ)) (x : Label) → AddsNames k names later → IsWritable names x → IsWritable later x
writable_stays k names later (Name n) a w =
    let size = ap length a.are in
    let two = length-append names a.more in
    let same : slice_index_or later n [] ≡ slice_index_or names n [] = ap (λ ns. get_or ns n []) a.are ∙ get_or_append_left names a.more [] n w.0 in
    (omega (arith, size, two, w.0), subst (λ t. length t ≤ 255) (sym same) w.1)
writable_stays k names later (Int z) a w = w

writable_has : (names : List (List ℕ)) (x : Label) → IsWritable names x → HasLabel names x
writable_has names (Name n) w = w.0
writable_has names (Int z) w = tt

order_stays : (k : ℕ) (names later : List (List ℕ)) (line : List ℕ) (order : Order) → AddsNames k names later → IsOrder names line order → IsOrder later line order
order_stays k names later line (Step n) a o = o
order_stays k names later line (Back n) a o = o
order_stays k names later line (Until f op n) a o =
    (subst (λ t. IsUntil line t op n) (sym (functor_stays k names later f (writable_has names f.label o.1) a)) o.0, writable_stays k names later f.label a o.1, o.2)
order_stays k names later line Show a o = o

-- what lines order by some names they order by more names too
pub says_stays : (k : ℕ) (names later : List (List ℕ)) {lines : List (List ℕ)} {orders : List Order} → AddsNames k names later → Says names lines orders → Says later lines orders
says_stays k names later a says_nothing = says_nothing
says_stays k names later a (an_empty_line s) = an_empty_line (says_stays k names later a s)
says_stays k names later a (one_order line order s o) = one_order line order (says_stays k names later a s) (order_stays k names later line order a o)

-- ---- reading

-- The bytes up to a place are lines, the last one of which may lack its line feed, and these are their orders.
pub record Reached (before names : List (List ℕ)) (text : List ℕ) (at number : ℕ) (orders : List Order) : Type 0 where
  pub lines : List (List ℕ)
  pub apart : AllByRecursion IsOneLine lines
  pub front : ((at ≤ length text) × (joined lines ≡ take at text)) ⊎ ((at ≡ length text + 1) × AreLines lines text)
  pub say : Says names lines orders
  pub number_is : number ≡ length lines + 1
  pub few : length lines ≤ at
  pub within : length lines ≤ length text
  pub added : AddsNames (length lines) before names

-- at the start no line is read
pub reached_start : (names : List (List ℕ)) (text : List ℕ) (orders : List Order) → orders ≡ [] → Reached names names text 0 1 orders
reached_start names text orders e = record {
  lines = [];
  apart = tt;
  front = inl (omega arith, refl);
  say = subst (Says names []) (sym e) says_nothing;
  number_is = refl;
  few = omega arith;
  within = omega arith;
  added = adds_none 0 names;
}

-- while a place lies in the text, whole lines lead to it
front_lines : (before names : List (List ℕ)) (text : List ℕ) (at number : ℕ) (orders : List Order) (r : Reached before names text at number orders) → at < length text → joined r.lines ≡ take at text
front_lines before names text at number orders r l = go r.front
  where
    go : ((at ≤ length text) × (joined r.lines ≡ take at text)) ⊎ ((at ≡ length text + 1) × AreLines r.lines text) → joined r.lines ≡ take at text
    go (inl f) = f.1
    go (inr f) = absurd (omega (arith, f.0, l))

-- what is left at a place
left_at : (text : List ℕ) (at end : ℕ) → at ≤ end → take at text ++ (take (end - at) (drop at text) ++ drop end text) ≡ text
left_at text at end h =
    let e : at + (end - at) ≡ end = omega arith in
    ap (λ n. take at text ++ (take (end - at) (drop at text) ++ drop n text)) (sym e)
    ∙ ap (λ t. take at text ++ (take (end - at) (drop at text) ++ t)) (sym (drop-drop (end - at) at text))
    ∙ ap (λ t. take at text ++ t) (take-append-drop (end - at) (drop at text)) ∙ take-append-drop at text

-- a line ends at the end of the text or at a line feed
line_ends : (text : List ℕ) (end : ℕ) → end ≤ length text → EndsLine (drop end text) → (end ≡ length text) ⊎ ((end < length text) × (get_or text end 0 ≡ 10))
line_ends [] zero h e = inl refl
line_ends [] (suc end) h e = absurd (omega (arith, h))
line_ends (x ∷ text) zero h e = inr (omega arith, e)
line_ends (x ∷ text) (suc end) h e = go (line_ends text end (omega (arith, h)) e)
  where
    go : (end ≡ length text) ⊎ ((end < length text) × (get_or text end 0 ≡ 10)) → (suc end ≡ length (x ∷ text)) ⊎ ((suc end < length (x ∷ text)) × (get_or (x ∷ text) (suc end) 0 ≡ 10))
    go (inl same) = inl (omega (arith, same))
    go (inr (l, feed)) = inr (omega (arith, l), feed)

-- a line more
pub reached_more : (before names later : List (List ℕ)) (text : List ℕ) (at number end : ℕ) (old new : List Order) → Reached before names text at number old → at < length text → at ≤ end → end ≤ length text
    → IsOneLine (take (end - at) (drop at text)) → EndsLine (drop end text) → AddsNames 1 names later → (b : Bool) → b ≡ true → TakesLine later (take (end - at) (drop at text)) old new b → Reached before later text (end + 1) (number + 1) new
reached_more before names later text at number end old new r inside h l one ends a false is t = absurd (cc)
reached_more before names later text at number end old new r inside h l one ends a true is t = record {
  lines = r.lines ++ line ∷ [];
  apart = all_append IsOneLine r.lines (line ∷ []) r.apart (one, tt);
  front = front (line_ends text end l ends);
  say = say t;
  number_is = (let n = r.number_is in omega (arith, n, size));
  few = (let f = r.few in omega (arith, f, size, h));
  within = (let f = r.few in omega (arith, f, size, inside));
  added = adds_more (length r.lines + 1) (length (r.lines ++ line ∷ [])) before later (omega (arith, size)) (adds_both (length r.lines) 1 before names later r.added a);
}
  where
    line : List ℕ
    line = take (end - at) (drop at text)

    size : length (r.lines ++ line ∷ []) ≡ length r.lines + 1
    size = length-append r.lines (line ∷ [])

    first : joined r.lines ≡ take at text
    first = front_lines before names text at number old r inside

    some : end ≡ length text → take (end - at) (drop at text) ≢ []
    some e z = (
        let whole : take (end - at) (drop at text) ≡ drop at text = ap (λ n. take (n - at) (drop at text)) e ∙ take_rest text at in
        let size = length-drop at text in
        let none : length (drop at text) ≡ 0 = ap length (sym whole ∙ z) in
        omega (arith, size, none, inside)
        )

    front : (end ≡ length text) ⊎ ((end < length text) × (get_or text end 0 ≡ 10))
        → ((end + 1 ≤ length text) × (joined (r.lines ++ take (end - at) (drop at text) ∷ []) ≡ take (end + 1) text)) ⊎ ((end + 1 ≡ length text + 1) × AreLines (r.lines ++ take (end - at) (drop at text) ∷ []) text)
    front (inl e) =
        inr (
          omega (arith, e),
          inr (
            r.lines,
            take (end - at) (drop at text),
            refl,
            some e,
            ap (λ t. t ++ take (end - at) (drop at text)) first ∙ ap (λ t. take at text ++ t) (ap (λ n. take (n - at) (drop at text)) e ∙ take_rest text at) ∙ take-append-drop at text,
          ),
        )
    front (inr (k, feed)) = inl (omega (arith, k), joined_more r.lines (take (end - at) (drop at text)) ∙ ap (λ u. u ++ (take (end - at) (drop at text) ++ 10 ∷ [])) first ∙ sym (taken_more text at end h k feed))

    before_it : Says later r.lines old
    before_it = says_stays 1 names later a r.say

    say : ((take (end - at) (drop at text) ≡ []) × (new ≡ old)) ⊎ ((order : Order) × IsOrder later (take (end - at) (drop at text)) order × (new ≡ old ++ order ∷ []))
        → Says later (r.lines ++ take (end - at) (drop at text) ∷ []) new
    say (inl (e, same)) =
        subst (λ x. Says later (r.lines ++ x ∷ []) new) (sym e) (subst (Says later (r.lines ++ [] ∷ [])) (sym same) (an_empty_line before_it))
    say (inr (order, o, same)) =
        subst (Says later (r.lines ++ take (end - at) (drop at text) ∷ [])) (sym same) (one_order (take (end - at) (drop at text)) order before_it o)

-- a line that may not stand is the first that is wrong
pub reached_wrong : (before names later : List (List ℕ)) (text : List ℕ) (at number end : ℕ) (old new : List Order) (refusal : Refusal) → Reached before names text at number old → at < length text → at ≤ end → end ≤ length text
    → IsOneLine (take (end - at) (drop at text)) → EndsLine (drop end text) → (b : Bool) → b ≡ false → TakesLine later (take (end - at) (drop at text)) old new b → refusal ≡ record { code = 71; pos = record { line = number; column = 1 } } → IsFirstWrong text refusal
reached_wrong before names later text at number end old new refusal r inside h l one ends true is t f = absurd (cc)
reached_wrong before names later text at number end old new refusal r inside h l one ends false is t f = record {
  lines = r.lines;
  apart = r.apart;
  may = says_may names r.say;
  line = take (end - at) (drop at text);
  rest = drop end text;
  one = one;
  ends = ends;
  text_is = ap (λ u. u ++ (take (end - at) (drop at text) ++ drop end text)) (front_lines before names text at number old r inside) ∙ left_at text at end h;
  wrong = t;
  refused = f ∙ ap (λ n. record { code = 71; pos = record { line = n; column = 1 } }) r.number_is;
}

-- where all is read, these are the orders
pub reached_all : (before names : List (List ℕ)) (text : List ℕ) (at number : ℕ) (orders : List Order) → Reached before names text at number orders → length text ≤ at → AreOrdersOf names text orders
reached_all before names text at number orders r l = record { lines = r.lines; apart = r.apart; text_is = go r.front; say = r.say }
  where
    go : ((at ≤ length text) × (joined r.lines ≡ take at text)) ⊎ ((at ≡ length text + 1) × AreLines r.lines text) → AreLines r.lines text
    go (inl f) = inl (f.1 ∙ take_all at text l)
    go (inr f) = f.1

-- there are no more orders than bytes
pub reached_few : (before names : List (List ℕ)) (text : List ℕ) (at number : ℕ) (orders : List Order) → Reached before names text at number orders → length orders ≤ length text
reached_few before names text at number orders r = let s = says_few names r.say in let w = r.within in omega (arith, s, w)

-- and each is asked for with the names
pub reached_asked : (before names : List (List ℕ)) (text : List ℕ) (at number : ℕ) (orders : List Order) → Reached before names text at number orders → AreAskedWith names orders
reached_asked before names text at number orders r = orders_asked names r.lines orders r.say
