-- A text tells the same by every list of names, or is wrong at the same line.
use Rattle.std.proofs.Common.{ℕ, ◌≡◌, ◌≢◌, ◌<◌, ◌≤◌, ◌+◌, ◌⊎◌, inl, inr, Bool, true, false, List, [], ◌∷◌, ◌++◌, AllPairs, codes, length, map, refl, sym, ap, subst, ◌∙◌, arith, if◌then◌else◌}
use Rattle.std.specs.Prelude.{bytes_eq, ◌||◌}
use Rattle.std.specs.List.{AllByRecursion, list_any}
use Rattle.std.proofs.lemmas.Bool.{cases_lt}
use Rattle.std.proofs.lemmas.List.{append-nil, append_assoc, length-append, same_from_push}
use Rattle.std.proofs.lemmas.Option.{same_Some}
use Rattle.std.proofs.lemmas.Slice.Eq.{bytes_eq-Decides}
use Rattle.lmn_base.proofs.Lists.{all_append, all_right, head_is, map_append, none_is_not, tail_is, two_empty}
use Rattle.lmn_base.specs.declared.functor.Functor.{Functor}
use Rattle.lmn_base.specs.declared.refusal.Refusal.{Refusal}
use Rattle.lmn_instr_reading.proofs.NameLemmas.{functor_stays}
use Rattle.lmn_instr_reading.proofs.QuotedLemmas.{no_functor}
use Rattle.lmn_instr_reading.specs.Reading.{HasNoSlash}
use Rattle.lmn_store_heap.proofs.WithFunctor.{functor_is, functor_same}
use Rattle.lmn_store_heap.specs.Functors.{same_functor}
use Rattle.lmn_instr_code.specs.Labels.{HasLabel, listed_label_text}
use Rattle.lmn_instr_code.specs.Listings.{functor_text}
use Rattle.lmn_instr_reading.proofs.LineLemmas.{last_split}
use Rattle.lmn_instr_reading.proofs.NumberLemmas.{digits_of, no_space}
use Rattle.lmn_instr_reading.specs.Lines.{IsOneLine, joined, number_written}
use Rattle.lmn_weight.proofs.FunctorTexts.{may_be_named, one_functor, text_before, text_stays}
use Rattle.lmn_weight.specs.declared.told.Told.{Told}
use Rattle.lmn_weight.specs.declared.weights.Weights.{Weights}
use Rattle.lmn_weight.specs.Lines.{AreWeightsOf, HasText, IsFirstWrongWeightLine, IsNamed, IsTold, IsWeightLine, IsWrongWeightLine, MayBeNamed, Tell, integers, is_listed, line_more, membranes, no_line, of_functor, or_nothing}
use Rattle.lmn_weight.specs.OneReading.{AreAlike, OneTelling, OneWrongLine, StandsBehind, ToldNotWrong}
use Rattle.lmn_weight.specs.Plains.{is_integer, listed_weight}
use Rattle.lmn_instr_reading.proofs.LinesCommon.{feed_within as no_feed_within, joined_first as first_joined}
use Rattle.lmn_base.specs.Solids.{is_connector}

-- ---- lines

-- a line ends at its first line feed in one way
one_line : (l m u v : List ℕ) → IsOneLine l → IsOneLine m → l ++ 10 ∷ u ≡ m ++ 10 ∷ v → (l ≡ m) × (u ≡ v)
one_line [] [] u v h k e = (refl, tail_is e)
one_line [] (y ∷ m) u v h k e = absurd (k.0 (sym (head_is e)))
one_line (x ∷ l) [] u v h k e = absurd (h.0 (head_is e))
one_line (x ∷ l) (y ∷ m) u v h k e =
    let r = one_line l m u v h.1 k.1 (tail_is e) in
    (λ i. head_is e i ∷ r.0 i, r.1)

-- lines at the front of a text are the first of at least as many others
front_lines : (xs ys : List (List ℕ)) (u v : List ℕ) → AllByRecursion IsOneLine xs → AllByRecursion IsOneLine ys → joined xs ++ u ≡ joined ys ++ v → length xs ≤ length ys
    → (zs : List (List ℕ)) × (ys ≡ xs ++ zs) × (u ≡ joined zs ++ v)
front_lines [] ys u v h k e l = (ys, refl, e)
front_lines (x ∷ xs) [] u v h k e l = absurd (omega (arith, l))
front_lines (x ∷ xs) (y ∷ ys) u v h k e l =
    let one = one_line x y (joined xs ++ u) (joined ys ++ v) h.0 k.0 (sym (first_joined x xs u) ∙ e ∙ first_joined y ys v) in
    let same = sym one.0 in
    let r = front_lines xs ys u v h.1 k.1 one.1 (omega (arith, l)) in
    (r.0, (λ i. same i ∷ r.1 i), r.2)

-- a text is that of one list of lines
same_lines : (xs ys : List (List ℕ)) → AllByRecursion IsOneLine xs → AllByRecursion IsOneLine ys → joined xs ++ [] ≡ joined ys ++ [] → xs ≡ ys
same_lines [] [] h k e = refl
same_lines [] (y ∷ ys) h k e = absurd (let z = (two_empty y (10 ∷ (joined ys ++ [])) (sym (e ∙ first_joined y ys []))).1 in cc)
same_lines (x ∷ xs) [] h k e = absurd (let z = (two_empty x (10 ∷ (joined xs ++ [])) (sym (first_joined x xs []) ∙ e)).1 in cc)
same_lines (x ∷ xs) (y ∷ ys) h k e =
    let one = one_line x y (joined xs ++ []) (joined ys ++ []) h.0 k.0 (sym (first_joined x xs []) ∙ e ∙ first_joined y ys []) in
    let r = same_lines xs ys h.1 k.1 one.1 in
    λ i. one.0 i ∷ r i

none_at_end : {A : Type 0} (xs : List A) (x : A) (ys : List A) → [] ≡ xs ++ x ∷ ys → ⊥
none_at_end xs x ys e = let n = ap length e in let s = length-append xs (x ∷ ys) in omega (arith, n, s)

-- a list with an item has a last one
last_of : {A : Type 0} (x : A) (xs : List A) → (front : List A) × (last : A) × (x ∷ xs ≡ front ++ last ∷ [])
last_of x [] = ([], x, refl)
last_of x (y ∷ ys) = let r = last_of y ys in (x ∷ r.0, r.1, ap (λ zs. x ∷ zs) r.2)

-- ---- what a line names

-- a line says one thing
pub one_saying : (line item other : List ℕ) (m n : ℕ) → IsWeightLine line item m → IsWeightLine line other n → (item ≡ other) × (m ≡ n)
one_saying line item other m n v w =
    let r = last_split item v.digits other w.digits (no_space v.digits (digits_of v.digits m v.number).0) (no_space w.digits (digits_of w.digits n w.number).0) (sym v.is ∙ w.is) in
    (r.0, same_Some m n (sym v.number ∙ ap number_written r.1 ∙ w.number))

-- a number below another is another
pub differ : (m n : ℕ) → m < n → n ≢ m
differ m n l e = omega (arith, l, e)

-- two words have no slash
pub int_slashless : HasNoSlash (codes "int")
int_slashless = (differ 47 105 (omega arith), (differ 47 110 (omega arith), (differ 47 116 (omega arith), tt)))

pub braces_slashless : HasNoSlash (codes "{}")
braces_slashless = (differ 47 123 (omega arith), (differ 47 125 (omega arith), tt))

-- a functor is no word without a slash
no_word : (names : List (List ℕ)) (f : Functor) (item word : List ℕ) → HasNoSlash word → functor_text names f ≡ item → item ≡ word → ⊥
no_word names f item word h e w = no_functor word (listed_label_text names f.label) f.arity h (e ∙ w)

two_words : (item : List ℕ) → item ≡ codes "int" → item ≡ codes "{}" → ⊥
two_words item e h = let n = ap length (sym e ∙ h) in omega (arith, n)

-- what is told may be named
told_may : (names : List (List ℕ)) (item : List ℕ) (n : ℕ) (t u : Told) → IsTold names item n t u → MayBeNamed item
told_may names item n t u (integers e o s) = inl e
told_may names item n t u (membranes e o s) = inr (inl e)
told_may names item n t u (of_functor f e has i o s) = may_be_named names f item has i e

-- each functor that is told has a text
told_texts : (names : List (List ℕ)) {lines : List (List ℕ)} {t : Told} → Tell names lines t → AllByRecursion (HasText names) t.functors
told_texts names (no_line e) = subst (λ (x : Told). AllByRecursion (HasText names) x.functors) (sym e) tt
told_texts names (line_more {n = n} {old = old} l w i) = go i (told_texts names l)
  where
    go : {item : List ℕ} {new : Told} → IsTold names item n old new → AllByRecursion (HasText names) old.functors → AllByRecursion (HasText names) new.functors
    go (integers e o s) h = subst (λ (x : Told). AllByRecursion (HasText names) x.functors) (sym s) h
    go (membranes e o s) h = subst (λ (x : Told). AllByRecursion (HasText names) x.functors) (sym s) h
    go (of_functor f e has i o s) h = subst (λ (x : Told). AllByRecursion (HasText names) x.functors) (sym s) (all_append (HasText names) old.functors (f ∷ []) h (has, tt))

-- ---- what is told by two lists

record ToldAlike (names others : List (List ℕ)) (t u : Told) : Type 0 where
  texts : map (functor_text names) t.functors ≡ map (functor_text others) u.functors
  values : t.values ≡ u.values
  int : t.int ≡ u.int
  membrane : t.membrane ≡ u.membrane

module _ (names others : List (List ℕ)) where
  alike_at : {t u x y : Told} → t ≡ x → u ≡ y → ToldAlike names others x y → ToldAlike names others t u
  alike_at {t} {u} {x} {y} e h a = subst (λ z. ToldAlike names others z u) (sym e) (subst (λ z. ToldAlike names others x z) (sym h) a)

  -- a line more tells the same
  told_more : (item : List ℕ) (n : ℕ) (t t' u u' : Told) → ToldAlike names others t u → IsTold names item n t t' → IsTold others item n u u' → ToldAlike names others t' u'
  told_more item n t t' u u' a (integers e o s) (integers f p r) = alike_at s r (record { texts = a.texts; values = a.values; int = refl; membrane = a.membrane })
  told_more item n t t' u u' a (integers e o s) (membranes f p r) = absurd (two_words item e f)
  told_more item n t t' u u' a (integers e o s) (of_functor g f has i p r) = absurd (no_word others g item _ int_slashless f e)
  told_more item n t t' u u' a (membranes e o s) (integers f p r) = absurd (two_words item f e)
  told_more item n t t' u u' a (membranes e o s) (membranes f p r) = alike_at s r (record { texts = a.texts; values = a.values; int = a.int; membrane = refl })
  told_more item n t t' u u' a (membranes e o s) (of_functor g f has i p r) = absurd (no_word others g item _ braces_slashless f e)
  told_more item n t t' u u' a (of_functor f e has i o s) (integers h p r) = absurd (no_word names f item _ int_slashless e h)
  told_more item n t t' u u' a (of_functor f e has i o s) (membranes h p r) = absurd (no_word names f item _ braces_slashless e h)
  told_more item n t t' u u' a (of_functor f e has i o s) (of_functor g h also j p r) =
      let same = e ∙ sym h in
      alike_at s r (record {
        texts = map_append (functor_text names) t.functors (f ∷ []) ∙ (λ i. a.texts i ++ same i ∷ []) ∙ sym (map_append (functor_text others) u.functors (g ∷ []));
        values = ap (λ vs. vs ++ n ∷ []) a.values;
        int = a.int;
        membrane = a.membrane;
      })

  -- lines tell the same
  tells_alike : {ls ms : List (List ℕ)} {t u : Told} → ls ≡ ms → Tell names ls t → Tell others ms u → ToldAlike names others t u
  tells_alike e (no_line s) (no_line r) = alike_at s r (record { texts = refl; values = refl; int = refl; membrane = refl })
  tells_alike e (no_line s) (line_more {lines = ms} {line = m} g v j) = absurd (none_at_end ms m [] e)
  tells_alike e (line_more {lines = ls} {line = l} h w i) (no_line r) = absurd (none_at_end ls l [] (sym e))
  tells_alike {t = t} {u = u} e (line_more {lines = ls} {line = l} {item = x} {n = m} {old = a} h w i) (line_more {lines = ms} {line = k} {item = y} {n = n} {old = b} g v j) =
      let parts = same_from_push ls ms l k e in
      let said = one_saying l x y m n w (subst (λ z. IsWeightLine z y n) (sym parts.1) v) in
      let again : IsTold others x m b u = subst (λ z. IsTold others z m b u) (sym said.0) (subst (λ z. IsTold others y z b u) (sym said.1) j) in
      told_more x m a t b u (tells_alike parts.0 h g) i again

-- ---- what is listed

module _ (names : List (List ℕ)) (once : AllPairs (λ m n. m ≢ n) names) where
  same_by_text : (f g : Functor) → HasText names f → HasText names g → same_functor g f ≡ bytes_eq (functor_text names f) (functor_text names g)
  same_by_text f g h k = by (same_functor g f) (bytes_eq (functor_text names f) (functor_text names g)) refl refl
    where
      by : (b d : Bool) → same_functor g f ≡ b → bytes_eq (functor_text names f) (functor_text names g) ≡ d → b ≡ d
      by true true e p = refl
      by true false e p = absurd (let q = (bytes_eq-Decides (functor_text names f) (functor_text names g)).1 (ap (functor_text names) (sym (functor_is g f e))) in cc)
      by false true e p = absurd (
          let same = one_functor names once f g h k ((bytes_eq-Decides (functor_text names f) (functor_text names g)).0 p) in
          let q = subst (λ x. same_functor x f ≡ true) same (functor_same f) in
          cc
          )
      by false false e p = refl

  -- a functor is listed where its text is
  listed_by_text : (f : Functor) (fs : List Functor) → HasText names f → AllByRecursion (HasText names) fs → is_listed f fs ≡ list_any (bytes_eq (functor_text names f)) (map (functor_text names) fs)
  listed_by_text f [] h k = refl
  listed_by_text f (g ∷ gs) h k = let one = same_by_text f g h k.0 in let rest = listed_by_text f gs h k.1 in λ i. one i || rest i

listed_has : (P : Functor → Type 0) (f : Functor) (fs : List Functor) → AllByRecursion P fs → is_listed f fs ≡ true → P f
listed_has P f [] h e = absurd (cc)
listed_has P f (g ∷ gs) h e = by (same_functor g f) refl e (listed_has P f gs h.1)
  where
    by : (b : Bool) → same_functor g f ≡ b → (b || is_listed f gs) ≡ true → (is_listed f gs ≡ true → P f) → P f
    by true s e rest = subst P (functor_is g f s) h.0
    by false s e rest = rest e

-- ---- what is told isn't wrong

module _ (names others : List (List ℕ)) (once : AllPairs (λ m n. m ≢ n) names) (apart : AllPairs (λ m n. m ≢ n) others) where
  -- what a line tells wasn't named
  told_not_named : (item : List ℕ) (n : ℕ) (t t' u : Told) → ToldAlike names others t u → AllByRecursion (HasText names) t.functors → AllByRecursion (HasText others) u.functors
      → IsTold names item n t t' → IsNamed others u item → ⊥
  told_not_named item n t t' u a h k (integers e o s) (inl (f, some)) = none_is_not u.int (sym a.int ∙ o) some
  told_not_named item n t t' u a h k (integers e o s) (inr (inl (f, some))) = two_words item e f
  told_not_named item n t t' u a h k (integers e o s) (inr (inr (g, f, l))) = no_word others g item _ int_slashless f e
  told_not_named item n t t' u a h k (membranes e o s) (inl (f, some)) = two_words item f e
  told_not_named item n t t' u a h k (membranes e o s) (inr (inl (f, some))) = none_is_not u.membrane (sym a.membrane ∙ o) some
  told_not_named item n t t' u a h k (membranes e o s) (inr (inr (g, f, l))) = no_word others g item _ braces_slashless f e
  told_not_named item n t t' u a h k (of_functor f e has i o s) (inl (w, some)) = no_word names f item _ int_slashless e w
  told_not_named item n t t' u a h k (of_functor f e has i o s) (inr (inl (w, some))) = no_word names f item _ braces_slashless e w
  told_not_named item n t t' u a h k (of_functor f e has i o s) (inr (inr (g, w, l))) =
      let there = sym (listed_by_text others apart g u.functors (listed_has (HasText others) g u.functors k l) k) ∙ l in
      let texts = a.texts in
      let same : functor_text others g ≡ functor_text names f = w ∙ sym e in
      let here : list_any (bytes_eq (functor_text names f)) (map (functor_text names) t.functors) ≡ true = (λ i. list_any (bytes_eq (sym same i)) (texts i)) ∙ there in
      absurd (let listed = listed_by_text names once f t.functors has h ∙ here in cc)

  -- what is told up to a line, and by it
  tell_front : {ls : List (List ℕ)} {t : Told} → Tell names ls t → (xs : List (List ℕ)) (z : List ℕ) (zs : List (List ℕ)) → ls ≡ xs ++ z ∷ zs
      → (item : List ℕ) × (n : ℕ) × (old : Told) × (new : Told) × Tell names xs old × IsWeightLine z item n × IsTold names item n old new
  tell_front (no_line s) xs z zs e = absurd (none_at_end xs z zs e)
  tell_front {t = t} (line_more {lines = ls} {line = l} {item = x} {n = m} {old = a} h w i) xs z [] e =
      let parts = same_from_push ls xs l z e in
      (x, m, a, t, subst (λ ks. Tell names ks a) parts.0 h, subst (λ k. IsWeightLine k x m) parts.1 w, i)
  tell_front (line_more {lines = ls} {line = l} h w i) xs z (y ∷ ys) e =
      let end = last_of y ys in
      let parts = same_from_push ls (xs ++ z ∷ end.0) l end.1 (e ∙ ap (λ ks. xs ++ z ∷ ks) end.2 ∙ sym (append_assoc xs (z ∷ end.0) (end.1 ∷ []))) in
      tell_front h xs z end.0 parts.0

  -- no more lines tell than stand before the first that is wrong
  told_within : (text : List ℕ) (refusal : Refusal) (w : IsFirstWrongWeightLine others text refusal) (ls : List (List ℕ)) (rest : List ℕ) (t : Told) → AllByRecursion IsOneLine ls → Tell names ls t
      → joined ls ++ rest ≡ text → length ls ≤ length w.lines
  told_within text refusal w ls rest t one tell e = by (cases_lt (length w.lines) (length ls))
    where
      beyond : (zs : List (List ℕ)) → ls ≡ w.lines ++ zs → w.line ++ w.rest ≡ joined zs ++ rest → length w.lines < length ls → ⊥
      beyond [] is text l = let n = ap length is in let s = length-append w.lines [] in omega (arith, n, s, l)
      beyond (z ∷ zs) is text l = at w.wrong
        where
          at : IsWrongWeightLine others w.told w.line w.rest → ⊥
          at (inl (some, none)) =
              let whole : w.line ≡ z ++ 10 ∷ (joined zs ++ rest) = sym (append-nil w.line) ∙ ap (λ r. w.line ++ r) (sym none) ∙ text ∙ first_joined z zs rest in
              no_feed_within z (joined zs ++ rest) (subst IsOneLine whole w.one)
          at (inr (more, behind, never)) =
              let front = tell_front tell w.lines z zs is in
              let z_one = (all_right IsOneLine w.lines (z ∷ zs) (subst (AllByRecursion IsOneLine) is one)).0 in
              let same = (one_line w.line z more (joined zs ++ rest) w.one z_one (ap (λ r. w.line ++ r) (sym behind) ∙ text ∙ first_joined z zs rest)).0 in
              let says = subst (λ k. IsWeightLine k front.0 front.1) (sym same) front.5 in
              let named = never front.0 front.1 says (told_may names front.0 front.1 front.2 front.3 front.6) in
              told_not_named front.0 front.1 front.2 front.3 w.told (tells_alike names others refl front.4 w.tell) (told_texts names front.4) (told_texts others w.tell) front.6 named

      by : (length w.lines < length ls) ⊎ (length ls ≤ length w.lines) → length ls ≤ length w.lines
      by (inr few) = few
      by (inl l) = absurd (let f = front_lines w.lines ls (w.line ++ w.rest) rest w.apart one (w.text_is ∙ sym e) (omega (arith, l)) in beyond f.0 f.1 f.2 l)

-- no line of a text that tells weights is wrong
pub told_not_wrong : ToldNotWrong
told_not_wrong later others is also text w refusal are wrong =
    let whole : joined are.lines ++ [] ≡ text = append-nil (joined are.lines) ∙ are.text_is in
    let few = told_within later others is.once also.once text refusal wrong are.lines [] are.told are.apart are.tell whole in
    let f = front_lines are.lines wrong.lines [] (wrong.line ++ wrong.rest) are.apart wrong.apart (whole ∙ sym wrong.text_is) few in
    let none = two_empty wrong.line wrong.rest (two_empty (joined f.0) (wrong.line ++ wrong.rest) (sym f.2)).1 in
    at wrong.wrong none
  where
    at : IsWrongWeightLine others wrong.told wrong.line wrong.rest → (wrong.line ≡ []) × (wrong.rest ≡ []) → ⊥
    at (inl (some, none)) h = some h.0
    at (inr (more, behind, never)) h = absurd (let z = sym behind ∙ h.1 in cc)

-- one line at most is the first wrong one
pub one_wrong_line : OneWrongLine
one_wrong_line later others is also text refusal other a b =
    let few = told_within later others is.once also.once text other b a.lines (a.line ++ a.rest) a.told a.apart a.tell a.text_is in
    let many = told_within others later also.once is.once text refusal a b.lines (b.line ++ b.rest) b.told b.apart b.tell b.text_is in
    let same : length a.lines ≡ length b.lines = omega (arith, few, many) in
    a.refused ∙ ap (λ n. record { code = 85; pos = record { line = n + 1; column = 1 } }) same ∙ sym b.refused

-- ---- the weights are alike

module _ (names later others : List (List ℕ)) (behind : StandsBehind names later) (also : StandsBehind names others) where
  -- functors with one text are both the one with a name, or neither is
  both_or_none : (f g h : Functor) → HasLabel names f.label → HasText later g → HasText others h → functor_text later g ≡ functor_text others h → same_functor g f ≡ same_functor h f
  both_or_none f g h held a b e = by (same_functor g f) (same_functor h f) refl refl
    where
      in_names : functor_text later f ≡ functor_text others f
      in_names = functor_stays behind.most names later f held behind.adds ∙ sym (functor_stays also.most names others f held also.adds)

      by : (x y : Bool) → same_functor g f ≡ x → same_functor h f ≡ y → x ≡ y
      by true true p q = refl
      by true false p q = absurd (
          let is = functor_is g f p in
          let has = text_stays also.most names others f (text_before behind.most names later f held (subst (HasText later) is a) behind.adds) also.adds in
          let same = one_functor others also.are_names.once h f b has (sym e ∙ ap (functor_text later) is ∙ in_names) in
          let r = subst (λ x. same_functor x f ≡ true) (sym same) (functor_same f) in
          cc
          )
      by false true p q = absurd (
          let is = functor_is h f q in
          let has = text_stays behind.most names later f (text_before also.most names others f held (subst (HasText others) is b) also.adds) behind.adds in
          let same = one_functor later behind.are_names.once g f a has (e ∙ ap (functor_text others) is ∙ sym in_names) in
          let r = subst (λ x. same_functor x f ≡ true) (sym same) (functor_same f) in
          cc
          )
      by false false p q = refl

  listed_alike : (f : Functor) → HasLabel names f.label → (gs hs : List Functor) (vs : List ℕ) → AllByRecursion (HasText later) gs → AllByRecursion (HasText others) hs
      → map (functor_text later) gs ≡ map (functor_text others) hs → listed_weight gs vs f ≡ listed_weight hs vs f
  listed_alike f held [] [] vs a b e = refl
  listed_alike f held [] (h ∷ hs) vs a b e = absurd (cc)
  listed_alike f held (g ∷ gs) [] vs a b e = absurd (cc)
  listed_alike f held (g ∷ gs) (h ∷ hs) [] a b e = refl
  listed_alike f held (g ∷ gs) (h ∷ hs) (v ∷ vs) a b e =
      let one = both_or_none f g h held a.0 b.0 (head_is e) in
      let rest = listed_alike f held gs hs vs a.1 b.1 (tail_is e) in
      λ i. if one i then v else rest i

  weights_alike : (text : List ℕ) (v w : Weights) → AreWeightsOf later text v → AreWeightsOf others text w → AreAlike names v w
  weights_alike text v w a b = record {
    functors = λ f held. (
        let texts = alike.texts in
        let listed = ap (λ gs. listed_weight gs v.values f) a.functors ∙ ap (λ vs. listed_weight a.told.functors vs f) values ∙ listed_alike f held a.told.functors b.told.functors w.values (told_texts later a.tell) (told_texts others b.tell) texts ∙ ap (λ gs. listed_weight gs w.values f) (sym b.functors) in
        λ i. if is_connector f then 0 else if is_integer f then int i else listed i
        );
    int = int;
    membrane = a.membrane ∙ ap or_nothing alike.membrane ∙ sym b.membrane;
  }
    where
      lines : a.lines ≡ b.lines
      lines = same_lines a.lines b.lines a.apart b.apart (append-nil (joined a.lines) ∙ a.text_is ∙ sym b.text_is ∙ sym (append-nil (joined b.lines)))

      alike : ToldAlike later others a.told b.told
      alike = tells_alike later others lines a.tell b.tell

      values : v.values ≡ w.values
      values = a.values ∙ alike.values ∙ sym b.values

      int : v.int ≡ w.int
      int = a.int ∙ ap or_nothing alike.int ∙ sym b.int

-- what lines tell is alike by two lists of names
pub one_telling : OneTelling
one_telling names later others behind also text v w a b = weights_alike names later others behind also text v w a b
