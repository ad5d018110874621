-- Lines that tell weights.
use Rattle.std.proofs.Common.{ℕ, ◌≡◌, ◌≤◌, ◌<◌, ◌+◌, ◌-◌, ◌&&◌, ◌⊎◌, inl, inr, Bool, true, false, List, [], ◌∷◌, ◌++◌, Option, Some, None, length, take, drop, get_or, refl, sym, ap, subst, ◌∙◌, arith, codes}
use Rattle.std.specs.Prelude.{Result, Ok, Err, IfOk, IfSome, ◌==◌}
use Rattle.std.specs.Fmt.{decimal, signed_decimal}
use Rattle.std.specs.List.{AllByRecursion}
use Rattle.std.proofs.lemmas.Bool.{eqb-true}
use Rattle.std.proofs.lemmas.List.{append-nil, append_assoc, drop_more, length-append, take-append-drop, take_all}
use Rattle.lmn_base.proofs.Lists.{all_append}
use Rattle.lmn_base.proofs.Lists.{holds_of_item}
use Rattle.lmn_base.specs.declared.functor.Functor.{Functor}
use Rattle.lmn_base.specs.declared.functor.Label.{Label}
use Rattle.lmn_base.specs.declared.functor.Label.TheVariants.{Int, Name}
use Rattle.lmn_base.specs.declared.memory.NoMemory.{NoMemory}
use Rattle.lmn_base.specs.declared.refusal.Refusal.{Refusal}
use Rattle.lmn_instr_reading.proofs.NameLemmas.{adds_both, adds_more, adds_none, functor_stays}
use Rattle.lmn_instr_reading.specs.Reading.{AddsNames, IsShortLabel}
use Rattle.lmn_instr_code.specs.Labels.{HasLabel, listed_label_text}
use Rattle.lmn_instr_code.specs.Listings.{functor_text}
use Rattle.lmn_instr_reading.proofs.LineLemmas.{joined_more, last_split, no_space_within, split_at, taken_more}
use Rattle.lmn_instr_reading.proofs.NumberLemmas.{digits_of, no_space, small_number}
use Rattle.lmn_instr_reading.specs.Lines.{HasNoSpace, IsOneLine, joined, number_written}
use Rattle.lmn_weight.proofs.FunctorTexts.{text_stays}
use Rattle.lmn_weight.specs.declared.told.Told.{Told}
use Rattle.lmn_weight.specs.declared.weights.Weights.{Weights}
use Rattle.lmn_weight.specs.Lines.{AreWeightsOf, HasText, IsFirstWrongWeightLine, IsNarrow, IsNarrowLabel, IsIntegerText, IsNamed, IsTold, IsWeightLine, MayBeNamed, TakesFunctor, TakesItem, TakesLine, Tell, integers, is_listed, line_more, membranes, no_line, nothing_told, of_functor, or_nothing}
use Rattle.lmn_weight.specs.Plains.{AreSmall, is_integer, is_integer_label}

-- ---- names that are put

-- what lines tell they tell by more names too
tell_stays : (k : ℕ) (names later : List (List ℕ)) {lines : List (List ℕ)} {t : Told} → AddsNames k names later → Tell names lines t → Tell later lines t
tell_stays k names later a (no_line e) = no_line e
tell_stays k names later a (line_more l w i) = line_more (tell_stays k names later a l) w (go i)
  where
    go : {item : List ℕ} {n : ℕ} {old new : Told} → IsTold names item n old new → IsTold later item n old new
    go (integers e o new) = integers e o new
    go (membranes e o new) = membranes e o new
    go (of_functor f e has i o new) = of_functor f (functor_stays k names later f has.held a ∙ e) (text_stays k names later f has a) i o new

-- ---- the last space

-- a line that says something says it by its last space
pub line_parts : (line : List ℕ) (at : ℕ) → at < length line → get_or line at 0 ≡ 32 → HasNoSpace (drop (at + 1) line) → (item : List ℕ) (n : ℕ) → IsWeightLine line item n
    → (item ≡ take at line) × (number_written (drop (at + 1) line) ≡ Some n)
line_parts line at l e none item n w =
    let r = last_split item w.digits (take at line) (drop (at + 1) line) (no_space w.digits (digits_of w.digits n w.number).0) none (sym w.is ∙ split_at line at l e) in
    (r.0, ap number_written (sym r.1) ∙ w.number)

-- and one without a space says nothing
pub no_line_without : (line : List ℕ) → HasNoSpace line → (item : List ℕ) (n : ℕ) → IsWeightLine line item n → ⊥
no_line_without line h item n w = no_space_within item w.digits (subst HasNoSpace w.is h)

pub line_made : (line : List ℕ) (at n : ℕ) → at < length line → get_or line at 0 ≡ 32 → number_written (drop (at + 1) line) ≡ Some n → IsWeightLine line (take at line) n
line_made line at n l e w = record { digits = drop (at + 1) line; number = w; is = split_at line at l e }

-- ---- what is named

-- a functor that a line names is told, or the line can't be
pub item_taken : (names : List (List ℕ)) (item : List ℕ) (n : ℕ) (old new : Told) (f : Functor) (r : Result Bool NoMemory) (found : Option Functor) → found ≡ Some f
    → IfSome found (λ f. HasLabel names f.label × (functor_text names f ≡ item)) → IfSome found (λ f. IsShortLabel names f.label) → IsNarrow f → (item ≡ codes "int" → ⊥) → (item ≡ codes "{}" → ⊥) → IfOk r (TakesFunctor f n old new) → IfOk r (TakesItem names item n old new)
item_taken names item n old new f (Err e) found is some short narrow no_int no_membrane t = t
item_taken names item n old new f (Ok b) found is some short narrow no_int no_membrane t =
    let s = holds_of_item (λ (f : Functor). HasLabel names f.label × (functor_text names f ≡ item)) found f is some in
    go b (record { held = s.0; short = holds_of_item (λ (f : Functor). IsShortLabel names f.label) found f is short; narrow = narrow }) s.1 t
  where
    integer : (l : Label) (arity : ℕ) → IsNarrowLabel l → (is_integer_label l && (arity == 1)) ≡ true → listed_label_text names l ++ (codes "/" ++ decimal arity) ≡ item → IsIntegerText item
    integer (Name k) arity h e same = absurd (cc)
    integer (Int z) arity h e same = (z, h, ap (λ k. signed_decimal z ++ (codes "/" ++ decimal k)) (sym (eqb-true arity 1 e)) ∙ same)

    named : (is_integer f ≡ true) ⊎ (is_listed f old.functors ≡ true) → functor_text names f ≡ item → MayBeNamed item → IsNamed names old item
    named why e (inl i) = absurd (no_int i)
    named why e (inr (inl m)) = absurd (no_membrane m)
    named (inl i) e (inr (inr m)) = absurd (m.1 (integer f.label f.arity narrow.0 i e))
    named (inr l) e (inr (inr m)) = inr (inr (f, e, l))

    go : (b : Bool) → HasText names f → functor_text names f ≡ item → TakesFunctor f n old new b → TakesItem names item n old new b
    go true has e t = of_functor f e has t.0 t.1 t.2
    go false has e t = (t.0, named t.1 e)

-- what a line names is told, so the line is, or neither is
pub line_taken : (names : List (List ℕ)) (line : List ℕ) (at n : ℕ) (old new : Told) (r : Result Bool NoMemory) → at < length line → get_or line at 0 ≡ 32 → HasNoSpace (drop (at + 1) line) → number_written (drop (at + 1) line) ≡ Some n
    → IfOk r (TakesItem names (take at line) n old new) → IfOk r (TakesLine names line old new)
line_taken names line at n old new (Err e) l space none w t = t
line_taken names line at n old new (Ok true) l space none w t = (take at line, n, line_made line at n l space w, t)
line_taken names line at n old new (Ok false) l space none w t = (
  t.0,
  λ item m v may. (let p = (line_parts line at l space none item m v).0 in subst (IsNamed names old) (sym p) (t.1 (subst MayBeNamed p may))),
)

-- a line without a number says nothing
pub line_untaken : (names : List (List ℕ)) (t : Told) (line : List ℕ) (at : ℕ) → at < length line → get_or line at 0 ≡ 32 → HasNoSpace (drop (at + 1) line) → number_written (drop (at + 1) line) ≡ None
    → (item : List ℕ) (n : ℕ) → IsWeightLine line item n → MayBeNamed item → IsNamed names t item
line_untaken names t line at l space none e item n w may = absurd (let p = (line_parts line at l space none item n w).1 in cc)

pub line_unsplit : (names : List (List ℕ)) (t : Told) (line : List ℕ) → HasNoSpace line → (item : List ℕ) (n : ℕ) → IsWeightLine line item n → MayBeNamed item → IsNamed names t item
line_unsplit names t line h item n w may = absurd (no_line_without line h item n w)

-- ---- what was told is small

record ToldSmall (t : Told) : Type 0 where
  lists : length t.functors ≡ length t.values
  values : AllByRecursion (λ n. n ≤ 1000000) t.values
  int : or_nothing t.int ≤ 1000000
  membrane : or_nothing t.membrane ≤ 1000000

told_small : (names : List (List ℕ)) {lines : List (List ℕ)} {t : Told} → Tell names lines t → ToldSmall t
told_small names (no_line e) = subst ToldSmall (sym e) (record { lists = refl; values = tt; int = omega arith; membrane = omega arith })
told_small names (line_more {n = n} {old = old} l w i) = go i (told_small names l) (small_number w.digits n w.number)
  where
    go : {item : List ℕ} {new : Told} → IsTold names item n old new → ToldSmall old → n ≤ 1000000 → ToldSmall new
    go (integers e o new) s h = subst ToldSmall (sym new) (record { lists = s.lists; values = s.values; int = h; membrane = s.membrane })
    go (membranes e o new) s h = subst ToldSmall (sym new) (record { lists = s.lists; values = s.values; int = s.int; membrane = h })
    go (of_functor f e has i o new) s h =
        subst ToldSmall (sym new) (record {
          lists = (let a = length-append old.functors (f ∷ []) in let b = length-append old.values (n ∷ []) in let c = s.lists in omega (arith, a, b, c));
          values = all_append (λ n. n ≤ 1000000) old.values (n ∷ []) s.values (h, tt);
          int = s.int;
          membrane = s.membrane;
        })

-- ---- reading

-- The bytes up to a place are lines, and these tell what is told.
pub record Reached (before names : List (List ℕ)) (text : List ℕ) (at number : ℕ) (told : Told) : Type 0 where
  pub lines : List (List ℕ)
  pub apart : AllByRecursion IsOneLine lines
  pub front : joined lines ≡ take at text
  pub within : at ≤ length text
  pub tell : Tell names lines told
  pub number_is : number ≡ length lines + 1
  pub few : length lines ≤ at
  pub added : AddsNames (length lines) before names

pub reached_start : (names : List (List ℕ)) (text : List ℕ) (told : Told) → told ≡ nothing_told → Reached names names text 0 1 told
reached_start names text told e = record {
  lines = [];
  apart = tt;
  front = refl;
  within = omega arith;
  tell = no_line e;
  number_is = refl;
  few = omega arith;
  added = adds_none 0 names;
}

pub start_is : (fs : List Functor) (vs : List ℕ) → fs ≡ [] → vs ≡ [] → record { functors = fs; values = vs; int = None; membrane = None } ≡ nothing_told
start_is fs vs e h = λ i. record { functors = e i; values = h i; int = None; membrane = None }

-- a line more
pub reached_more : (before names later : List (List ℕ)) (text : List ℕ) (at number end : ℕ) (old new : Told) → Reached before names text at number old → at ≤ end → end < length text → get_or text end 0 ≡ 10
    → IsOneLine (take (end - at) (drop at text)) → AddsNames 1 names later → (b : Bool) → b ≡ true → TakesLine later (take (end - at) (drop at text)) old new b → Reached before later text (end + 1) (number + 1) new
reached_more before names later text at number end old new r h l e one a false is t = absurd (cc)
reached_more before names later text at number end old new r h l e one a true is t = record {
  lines = r.lines ++ line ∷ [];
  apart = all_append IsOneLine r.lines (line ∷ []) r.apart (one, tt);
  front = joined_more r.lines line ∙ ap (λ u. u ++ (line ++ 10 ∷ [])) r.front ∙ sym (taken_more text at end h l e);
  within = omega (arith, l);
  tell = line_more (tell_stays 1 names later a r.tell) t.2 t.3;
  number_is = (let n = r.number_is in omega (arith, n, size));
  few = (let f = r.few in omega (arith, f, size, h));
  added = adds_more (length r.lines + 1) (length (r.lines ++ line ∷ [])) before later (omega (arith, size)) (adds_both (length r.lines) 1 before names later r.added a);
}
  where
    line : List ℕ
    line = take (end - at) (drop at text)

    size : length (r.lines ++ line ∷ []) ≡ length r.lines + 1
    size = length-append r.lines (line ∷ [])

-- a line that can't be told is the first that is wrong
pub reached_wrong : (before names later : List (List ℕ)) (text : List ℕ) (at number end : ℕ) (old new : Told) (refusal : Refusal) → Reached before names text at number old → at ≤ end → end < length text → get_or text end 0 ≡ 10
    → IsOneLine (take (end - at) (drop at text)) → AddsNames 1 names later → (b : Bool) → b ≡ false → TakesLine later (take (end - at) (drop at text)) old new b → refusal ≡ record { code = 85; pos = record { line = number; column = 1 } } → IsFirstWrongWeightLine later text refusal
reached_wrong before names later text at number end old new refusal r h l e one a true is t f = absurd (cc)
reached_wrong before names later text at number end old new refusal r h l e one a false is t f = record {
  lines = r.lines;
  apart = r.apart;
  told = old;
  tell = tell_stays 1 names later a r.tell;
  line = line;
  rest = 10 ∷ drop (end + 1) text;
  one = one;
  text_is =
      sym (append_assoc (joined r.lines) line (10 ∷ drop (end + 1) text)) ∙ ap (λ u. (u ++ line) ++ 10 ∷ drop (end + 1) text) r.front
      ∙ sym (append_assoc (take at text ++ line) (10 ∷ []) (drop (end + 1) text)) ∙ ap (λ u. u ++ drop (end + 1) text) (append_assoc (take at text) line (10 ∷ []) ∙ sym (taken_more text at end h l e))
      ∙ take-append-drop (end + 1) text;
  wrong = inr (drop (end + 1) text, refl, t.1);
  refused = f ∙ ap (λ n. record { code = 85; pos = record { line = n; column = 1 } }) r.number_is;
}
  where
    line : List ℕ
    line = take (end - at) (drop at text)

-- so is one without a line feed
pub reached_unended : (before names : List (List ℕ)) (text : List ℕ) (at number : ℕ) (told : Told) (refusal : Refusal) → Reached before names text at number told → at < length text → IsOneLine (drop at text)
    → refusal ≡ record { code = 85; pos = record { line = number; column = 1 } } → IsFirstWrongWeightLine names text refusal
reached_unended before names text at number told refusal r l one f = record {
  lines = r.lines;
  apart = r.apart;
  told = told;
  tell = r.tell;
  line = drop at text;
  rest = [];
  one = one;
  text_is = ap (λ u. joined r.lines ++ u) (append-nil (drop at text)) ∙ ap (λ u. u ++ drop at text) r.front ∙ take-append-drop at text;
  wrong = inl ((λ e. (let some = sym (drop_more text at 0 l) ∙ e in absurd (cc))), refl);
  refused = f ∙ ap (λ n. record { code = 85; pos = record { line = n; column = 1 } }) r.number_is;
}

-- where all is read, it is told
pub reached_all : (before names : List (List ℕ)) (text : List ℕ) (at number : ℕ) (told : Told) (w : Weights) → Reached before names text at number told → length text ≤ at → w.functors ≡ told.functors → w.values ≡ told.values
    → w.int ≡ or_nothing told.int → w.membrane ≡ or_nothing told.membrane → AreWeightsOf names text w
reached_all before names text at number told w r l f v i m = record {
  lines = r.lines;
  apart = r.apart;
  text_is = r.front ∙ take_all at text l;
  told = told;
  tell = r.tell;
  functors = f;
  values = v;
  int = i;
  membrane = m;
}

-- the lists are of one length
pub weights_lists : (names : List (List ℕ)) (text : List ℕ) (w : Weights) → AreWeightsOf names text w → length w.functors ≡ length w.values
weights_lists names text w a = ap length a.functors ∙ (told_small names a.tell).lists ∙ ap length (sym a.values)

-- and the weights are small
pub weights_small : (names : List (List ℕ)) (text : List ℕ) (w : Weights) → AreWeightsOf names text w → AreSmall w
weights_small names text w a =
    let s = told_small names a.tell in
    record {
      listed = subst (AllByRecursion (λ n. n ≤ 1000000)) (sym a.values) s.values;
      int = (let e = a.int in let b = s.int in omega (arith, e, b));
      membrane = (let e = a.membrane in let b = s.membrane in omega (arith, e, b));
    }
