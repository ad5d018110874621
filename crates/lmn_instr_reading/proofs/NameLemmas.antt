-- Lists of names to which a name is put.
use Rattle.std.proofs.Common.{◌≡◌, ◌≤◌, ◌<◌, ◌+◌, ◌⊎◌, inl, inr, ℕ, suc, Bool, true, false, List, [], ◌∷◌, ◌++◌, length, Contains, slice_get, get_or, codes, Some, refl, sym, ap, ◌∙◌, subst, arith, true≢false}
use Rattle.std.specs.Prelude.{bytes_eq, Result, Ok, Err, OnOk, OnErr, slice_index_or}
use Rattle.std.specs.Fmt.{decimal}
use Rattle.std.specs.List.{list_any}
use Rattle.std.specs.Cmp.Lexicographic.{nat_list_eq_equiv}
use Rattle.std.proofs.lemmas.List.{append-nil, append_assoc, get_or_append_left, length-append, length_push}
use Rattle.std.proofs.lemmas.List.Elements.{Contains-get_or}
use Rattle.std.proofs.lemmas.Map.Views.{list_any-from_Contains, Contains-from_any}
use Rattle.std.proofs.lemmas.Option.{get_or_from_slice_get, slice_get_within}
use Rattle.std.proofs.lemmas.Slice.Eq.{bytes_eq-Decides}
use Rattle.lmn_base.specs.declared.functor.Functor.{Functor}
use Rattle.lmn_base.specs.declared.functor.Label.{Label}
use Rattle.lmn_base.specs.declared.functor.Label.TheVariants.{Int, Name}
use Rattle.lmn_base.specs.declared.memory.NoMemory.{NoMemory}
use Rattle.lmn_instr_code.specs.Labels.{HasLabel, listed_label_text}
use Rattle.lmn_instr_code.specs.Listings.{functor_text}
use Rattle.lmn_lexer.specs.NameText.{name_text}
use Rattle.lmn_base.specs.Links.{Numbers, no_more, known, new}
use Rattle.lmn_instr_reading.specs.Reading.{AddsNames, NumbersNames}

-- none is added
pub adds_none : (n : ℕ) (names : List (List ℕ)) → AddsNames n names names
adds_none n names = record { more = []; are = sym (append-nil names); few = omega arith }

pub adds_same : (n : ℕ) (names later : List (List ℕ)) → later ≡ names → AddsNames n names later
adds_same n names later e = subst (AddsNames n names) (sym e) (adds_none n names)

-- some and then some more
pub adds_both : (m n : ℕ) (a b c : List (List ℕ)) → AddsNames m a b → AddsNames n b c → AddsNames (m + n) a c
adds_both m n a b c h k =
    let size = length-append h.more k.more in
    record {
      more = h.more ++ k.more;
      are = k.are ∙ ap (λ x. x ++ k.more) h.are ∙ append_assoc a h.more k.more;
      few = let u = h.few in let v = k.few in omega arith;
    }

-- a name is put
pub adds_put : (old later : List (List ℕ)) (name : List ℕ) (r : Result ℕ NoMemory) → OnOk r (Contains old name → later ≡ old)
    → OnOk r (¬ (Contains old name) → later ≡ old ++ name ∷ []) → OnErr r (later ≡ old) → AddsNames 1 old later
adds_put old later name (Err e) held absent err = adds_same 1 old later err
adds_put old later name (Ok k) held absent err = by (list_any (bytes_eq name) old) refl
  where
    by : (b : Bool) → list_any (bytes_eq name) old ≡ b → AddsNames 1 old later
    by true e = adds_same 1 old later (held (Contains-from_any (λ x y. (bytes_eq-Decides x y).0) name old e))
    by false e =
        record { more = name ∷ []; are = absent (λ there. true≢false (sym (list_any-from_Contains nat_list_eq_equiv name old there) ∙ e)); few = omega arith }

-- a name that was put is short
pub short_named : (names : List (List ℕ)) (k : ℕ) (name : List ℕ) → slice_get names k ≡ Some name → length name ≤ 255 → length (slice_index_or names k []) ≤ 255
short_named names k name e l = let same = ap length (get_or_from_slice_get names k name [] e) in omega arith

-- the name with a number
pub named_text : (names : List (List ℕ)) (k : ℕ) (name : List ℕ) → slice_get names k ≡ Some name → (k < length names) × (name_text (slice_index_or names k []) ≡ name_text name)
named_text names k name e = (slice_get_within names k name e, ap name_text (get_or_from_slice_get names k name [] e))

-- ---- names that are added

-- the text of a label stays where names are added
pub label_stays : (k : ℕ) (names later : List (List ℕ)) (l : Label) → HasLabel names l → AddsNames k names later → listed_label_text later l ≡ listed_label_text names l
label_stays k names later (Name n) h a = ap name_text (ap (λ ns. get_or ns n []) a.are ∙ get_or_append_left names a.more [] n h)
label_stays k names later (Int z) h a = refl

-- and its name is held
pub has_stays : (k : ℕ) (names later : List (List ℕ)) (l : Label) → HasLabel names l → AddsNames k names later → HasLabel later l
has_stays k names later (Name n) h a = let size = ap length a.are in let two = length-append names a.more in omega (arith, size, two, h)
has_stays k names later (Int z) h a = tt

-- so the text of a functor stays
pub functor_stays : (k : ℕ) (names later : List (List ℕ)) (f : Functor) → HasLabel names f.label → AddsNames k names later → functor_text later f ≡ functor_text names f
functor_stays k names later f h a = ap (λ t. t ++ (codes "/" ++ decimal f.arity)) (label_stays k names later f.label h a)

-- at most n names more are at most as many as n or more
pub adds_more : (m n : ℕ) (before later : List (List ℕ)) → m ≤ n → AddsNames m before later → AddsNames n before later
adds_more m n before later h a = record { more = a.more; are = a.are; few = (let f = a.few in omega (arith, f, h)) }

-- ---- names in order

-- no name is put
pub numbers_same : (names later : List (List ℕ)) → later ≡ names → NumbersNames names [] later
numbers_same names later e = subst (NumbersNames names []) (sym e) no_more

-- a name is put, which has this number then
pub numbers_put : (old later : List (List ℕ)) (name : List ℕ) (k : ℕ) → slice_get later k ≡ Some name → (Contains old name → later ≡ old)
    → (¬ (Contains old name) → later ≡ old ++ name ∷ []) → NumbersNames old (k ∷ []) later
numbers_put old later name k is held absent = by (list_any (bytes_eq name) old) refl
  where
    before : later ≡ old → NumbersNames old (k ∷ []) later
    before e =
        let low = slice_get_within later k name is in
        let size = ap length e in
        let below : k < length old = omega (arith, low, size) in
        subst (NumbersNames old (k ∷ [])) (sym e) (known below no_more)

    behind : ¬ (Contains old name) → later ≡ old ++ name ∷ [] → (k < length old) ⊎ (length old ≤ k) → NumbersNames old (k ∷ []) later
    behind none e (inl l) =
        let there : get_or old k [] ≡ name = sym (get_or_append_left old (name ∷ []) [] k l) ∙ ap (λ ns. get_or ns k []) (sym e) ∙ get_or_from_slice_get later k name [] is in
        absurd (none (subst (Contains old) there (Contains-get_or old k [] l)))
    behind none e (inr l) =
        let low = slice_get_within later k name is in
        let size = ap length e ∙ length_push old name in
        let last : k ≡ length old = omega (arith, low, size, l) in
        let next : length later ≡ suc (length old) = omega (arith, size) in
        let N : ℕ → ℕ → Type 0 = λ j m. Numbers (length old) (j ∷ []) m in
        subst (λ j. N j (length later)) (sym last) (subst (N (length old)) (sym next) (new no_more))

    by : (b : Bool) → list_any (bytes_eq name) old ≡ b → NumbersNames old (k ∷ []) later
    by true e = before (held (Contains-from_any (λ x y. (bytes_eq-Decides x y).0) name old e))
    by false e =
        let none : ¬ (Contains old name) = λ there. true≢false (sym (list_any-from_Contains nat_list_eq_equiv name old there) ∙ e) in
        behind none (absent none) (two_ways k (length old))
      where
        two_ways : (m n : ℕ) → (m < n) ⊎ (n ≤ m)
        two_ways m n = grind arith
