-- Functors and the texts that name them.
use Rattle.std.proofs.Common.{ℕ, ℤ, ◌≡◌, ◌≢◌, ◌<◌, ◌&&◌, inl, inr, true, false, List, [], AllPairs, length, get_or, refl, sym, ap, subst, ◌∙◌, arith}
use Rattle.std.specs.Prelude.{◌==◌}
use Rattle.std.specs.Fmt.{decimal, signed_decimal}
use Rattle.std.proofs.lemmas.Fmt.{decimal_injective, signed_decimal_injective}
use Rattle.std.proofs.lemmas.List.{get_or_append_left}
use Rattle.lmn_base.proofs.Lists.{one_number}
use Rattle.lmn_base.specs.declared.functor.Functor.{Functor}
use Rattle.lmn_base.specs.declared.functor.Label.{Label}
use Rattle.lmn_base.specs.declared.functor.Label.TheVariants.{Int, Name}
use Rattle.lmn_instr_reading.proofs.NameLemmas.{has_stays}
use Rattle.lmn_instr_reading.proofs.NameTexts.{name_no_integer, one_name}
use Rattle.lmn_instr_reading.proofs.QuotedLemmas.{last_split, no_slash_decimal}
use Rattle.lmn_instr_reading.specs.Reading.{AddsNames, IsIn64Bits, IsLabelText, IsShortLabel}
use Rattle.lmn_instr_code.specs.Labels.{HasLabel, listed_label_text}
use Rattle.lmn_instr_code.specs.Listings.{functor_text}
use Rattle.lmn_weight.specs.Lines.{HasText, IsIntegerText, IsNarrowLabel, MayBeNamed}
use Rattle.lmn_weight.specs.Plains.{is_integer, is_integer_label}
use Rattle.lmn_instr_reading.proofs.Common.{size_of as narrow_size}

-- ---- labels and functors

module _ (names : List (List ℕ)) (once : AllPairs (λ m n. m ≢ n) names) where
  one_label : (k l : Label) → HasLabel names k → HasLabel names l → IsNarrowLabel k → IsNarrowLabel l → listed_label_text names k ≡ listed_label_text names l → k ≡ l
  one_label (Name m) (Name n) h g a b e = ap Name (one_number names once m n h g (one_name _ _ e))
  one_label (Name m) (Int z) h g a b e = absurd (name_no_integer (get_or names m []) z b e)
  one_label (Int y) (Name n) h g a b e = absurd (name_no_integer (get_or names n []) y a (sym e))
  one_label (Int y) (Int z) h g a b e = ap Int (signed_decimal_injective y z (narrow_size y a) (narrow_size z b) e)

  -- a text is that of one functor
  pub one_functor : (f g : Functor) → HasText names f → HasText names g → functor_text names f ≡ functor_text names g → f ≡ g
  one_functor f g a b e =
      let low = a.narrow.1 in
      let few = b.narrow.1 in
      let parts = last_split (listed_label_text names f.label) (decimal f.arity) (listed_label_text names g.label) (decimal g.arity) (no_slash_decimal f.arity (omega (arith, low))) (no_slash_decimal g.arity (omega (arith, few))) e in
      let labels = one_label f.label g.label a.held b.held a.narrow.0 b.narrow.0 parts.0 in
      let arities = decimal_injective f.arity g.arity (omega (arith, low)) (omega (arith, few)) parts.1 in
      λ i. record { label = labels i; arity = arities i }

-- ---- what a line may name

label_text_is : (names : List (List ℕ)) (l : Label) → IsShortLabel names l → IsNarrowLabel l → IsLabelText (listed_label_text names l)
label_text_is names (Name n) short narrow = inl (get_or names n [], short, refl)
label_text_is names (Int z) short narrow = inr (z, narrow, refl)

-- a functor that has a text and is no integer with one link may be named
pub may_be_named : (names : List (List ℕ)) (f : Functor) (item : List ℕ) → HasText names f → is_integer f ≡ false → functor_text names f ≡ item → MayBeNamed item
may_be_named names f item t other e = subst MayBeNamed e (inr (inr ((listed_label_text names f.label, f.arity, label_text_is names f.label t.short t.narrow.0, t.narrow.1, refl), integer)))
  where
    by : (l : Label) (arity : ℕ) (z : ℤ) → IsIn64Bits z → signed_decimal z ≡ listed_label_text names l → arity ≡ 1 → (is_integer_label l && (arity == 1)) ≡ false → ⊥
    by (Name n) arity z h same one k = name_no_integer (get_or names n []) z h (sym same)
    by (Int y) arity z h same one k = let r = subst (λ (a : ℕ). (true && (a == 1)) ≡ false) one k in absurd (cc)

    integer : IsIntegerText (functor_text names f) → ⊥
    integer (z, h, same) =
        let low = t.narrow.1 in
        let parts = last_split (signed_decimal z) (decimal 1) (listed_label_text names f.label) (decimal f.arity) (no_slash_decimal 1 (omega arith)) (no_slash_decimal f.arity (omega (arith, low))) same in
        by f.label f.arity z h parts.0 (sym (decimal_injective 1 f.arity (omega arith) (omega (arith, low)) parts.1)) other

-- ---- names that are added

-- the name with a number stays
name_stays : (k : ℕ) (names later : List (List ℕ)) (n : ℕ) → n < length names → AddsNames k names later → get_or later n [] ≡ get_or names n []
name_stays k names later n h a = ap (λ ns. get_or ns n []) a.are ∙ get_or_append_left names a.more [] n h

short_stays : (k : ℕ) (names later : List (List ℕ)) (l : Label) → HasLabel names l → AddsNames k names later → IsShortLabel names l → IsShortLabel later l
short_stays k names later (Name n) h a s = let e = ap length (name_stays k names later n h a) in omega (arith, e, s)
short_stays k names later (Int z) h a s = tt

-- a functor that has a text has one by more names
pub text_stays : (k : ℕ) (names later : List (List ℕ)) (f : Functor) → HasText names f → AddsNames k names later → HasText later f
text_stays k names later f t a = record { held = has_stays k names later f.label t.held a; short = short_stays k names later f.label t.held a t.short; narrow = t.narrow }

short_before : (k : ℕ) (names later : List (List ℕ)) (l : Label) → HasLabel names l → AddsNames k names later → IsShortLabel later l → IsShortLabel names l
short_before k names later (Name n) h a s = let e = ap length (name_stays k names later n h a) in omega (arith, e, s)
short_before k names later (Int z) h a s = tt

-- and it has one by fewer, where these have its name
pub text_before : (k : ℕ) (names later : List (List ℕ)) (f : Functor) → HasLabel names f.label → HasText later f → AddsNames k names later → HasText names f
text_before k names later f h t a = record { held = h; short = short_before k names later f.label h a t.short; narrow = t.narrow }
