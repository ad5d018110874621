-- A functor has a text that no other has.
use Rattle.std.proofs.Common.{ℕ, ◌≡◌, ◌≢◌, ◌<◌, ◌^◌, List, [], AllPairs, get_or, sym, ap, arith}
use Rattle.std.specs.Fmt.{decimal}
use Rattle.std.proofs.lemmas.Fmt.{decimal_injective, signed_decimal_injective}
use Rattle.lmn_base.proofs.Lists.{one_number}
use Rattle.lmn_base.specs.declared.functor.Functor.{Functor}
use Rattle.lmn_base.specs.declared.functor.Label.{Label}
use Rattle.lmn_base.specs.declared.functor.Label.TheVariants.{Int, Name}
use Rattle.lmn_instr_reading.proofs.NameTexts.{name_no_integer, one_name}
use Rattle.lmn_instr_reading.proofs.QuotedLemmas.{last_split, no_slash_decimal}
use Rattle.lmn_instr_code.specs.Labels.{HasLabel, listed_label_text}
use Rattle.lmn_instr_code.specs.Listings.{functor_text}
use Rattle.lmn_verify_listing.specs.Forms.{FitsLabel}
use Rattle.lmn_instr_reading.proofs.Common.{size_of}

-- ---- labels and functors

-- A functor that has a text: the list has its name, and its numbers have as many bits as an instruction keeps of them.
pub record HasText (names : List (List ℕ)) (f : Functor) : Type 0 where
  pub held : HasLabel names f.label
  pub narrow : FitsLabel f.label × (f.arity < 2 ^ 8)

module _ (names : List (List ℕ)) (once : AllPairs (λ m n. m ≢ n) names) where
  one_label : (k l : Label) → HasLabel names k → HasLabel names l → FitsLabel k → FitsLabel l → listed_label_text names k ≡ listed_label_text names l → k ≡ l
  one_label (Name m) (Name n) h g a b e = ap Name (one_number names once m n h g (one_name _ _ e))
  one_label (Name m) (Int z) h g a b e = absurd (name_no_integer (get_or names m []) z b e)
  one_label (Int y) (Name n) h g a b e = absurd (name_no_integer (get_or names n []) y a (sym e))
  one_label (Int y) (Int z) h g a b e = ap Int (signed_decimal_injective y z (size_of y a) (size_of z b) e)

  -- a text is that of one functor
  pub one_functor : (f g : Functor) → HasText names f → HasText names g → functor_text names f ≡ functor_text names g → f ≡ g
  one_functor f g a b e =
      let low = a.narrow.1 in
      let few = b.narrow.1 in
      let parts = last_split (listed_label_text names f.label) (decimal f.arity) (listed_label_text names g.label) (decimal g.arity) (no_slash_decimal f.arity (omega (arith, low))) (no_slash_decimal g.arity (omega (arith, few))) e in
      let labels = one_label f.label g.label a.held b.held a.narrow.0 b.narrow.0 parts.0 in
      let arities = decimal_injective f.arity g.arity (omega (arith, low)) (omega (arith, few)) parts.1 in
      λ i. record { label = labels i; arity = arities i }
