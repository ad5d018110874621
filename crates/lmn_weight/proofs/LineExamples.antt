-- Texts that tell weights, and one that doesn't.
use Rattle.std.proofs.Common.{ℕ, zero, suc, ◌≡◌, ◌≢◌, inl, inr, false, List, [], ◌∷◌, ◌++◌, AllPairs, codes, Some, None, length, refl, sym, ap, subst, ◌∙◌, arith}
use Rattle.std.specs.Fmt.{decimal, digits}
use Rattle.std.proofs.lemmas.Fmt.{decimal_injective}
use Rattle.std.proofs.lemmas.List.{length-append}
use Rattle.std.specs.Prelude.{⊤, bytes_eq}
use Rattle.std.specs.List.{AllByRecursion}
use Rattle.std.proofs.lemmas.List.Elements.{All-from_recursion}
use Rattle.std.proofs.lemmas.List.Kept.{AllPairs-cons}
use Rattle.std.proofs.lemmas.Slice.Eq.{bytes_eq-Decides}
use Rattle.lmn_base.specs.declared.functor.Label.{Label}
use Rattle.lmn_base.specs.declared.functor.Label.TheVariants.{Int, Name}
use Rattle.lmn_base.specs.Names.{first_names}
use Rattle.lmn_instr_reading.proofs.QuotedLemmas.{last_split, no_slash_decimal}
use Rattle.lmn_instr_reading.specs.Reading.{IsFunctorText}
use Rattle.lmn_instr_code.specs.Labels.{HasLabel}
use Rattle.lmn_instr_code.specs.Listings.{functor_text}
use Rattle.lmn_weight.proofs.OneTelling.{differ, one_saying}
use Rattle.lmn_weight.specs.declared.told.Told.{Told}
use Rattle.lmn_weight.specs.LineExamples.{OneFewerDoesNot, OneMoreStandsBehind, OthersAreAlike, SomeHaveText, TheseAreNot, ThreeAreTold, WideHasNoText, WideIsWrong, names_with, small_weights}
use Rattle.lmn_weight.specs.Lines.{IsWeightLine, MayBeNamed, integers, line_more, membranes, no_line, nothing_told, of_functor}
use Rattle.lmn_weight.specs.Plains.{functor_weight}

-- ---- three lines

letter_text : functor_text (names_with (codes "a")) (record { label = Name 4; arity = 0 }) ≡ codes "a/0"
unfolding digits
letter_text = refl

pub some_have_text : SomeHaveText
some_have_text = record { held = omega arith; short = omega arith; narrow = (tt, omega arith) }

-- what the first line tells, the first two, and all
abbrev first : Told
first = record { functors = record { label = Name 4; arity = 0 } ∷ []; values = 1 ∷ []; int = None; membrane = None }

abbrev second : Told
second = record { functors = record { label = Name 4; arity = 0 } ∷ []; values = 1 ∷ []; int = Some 2; membrane = None }

abbrev third : Told
third = record { functors = record { label = Name 4; arity = 0 } ∷ []; values = 1 ∷ []; int = Some 2; membrane = Some 3 }

-- they tell three weights
pub three_are_told : ThreeAreTold
three_are_told = record {
  lines = codes "a/0 1" ∷ codes "int 2" ∷ codes "{} 3" ∷ [];
  apart = (
    (differ 10 97 (omega arith), (differ 10 47 (omega arith), (differ 10 48 (omega arith), (differ 10 32 (omega arith), (differ 10 49 (omega arith), tt))))),
    (
      (differ 10 105 (omega arith), (differ 10 110 (omega arith), (differ 10 116 (omega arith), (differ 10 32 (omega arith), (differ 10 50 (omega arith), tt))))),
      ((differ 10 123 (omega arith), (differ 10 125 (omega arith), (differ 10 32 (omega arith), (differ 10 51 (omega arith), tt)))), tt),
    ),
  );
  text_is = refl;
  told = third;
  tell =
      line_more {line = codes "{} 3"} {item = codes "{}"} {n = 3} {old = second} {new = third}
      (line_more {line = codes "int 2"} {item = codes "int"} {n = 2} {old = first} {new = second}
      (line_more {line = codes "a/0 1"} {item = codes "a/0"} {n = 1} {old = nothing_told} {new = first} (no_line refl) (record { digits = codes "1"; number = refl; is = refl })
      (of_functor (record { label = Name 4; arity = 0 }) letter_text some_have_text refl refl refl)) (record { digits = codes "2"; number = refl; is = refl }) (integers refl refl refl))
      (record { digits = codes "3"; number = refl; is = refl }) (membranes refl refl refl);
  functors = refl;
  values = refl;
  int = refl;
  membrane = refl;
}

-- ---- a line that names no functor

wide_decimal : decimal 300 ≡ codes "300"
unfolding digits
wide_decimal = refl

-- an arity of 300 is none
no_wide : IsFunctorText (codes "a/300") → ⊥
no_wide (label, arity, t, low, e) =
    let parts = last_split label (decimal arity) (codes "a") (decimal 300) (no_slash_decimal arity (omega (arith, low))) (no_slash_decimal 300 (omega arith)) (e ∙ ap (λ d. codes "a/" ++ d) (sym wide_decimal)) in
    let same = decimal_injective arity 300 (omega (arith, low)) (omega arith) parts.1 in
    omega (arith, low, same)

not_named : MayBeNamed (codes "a/300") → ⊥
not_named (inl e) = let n = ap length e in omega (arith, n)
not_named (inr (inl e)) = let n = ap length e in omega (arith, n)
not_named (inr (inr f)) = no_wide f.0

-- so the line is wrong
pub wide_is_wrong : WideIsWrong
wide_is_wrong = record {
  lines = [];
  apart = tt;
  told = nothing_told;
  tell = no_line refl;
  line = codes "a/300 1";
  rest = 10 ∷ [];
  one = (
    differ 10 97 (omega arith),
    (differ 10 47 (omega arith), (differ 10 51 (omega arith), (differ 10 48 (omega arith), (differ 10 48 (omega arith), (differ 10 32 (omega arith), (differ 10 49 (omega arith), tt)))))),
  );
  text_is = refl;
  wrong = inr ([], refl, λ item n w may. absurd (not_named (subst MayBeNamed (sym (one_saying (codes "a/300 1") (codes "a/300") item 1 n own w).0) may)));
  refused = refl;
}
  where
    own : IsWeightLine (codes "a/300 1") (codes "a/300") 1
    own = record { digits = codes "1"; number = refl; is = refl }

pub wide_has_no_text : WideHasNoText
wide_has_no_text names t = let low = t.narrow.1 in omega (arith, low)

-- ---- lists of names

-- no two of these texts are one
abbrev AllDiffer : List (List ℕ) → Type 0
AllDiffer [] = ⊤
AllDiffer (x ∷ xs) = AllByRecursion (λ y. bytes_eq x y ≡ false) xs × AllDiffer xs

each_apart : (x : List ℕ) (xs : List (List ℕ)) → AllByRecursion (λ y. bytes_eq x y ≡ false) xs → AllByRecursion (λ y. x ≢ y) xs
each_apart x [] h = tt
each_apart x (y ∷ ys) h = ((λ e. (let same = (bytes_eq-Decides x y).1 e in let z = h.0 in absurd (cc))), each_apart x ys h.1)

all_apart : (xs : List (List ℕ)) → AllDiffer xs → AllPairs (λ m n. m ≢ n) xs
all_apart [] h = λ i j d lt within. absurd (omega (arith, within))
all_apart (x ∷ xs) h = AllPairs-cons (λ m n. m ≢ n) x xs (All-from_recursion (λ y. x ≢ y) xs (each_apart x xs h.0)) (all_apart xs h.1)

-- a name more than the first ones
pub one_more_stands_behind : OneMoreStandsBehind
one_more_stands_behind = record {
  most = 1;
  adds = record { more = codes "a" ∷ []; are = refl; few = omega arith };
  are_names = record {
    begins = (codes "a" ∷ [], refl);
    once = all_apart (names_with (codes "a")) ((refl, (refl, (refl, (refl, tt)))), ((refl, (refl, (refl, tt))), ((refl, (refl, tt)), ((refl, tt), (tt, tt)))));
  };
}

pub one_fewer_does_not : OneFewerDoesNot
one_fewer_does_not b =
    let adds = b.adds in
    let n = ap length adds.are in
    let s = length-append (names_with (codes "a")) adds.more in
    omega (arith, n, s)

-- ---- weights

-- for the first names
pub others_are_alike : OthersAreAlike
others_are_alike = record { functors = λ f held. by f.label f.arity held; int = refl; membrane = refl }
  where
    by : (l : Label) (arity : ℕ) → HasLabel first_names l → functor_weight (small_weights 4) (record { label = l; arity = arity }) ≡ functor_weight (small_weights 5) (record { label = l; arity = arity })
    by (Name zero) arity h = refl
    by (Name (suc zero)) arity h = refl
    by (Name (suc (suc zero))) arity h = refl
    by (Name (suc (suc (suc zero)))) arity h = refl
    by (Name (suc (suc (suc (suc n))))) arity h = absurd (omega (arith, h))
    by (Int z) arity h = refl

-- and for one that they name
pub these_are_not : TheseAreNot
these_are_not a =
    let e : 1 ≡ 0 = a.functors (record { label = Name 4; arity = 0 }) (omega arith) in
    omega (arith, e)
