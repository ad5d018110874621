-- What WEIGHTS says, line by line.
use Rattle.lmn_base.specs.Limits.{most_links}
use Rattle.std.specs.Prelude.{ℕ, ℤ, ◌≡◌, ◌≢◌, ◌≤◌, ◌⊎◌, ◌+◌, Bool, true, false, List, [], ◌∷◌, ◌++◌, Option, Some, None, IsSome, codes, length}
use Rattle.std.specs.Fmt.{decimal, signed_decimal}
use Rattle.std.specs.List.{AllByRecursion, list_any}
use Rattle.lmn_base.specs.declared.functor.Functor.{Functor}
use Rattle.lmn_base.specs.declared.functor.Label.{Label}
use Rattle.lmn_base.specs.declared.functor.Label.TheVariants.{Int, Name}
use Rattle.lmn_base.specs.declared.refusal.Refusal.{Refusal}
use Rattle.lmn_instr_reading.specs.Reading.{IsFunctorText, IsIn64Bits, IsShortLabel}
use Rattle.lmn_store_heap.specs.Functors.{same_functor}
use Rattle.lmn_instr_code.specs.Labels.{HasLabel}
use Rattle.lmn_instr_code.specs.Listings.{functor_text}
use Rattle.lmn_instr_reading.specs.Lines.{IsOneLine, joined, number_written}
use Rattle.lmn_weight.specs.declared.told.Told.{Told}
use Rattle.lmn_weight.specs.declared.weights.Weights.{Weights}
use Rattle.lmn_weight.specs.Plains.{is_integer}

-- ---- one line

-- a line, without its line feed, is what it names, a space, and a number
pub record IsWeightLine (line item : List ℕ) (n : ℕ) : Type 0 where
  pub digits : List ℕ
  pub number : number_written digits ≡ Some n
  pub is : line ≡ item ++ 32 ∷ digits

-- the text of an integer of 64 bits with one link
abbrev pub IsIntegerText : List ℕ → Type 0
IsIntegerText item = (z : ℤ) × IsIn64Bits z × (signed_decimal z ++ (codes "/" ++ decimal 1) ≡ item)

-- what a line may name: all integers with one link, membranes, or a functor that is no integer with one link
abbrev pub MayBeNamed : List ℕ → Type 0
MayBeNamed item = (item ≡ codes "int") ⊎ ((item ≡ codes "{}") ⊎ (IsFunctorText item × ¬ (IsIntegerText item)))

-- ---- what some lines tell

-- the integer of a label has 64 bits
abbrev pub IsNarrowLabel : Label → Type 0
IsNarrowLabel (Name n) = Unit {0}
IsNarrowLabel (Int z) = IsIn64Bits z

-- its integer has 64 bits, and its arity is at most 255
abbrev pub IsNarrow : Functor → Type 0
IsNarrow f = IsNarrowLabel f.label × (f.arity ≤ most_links)

-- A functor that has a text: the list has its name, which has at most 255 bytes, or its integer has 64 bits; and its arity is at
-- most 255.
pub record HasText (names : List (List ℕ)) (f : Functor) : Type 0 where
  pub held : HasLabel names f.label
  pub short : IsShortLabel names f.label
  pub narrow : IsNarrow f

-- the functor is among these
abbrev pub is_listed : Functor → List Functor → Bool
is_listed f fs = list_any (λ g. same_functor g f) fs

-- it is named already
abbrev pub IsNamed : List (List ℕ) → Told → List ℕ → Type 0
IsNamed names t item =
    ((item ≡ codes "int") × IsSome t.int) ⊎ (((item ≡ codes "{}") × IsSome t.membrane)
    ⊎ ((f : Functor) × (functor_text names f ≡ item) × (is_listed f t.functors ≡ true)))

-- what a line says is told as well: it is named here for the first time
pub data IsTold (names : List (List ℕ)) (item : List ℕ) (n : ℕ) (old new : Told) : Type 0 where
  integers : item ≡ codes "int" → old.int ≡ None →
      new ≡ record { functors = old.functors; values = old.values; int = Some n; membrane = old.membrane } → IsTold names item n old new
  membranes : item ≡ codes "{}" → old.membrane ≡ None →
      new ≡ record { functors = old.functors; values = old.values; int = old.int; membrane = Some n } → IsTold names item n old new
  of_functor : (f : Functor) → functor_text names f ≡ item → HasText names f → is_integer f ≡ false → is_listed f old.functors ≡ false →
      new ≡ record { functors = old.functors ++ f ∷ []; values = old.values ++ n ∷ []; int = old.int; membrane = old.membrane } → IsTold names item n old new

-- nothing is told
abbrev pub nothing_told : Told
nothing_told = record { functors = []; values = []; int = None; membrane = None }

-- a line that names a functor is told, or isn't
abbrev pub TakesFunctor : Functor → ℕ → Told → Told → Bool → Type 0
TakesFunctor f n old new true =
    (is_integer f ≡ false) × (is_listed f old.functors ≡ false)
    × (new ≡ record { functors = old.functors ++ f ∷ []; values = old.values ++ n ∷ []; int = old.int; membrane = old.membrane })
TakesFunctor f n old new false = (new ≡ old) × ((is_integer f ≡ true) ⊎ (is_listed f old.functors ≡ true))

-- so is one that names integers
abbrev pub TakesInt : ℕ → Told → Told → Bool → Type 0
TakesInt n old new true = (old.int ≡ None) × (new ≡ record { functors = old.functors; values = old.values; int = Some n; membrane = old.membrane })
TakesInt n old new false = (new ≡ old) × IsSome old.int

-- or membranes
abbrev pub TakesMembrane : ℕ → Told → Told → Bool → Type 0
TakesMembrane n old new true = (old.membrane ≡ None) × (new ≡ record { functors = old.functors; values = old.values; int = old.int; membrane = Some n })
TakesMembrane n old new false = (new ≡ old) × IsSome old.membrane

-- what a line names is told, or it can't be
abbrev pub TakesItem : List (List ℕ) → List ℕ → ℕ → Told → Told → Bool → Type 0
TakesItem names item n old new true = IsTold names item n old new
TakesItem names item n old new false = (new ≡ old) × (MayBeNamed item → IsNamed names old item)

-- a line is told, or it can't be
abbrev pub TakesLine : List (List ℕ) → List ℕ → Told → Told → Bool → Type 0
TakesLine names line old new true = (item : List ℕ) × (n : ℕ) × IsWeightLine line item n × IsTold names item n old new
TakesLine names line old new false = (new ≡ old) × ((item : List ℕ) (n : ℕ) → IsWeightLine line item n → MayBeNamed item → IsNamed names old item)

-- what lines tell, from the first to the last: each is of the form, and names what none before it names
pub data Tell (names : List (List ℕ)) : List (List ℕ) → Told → Type 0 where
  no_line : {t : Told} → t ≡ nothing_told → Tell names [] t
  line_more : {lines : List (List ℕ)} {line item : List ℕ} {n : ℕ} {old new : Told} →
      Tell names lines old → IsWeightLine line item n → IsTold names item n old new → Tell names (lines ++ line ∷ []) new

-- ---- a text of lines

-- a weight that is told, or else 0
abbrev pub or_nothing : Option ℕ → ℕ
or_nothing None = 0
or_nothing (Some n) = n

-- the text is lines, and the weights are what they tell
pub record AreWeightsOf (names : List (List ℕ)) (text : List ℕ) (w : Weights) : Type 0 where
  pub lines : List (List ℕ)
  pub apart : AllByRecursion IsOneLine lines
  pub text_is : joined lines ≡ text
  pub told : Told
  pub tell : Tell names lines told
  pub functors : w.functors ≡ told.functors
  pub values : w.values ≡ told.values
  pub int : w.int ≡ or_nothing told.int
  pub membrane : w.membrane ≡ or_nothing told.membrane

-- what is wrong with a line: it has no line feed, or whatever it may name is named already, as where it names nothing
abbrev pub IsWrongWeightLine : List (List ℕ) → Told → List ℕ → List ℕ → Type 0
IsWrongWeightLine names t line rest =
    ((line ≢ []) × (rest ≡ []))
    ⊎ ((more : List ℕ) × (rest ≡ 10 ∷ more) × ((item : List ℕ) (n : ℕ) → IsWeightLine line item n → MayBeNamed item → IsNamed names t item))

-- E85: the first line that is wrong
pub record IsFirstWrongWeightLine (names : List (List ℕ)) (text : List ℕ) (refusal : Refusal) : Type 0 where
  pub lines : List (List ℕ)
  pub apart : AllByRecursion IsOneLine lines
  pub told : Told
  pub tell : Tell names lines told
  pub line : List ℕ
  pub rest : List ℕ
  pub one : IsOneLine line
  pub text_is : joined lines ++ (line ++ rest) ≡ text
  pub wrong : IsWrongWeightLine names told line rest
  pub refused : refusal ≡ record { code = 85; pos = record { line = length lines + 1; column = 1 } }
