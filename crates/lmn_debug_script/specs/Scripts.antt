-- What a script orders, line by line.
use Rattle.lmn_base.specs.Limits.{longest_name, most_links}
use Rattle.std.specs.Prelude.{ℕ, ◌≡◌, ◌≢◌, ◌⊎◌, ◌≤◌, ◌<◌, ◌+◌, List, [], ◌∷◌, ◌++◌, Some, codes, length, slice_index_or}
use Rattle.std.specs.List.{AllByRecursion}
use Rattle.lmn_base.specs.declared.functor.Label.{Label}
use Rattle.lmn_base.specs.declared.functor.Label.TheVariants.{Name, Int}
use Rattle.lmn_base.specs.declared.guard.Cmp.{Cmp}
use Rattle.lmn_base.specs.declared.guard.Cmp.TheVariants.{Lt, Le, Gt, Ge, Eq, Ne}
use Rattle.lmn_base.specs.declared.refusal.Refusal.{Refusal}
use Rattle.lmn_instr_reading.specs.Reading.{IsFunctorText, IsIn64Bits}
use Rattle.lmn_instr_code.specs.Listings.{functor_text}
use Rattle.lmn_lexer.specs.Gaps.{EndsLine}
use Rattle.lmn_instr_reading.specs.Lines.{IsOneLine, joined, number_written}
use Rattle.lmn_debug_script.specs.declared.order.Order.{Order}
use Rattle.lmn_debug_script.specs.declared.order.Order.TheVariants.{Step, Back, Until, Show}

-- ---- one line

-- a word, a space, and a number of at most 1,000,000 in 1 to 7 digits
pub record IsCountedOrder (word line : List ℕ) (n : ℕ) : Type 0 where
  pub digits : List ℕ
  pub number : number_written digits ≡ Some n
  pub is : line ≡ word ++ (32 ∷ digits)

-- how an operator is written
abbrev pub cmp_text : Cmp → List ℕ
cmp_text Lt = codes "<"
cmp_text Le = codes "=<"
cmp_text Gt = codes ">"
cmp_text Ge = codes ">="
cmp_text Eq = codes "=:="
cmp_text Ne = codes "=\\="

-- `until`, what stands for a functor, an operator, and a number, with one space between them
pub record IsUntil (line item : List ℕ) (op : Cmp) (n : ℕ) : Type 0 where
  pub front : List ℕ
  pub numbered : IsCountedOrder front line n
  pub is : front ≡ codes "until " ++ (item ++ (32 ∷ cmp_text op))

-- a label that can be written: a name of the list of at most 255 bytes, or an integer of 64 bits
abbrev pub IsWritable : List (List ℕ) → Label → Type 0
IsWritable names (Name n) = (n < length names) × (length (slice_index_or names n []) ≤ longest_name)
IsWritable names (Int z) = IsIn64Bits z

-- a line is this order, where its functor is read by these names
abbrev pub IsOrder : List (List ℕ) → List ℕ → Order → Type 0
IsOrder names line (Step n) = IsCountedOrder (codes "step") line n × (1 ≤ n)
IsOrder names line (Back n) = IsCountedOrder (codes "back") line n × (1 ≤ n)
IsOrder names line (Until f op n) = IsUntil line (functor_text names f) op n × IsWritable names f.label × (f.arity ≤ most_links)
IsOrder names line Show = line ≡ codes "show"

-- a line has the form of an order
pub data HasForm (line : List ℕ) : Type 0 where
  of_step : {n : ℕ} → IsCountedOrder (codes "step") line n → 1 ≤ n → HasForm line
  of_back : {n : ℕ} → IsCountedOrder (codes "back") line n → 1 ≤ n → HasForm line
  of_until : {item : List ℕ} {op : Cmp} {n : ℕ} → IsUntil line item op n → IsFunctorText item → HasForm line
  of_show : line ≡ codes "show" → HasForm line

-- it may stand in a script: it is empty, or has the form of an order
abbrev pub MayStand : List ℕ → Type 0
MayStand line = (line ≡ []) ⊎ HasForm line

-- ---- a text of lines

-- what lines order, one behind the other; an empty line orders nothing
pub data Says (names : List (List ℕ)) : List (List ℕ) → List Order → Type 0 where
  says_nothing : Says names [] []
  an_empty_line : {lines : List (List ℕ)} {orders : List Order} → Says names lines orders → Says names (lines ++ [] ∷ []) orders
  one_order : {lines : List (List ℕ)} {orders : List Order} (line : List ℕ) (order : Order) →
      Says names lines orders → IsOrder names line order → Says names (lines ++ line ∷ []) (orders ++ order ∷ [])

-- the lines of a text: each with its line feed, which the last one may lack where it isn't empty
abbrev pub AreLines : List (List ℕ) → List ℕ → Type 0
AreLines lines text =
    (joined lines ≡ text)
    ⊎ ((front : List (List ℕ)) × (last : List ℕ) × (lines ≡ front ++ last ∷ []) × (last ≢ []) × (joined front ++ last ≡ text))

-- the text is lines, and these are the orders
pub record AreOrdersOf (names : List (List ℕ)) (text : List ℕ) (orders : List Order) : Type 0 where
  pub lines : List (List ℕ)
  pub apart : AllByRecursion IsOneLine lines
  pub text_is : AreLines lines text
  pub say : Says names lines orders

-- code 71: the first line that may not stand
pub record IsFirstWrong (text : List ℕ) (refusal : Refusal) : Type 0 where
  pub lines : List (List ℕ)
  pub apart : AllByRecursion IsOneLine lines
  pub may : AllByRecursion MayStand lines
  pub line : List ℕ
  pub rest : List ℕ
  pub one : IsOneLine line
  pub ends : EndsLine rest
  pub text_is : joined lines ++ (line ++ rest) ≡ text
  pub wrong : ¬ (MayStand line)
  pub refused : refusal ≡ record { code = 71; pos = record { line = length lines + 1; column = 1 } }
