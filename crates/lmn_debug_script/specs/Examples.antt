-- Small scripts.
use Rattle.std.specs.Prelude.{ℕ, List, [], ◌∷◌, codes}
use Rattle.lmn_base.specs.declared.functor.Functor.{Functor}
use Rattle.lmn_base.specs.declared.functor.Label.TheVariants.{Name}
use Rattle.lmn_base.specs.declared.guard.Cmp.TheVariants.{Eq}
use Rattle.lmn_base.specs.declared.refusal.Refusal.{Refusal}
use Rattle.lmn_debug_script.specs.declared.order.Order.TheVariants.{Step, Until}
use Rattle.lmn_debug_script.specs.Scripts.{AreOrdersOf, HasForm, IsFirstWrong}

abbrev pub one_name : List (List ℕ)
one_name = codes "a" ∷ []

-- `a/0` by that list
abbrev pub a_functor : Functor
a_functor = record { label = Name 0; arity = 0 }

-- three lines, the second one empty, and the last one without its line feed
abbrev pub small_script : List ℕ
small_script = codes "step 2\n\nuntil a/0 =:= 1"

-- their orders are these,
abbrev pub SmallOrders : Type 0
SmallOrders = AreOrdersOf one_name small_script (Step 2 ∷ Until a_functor Eq 1 ∷ [])

-- not others,
abbrev pub NotOtherOrders : Type 0
NotOtherOrders = ¬ (AreOrdersOf one_name small_script (Step 3 ∷ Until a_functor Eq 1 ∷ []))

-- and no line is wrong.
abbrev pub NoneWrong : Type 0
NoneWrong = (refusal : Refusal) → ¬ (IsFirstWrong small_script refusal)

-- two lines, the second one wrong
abbrev pub wrong_script : List ℕ
wrong_script = codes "show\nstep 0\n"

-- the refusal by 71 at the beginning of a line
abbrev pub at_line : ℕ → Refusal
at_line n = record { code = 71; pos = record { line = n; column = 1 } }

-- it is refused at the second,
abbrev pub SecondIsWrong : Type 0
SecondIsWrong = IsFirstWrong wrong_script (at_line 2)

-- and not at the first.
abbrev pub FirstIsNotWrong : Type 0
FirstIsNotWrong = ¬ (IsFirstWrong wrong_script (at_line 1))

-- A number has seven digits, not eight.
abbrev pub SevenDigits : Type 0
SevenDigits = HasForm (codes "step 0000001")

abbrev pub EightDigits : Type 0
EightDigits = ¬ (HasForm (codes "step 00000001"))

-- One space stands between words, and none behind them.
abbrev pub TwoSpaces : Type 0
TwoSpaces = ¬ (HasForm (codes "step  1"))

abbrev pub SpaceBehind : Type 0
SpaceBehind = ¬ (HasForm (codes "show "))

-- A functor may hold spaces, in quotes.
abbrev pub SpaceInQuotes : Type 0
SpaceInQuotes = HasForm (codes "until 'a b'/2 >= 3")

-- `=` is no operator.
abbrev pub NoOperator : Type 0
NoOperator = ¬ (HasForm (codes "until a/0 = 1"))

-- Nothing is no functor.
abbrev pub NoFunctor : Type 0
NoFunctor = ¬ (HasForm (codes "until  =:= 1"))
