-- A text tells the same weights, or is wrong at the same line, by every list of names that stands behind one list.
use Rattle.std.specs.Prelude.{ℕ, [], ◌≡◌, ◌⊎◌, List, length, slice_get, Some}
use Rattle.lmn_base.specs.declared.functor.Functor.{Functor}
use Rattle.lmn_base.specs.declared.refusal.Refusal.{Refusal}
use Rattle.lmn_base.specs.declared.rule.Plain.{Plain}
use Rattle.lmn_base.specs.declared.rule.RuleTree.{RuleTree}
use Rattle.lmn_base.specs.Names.{IsNames, NamesPlain}
use Rattle.lmn_instr_reading.specs.Reading.{AddsNames}
use Rattle.lmn_guards.specs.declared.plan.GuardPlan.{GuardPlan}
use Rattle.lmn_instr_code.specs.Labels.{HasLabel}
use Rattle.lmn_weight.specs.declared.weights.Weights.{Weights}
use Rattle.lmn_weight.specs.Lines.{AreWeightsOf, IsFirstWrongWeightLine}
use Rattle.lmn_weight.specs.Plains.{functor_weight, is_lowered, level_weight}

-- A list of names, of which none stands twice, begins with all of another.
pub record StandsBehind (names later : List (List ℕ)) : Type 0 where
  pub most : ℕ
  pub adds : AddsNames most names later
  pub are_names : IsNames later

-- Two weights are alike for the functors whose names a list has, for integers and for membranes.
pub record AreAlike (names : List (List ℕ)) (v w : Weights) : Type 0 where
  pub functors : (f : Functor) → HasLabel names f.label → functor_weight v f ≡ functor_weight w f
  pub int : v.int ≡ w.int
  pub membrane : v.membrane ≡ w.membrane

-- what lines tell by two lists of names behind one is alike
abbrev pub OneTelling : Type 0
OneTelling = (names later others : List (List ℕ)) → StandsBehind names later → StandsBehind names others → (text : List ℕ) (v w : Weights) → AreWeightsOf later text v
    → AreWeightsOf others text w → AreAlike names v w

-- no line of a text that tells weights is wrong
abbrev pub ToldNotWrong : Type 0
ToldNotWrong = (later others : List (List ℕ)) → IsNames later → IsNames others → (text : List ℕ) (w : Weights) (refusal : Refusal) → AreWeightsOf later text w
    → ¬ (IsFirstWrongWeightLine others text refusal)

-- one line at most is the first wrong one
abbrev pub OneWrongLine : Type 0
OneWrongLine = (later others : List (List ℕ)) → IsNames later → IsNames others → (text : List ℕ) (refusal other : Refusal) → IsFirstWrongWeightLine later text refusal
    → IsFirstWrongWeightLine others text other → refusal ≡ other

-- Each text tells weights, or a line of it is wrong, by some list of names behind a given one.
abbrev pub ToldOrWrong : Type 0
ToldOrWrong = (names : List (List ℕ)) → IsNames names → (text : List ℕ) → (later : List (List ℕ)) × AddsNames (length text) names later × IsNames later
    × (((w : Weights) × AreWeightsOf later text w) ⊎ ((refusal : Refusal) × IsFirstWrongWeightLine later text refusal))

-- By weights that are alike for its names the top of a plain weighs the same, and the same rules of it are lowered.
pub record WeighPlainAlike (plain : Plain) (v w : Weights) : Type 0 where
  pub top : level_weight v [] [] plain.top ≡ level_weight w [] [] plain.top
  pub rules : (k : ℕ) (r : RuleTree) (plan : GuardPlan) → slice_get plain.rules k ≡ Some r → is_lowered v r plan ≡ is_lowered w r plan

abbrev pub AlikeForPlains : Type 0
AlikeForPlains = (names : List (List ℕ)) (plain : Plain) (v w : Weights) → NamesPlain names plain → AreAlike names v w → WeighPlainAlike plain v w
