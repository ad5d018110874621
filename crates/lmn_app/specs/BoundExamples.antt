-- Weights beside a small text.
use Rattle.std.specs.Prelude.{ℕ, List, codes}
use Rattle.lmn_base.specs.SmallTexts.{at_column}
use Rattle.lmn_app.specs.Bounds.{IsBound, IsWrongWeights}
use Rattle.lmn_app.specs.TextExamples.{small_text}

-- an `a` weighs 1, and a `b` nothing
abbrev pub small_weights : List ℕ
small_weights = codes "a/0 1\n"

-- the other way round
abbrev pub turned_weights : List ℕ
turned_weights = codes "b/0 1\n"

-- `a. a :- b.` is bounded by 1 where an `a` alone weighs, and by nothing else.
abbrev pub SmallTextIsBounded : Type 0
SmallTextIsBounded = IsBound small_text small_weights 1

abbrev pub SmallTextIsNotByTwo : Type 0
SmallTextIsNotByTwo = ¬ (IsBound small_text small_weights 2)

-- where a `b` alone does, its rule isn't lowered
abbrev pub SmallTextIsNotLowered : Type 0
SmallTextIsNotLowered = IsWrongWeights small_text turned_weights (record { code = 86; pos = at_column 4 })
