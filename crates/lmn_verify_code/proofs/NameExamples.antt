-- The names of some code.
use Rattle.std.proofs.Common.{◌≡◌, refl, arith}
use Rattle.lmn_base.proofs.Lists.{head_is}
use Rattle.lmn_base.specs.SmallTexts.{name_a, name_b}
use Rattle.lmn_verify_code.specs.NameExamples.{CodeNamesExamples}

pub code_names_examples : CodeNamesExamples
code_names_examples = (refl, λ e. other (head_is e))
  where
    other : name_b ≡ name_a → ⊥
    other e = absurd (omega (arith, e))
