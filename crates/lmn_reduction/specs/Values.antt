-- The value of an expression, where each context in it stands for an integer atom.
use Rattle.std.specs.Prelude.{ℤ}
use Rattle.lmn_congruence.specs.Rules.{Expression}
use Rattle.lmn_guards.specs.Values.{Evaluates}
use Rattle.lmn_reduction.specs.Parts.{IsInteger}
use Rattle.lmn_reduction.specs.Assignments.{Assignment}

abbrev pub Value : Assignment → Expression → ℤ → Type 0
Value t = Evaluates (λ p n. IsInteger n (t.typed_of p))
