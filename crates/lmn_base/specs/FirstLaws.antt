-- What is said of every table of refusals.
use Rattle.std.specs.Prelude.{◌≡◌, List}
use Rattle.lmn_base.specs.declared.refusal.Refusal.{Refusal}
use Rattle.lmn_base.specs.Firsts.{Row, RefusedBy, NoneApplies}

-- rows give one refusal at most
abbrev pub OneRefusalOfRows : Type 0
OneRefusalOfRows = (rows : List Row) (a b : Refusal) → RefusedBy rows a → RefusedBy rows b → a ≡ b

-- where no row applies nothing is refused
abbrev pub NoneOrRefused : Type 0
NoneOrRefused = (rows : List Row) (a : Refusal) → NoneApplies rows → ¬ (RefusedBy rows a)
