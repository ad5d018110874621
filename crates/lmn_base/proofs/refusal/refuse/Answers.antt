use Rattle.std.proofs.Common.{[], ◌∷◌, subst, sym}
use Rattle.lmn_base.specs.Codes.{code_number}
use Rattle.lmn_base.specs.Firsts.{by_this, IsFirst, RefusedBy}
use Rattle.lmn_base.proofs.RowLemmas.{one_row}
use Rattle.lmn_base.proofs.refusal.refuse.Goals as goal

pub returns-in-Some : goal.returns-in-Some
returns-in-Some c = λ ps first. subst (RefusedBy (record { code = code_number c.args.code; places = ps } ∷ [])) (sym c.at.ensures) (by_this (subst (IsFirst ps) c.in-Some.is first))

pub returns-in-None : goal.returns-in-None
returns-in-None c = λ ps first. one_row (record { code = code_number c.args.code; places = ps }) (subst (IsFirst ps) c.in-None.is first)
