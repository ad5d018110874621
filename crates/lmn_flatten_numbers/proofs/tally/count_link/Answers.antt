use Rattle.std.proofs.Common.{◌∷◌, [], ◌++◌, Some, sym, ap, ◌∙◌, subst}
use Rattle.lmn_flatten_numbers.specs.Tallies.{IsTally}
use Rattle.lmn_flatten_numbers.specs.declared.tally.Tally.{Tally}
use Rattle.lmn_flatten_numbers.proofs.TallySteps.{counts_one}
use Rattle.lmn_flatten_numbers.proofs.tally.count_link.Goals as goal

pub returns : goal.returns
returns c =
    counts_one c.args.occurrence c.args.tallies.now c.set.new.self c.tally.result c.in_ok-packed.field-0 (c.at.ensures ∙ ap Some (sym c.tally.ensures))
    (λ ps h. let P : Tally → Type 0 = IsTally (ps ++ c.args.occurrence.pos ∷ []) in subst P (sym c.in_ok-packed.ensures) (c.in_ok-tally.ensures ps h)) c.set.ensures
