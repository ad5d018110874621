use Rattle.std.proofs.Common.{◌++◌, ◌∙◌, ap, sym}
use Rattle.std.proofs.lemmas.List.{append-nil}
use Rattle.lmn_solid_firing.proofs.Telling.{zip_past}
use Rattle.lmn_solid_firing.proofs.names.integers_of.Goals as goal

pub returns-then-place-values : goal.returns-then-place-values
returns-then-place-values c =
    sym (append-nil c.loop-place.integers)
    ∙ ap (λ es. c.loop-place.integers ++ es) (sym (zip_past c.args.names.now c.args.values.now c.loop-place.place c.if-place-values.true))
    ∙ c.loop-place.invariant
