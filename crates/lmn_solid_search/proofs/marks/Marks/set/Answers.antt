use Rattle.std.proofs.Common.{◌∙◌, ap, slice_set, Some}
use Rattle.lmn_solid_search.proofs.MarkLemmas.{set_shown}
use Rattle.lmn_solid_search.proofs.marks.Marks.set.Goals as goal

pub returns : goal.returns
returns c =
    set_shown c.self.inside.round c.args.number c.self.inside.marks.items c.args.place
    ∙ ap (λ xs. slice_set xs c.args.place (Some c.args.number)) c.self.view_is
