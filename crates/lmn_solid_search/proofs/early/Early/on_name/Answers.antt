use Rattle.std.proofs.Common.{◌∙◌, ap, sym}
use Rattle.lmn_solid_search.specs.Foretelling.{or_all}
use Rattle.lmn_solid_search.proofs.early.Early.on_name.Goals as goal

pub returns-in-Some : goal.returns-in-Some
returns-in-Some c =
    ap or_all (sym c.in-Some.is ∙ c.rests_of.ensures)

pub returns-in-None : goal.returns-in-None
returns-in-None c =
    ap or_all (sym c.in-None.is ∙ c.rests_of.ensures)
