use Rattle.std.proofs.Common.{inl, inr, sym}
use Rattle.std.proofs.lemmas.Bool.{cases_eq}
use Rattle.lmn_web_cells.specs.CellIds.{cell_id}
use Rattle.lmn_web.specs.Webs.{web_by}
use Rattle.lmn_web_merging.specs.Keepers.{keeper}
use Rattle.lmn_web_merging.proofs.keeping.self_kept.Goals as goal

pub returns : goal.returns
returns c =
    let w = web_by c.args.web.now in let m = cell_id c.args.m in
    elim (cases_eq (keeper w m) m) [ inl e ↦ sym e | inr d ↦ absurd (c.requires.kept.told m d c.requires.membrane c.requires.plain) ]
