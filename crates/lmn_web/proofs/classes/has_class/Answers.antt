use Rattle.std.proofs.Common.{◌∙◌}
use Rattle.lmn_web_cells.specs.Cells.{cells_by}
use Rattle.lmn_web_cells.specs.CellIds.{cell_id}
use Rattle.lmn_web.specs.Classes.{key_in}
use Rattle.lmn_web.proofs.ListedLemmas.{atom_number}
use Rattle.lmn_web.proofs.Reclassing.{same_keys}
use Rattle.lmn_web.proofs.classes.has_class.Goals as goal

pub returns : goal.returns
returns c =
    let s = c.all_small.ensures in
    same_keys c.all_small.result c.args.key (key_in (cells_by c.args.cells.now) (cell_id c.args.c)) s.class s.arity (s.kind ∙ atom_number _ c.requires.atom) c.requires.key
