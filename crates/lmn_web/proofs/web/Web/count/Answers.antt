use Rattle.std.proofs.Common.{◌≡◌, List, length, sym, ap, subst, ◌∙◌}
use Rattle.lmn_web_cells.specs.Rows.{Row}
use Rattle.lmn_web_cells.specs.Cells.{cells_by}
use Rattle.lmn_web_cells.specs.CellIds.{cell_id}
use Rattle.lmn_web_cells.specs.Numbers.{KIND}
use Rattle.lmn_web.specs.declared.kind.CellKind.TheVariants.{Atom, Membrane}
use Rattle.lmn_web.specs.Webs.{web_by, cells_in, list_in, kind_at, number_in}
use Rattle.lmn_web.specs.Indexes.{cell_kind}
use Rattle.lmn_web.proofs.ListedLemmas.{list_same, no_atom_by}
use Rattle.lmn_web.proofs.RelistLemmas.{membrane_there}
use Rattle.lmn_web.proofs.WebLemmas.{eight_by}
use Rattle.lmn_web.proofs.web.Web.count.Goals as goal

pub count-requires-clause-numbers : goal.count-requires-clause-numbers
count-requires-clause-numbers c =
    let f = cells_by c.self.inside.cells in let m = cell_id c.args.home in let w = c.self.invariant.web in
    let membrane : cell_kind f m ≡ Atom → ⊥ = no_atom_by f (list_in f) m (subst (λ (z : List Row). kind_at (web_by z) m ≡ Membrane) (sym c.self.view_is) c.requires) in
    w.numbers m (membrane_there f m membrane) ∙ eight_by (number_in f m KIND) membrane

pub returns : goal.returns
returns c =
    let f = cells_by c.self.inside.cells in let m = cell_id c.args.home in let k = c.args.kind in let listed = c.self.invariant.web.listed in
    subst (λ (z : List Row). c.count.result ≡ length (cells_in (web_by z) m k)) c.self.view_is
    (c.count.ensures ∙ ap (number_in f m) c.count_place.ensures ∙ listed.count m k ∙ sym (ap (λ us. length us) (list_same f (list_in f) listed m k)))

pub count-requires-clause-there : goal.count-requires-clause-there
count-requires-clause-there c =
    let f = cells_by c.self.inside.cells in let m = cell_id c.args.home in
    membrane_there f m (no_atom_by f (list_in f) m (subst (λ (z : List Row). kind_at (web_by z) m ≡ Membrane) (sym c.self.view_is) c.requires))
