use Rattle.std.proofs.Common.{◌≡◌, ◌≢◌, List, [], Some, IsSome, sym, ap, subst, ◌∙◌}
use Rattle.lmn_store_heap.specs.Lists.{from}
use Rattle.lmn_web_cells.specs.Rows.{Row}
use Rattle.lmn_web_cells.specs.Cells.{cells_by}
use Rattle.lmn_web_cells.specs.CellIds.{cell_id}
use Rattle.lmn_web_cells.specs.Runs.{link_in}
use Rattle.lmn_web.specs.Webs.{web_by, cells_in, list_in, list_link, kind_at}
use Rattle.lmn_web.proofs.ListedLemmas.{no_atom_by, begins_list, begins_somewhere, list_same}
use Rattle.lmn_web.specs.Indexes.{cell_kind}
use Rattle.lmn_web.specs.declared.kind.CellKind.TheVariants.{Atom, Membrane}
use Rattle.lmn_web.proofs.RelistLemmas.{membrane_there}
use Rattle.lmn_web.proofs.web.Web.known_first.Goals as goal

pub target-requires-clause-there : goal.target-requires-clause-there
target-requires-clause-there c =
    let f = cells_by c.self.inside.cells in let m = cell_id c.args.home in
    membrane_there f m (no_atom_by f (list_in f) m (subst (λ (z : List Row). kind_at (web_by z) m ≡ Membrane) (sym c.self.view_is) c.requires.membrane))

pub target-requires-clause-leads : goal.target-requires-clause-leads
target-requires-clause-leads c =
    let f = cells_by c.self.inside.cells in let m = cell_id c.args.home in let k = c.args.kind in let w = c.self.invariant.web in
    let membrane : cell_kind f m ≡ Atom → ⊥ = no_atom_by f (list_in f) m (subst (λ (z : List Row). kind_at (web_by z) m ≡ Membrane) (sym c.self.view_is) c.requires.membrane) in
    let some : list_in f m k ≢ [] = λ e. c.requires.some (ap (λ (z : List Row). cells_in (web_by z) m k) (sym c.self.view_is) ∙ list_same f (list_in f) w.listed m k ∙ e) in
    subst (λ e. IsSome (link_in f m e)) (sym c.first_link.ensures) (begins_somewhere (link_in f m (list_link k)) (list_in f m k) (begins_list f m (list_link k) (list_in f m k) (w.listed.line m k membrane)) some)

pub returns : goal.returns
returns c =
    let f = cells_by c.self.inside.cells in let m = cell_id c.args.home in let k = c.args.kind in let w = c.self.invariant.web in
    let membrane : cell_kind f m ≡ Atom → ⊥ = no_atom_by f (list_in f) m (subst (λ (z : List Row). kind_at (web_by z) m ≡ Membrane) (sym c.self.view_is) c.requires.membrane) in
    let link : link_in f m (list_link k) ≡ Some (cell_id c.target.result) = ap (link_in f m) (sym c.first_link.ensures) ∙ c.target.ensures in
    subst (λ (z : List Row). from (Some (cell_id c.target.result)) (cells_in (web_by z) m k) ≡ cells_in (web_by z) m k) c.self.view_is
    (subst (λ us. from (Some (cell_id c.target.result)) us ≡ us) (sym (list_same f (list_in f) w.listed m k))
    (subst (λ o. from o (list_in f m k) ≡ list_in f m k) link (begins_list f m (list_link k) (list_in f m k) (w.listed.line m k membrane))))
