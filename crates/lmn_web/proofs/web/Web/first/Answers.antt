use Rattle.std.proofs.Common.{◌≡◌, List, Some, sym, ap, subst, ◌∙◌}
use Rattle.std.specs.Option.{option_map}
use Rattle.lmn_base.specs.Lists.{In}
use Rattle.lmn_store_heap.specs.Lists.{from}
use Rattle.lmn_web_cells.specs.Rows.{Row}
use Rattle.lmn_web_cells.specs.Cells.{cells_by}
use Rattle.lmn_web_cells.specs.CellIds.{cell_id}
use Rattle.lmn_web_cells.specs.Runs.{link_in}
use Rattle.lmn_web.specs.Webs.{web_by, cells_in, list_in, list_link, home_at, kind_at}
use Rattle.lmn_web.proofs.ListedLemmas.{no_atom_by, begins_list, list_same, web_listed, from_in, if_some}
use Rattle.lmn_web.specs.Indexes.{cell_kind}
use Rattle.lmn_web.specs.declared.kind.CellKind.TheVariants.{Atom, Membrane}
use Rattle.lmn_web.proofs.RelistLemmas.{membrane_there}
use Rattle.lmn_web.proofs.web.Web.first.Goals as goal

pub returns-clause-list : goal.returns-clause-list
returns-clause-list c =
    let f = cells_by c.self.inside.cells in let m = cell_id c.args.home in let k = c.args.kind in let w = c.self.invariant.web in
    let membrane : cell_kind f m ≡ Atom → ⊥ = no_atom_by f (list_in f) m (subst (λ (z : List Row). kind_at (web_by z) m ≡ Membrane) (sym c.self.view_is) c.requires) in
    let link : link_in f m (list_link k) ≡ option_map cell_id c.link.result = ap (link_in f m) (sym c.first_link.ensures) ∙ c.link.ensures in
    subst (λ (z : List Row). from (option_map cell_id c.link.result) (cells_in (web_by z) m k) ≡ cells_in (web_by z) m k) c.self.view_is
    (subst (λ us. from (option_map cell_id c.link.result) us ≡ us) (sym (list_same f (list_in f) w.listed m k))
    (subst (λ o. from o (list_in f m k) ≡ list_in f m k) link (begins_list f m (list_link k) (list_in f m k) (w.listed.line m k membrane))))

pub returns-clause-home : goal.returns-clause-home
returns-clause-home c =
    let f = cells_by c.self.inside.cells in let m = cell_id c.args.home in let k = c.args.kind in let w = c.self.invariant.web in
    let membrane : cell_kind f m ≡ Atom → ⊥ = no_atom_by f (list_in f) m (subst (λ (z : List Row). kind_at (web_by z) m ≡ Membrane) (sym c.self.view_is) c.requires) in
    let link : link_in f m (list_link k) ≡ option_map cell_id c.link.result = ap (link_in f m) (sym c.first_link.ensures) ∙ c.link.ensures in
    if_some cell_id c.link.result (λ q. home_at (web_by c.args.self.now) q ≡ Some m) (λ q e.
    subst (λ (z : List Row). home_at (web_by z) q ≡ Some m) c.self.view_is
    ((web_listed f (list_in f) w.listed).homes m q k (subst (λ us. In q us) (sym (list_same f (list_in f) w.listed m k))
    (from_in (link_in f m (list_link k)) (list_in f m k) (begins_list f m (list_link k) (list_in f m k) (w.listed.line m k membrane)) q (link ∙ e)))).0)

pub link-requires-clause-there : goal.link-requires-clause-there
link-requires-clause-there c =
    let f = cells_by c.self.inside.cells in let m = cell_id c.args.home in
    membrane_there f m (no_atom_by f (list_in f) m (subst (λ (z : List Row). kind_at (web_by z) m ≡ Membrane) (sym c.self.view_is) c.requires))
