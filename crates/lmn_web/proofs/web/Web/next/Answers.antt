use Rattle.std.proofs.Common.{◌≡◌, List, Some, IsSome, sym, ap, subst, ◌∙◌}
use Rattle.std.specs.Option.{option_map}
use Rattle.lmn_store_heap.specs.Lists.{after, from}
use Rattle.lmn_web_cells.specs.Rows.{Row}
use Rattle.lmn_web_cells.specs.Cells.{cells_by}
use Rattle.lmn_web_cells.specs.CellIds.{cell_id}
use Rattle.lmn_web_cells.specs.Runs.{link_in}
use Rattle.lmn_web_cells.specs.Links.{HOME}
use Rattle.lmn_web.specs.Webs.{web_by, cells_in, list_in, list_link, home_at, kind_at}
use Rattle.lmn_web.specs.Indexes.{cell_kind}
use Rattle.lmn_web.proofs.ListedLemmas.{own_line, goes_on, home_same, kind_same, list_same, next_home, if_some, some_home}
use Rattle.lmn_web.proofs.web.Web.next.Goals as goal

pub link-requires-clause-there : goal.link-requires-clause-there
link-requires-clause-there c =
    let f = cells_by c.self.inside.cells in let x = cell_id c.args.c in
    some_home f (list_in f) x (subst (λ (z : List Row). IsSome (home_at (web_by z) x)) (sym c.self.view_is) c.requires)

pub returns-clause-list : goal.returns-clause-list
returns-clause-list c m home =
    let f = cells_by c.self.inside.cells in let x = cell_id c.args.c in let w = c.self.invariant.web in let k = cell_kind f x in
    let at : link_in f x HOME ≡ Some m = sym (home_same f (list_in f) x) ∙ ap (λ (z : List Row). home_at (web_by z) x) c.self.view_is ∙ home in
    let h = w.listed.homes m x at in
    subst (λ (z : List Row). from (option_map cell_id c.link.result) (cells_in (web_by z) m (kind_at (web_by z) x)) ≡ after x (cells_in (web_by z) m (kind_at (web_by z) x))) c.self.view_is
    (subst (λ j. from (option_map cell_id c.link.result) (cells_in (web_by c.self.inside.cells) m j) ≡ after x (cells_in (web_by c.self.inside.cells) m j)) (sym (kind_same f (list_in f) x))
    (subst (λ us. from (option_map cell_id c.link.result) us ≡ after x us) (sym (list_same f (list_in f) w.listed m k))
    (subst (λ o. from o (list_in f m k) ≡ after x (list_in f m k)) c.link.ensures (goes_on f m (list_link k) x (list_in f m k) (own_line f (list_in f) w.listed m x k h.1) h.1))))

pub returns-clause-home : goal.returns-clause-home
returns-clause-home c =
    let f = cells_by c.self.inside.cells in let x = cell_id c.args.c in
    if_some cell_id c.link.result (λ q. home_at (web_by c.args.self.now) q ≡ home_at (web_by c.args.self.now) x) (λ q e.
    subst (λ (z : List Row). home_at (web_by z) q ≡ home_at (web_by z) x) c.self.view_is
    (next_home f (list_in f) c.self.invariant.web.listed x (subst (λ (z : List Row). IsSome (home_at (web_by z) x)) (sym c.self.view_is) c.requires) q (c.link.ensures ∙ e)))
