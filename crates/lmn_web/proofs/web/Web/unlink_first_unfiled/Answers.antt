use Rattle.std.proofs.Common.{◌≡◌, false, ◌-◌, List, None, refl, sym, ap, subst, ◌∙◌, arith}
use Rattle.lmn_store_heap.specs.Lists.{without}
use Rattle.lmn_web_cells.specs.Rows.{Row}
use Rattle.lmn_web_cells.specs.Cells.{cells_by}
use Rattle.lmn_web_cells.specs.CellIds.{cell_id}
use Rattle.lmn_web_cells.specs.Runs.{link_in, Line, IsHome}
use Rattle.lmn_web.specs.Webs.{FilesNone, web_by, list_in, list_link, count_number, number_in, unlinked}
use Rattle.lmn_web.specs.Indexes.{cell_kind, most_cells}
use Rattle.lmn_web.proofs.ListedLemmas.{link_behind, link_below}
use Rattle.lmn_web.proofs.RelistLemmas.{firsts, membrane_there, unlinked_there, unlinked_eight, unlinked_some, unlinks, relists_is, without_is}
use Rattle.lmn_web.specs.Classes.{files, key_in}
use Rattle.lmn_web.proofs.Filing.{Leaves, files_none, left_web, unlinks_left}
use Rattle.lmn_web.proofs.web.Web.unlink_first_unfiled.Goals as goal

pub unlink_first-requires-clause-home : goal.unlink_first-requires-clause-home
unlink_first-requires-clause-home c =
    let f = cells_by c.self.inside.cells in let m = cell_id c.args.home in let x = cell_id c.args.c in let w = c.self.invariant.web in
    let o = firsts c.self.inside.cells c.args.self.now most_cells c.self.view_is w m x c.args.kind c.requires.membrane c.requires.first in
    subst (λ e. IsHome f m e) (sym c.first_link.ensures) record { there = membrane_there f m o.membrane; behind = link_behind c.args.kind; below = link_below c.args.kind }

pub unlink_first-requires-clause-first : goal.unlink_first-requires-clause-first
unlink_first-requires-clause-first c =
    let f = cells_by c.self.inside.cells in let m = cell_id c.args.home in let x = cell_id c.args.c in let w = c.self.invariant.web in
    let o = firsts c.self.inside.cells c.args.self.now most_cells c.self.view_is w m x c.args.kind c.requires.membrane c.requires.first in
    ap (link_in f m) c.first_link.ensures ∙ o.begins

pub unlink_first-requires-clause-list : goal.unlink_first-requires-clause-list
unlink_first-requires-clause-list c =
    let f = cells_by c.self.inside.cells in let m = cell_id c.args.home in let x = cell_id c.args.c in let w = c.self.invariant.web in
    let o = firsts c.self.inside.cells c.args.self.now most_cells c.self.view_is w m x c.args.kind c.requires.membrane c.requires.first in
    (list_in f m c.args.kind, subst (λ e. Line f m e (list_in f m c.args.kind)) (sym c.first_link.ensures) (w.listed.line m c.args.kind o.membrane), o.inside)

pub count-count-requires-clause-there : goal.count-count-requires-clause-there
count-count-requires-clause-there c =
    let f = cells_by c.self.inside.cells in let m = cell_id c.args.home in let x = cell_id c.args.c in let w = c.self.invariant.web in
    let o = firsts c.self.inside.cells c.args.self.now most_cells c.self.view_is w m x c.args.kind c.requires.membrane c.requires.first in
    let p = count_number (cell_kind f x) in
    unlinked_there f (cells_by c.unlink_first.new.cells) (cells_by c.unlink_first.new.cells) _ w m x c.first_link.result p p (number_in (cells_by c.unlink_first.new.cells) m p) o.home (c.first_link.ensures ∙ ap list_link o.kind) refl refl refl (c.unlink_first.ensures.unlinked, c.unlink_first.ensures.list, c.unlink_first.ensures.others)

pub count-count-requires-clause-numbers : goal.count-count-requires-clause-numbers
count-count-requires-clause-numbers c =
    let f = cells_by c.self.inside.cells in let m = cell_id c.args.home in let x = cell_id c.args.c in let w = c.self.invariant.web in
    let o = firsts c.self.inside.cells c.args.self.now most_cells c.self.view_is w m x c.args.kind c.requires.membrane c.requires.first in
    let p = count_number (cell_kind f x) in
    unlinked_eight f (cells_by c.unlink_first.new.cells) (cells_by c.unlink_first.new.cells) _ w m x c.first_link.result p p (number_in (cells_by c.unlink_first.new.cells) m p) o.home (c.first_link.ensures ∙ ap list_link o.kind) refl refl refl (c.unlink_first.ensures.unlinked, c.unlink_first.ensures.list, c.unlink_first.ensures.others)

pub set_count-requires-clause-there : goal.set_count-requires-clause-there
set_count-requires-clause-there c =
    let f = cells_by c.self.inside.cells in let m = cell_id c.args.home in let x = cell_id c.args.c in let w = c.self.invariant.web in
    let o = firsts c.self.inside.cells c.args.self.now most_cells c.self.view_is w m x c.args.kind c.requires.membrane c.requires.first in
    let p = count_number (cell_kind f x) in
    unlinked_there f (cells_by c.unlink_first.new.cells) (cells_by c.unlink_first.new.cells) _ w m x c.first_link.result p p (number_in (cells_by c.unlink_first.new.cells) m p) o.home (c.first_link.ensures ∙ ap list_link o.kind) refl refl refl (c.unlink_first.ensures.unlinked, c.unlink_first.ensures.list, c.unlink_first.ensures.others)

pub set_count-requires-clause-numbers : goal.set_count-requires-clause-numbers
set_count-requires-clause-numbers c =
    let f = cells_by c.self.inside.cells in let m = cell_id c.args.home in let x = cell_id c.args.c in let w = c.self.invariant.web in
    let o = firsts c.self.inside.cells c.args.self.now most_cells c.self.view_is w m x c.args.kind c.requires.membrane c.requires.first in
    let p = count_number (cell_kind f x) in
    unlinked_eight f (cells_by c.unlink_first.new.cells) (cells_by c.unlink_first.new.cells) _ w m x c.first_link.result p p (number_in (cells_by c.unlink_first.new.cells) m p) o.home (c.first_link.ensures ∙ ap list_link o.kind) refl refl refl (c.unlink_first.ensures.unlinked, c.unlink_first.ensures.list, c.unlink_first.ensures.others)

pub overflow_sub-count : goal.overflow_sub-count
overflow_sub-count c =
    let f = cells_by c.self.inside.cells in let m = cell_id c.args.home in let x = cell_id c.args.c in let w = c.self.invariant.web in
    let o = firsts c.self.inside.cells c.args.self.now most_cells c.self.view_is w m x c.args.kind c.requires.membrane c.requires.first in
    let some = unlinked_some f (cells_by c.unlink_first.new.cells) (cells_by c.unlink_first.new.cells) _ w m x c.first_link.result c.count_place.result c.count_place.result c.count-count.result o.home (c.first_link.ensures ∙ ap list_link o.kind) (c.count_place.ensures ∙ ap count_number o.kind) (c.count_place.ensures ∙ ap count_number o.kind) c.count-count.ensures (c.unlink_first.ensures.unlinked, c.unlink_first.ensures.list, c.unlink_first.ensures.others) in
    omega (arith, some)

pub invariant_of-self : goal.invariant_of-self
invariant_of-self c =
    let f = cells_by c.self.inside.cells in let m = cell_id c.args.home in let x = cell_id c.args.c in let w = c.self.invariant.web in
    let o = firsts c.self.inside.cells c.args.self.now most_cells c.self.view_is w m x c.args.kind c.requires.membrane c.requires.first in
    let W = c.self.invariant in
    let none : files f m (cell_kind f x) ≡ false = files_none f (list_in f) W.classed m (subst (λ (z : List Row). FilesNone (web_by z) m) (sym c.self.view_is) c.requires.files) o.membrane (cell_kind f x) in
    let F = cells_by c.set_count.new.self in let xs = without x (list_in f m (cell_kind f x)) in
    let r = unlinks f (cells_by c.unlink_first.new.cells) F _ w m x c.first_link.result c.count_place.result c.count_place-2.result c.count-count.result o.home (c.first_link.ensures ∙ ap list_link o.kind) (c.count_place.ensures ∙ ap count_number o.kind) (c.count_place-2.ensures ∙ ap count_number o.kind) c.count-count.ensures
    (c.unlink_first.ensures.unlinked, c.unlink_first.ensures.list, c.unlink_first.ensures.others) c.set_count.ensures in
    let leaves : Leaves f F m = unlinks_left f (cells_by c.unlink_first.new.cells) F m c.first_link.result x c.count_place-2.result (c.count-count.result - 1) (cell_kind f x) (c.first_link.ensures ∙ ap list_link o.kind) c.unlink_first.ensures.unlinked c.set_count.ensures in
    left_web f F _ W m x None xs r leaves F false (key_in F x) (sym none) refl

pub returns : goal.returns
returns c =
    let f = cells_by c.self.inside.cells in let m = cell_id c.args.home in let x = cell_id c.args.c in let w = c.self.invariant.web in
    let o = firsts c.self.inside.cells c.args.self.now most_cells c.self.view_is w m x c.args.kind c.requires.membrane c.requires.first in
    let F = cells_by c.set_count.new.self in let xs = without x (list_in f m (cell_kind f x)) in
    let r = unlinks f (cells_by c.unlink_first.new.cells) F _ w m x c.first_link.result c.count_place.result c.count_place-2.result c.count-count.result o.home (c.first_link.ensures ∙ ap list_link o.kind) (c.count_place.ensures ∙ ap count_number o.kind) (c.count_place-2.ensures ∙ ap count_number o.kind) c.count-count.ensures
    (c.unlink_first.ensures.unlinked, c.unlink_first.ensures.list, c.unlink_first.ensures.others) c.set_count.ensures in
    relists_is f F _ w m x None xs r ∙ without_is f (list_in f) w.listed m x ∙ ap (λ (z : List Row). unlinked (web_by z) m x) c.self.view_is
