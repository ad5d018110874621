use Rattle.std.proofs.Common.{◌≡◌, false, ◌+◌, ◌++◌, ◌∷◌, [], List, Some, refl, sym, ap, subst, ◌∙◌, arith}
use Rattle.lmn_web_cells.specs.Rows.{Row}
use Rattle.lmn_web_cells.specs.Cells.{cells_by}
use Rattle.lmn_web_cells.specs.CellIds.{cell_id}
use Rattle.lmn_web_cells.specs.Runs.{Line, IsHome}
use Rattle.lmn_web.specs.Webs.{FilesNone, web_by, kind_at, list_in, list_link, count_number, number_in, added_last}
use Rattle.lmn_web.specs.Indexes.{cell_kind, most_cells}
use Rattle.lmn_web.proofs.ListedLemmas.{kind_same, link_behind, link_below}
use Rattle.lmn_web.proofs.RelistLemmas.{enters_last, appended_there, appended_eight, appended_fits, appends, relists_is, membrane_there, in_none, last_is}
use Rattle.lmn_web.specs.Classes.{files, key_in}
use Rattle.lmn_web.proofs.Filing.{Leaves, appends_left, entered_web, files_none}
use Rattle.lmn_web.proofs.web.Web.add_last_unfiled.Goals as goal

pub append-requires-clause-home : goal.append-requires-clause-home
append-requires-clause-home c =
    let f = cells_by c.self.inside.cells in let m = cell_id c.args.home in let x = cell_id c.args.c in let w = c.self.invariant.web in
    let enters = enters_last c.self.inside.cells c.args.self.now c.self.view_is m x c.requires.there c.requires.homeless c.requires.membrane c.requires.differ in
    subst (λ e. IsHome f m e) (sym c.first_link.ensures) record { there = membrane_there f m enters.membrane; behind = link_behind c.args.kind; below = link_below c.args.kind }

pub append-requires-clause-list : goal.append-requires-clause-list
append-requires-clause-list c =
    let f = cells_by c.self.inside.cells in let m = cell_id c.args.home in let x = cell_id c.args.c in let w = c.self.invariant.web in
    let enters = enters_last c.self.inside.cells c.args.self.now c.self.view_is m x c.requires.there c.requires.homeless c.requires.membrane c.requires.differ in
    let k = c.args.kind in
    (list_in f m k, subst (λ e. Line f m e (list_in f m k)) (sym c.first_link.ensures) (w.listed.line m k enters.membrane), in_none f (list_in f) w.listed x enters.free m k)

pub count-count-requires-clause-there : goal.count-count-requires-clause-there
count-count-requires-clause-there c =
    let f = cells_by c.self.inside.cells in let m = cell_id c.args.home in let x = cell_id c.args.c in let w = c.self.invariant.web in
    let enters = enters_last c.self.inside.cells c.args.self.now c.self.view_is m x c.requires.there c.requires.homeless c.requires.membrane c.requires.differ in
    let kind : c.args.kind ≡ cell_kind f x = sym c.requires.kind ∙ ap (λ (z : List Row). kind_at (web_by z) x) (sym c.self.view_is) ∙ kind_same f (list_in f) x in
    let p = count_number (cell_kind f x) in
    appended_there f (cells_by c.append.new.cells) (cells_by c.append.new.cells) _ w m x c.first_link.result p p (number_in (cells_by c.append.new.cells) m p) enters (c.first_link.ensures ∙ ap list_link kind) refl refl refl (c.append.ensures.appended, c.append.ensures.list, c.append.ensures.others)

pub count-count-requires-clause-numbers : goal.count-count-requires-clause-numbers
count-count-requires-clause-numbers c =
    let f = cells_by c.self.inside.cells in let m = cell_id c.args.home in let x = cell_id c.args.c in let w = c.self.invariant.web in
    let enters = enters_last c.self.inside.cells c.args.self.now c.self.view_is m x c.requires.there c.requires.homeless c.requires.membrane c.requires.differ in
    let kind : c.args.kind ≡ cell_kind f x = sym c.requires.kind ∙ ap (λ (z : List Row). kind_at (web_by z) x) (sym c.self.view_is) ∙ kind_same f (list_in f) x in
    let p = count_number (cell_kind f x) in
    appended_eight f (cells_by c.append.new.cells) (cells_by c.append.new.cells) _ w m x c.first_link.result p p (number_in (cells_by c.append.new.cells) m p) enters (c.first_link.ensures ∙ ap list_link kind) refl refl refl (c.append.ensures.appended, c.append.ensures.list, c.append.ensures.others)

pub set_count-requires-clause-there : goal.set_count-requires-clause-there
set_count-requires-clause-there c =
    let f = cells_by c.self.inside.cells in let m = cell_id c.args.home in let x = cell_id c.args.c in let w = c.self.invariant.web in
    let enters = enters_last c.self.inside.cells c.args.self.now c.self.view_is m x c.requires.there c.requires.homeless c.requires.membrane c.requires.differ in
    let kind : c.args.kind ≡ cell_kind f x = sym c.requires.kind ∙ ap (λ (z : List Row). kind_at (web_by z) x) (sym c.self.view_is) ∙ kind_same f (list_in f) x in
    let p = count_number (cell_kind f x) in
    appended_there f (cells_by c.append.new.cells) (cells_by c.append.new.cells) _ w m x c.first_link.result p p (number_in (cells_by c.append.new.cells) m p) enters (c.first_link.ensures ∙ ap list_link kind) refl refl refl (c.append.ensures.appended, c.append.ensures.list, c.append.ensures.others)

pub set_count-requires-clause-numbers : goal.set_count-requires-clause-numbers
set_count-requires-clause-numbers c =
    let f = cells_by c.self.inside.cells in let m = cell_id c.args.home in let x = cell_id c.args.c in let w = c.self.invariant.web in
    let enters = enters_last c.self.inside.cells c.args.self.now c.self.view_is m x c.requires.there c.requires.homeless c.requires.membrane c.requires.differ in
    let kind : c.args.kind ≡ cell_kind f x = sym c.requires.kind ∙ ap (λ (z : List Row). kind_at (web_by z) x) (sym c.self.view_is) ∙ kind_same f (list_in f) x in
    let p = count_number (cell_kind f x) in
    appended_eight f (cells_by c.append.new.cells) (cells_by c.append.new.cells) _ w m x c.first_link.result p p (number_in (cells_by c.append.new.cells) m p) enters (c.first_link.ensures ∙ ap list_link kind) refl refl refl (c.append.ensures.appended, c.append.ensures.list, c.append.ensures.others)

pub overflow_add-count : goal.overflow_add-count
overflow_add-count c =
    let f = cells_by c.self.inside.cells in let m = cell_id c.args.home in let x = cell_id c.args.c in let w = c.self.invariant.web in
    let enters = enters_last c.self.inside.cells c.args.self.now c.self.view_is m x c.requires.there c.requires.homeless c.requires.membrane c.requires.differ in
    let kind : c.args.kind ≡ cell_kind f x = sym c.requires.kind ∙ ap (λ (z : List Row). kind_at (web_by z) x) (sym c.self.view_is) ∙ kind_same f (list_in f) x in
    let fits = appended_fits f (cells_by c.append.new.cells) (cells_by c.append.new.cells) most_cells w m x c.first_link.result c.count_place.result c.count_place.result c.count-count.result enters (c.first_link.ensures ∙ ap list_link kind) (c.count_place.ensures ∙ ap count_number kind) (c.count_place.ensures ∙ ap count_number kind) c.count-count.ensures
    (c.append.ensures.appended, c.append.ensures.list, c.append.ensures.others) in
    omega (arith, fits)

pub invariant_of-self : goal.invariant_of-self
invariant_of-self c =
    let f = cells_by c.self.inside.cells in let m = cell_id c.args.home in let x = cell_id c.args.c in let W = c.self.invariant in let w = W.web in
    let enters = enters_last c.self.inside.cells c.args.self.now c.self.view_is m x c.requires.there c.requires.homeless c.requires.membrane c.requires.differ in
    let kind : c.args.kind ≡ cell_kind f x = sym c.requires.kind ∙ ap (λ (z : List Row). kind_at (web_by z) x) (sym c.self.view_is) ∙ kind_same f (list_in f) x in
    let none : files f m (cell_kind f x) ≡ false = files_none f (list_in f) W.classed m (subst (λ (z : List Row). FilesNone (web_by z) m) (sym c.self.view_is) c.requires.files) enters.membrane (cell_kind f x) in
    let F = cells_by c.set_count.new.self in let xs = list_in f m (cell_kind f x) ++ x ∷ [] in
    let r = appends f (cells_by c.append.new.cells) F _ w m x c.first_link.result c.count_place.result c.count_place-2.result c.count-count.result enters (c.first_link.ensures ∙ ap list_link kind) (c.count_place.ensures ∙ ap count_number kind) (c.count_place-2.ensures ∙ ap count_number kind) c.count-count.ensures
    (c.append.ensures.appended, c.append.ensures.list, c.append.ensures.others) c.set_count.ensures in
    let leaves : Leaves f F m = appends_left f (cells_by c.append.new.cells) F m c.first_link.result x c.count_place-2.result (c.count-count.result + 1) (cell_kind f x) (c.first_link.ensures ∙ ap list_link kind) c.append.ensures.appended c.set_count.ensures in
    entered_web f F _ W m x (Some m) xs r leaves F false (key_in F x) (sym none) enters.free refl

pub returns : goal.returns
returns c =
    let f = cells_by c.self.inside.cells in let m = cell_id c.args.home in let x = cell_id c.args.c in let W = c.self.invariant in let w = W.web in
    let enters = enters_last c.self.inside.cells c.args.self.now c.self.view_is m x c.requires.there c.requires.homeless c.requires.membrane c.requires.differ in
    let kind : c.args.kind ≡ cell_kind f x = sym c.requires.kind ∙ ap (λ (z : List Row). kind_at (web_by z) x) (sym c.self.view_is) ∙ kind_same f (list_in f) x in
    let none : files f m (cell_kind f x) ≡ false = files_none f (list_in f) W.classed m (subst (λ (z : List Row). FilesNone (web_by z) m) (sym c.self.view_is) c.requires.files) enters.membrane (cell_kind f x) in
    let F = cells_by c.set_count.new.self in let xs = list_in f m (cell_kind f x) ++ x ∷ [] in
    let r = appends f (cells_by c.append.new.cells) F _ w m x c.first_link.result c.count_place.result c.count_place-2.result c.count-count.result enters (c.first_link.ensures ∙ ap list_link kind) (c.count_place.ensures ∙ ap count_number kind) (c.count_place-2.ensures ∙ ap count_number kind) c.count-count.ensures
    (c.append.ensures.appended, c.append.ensures.list, c.append.ensures.others) c.set_count.ensures in
    relists_is f F _ w m x (Some m) xs r ∙ last_is f (list_in f) w.listed m x ∙ ap (λ (z : List Row). added_last (web_by z) m x) c.self.view_is
