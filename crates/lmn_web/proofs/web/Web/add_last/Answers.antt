use Rattle.std.proofs.Common.{◌≡◌, true, ◌+◌, ◌++◌, None, ◌∷◌, [], List, Some, refl, sym, ap, subst, ◌∙◌, arith}
use Rattle.lmn_base.specs.Lists.{In}
use Rattle.lmn_web_cells.specs.Rows.{Row}
use Rattle.lmn_web_cells.specs.Cells.{cells_by}
use Rattle.lmn_web_cells.specs.CellIds.{cell_id}
use Rattle.lmn_web_cells.specs.Runs.{Line, IsHome}
use Rattle.lmn_web.specs.Webs.{web_by, kind_at, list_in, list_link, count_number, number_in, added_last}
use Rattle.lmn_web.specs.Indexes.{cell_kind, most_cells}
use Rattle.lmn_web.proofs.ListedLemmas.{kind_same, link_behind, link_below}
use Rattle.lmn_web.proofs.RelistLemmas.{enters_last, appended_there, appended_eight, appended_fits, appends, relists_is, membrane_there, in_none, last_is}
use Rattle.lmn_web.specs.Classes.{files, key_in, MayEnter}
use Rattle.lmn_web.proofs.FilterLemmas.{one_last}
use Rattle.lmn_web.proofs.Filing.{Leaves, appends_left, tree, may_enter, entered_web, entered_list}
use Rattle.lmn_web.proofs.web.Web.add_last.Goals as goal

pub is_filed-filed-requires : goal.is_filed-filed-requires
is_filed-filed-requires c =
    let f = cells_by c.self.inside.cells in let m = cell_id c.args.home in let x = cell_id c.args.c in
    let enters = enters_last c.self.inside.cells c.args.self.now c.self.view_is m x c.requires.there c.requires.homeless c.requires.membrane c.requires.differ in
    membrane_there f m enters.membrane

pub append-requires-clause-home : goal.append-requires-clause-home
append-requires-clause-home c =
    let f = cells_by c.self.inside.cells in let m = cell_id c.args.home in let x = cell_id c.args.c in let w = c.self.invariant.web in
    let enters = enters_last c.self.inside.cells c.args.self.now c.self.view_is m x c.requires.there c.requires.homeless c.requires.membrane c.requires.differ in
    subst (λ e. IsHome f m e) (sym c.first_link.ensures) record { there = membrane_there f m enters.membrane; behind = link_behind c.args.kind; below = link_below c.args.kind }

pub append-requires-clause-list : goal.append-requires-clause-list
append-requires-clause-list c =
    let f = cells_by c.self.inside.cells in let m = cell_id c.args.home in let x = cell_id c.args.c in let w = c.self.invariant.web in
    let enters = enters_last c.self.inside.cells c.args.self.now c.self.view_is m x c.requires.there c.requires.homeless c.requires.membrane c.requires.differ in
    let k = c.args.kind in
    (list_in f m k, subst (λ e. Line f m e (list_in f m k)) (sym c.first_link.ensures) (w.listed.line m k enters.membrane), in_none f (list_in f) w.listed x enters.free m k)

pub count-count-requires-clause-there : goal.count-count-requires-clause-there
count-count-requires-clause-there c =
    let f = cells_by c.self.inside.cells in let m = cell_id c.args.home in let x = cell_id c.args.c in let w = c.self.invariant.web in
    let enters = enters_last c.self.inside.cells c.args.self.now c.self.view_is m x c.requires.there c.requires.homeless c.requires.membrane c.requires.differ in
    let kind : c.args.kind ≡ cell_kind f x = sym c.requires.kind ∙ ap (λ (z : List Row). kind_at (web_by z) x) (sym c.self.view_is) ∙ kind_same f (list_in f) x in
    let p = count_number (cell_kind f x) in
    appended_there f (cells_by c.append.new.cells) (cells_by c.append.new.cells) _ w m x c.first_link.result p p (number_in (cells_by c.append.new.cells) m p) enters (c.first_link.ensures ∙ ap list_link kind) refl refl refl (c.append.ensures.appended, c.append.ensures.list, c.append.ensures.others)

pub count-count-requires-clause-numbers : goal.count-count-requires-clause-numbers
count-count-requires-clause-numbers c =
    let f = cells_by c.self.inside.cells in let m = cell_id c.args.home in let x = cell_id c.args.c in let w = c.self.invariant.web in
    let enters = enters_last c.self.inside.cells c.args.self.now c.self.view_is m x c.requires.there c.requires.homeless c.requires.membrane c.requires.differ in
    let kind : c.args.kind ≡ cell_kind f x = sym c.requires.kind ∙ ap (λ (z : List Row). kind_at (web_by z) x) (sym c.self.view_is) ∙ kind_same f (list_in f) x in
    let p = count_number (cell_kind f x) in
    appended_eight f (cells_by c.append.new.cells) (cells_by c.append.new.cells) _ w m x c.first_link.result p p (number_in (cells_by c.append.new.cells) m p) enters (c.first_link.ensures ∙ ap list_link kind) refl refl refl (c.append.ensures.appended, c.append.ensures.list, c.append.ensures.others)

pub set_count-requires-clause-there : goal.set_count-requires-clause-there
set_count-requires-clause-there c =
    let f = cells_by c.self.inside.cells in let m = cell_id c.args.home in let x = cell_id c.args.c in let w = c.self.invariant.web in
    let enters = enters_last c.self.inside.cells c.args.self.now c.self.view_is m x c.requires.there c.requires.homeless c.requires.membrane c.requires.differ in
    let kind : c.args.kind ≡ cell_kind f x = sym c.requires.kind ∙ ap (λ (z : List Row). kind_at (web_by z) x) (sym c.self.view_is) ∙ kind_same f (list_in f) x in
    let p = count_number (cell_kind f x) in
    appended_there f (cells_by c.append.new.cells) (cells_by c.append.new.cells) _ w m x c.first_link.result p p (number_in (cells_by c.append.new.cells) m p) enters (c.first_link.ensures ∙ ap list_link kind) refl refl refl (c.append.ensures.appended, c.append.ensures.list, c.append.ensures.others)

pub set_count-requires-clause-numbers : goal.set_count-requires-clause-numbers
set_count-requires-clause-numbers c =
    let f = cells_by c.self.inside.cells in let m = cell_id c.args.home in let x = cell_id c.args.c in let w = c.self.invariant.web in
    let enters = enters_last c.self.inside.cells c.args.self.now c.self.view_is m x c.requires.there c.requires.homeless c.requires.membrane c.requires.differ in
    let kind : c.args.kind ≡ cell_kind f x = sym c.requires.kind ∙ ap (λ (z : List Row). kind_at (web_by z) x) (sym c.self.view_is) ∙ kind_same f (list_in f) x in
    let p = count_number (cell_kind f x) in
    appended_eight f (cells_by c.append.new.cells) (cells_by c.append.new.cells) _ w m x c.first_link.result p p (number_in (cells_by c.append.new.cells) m p) enters (c.first_link.ensures ∙ ap list_link kind) refl refl refl (c.append.ensures.appended, c.append.ensures.list, c.append.ensures.others)

pub overflow_add-count : goal.overflow_add-count
overflow_add-count c =
    let f = cells_by c.self.inside.cells in let m = cell_id c.args.home in let x = cell_id c.args.c in let w = c.self.invariant.web in
    let enters = enters_last c.self.inside.cells c.args.self.now c.self.view_is m x c.requires.there c.requires.homeless c.requires.membrane c.requires.differ in
    let kind : c.args.kind ≡ cell_kind f x = sym c.requires.kind ∙ ap (λ (z : List Row). kind_at (web_by z) x) (sym c.self.view_is) ∙ kind_same f (list_in f) x in
    let fits = appended_fits f (cells_by c.append.new.cells) (cells_by c.append.new.cells) most_cells w m x c.first_link.result c.count_place.result c.count_place.result c.count-count.result enters (c.first_link.ensures ∙ ap list_link kind) (c.count_place.ensures ∙ ap count_number kind) (c.count_place.ensures ∙ ap count_number kind) c.count-count.ensures
    (c.append.ensures.appended, c.append.ensures.list, c.append.ensures.others) in
    omega (arith, fits)

pub enter_class-requires : goal.enter_class-requires
enter_class-requires c sure =
    let f = cells_by c.self.inside.cells in let m = cell_id c.args.home in let x = cell_id c.args.c in let W = c.self.invariant in let w = W.web in
    let enters = enters_last c.self.inside.cells c.args.self.now c.self.view_is m x c.requires.there c.requires.homeless c.requires.membrane c.requires.differ in
    let kind : c.args.kind ≡ cell_kind f x = sym c.requires.kind ∙ ap (λ (z : List Row). kind_at (web_by z) x) (sym c.self.view_is) ∙ kind_same f (list_in f) x in
    let filed : c.is_filed-filed.result ≡ files f m (cell_kind f x) = c.is_filed-filed.ensures ∙ ap (files f m) kind in
    let own = list_in f m (cell_kind f x) in let F = cells_by c.set_count.new.self in let xs = own ++ x ∷ [] in
    let r = appends f (cells_by c.append.new.cells) F _ w m x c.first_link.result c.count_place.result c.count_place-2.result c.count-count.result enters (c.first_link.ensures ∙ ap list_link kind) (c.count_place.ensures ∙ ap count_number kind) (c.count_place-2.ensures ∙ ap count_number kind) c.count-count.ensures
    (c.append.ensures.appended, c.append.ensures.list, c.append.ensures.others) c.set_count.ensures in
    let leaves : Leaves f F m = appends_left f (cells_by c.append.new.cells) F m c.first_link.result x c.count_place-2.result (c.count-count.result + 1) (cell_kind f x) (c.first_link.ensures ∙ ap list_link kind) c.append.ensures.appended c.set_count.ensures in
    let out : In x own → ⊥ = in_none f (list_in f) w.listed x enters.free m (cell_kind f x) in
    let first = tree f F _ W m x (Some m) xs r leaves in
    let may : c.is_filed-filed.result ≡ true → MayEnter F m x None own first xs = λ sure.
    may_enter f F _ W m x (Some m) xs r leaves None (sym filed ∙ sure) enters.there out (λ d e. absurd cc) (one_last F x own) in
    (own, first, xs, may sure)

pub invariant_of-self : goal.invariant_of-self
invariant_of-self c =
    let f = cells_by c.self.inside.cells in let m = cell_id c.args.home in let x = cell_id c.args.c in let W = c.self.invariant in let w = W.web in
    let enters = enters_last c.self.inside.cells c.args.self.now c.self.view_is m x c.requires.there c.requires.homeless c.requires.membrane c.requires.differ in
    let kind : c.args.kind ≡ cell_kind f x = sym c.requires.kind ∙ ap (λ (z : List Row). kind_at (web_by z) x) (sym c.self.view_is) ∙ kind_same f (list_in f) x in
    let filed : c.is_filed-filed.result ≡ files f m (cell_kind f x) = c.is_filed-filed.ensures ∙ ap (files f m) kind in
    let own = list_in f m (cell_kind f x) in let F = cells_by c.set_count.new.self in let xs = own ++ x ∷ [] in
    let r = appends f (cells_by c.append.new.cells) F _ w m x c.first_link.result c.count_place.result c.count_place-2.result c.count-count.result enters (c.first_link.ensures ∙ ap list_link kind) (c.count_place.ensures ∙ ap count_number kind) (c.count_place-2.ensures ∙ ap count_number kind) c.count-count.ensures
    (c.append.ensures.appended, c.append.ensures.list, c.append.ensures.others) c.set_count.ensures in
    let leaves : Leaves f F m = appends_left f (cells_by c.append.new.cells) F m c.first_link.result x c.count_place-2.result (c.count-count.result + 1) (cell_kind f x) (c.first_link.ensures ∙ ap list_link kind) c.append.ensures.appended c.set_count.ensures in
    let out : In x own → ⊥ = in_none f (list_in f) w.listed x enters.free m (cell_kind f x) in
    let first = tree f F _ W m x (Some m) xs r leaves in
    let may : c.is_filed-filed.result ≡ true → MayEnter F m x None own first xs = λ sure.
    may_enter f F _ W m x (Some m) xs r leaves None (sym filed ∙ sure) enters.there out (λ d e. absurd cc) (one_last F x own) in
    entered_web f F _ W m x (Some m) xs r leaves (cells_by c.enter_class.new.cells) c.is_filed-filed.result (key_in F x) filed enters.free (c.enter_class.ensures own first xs may)

pub returns : goal.returns
returns c =
    let f = cells_by c.self.inside.cells in let m = cell_id c.args.home in let x = cell_id c.args.c in let W = c.self.invariant in let w = W.web in
    let enters = enters_last c.self.inside.cells c.args.self.now c.self.view_is m x c.requires.there c.requires.homeless c.requires.membrane c.requires.differ in
    let kind : c.args.kind ≡ cell_kind f x = sym c.requires.kind ∙ ap (λ (z : List Row). kind_at (web_by z) x) (sym c.self.view_is) ∙ kind_same f (list_in f) x in
    let filed : c.is_filed-filed.result ≡ files f m (cell_kind f x) = c.is_filed-filed.ensures ∙ ap (files f m) kind in
    let own = list_in f m (cell_kind f x) in let F = cells_by c.set_count.new.self in let xs = own ++ x ∷ [] in
    let r = appends f (cells_by c.append.new.cells) F _ w m x c.first_link.result c.count_place.result c.count_place-2.result c.count-count.result enters (c.first_link.ensures ∙ ap list_link kind) (c.count_place.ensures ∙ ap count_number kind) (c.count_place-2.ensures ∙ ap count_number kind) c.count-count.ensures
    (c.append.ensures.appended, c.append.ensures.list, c.append.ensures.others) c.set_count.ensures in
    let leaves : Leaves f F m = appends_left f (cells_by c.append.new.cells) F m c.first_link.result x c.count_place-2.result (c.count-count.result + 1) (cell_kind f x) (c.first_link.ensures ∙ ap list_link kind) c.append.ensures.appended c.set_count.ensures in
    let out : In x own → ⊥ = in_none f (list_in f) w.listed x enters.free m (cell_kind f x) in
    let first = tree f F _ W m x (Some m) xs r leaves in
    let may : c.is_filed-filed.result ≡ true → MayEnter F m x None own first xs = λ sure.
    may_enter f F _ W m x (Some m) xs r leaves None (sym filed ∙ sure) enters.there out (λ d e. absurd cc) (one_last F x own) in
    relists_is f (cells_by c.enter_class.new.cells) _ w m x (Some m) xs (entered_list f F _ W m x (Some m) xs r leaves (cells_by c.enter_class.new.cells) c.is_filed-filed.result (key_in F x) filed enters.free (c.enter_class.ensures own first xs may))
    ∙ last_is f (list_in f) w.listed m x ∙ ap (λ (z : List Row). added_last (web_by z) m x) c.self.view_is
