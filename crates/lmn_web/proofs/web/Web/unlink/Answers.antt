use Rattle.std.proofs.Common.{◌≡◌, true, ◌-◌, ℕ, List, Option, Some, None, IsSome, refl, sym, ap, subst, ◌∙◌, arith}
use Rattle.lmn_base.specs.Lists.{In}
use Rattle.lmn_store_heap.specs.Lists.{without}
use Rattle.lmn_web_cells.specs.Rows.{Row}
use Rattle.lmn_web_cells.specs.Cells.{cells_by}
use Rattle.lmn_web_cells.specs.CellIds.{cell_id}
use Rattle.lmn_web_cells.specs.Runs.{link_in, Line, IsHome}
use Rattle.lmn_web_cells.specs.Links.{HOME}
use Rattle.lmn_web.specs.Webs.{web_by, kind_at, list_in, list_link, count_number, number_in, home_at, unlinked}
use Rattle.lmn_web.specs.Indexes.{cell_kind}
use Rattle.lmn_web.proofs.ListedLemmas.{kind_same, own_line, cell_of, home_same, link_behind, link_below, some_home}
use Rattle.lmn_web.proofs.RelistLemmas.{unlinked_there, unlinked_eight, unlinked_some, unlinks, relists_is, without_is}
use Rattle.lmn_web.specs.Classes.{files, key_in, MayLeave}
use Rattle.lmn_web.proofs.FilterLemmas.{one_without}
use Rattle.lmn_web.proofs.Filing.{Leaves, unlinks_left, tree, may_leave, left_web, left_list}
use Rattle.lmn_web.proofs.web.Web.unlink.Goals as goal

pub target-home-requires-clause-there : goal.target-home-requires-clause-there
target-home-requires-clause-there c =
    let f = cells_by c.self.inside.cells in let x = cell_id c.args.c in
    some_home f (list_in f) x (subst (λ (z : List Row). IsSome (home_at (web_by z) x)) (sym c.self.view_is) c.requires.listed)

pub target-home-requires-clause-leads : goal.target-home-requires-clause-leads
target-home-requires-clause-leads c =
    let f = cells_by c.self.inside.cells in let x = cell_id c.args.c in
    subst (λ (o : Option ℕ). IsSome o) (home_same f (list_in f) x) (subst (λ (z : List Row). IsSome (home_at (web_by z) x)) (sym c.self.view_is) c.requires.listed)

pub is_filed-filed-requires : goal.is_filed-filed-requires
is_filed-filed-requires c =
    let f = cells_by c.self.inside.cells in let m = cell_id c.target-home.result in let x = cell_id c.args.c in let w = c.self.invariant.web in
    let home : link_in f x HOME ≡ Some m = c.target-home.ensures in
    (w.listed.homes m x home).0

pub unlink-requires-clause-home : goal.unlink-requires-clause-home
unlink-requires-clause-home c =
    let f = cells_by c.self.inside.cells in let m = cell_id c.target-home.result in let x = cell_id c.args.c in let w = c.self.invariant.web in
    let home : link_in f x HOME ≡ Some m = c.target-home.ensures in
    subst (λ e. IsHome f m e) (sym c.first_link.ensures) record { there = (w.listed.homes m x home).0; behind = link_behind c.args.kind; below = link_below c.args.kind }

pub unlink-requires-clause-list : goal.unlink-requires-clause-list
unlink-requires-clause-list c =
    let f = cells_by c.self.inside.cells in let m = cell_id c.target-home.result in let x = cell_id c.args.c in let w = c.self.invariant.web in
    let home : link_in f x HOME ≡ Some m = c.target-home.ensures in
    let kind : c.args.kind ≡ cell_kind f x = sym c.requires.kind ∙ ap (λ (z : List Row). kind_at (web_by z) x) (sym c.self.view_is) ∙ kind_same f (list_in f) x in
    let h = w.listed.homes m x home in
    (list_in f m (cell_kind f x), subst (λ e. Line f m e (list_in f m (cell_kind f x))) (sym (c.first_link.ensures ∙ ap list_link kind)) (own_line f (list_in f) w.listed m x (cell_kind f x) h.1), h.1)

pub count-count-requires-clause-there : goal.count-count-requires-clause-there
count-count-requires-clause-there c =
    let f = cells_by c.self.inside.cells in let m = cell_id c.target-home.result in let x = cell_id c.args.c in let w = c.self.invariant.web in
    let home : link_in f x HOME ≡ Some m = c.target-home.ensures in
    let kind : c.args.kind ≡ cell_kind f x = sym c.requires.kind ∙ ap (λ (z : List Row). kind_at (web_by z) x) (sym c.self.view_is) ∙ kind_same f (list_in f) x in
    let p = count_number (cell_kind f x) in
    unlinked_there f (cells_by c.unlink.new.cells) (cells_by c.unlink.new.cells) _ w m x c.first_link.result p p (number_in (cells_by c.unlink.new.cells) m p) home (c.first_link.ensures ∙ ap list_link kind) refl refl refl (c.unlink.ensures.unlinked, c.unlink.ensures.list, c.unlink.ensures.others)

pub count-count-requires-clause-numbers : goal.count-count-requires-clause-numbers
count-count-requires-clause-numbers c =
    let f = cells_by c.self.inside.cells in let m = cell_id c.target-home.result in let x = cell_id c.args.c in let w = c.self.invariant.web in
    let home : link_in f x HOME ≡ Some m = c.target-home.ensures in
    let kind : c.args.kind ≡ cell_kind f x = sym c.requires.kind ∙ ap (λ (z : List Row). kind_at (web_by z) x) (sym c.self.view_is) ∙ kind_same f (list_in f) x in
    let p = count_number (cell_kind f x) in
    unlinked_eight f (cells_by c.unlink.new.cells) (cells_by c.unlink.new.cells) _ w m x c.first_link.result p p (number_in (cells_by c.unlink.new.cells) m p) home (c.first_link.ensures ∙ ap list_link kind) refl refl refl (c.unlink.ensures.unlinked, c.unlink.ensures.list, c.unlink.ensures.others)

pub set_count-requires-clause-there : goal.set_count-requires-clause-there
set_count-requires-clause-there c =
    let f = cells_by c.self.inside.cells in let m = cell_id c.target-home.result in let x = cell_id c.args.c in let w = c.self.invariant.web in
    let home : link_in f x HOME ≡ Some m = c.target-home.ensures in
    let kind : c.args.kind ≡ cell_kind f x = sym c.requires.kind ∙ ap (λ (z : List Row). kind_at (web_by z) x) (sym c.self.view_is) ∙ kind_same f (list_in f) x in
    let p = count_number (cell_kind f x) in
    unlinked_there f (cells_by c.unlink.new.cells) (cells_by c.unlink.new.cells) _ w m x c.first_link.result p p (number_in (cells_by c.unlink.new.cells) m p) home (c.first_link.ensures ∙ ap list_link kind) refl refl refl (c.unlink.ensures.unlinked, c.unlink.ensures.list, c.unlink.ensures.others)

pub set_count-requires-clause-numbers : goal.set_count-requires-clause-numbers
set_count-requires-clause-numbers c =
    let f = cells_by c.self.inside.cells in let m = cell_id c.target-home.result in let x = cell_id c.args.c in let w = c.self.invariant.web in
    let home : link_in f x HOME ≡ Some m = c.target-home.ensures in
    let kind : c.args.kind ≡ cell_kind f x = sym c.requires.kind ∙ ap (λ (z : List Row). kind_at (web_by z) x) (sym c.self.view_is) ∙ kind_same f (list_in f) x in
    let p = count_number (cell_kind f x) in
    unlinked_eight f (cells_by c.unlink.new.cells) (cells_by c.unlink.new.cells) _ w m x c.first_link.result p p (number_in (cells_by c.unlink.new.cells) m p) home (c.first_link.ensures ∙ ap list_link kind) refl refl refl (c.unlink.ensures.unlinked, c.unlink.ensures.list, c.unlink.ensures.others)

pub overflow_sub-count : goal.overflow_sub-count
overflow_sub-count c =
    let f = cells_by c.self.inside.cells in let m = cell_id c.target-home.result in let x = cell_id c.args.c in let w = c.self.invariant.web in
    let home : link_in f x HOME ≡ Some m = c.target-home.ensures in
    let kind : c.args.kind ≡ cell_kind f x = sym c.requires.kind ∙ ap (λ (z : List Row). kind_at (web_by z) x) (sym c.self.view_is) ∙ kind_same f (list_in f) x in
    let some = unlinked_some f (cells_by c.unlink.new.cells) (cells_by c.unlink.new.cells) _ w m x c.first_link.result c.count_place.result c.count_place.result c.count-count.result home (c.first_link.ensures ∙ ap list_link kind) (c.count_place.ensures ∙ ap count_number kind) (c.count_place.ensures ∙ ap count_number kind) c.count-count.ensures (c.unlink.ensures.unlinked, c.unlink.ensures.list, c.unlink.ensures.others) in
    omega (arith, some)

pub leave_class-requires : goal.leave_class-requires
leave_class-requires c sure =
    let f = cells_by c.self.inside.cells in let m = cell_id c.target-home.result in let x = cell_id c.args.c in let W = c.self.invariant in let w = W.web in
    let home : link_in f x HOME ≡ Some m = c.target-home.ensures in
    let kind : c.args.kind ≡ cell_kind f x = sym c.requires.kind ∙ ap (λ (z : List Row). kind_at (web_by z) x) (sym c.self.view_is) ∙ kind_same f (list_in f) x in
    let filed : c.is_filed-filed.result ≡ files f m (cell_kind f x) = c.is_filed-filed.ensures ∙ ap (files f m) kind in
    let own = list_in f m (cell_kind f x) in let F = cells_by c.set_count.new.self in let xs = without x own in
    let r = unlinks f (cells_by c.unlink.new.cells) F _ w m x c.first_link.result c.count_place.result c.count_place-2.result c.count-count.result home (c.first_link.ensures ∙ ap list_link kind) (c.count_place.ensures ∙ ap count_number kind) (c.count_place-2.ensures ∙ ap count_number kind) c.count-count.ensures
    (c.unlink.ensures.unlinked, c.unlink.ensures.list, c.unlink.ensures.others) c.set_count.ensures in
    let leaves : Leaves f F m = unlinks_left f (cells_by c.unlink.new.cells) F m c.first_link.result x c.count_place-2.result (c.count-count.result - 1) (cell_kind f x) (c.first_link.ensures ∙ ap list_link kind) c.unlink.ensures.unlinked c.set_count.ensures in
    let in_own : In x own = (w.listed.homes m x home).1 in
    let first = tree f F _ W m x None xs r leaves in
    let may : c.is_filed-filed.result ≡ true → MayLeave F m x own first xs = λ sure.
    may_leave f F _ W m x None xs r leaves (sym filed ∙ sure) (cell_of f (list_in f) w.listed m x (cell_kind f x) in_own).0 in_own (one_without F x own) in
    (own, first, xs, may sure)

pub invariant_of-self : goal.invariant_of-self
invariant_of-self c =
    let f = cells_by c.self.inside.cells in let m = cell_id c.target-home.result in let x = cell_id c.args.c in let W = c.self.invariant in let w = W.web in
    let home : link_in f x HOME ≡ Some m = c.target-home.ensures in
    let kind : c.args.kind ≡ cell_kind f x = sym c.requires.kind ∙ ap (λ (z : List Row). kind_at (web_by z) x) (sym c.self.view_is) ∙ kind_same f (list_in f) x in
    let filed : c.is_filed-filed.result ≡ files f m (cell_kind f x) = c.is_filed-filed.ensures ∙ ap (files f m) kind in
    let own = list_in f m (cell_kind f x) in let F = cells_by c.set_count.new.self in let xs = without x own in
    let r = unlinks f (cells_by c.unlink.new.cells) F _ w m x c.first_link.result c.count_place.result c.count_place-2.result c.count-count.result home (c.first_link.ensures ∙ ap list_link kind) (c.count_place.ensures ∙ ap count_number kind) (c.count_place-2.ensures ∙ ap count_number kind) c.count-count.ensures
    (c.unlink.ensures.unlinked, c.unlink.ensures.list, c.unlink.ensures.others) c.set_count.ensures in
    let leaves : Leaves f F m = unlinks_left f (cells_by c.unlink.new.cells) F m c.first_link.result x c.count_place-2.result (c.count-count.result - 1) (cell_kind f x) (c.first_link.ensures ∙ ap list_link kind) c.unlink.ensures.unlinked c.set_count.ensures in
    let in_own : In x own = (w.listed.homes m x home).1 in
    let first = tree f F _ W m x None xs r leaves in
    let may : c.is_filed-filed.result ≡ true → MayLeave F m x own first xs = λ sure.
    may_leave f F _ W m x None xs r leaves (sym filed ∙ sure) (cell_of f (list_in f) w.listed m x (cell_kind f x) in_own).0 in_own (one_without F x own) in
    left_web f F _ W m x None xs r leaves (cells_by c.leave_class.new.cells) c.is_filed-filed.result (key_in F x) filed (c.leave_class.ensures own first xs may)

pub returns : goal.returns
returns c n at =
    let f = cells_by c.self.inside.cells in let m = cell_id c.target-home.result in let x = cell_id c.args.c in let W = c.self.invariant in let w = W.web in
    let home : link_in f x HOME ≡ Some m = c.target-home.ensures in
    let kind : c.args.kind ≡ cell_kind f x = sym c.requires.kind ∙ ap (λ (z : List Row). kind_at (web_by z) x) (sym c.self.view_is) ∙ kind_same f (list_in f) x in
    let filed : c.is_filed-filed.result ≡ files f m (cell_kind f x) = c.is_filed-filed.ensures ∙ ap (files f m) kind in
    let own = list_in f m (cell_kind f x) in let F = cells_by c.set_count.new.self in let xs = without x own in
    let r = unlinks f (cells_by c.unlink.new.cells) F _ w m x c.first_link.result c.count_place.result c.count_place-2.result c.count-count.result home (c.first_link.ensures ∙ ap list_link kind) (c.count_place.ensures ∙ ap count_number kind) (c.count_place-2.ensures ∙ ap count_number kind) c.count-count.ensures
    (c.unlink.ensures.unlinked, c.unlink.ensures.list, c.unlink.ensures.others) c.set_count.ensures in
    let leaves : Leaves f F m = unlinks_left f (cells_by c.unlink.new.cells) F m c.first_link.result x c.count_place-2.result (c.count-count.result - 1) (cell_kind f x) (c.first_link.ensures ∙ ap list_link kind) c.unlink.ensures.unlinked c.set_count.ensures in
    let in_own : In x own = (w.listed.homes m x home).1 in
    let first = tree f F _ W m x None xs r leaves in
    let may : c.is_filed-filed.result ≡ true → MayLeave F m x own first xs = λ sure.
    may_leave f F _ W m x None xs r leaves (sym filed ∙ sure) (cell_of f (list_in f) w.listed m x (cell_kind f x) in_own).0 in_own (one_without F x own) in
    let same : n ≡ m = let e : Some n ≡ Some m = sym at ∙ ap (λ (z : List Row). home_at (web_by z) x) (sym c.self.view_is) ∙ home_same f (list_in f) x ∙ home in cc in
    relists_is f (cells_by c.leave_class.new.cells) _ w m x None xs (left_list f F _ W m x None xs r leaves (cells_by c.leave_class.new.cells) c.is_filed-filed.result (key_in F x) filed (c.leave_class.ensures own first xs may))
    ∙ without_is f (list_in f) w.listed m x ∙ (λ t. unlinked (web_by (c.self.view_is t)) (sym same t) x)
