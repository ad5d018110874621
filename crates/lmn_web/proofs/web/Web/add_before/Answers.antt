use Rattle.std.proofs.Common.{◌≡◌, true, ◌+◌, IsSome, List, Some, refl, sym, ap, subst, ◌∙◌, arith}
use Rattle.std.specs.Option.{option_map}
use Rattle.lmn_base.specs.Lists.{In}
use Rattle.lmn_web_cells.specs.Rows.{Row}
use Rattle.lmn_web_cells.specs.Cells.{cells_by}
use Rattle.lmn_web_cells.specs.CellIds.{cell_id}
use Rattle.lmn_web_cells.specs.Runs.{link_in, Line, IsHome, put_before}
use Rattle.lmn_web_cells.specs.Links.{HOME}
use Rattle.lmn_web.specs.declared.kind.CellKind.TheVariants.{Atom}
use Rattle.lmn_web.specs.Kinds.{kind_by}
use Rattle.lmn_web.specs.Webs.{web_by, list_in, list_link, count_number, number_in, home_at, added_before}
use Rattle.lmn_web.specs.Indexes.{cell_kind, most_cells}
use Rattle.lmn_web.proofs.ListedLemmas.{own_line, home_same, link_behind, link_below}
use Rattle.lmn_web.proofs.RelistLemmas.{enters_before, before_among, inserted_there, inserted_eight, inserted_fits, inserts, relists_is, in_none, before_is}
use Rattle.lmn_web.proofs.WebLemmas.{some_back}
use Rattle.lmn_web.specs.Classes.{files, key_in, MayEnter}
use Rattle.lmn_web.proofs.Filing.{Leaves, filed_atom, filed_membrane, inserts_left, tree, may_before, entered_web, entered_list}
use Rattle.lmn_web.proofs.web.Web.add_before.Goals as goal

pub insert-requires-clause-home : goal.insert-requires-clause-home
insert-requires-clause-home c =
    let f = cells_by c.self.inside.cells in let m = cell_id c.in-Some.home in let a = cell_id c.args.after in let x = cell_id c.args.c in let w = c.self.invariant.web in
    let home : link_in f a HOME ≡ Some m = c.link.ensures ∙ ap (option_map cell_id) c.in-Some.is in
    subst (λ e. IsHome f m e) (sym c.first_link.ensures) record { there = (w.listed.homes m a home).0; behind = link_behind c.kind_of-kind.result; below = link_below c.kind_of-kind.result }

pub insert-requires-clause-differ : goal.insert-requires-clause-differ
insert-requires-clause-differ c =
    let f = cells_by c.self.inside.cells in let m = cell_id c.in-Some.home in let a = cell_id c.args.after in let x = cell_id c.args.c in let w = c.self.invariant.web in
    let home : link_in f a HOME ≡ Some m = c.link.ensures ∙ ap (option_map cell_id) c.in-Some.is in
    let enters = enters_before c.self.inside.cells c.args.self.now _ c.self.view_is w m a x home c.requires.kind c.requires.there c.requires.homeless c.requires.differ in
    enters.differ

pub insert-requires-clause-list : goal.insert-requires-clause-list
insert-requires-clause-list c =
    let f = cells_by c.self.inside.cells in let m = cell_id c.in-Some.home in let a = cell_id c.args.after in let x = cell_id c.args.c in let w = c.self.invariant.web in
    let home : link_in f a HOME ≡ Some m = c.link.ensures ∙ ap (option_map cell_id) c.in-Some.is in
    let among = before_among c.self.inside.cells c.args.self.now _ c.self.view_is w m a x home c.requires.kind in
    let enters = enters_before c.self.inside.cells c.args.self.now _ c.self.view_is w m a x home c.requires.kind c.requires.there c.requires.homeless c.requires.differ in
    let kind : c.kind_of-kind.result ≡ cell_kind f x = c.kind_of-kind.ensures ∙ ap kind_by c.number.ensures in
    let k = cell_kind f x in
    (list_in f m k, subst (λ e. Line f m e (list_in f m k)) (sym (c.first_link.ensures ∙ ap list_link kind)) (own_line f (list_in f) w.listed m a k among), among, in_none f (list_in f) w.listed x enters.free m k)

pub count-count-requires-clause-there : goal.count-count-requires-clause-there
count-count-requires-clause-there c =
    let f = cells_by c.self.inside.cells in let m = cell_id c.in-Some.home in let a = cell_id c.args.after in let x = cell_id c.args.c in let w = c.self.invariant.web in
    let home : link_in f a HOME ≡ Some m = c.link.ensures ∙ ap (option_map cell_id) c.in-Some.is in
    let among = before_among c.self.inside.cells c.args.self.now _ c.self.view_is w m a x home c.requires.kind in
    let enters = enters_before c.self.inside.cells c.args.self.now _ c.self.view_is w m a x home c.requires.kind c.requires.there c.requires.homeless c.requires.differ in
    let kind : c.kind_of-kind.result ≡ cell_kind f x = c.kind_of-kind.ensures ∙ ap kind_by c.number.ensures in
    let p = count_number (cell_kind f x) in
    inserted_there f (cells_by c.insert.new.cells) (cells_by c.insert.new.cells) _ w m x c.first_link.result p p (number_in (cells_by c.insert.new.cells) m p) enters (c.first_link.ensures ∙ ap list_link kind) refl refl refl a among (c.insert.ensures.inserted, c.insert.ensures.list, c.insert.ensures.others)

pub count-count-requires-clause-numbers : goal.count-count-requires-clause-numbers
count-count-requires-clause-numbers c =
    let f = cells_by c.self.inside.cells in let m = cell_id c.in-Some.home in let a = cell_id c.args.after in let x = cell_id c.args.c in let w = c.self.invariant.web in
    let home : link_in f a HOME ≡ Some m = c.link.ensures ∙ ap (option_map cell_id) c.in-Some.is in
    let among = before_among c.self.inside.cells c.args.self.now _ c.self.view_is w m a x home c.requires.kind in
    let enters = enters_before c.self.inside.cells c.args.self.now _ c.self.view_is w m a x home c.requires.kind c.requires.there c.requires.homeless c.requires.differ in
    let kind : c.kind_of-kind.result ≡ cell_kind f x = c.kind_of-kind.ensures ∙ ap kind_by c.number.ensures in
    let p = count_number (cell_kind f x) in
    inserted_eight f (cells_by c.insert.new.cells) (cells_by c.insert.new.cells) _ w m x c.first_link.result p p (number_in (cells_by c.insert.new.cells) m p) enters (c.first_link.ensures ∙ ap list_link kind) refl refl refl a among (c.insert.ensures.inserted, c.insert.ensures.list, c.insert.ensures.others)

pub set_count-requires-clause-there : goal.set_count-requires-clause-there
set_count-requires-clause-there c =
    let f = cells_by c.self.inside.cells in let m = cell_id c.in-Some.home in let a = cell_id c.args.after in let x = cell_id c.args.c in let w = c.self.invariant.web in
    let home : link_in f a HOME ≡ Some m = c.link.ensures ∙ ap (option_map cell_id) c.in-Some.is in
    let among = before_among c.self.inside.cells c.args.self.now _ c.self.view_is w m a x home c.requires.kind in
    let enters = enters_before c.self.inside.cells c.args.self.now _ c.self.view_is w m a x home c.requires.kind c.requires.there c.requires.homeless c.requires.differ in
    let kind : c.kind_of-kind.result ≡ cell_kind f x = c.kind_of-kind.ensures ∙ ap kind_by c.number.ensures in
    let p = count_number (cell_kind f x) in
    inserted_there f (cells_by c.insert.new.cells) (cells_by c.insert.new.cells) _ w m x c.first_link.result p p (number_in (cells_by c.insert.new.cells) m p) enters (c.first_link.ensures ∙ ap list_link kind) refl refl refl a among (c.insert.ensures.inserted, c.insert.ensures.list, c.insert.ensures.others)

pub set_count-requires-clause-numbers : goal.set_count-requires-clause-numbers
set_count-requires-clause-numbers c =
    let f = cells_by c.self.inside.cells in let m = cell_id c.in-Some.home in let a = cell_id c.args.after in let x = cell_id c.args.c in let w = c.self.invariant.web in
    let home : link_in f a HOME ≡ Some m = c.link.ensures ∙ ap (option_map cell_id) c.in-Some.is in
    let among = before_among c.self.inside.cells c.args.self.now _ c.self.view_is w m a x home c.requires.kind in
    let enters = enters_before c.self.inside.cells c.args.self.now _ c.self.view_is w m a x home c.requires.kind c.requires.there c.requires.homeless c.requires.differ in
    let kind : c.kind_of-kind.result ≡ cell_kind f x = c.kind_of-kind.ensures ∙ ap kind_by c.number.ensures in
    let p = count_number (cell_kind f x) in
    inserted_eight f (cells_by c.insert.new.cells) (cells_by c.insert.new.cells) _ w m x c.first_link.result p p (number_in (cells_by c.insert.new.cells) m p) enters (c.first_link.ensures ∙ ap list_link kind) refl refl refl a among (c.insert.ensures.inserted, c.insert.ensures.list, c.insert.ensures.others)

pub overflow_add-count : goal.overflow_add-count
overflow_add-count c =
    let f = cells_by c.self.inside.cells in let m = cell_id c.in-Some.home in let a = cell_id c.args.after in let x = cell_id c.args.c in let w = c.self.invariant.web in
    let home : link_in f a HOME ≡ Some m = c.link.ensures ∙ ap (option_map cell_id) c.in-Some.is in
    let among = before_among c.self.inside.cells c.args.self.now _ c.self.view_is w m a x home c.requires.kind in
    let enters = enters_before c.self.inside.cells c.args.self.now _ c.self.view_is w m a x home c.requires.kind c.requires.there c.requires.homeless c.requires.differ in
    let kind : c.kind_of-kind.result ≡ cell_kind f x = c.kind_of-kind.ensures ∙ ap kind_by c.number.ensures in
    let fits = inserted_fits f (cells_by c.insert.new.cells) (cells_by c.insert.new.cells) most_cells w m x c.first_link.result c.count_place.result c.count_place.result c.count-count.result enters (c.first_link.ensures ∙ ap list_link kind) (c.count_place.ensures ∙ ap count_number kind) (c.count_place.ensures ∙ ap count_number kind) c.count-count.ensures a among
    (c.insert.ensures.inserted, c.insert.ensures.list, c.insert.ensures.others) in
    omega (arith, fits)

pub is_filed-filed-requires : goal.is_filed-filed-requires
is_filed-filed-requires c =
    let f = cells_by c.self.inside.cells in let m = cell_id c.in-Some.home in let a = cell_id c.args.after in let w = c.self.invariant.web in
    let home : link_in f a HOME ≡ Some m = c.link.ensures ∙ ap (option_map cell_id) c.in-Some.is in
    (w.listed.homes m a home).0

pub place_from-place-requires-clause-home : goal.place_from-place-requires-clause-home
place_from-place-requires-clause-home c =
    let f = cells_by c.self.inside.cells in let m = cell_id c.in-Some.home in let a = cell_id c.args.after in let w = c.self.invariant.web in
    let home : link_in f a HOME ≡ Some m = c.link.ensures ∙ ap (option_map cell_id) c.in-Some.is in
    (w.listed.homes m a home).0

pub place_from-place-requires-clause-classes : goal.place_from-place-requires-clause-classes
place_from-place-requires-clause-classes c sure = c.self.invariant.classed.classes (cell_id c.in-Some.home) sure

pub place_from-place-requires-clause-kinds : goal.place_from-place-requires-clause-kinds
place_from-place-requires-clause-kinds c x i = c.self.invariant.web.listed.kinds (cell_id c.in-Some.home) x Atom i

pub place_from-place-requires-clause-there : goal.place_from-place-requires-clause-there
place_from-place-requires-clause-there c =
    let f = cells_by c.self.inside.cells in let x = cell_id c.args.c in
    some_back f (list_in f) x (subst (λ (z : List Row). IsSome (web_by z x)) (sym c.self.view_is) c.requires.there)

pub place_from-place-requires-clause-line : goal.place_from-place-requires-clause-line
place_from-place-requires-clause-line c sure =
    let f = cells_by c.self.inside.cells in let m = cell_id c.in-Some.home in let a = cell_id c.args.after in let x = cell_id c.args.c in let w = c.self.invariant.web in
    let home : link_in f a HOME ≡ Some m = c.link.ensures ∙ ap (option_map cell_id) c.in-Some.is in
    let enters = enters_before c.self.inside.cells c.args.self.now _ c.self.view_is w m a x home c.requires.kind c.requires.there c.requires.homeless c.requires.differ in
    w.listed.line m Atom enters.membrane

pub place_from-place-requires-clause-start : goal.place_from-place-requires-clause-start
place_from-place-requires-clause-start c sure =
    let f = cells_by c.self.inside.cells in let m = cell_id c.in-Some.home in let a = cell_id c.args.after in let x = cell_id c.args.c in let w = c.self.invariant.web in
    let home : link_in f a HOME ≡ Some m = c.link.ensures ∙ ap (option_map cell_id) c.in-Some.is in
    let kind : c.kind_of-kind.result ≡ cell_kind f x = c.kind_of-kind.ensures ∙ ap kind_by c.number.ensures in
    subst (λ k. In a (list_in f m k)) (sym kind ∙ filed_atom f m c.kind_of-kind.result (sym c.is_filed-filed.ensures ∙ sure)) (before_among c.self.inside.cells c.args.self.now _ c.self.view_is w m a x home c.requires.kind)

pub enter_class-requires : goal.enter_class-requires
enter_class-requires c sure =
    let f = cells_by c.self.inside.cells in let m = cell_id c.in-Some.home in let a = cell_id c.args.after in let x = cell_id c.args.c in let W = c.self.invariant in let w = W.web in
    let home : link_in f a HOME ≡ Some m = c.link.ensures ∙ ap (option_map cell_id) c.in-Some.is in
    let among = before_among c.self.inside.cells c.args.self.now _ c.self.view_is w m a x home c.requires.kind in
    let enters = enters_before c.self.inside.cells c.args.self.now _ c.self.view_is w m a x home c.requires.kind c.requires.there c.requires.homeless c.requires.differ in
    let kind : c.kind_of-kind.result ≡ cell_kind f x = c.kind_of-kind.ensures ∙ ap kind_by c.number.ensures in
    let filed : c.is_filed-filed.result ≡ files f m (cell_kind f x) = c.is_filed-filed.ensures ∙ ap (files f m) kind in
    let own = list_in f m (cell_kind f x) in let F = cells_by c.set_count.new.self in let xs = put_before x a own in
    let r = inserts f (cells_by c.insert.new.cells) F _ w m x c.first_link.result c.count_place.result c.count_place-in-Some.result c.count-count.result enters (c.first_link.ensures ∙ ap list_link kind) (c.count_place.ensures ∙ ap count_number kind) (c.count_place-in-Some.ensures ∙ ap count_number kind) c.count-count.ensures
    a among (c.insert.ensures.inserted, c.insert.ensures.list, c.insert.ensures.others) c.set_count.ensures in
    let leaves : Leaves f F m = inserts_left f (cells_by c.insert.new.cells) F m c.first_link.result a x c.count_place-in-Some.result (c.count-count.result + 1) (cell_kind f x) (c.first_link.ensures ∙ ap list_link kind) c.insert.ensures.inserted c.set_count.ensures in
    let first = tree f F _ W m x (Some m) xs r leaves in let place = option_map cell_id c.place_from-place.result in
    let may : c.is_filed-filed.result ≡ true → MayEnter F m x place own first xs = λ sure.
    may_before f F _ W m x (Some m) xs r leaves a place refl (sym filed ∙ sure) enters.there enters.free among (c.place_from-place.ensures sure) in
    (own, first, xs, may sure)

pub invariant_of-self : goal.invariant_of-self
invariant_of-self c =
    let f = cells_by c.self.inside.cells in let m = cell_id c.in-Some.home in let a = cell_id c.args.after in let x = cell_id c.args.c in let W = c.self.invariant in let w = W.web in
    let home : link_in f a HOME ≡ Some m = c.link.ensures ∙ ap (option_map cell_id) c.in-Some.is in
    let among = before_among c.self.inside.cells c.args.self.now _ c.self.view_is w m a x home c.requires.kind in
    let enters = enters_before c.self.inside.cells c.args.self.now _ c.self.view_is w m a x home c.requires.kind c.requires.there c.requires.homeless c.requires.differ in
    let kind : c.kind_of-kind.result ≡ cell_kind f x = c.kind_of-kind.ensures ∙ ap kind_by c.number.ensures in
    let filed : c.is_filed-filed.result ≡ files f m (cell_kind f x) = c.is_filed-filed.ensures ∙ ap (files f m) kind in
    let own = list_in f m (cell_kind f x) in let F = cells_by c.set_count.new.self in let xs = put_before x a own in
    let r = inserts f (cells_by c.insert.new.cells) F _ w m x c.first_link.result c.count_place.result c.count_place-in-Some.result c.count-count.result enters (c.first_link.ensures ∙ ap list_link kind) (c.count_place.ensures ∙ ap count_number kind) (c.count_place-in-Some.ensures ∙ ap count_number kind) c.count-count.ensures
    a among (c.insert.ensures.inserted, c.insert.ensures.list, c.insert.ensures.others) c.set_count.ensures in
    let leaves : Leaves f F m = inserts_left f (cells_by c.insert.new.cells) F m c.first_link.result a x c.count_place-in-Some.result (c.count-count.result + 1) (cell_kind f x) (c.first_link.ensures ∙ ap list_link kind) c.insert.ensures.inserted c.set_count.ensures in
    let first = tree f F _ W m x (Some m) xs r leaves in let place = option_map cell_id c.place_from-place.result in
    let may : c.is_filed-filed.result ≡ true → MayEnter F m x place own first xs = λ sure.
    may_before f F _ W m x (Some m) xs r leaves a place refl (sym filed ∙ sure) enters.there enters.free among (c.place_from-place.ensures sure) in
    entered_web f F _ W m x (Some m) xs r leaves (cells_by c.enter_class.new.cells) c.is_filed-filed.result (key_in F x) filed enters.free (c.enter_class.ensures own first xs may)

pub returns-in-Some : goal.returns-in-Some
returns-in-Some c n at =
    let f = cells_by c.self.inside.cells in let m = cell_id c.in-Some.home in let a = cell_id c.args.after in let x = cell_id c.args.c in let W = c.self.invariant in let w = W.web in
    let home : link_in f a HOME ≡ Some m = c.link.ensures ∙ ap (option_map cell_id) c.in-Some.is in
    let among = before_among c.self.inside.cells c.args.self.now _ c.self.view_is w m a x home c.requires.kind in
    let enters = enters_before c.self.inside.cells c.args.self.now _ c.self.view_is w m a x home c.requires.kind c.requires.there c.requires.homeless c.requires.differ in
    let kind : c.kind_of-kind.result ≡ cell_kind f x = c.kind_of-kind.ensures ∙ ap kind_by c.number.ensures in
    let filed : c.is_filed-filed.result ≡ files f m (cell_kind f x) = c.is_filed-filed.ensures ∙ ap (files f m) kind in
    let own = list_in f m (cell_kind f x) in let F = cells_by c.set_count.new.self in let xs = put_before x a own in
    let r = inserts f (cells_by c.insert.new.cells) F _ w m x c.first_link.result c.count_place.result c.count_place-in-Some.result c.count-count.result enters (c.first_link.ensures ∙ ap list_link kind) (c.count_place.ensures ∙ ap count_number kind) (c.count_place-in-Some.ensures ∙ ap count_number kind) c.count-count.ensures
    a among (c.insert.ensures.inserted, c.insert.ensures.list, c.insert.ensures.others) c.set_count.ensures in
    let leaves : Leaves f F m = inserts_left f (cells_by c.insert.new.cells) F m c.first_link.result a x c.count_place-in-Some.result (c.count-count.result + 1) (cell_kind f x) (c.first_link.ensures ∙ ap list_link kind) c.insert.ensures.inserted c.set_count.ensures in
    let first = tree f F _ W m x (Some m) xs r leaves in let place = option_map cell_id c.place_from-place.result in
    let may : c.is_filed-filed.result ≡ true → MayEnter F m x place own first xs = λ sure.
    may_before f F _ W m x (Some m) xs r leaves a place refl (sym filed ∙ sure) enters.there enters.free among (c.place_from-place.ensures sure) in
    let same : n ≡ m = let e : Some n ≡ Some m = sym at ∙ ap (λ (z : List Row). home_at (web_by z) a) (sym c.self.view_is) ∙ home_same f (list_in f) a ∙ home in cc in
    relists_is f (cells_by c.enter_class.new.cells) _ w m x (Some m) xs (entered_list f F _ W m x (Some m) xs r leaves (cells_by c.enter_class.new.cells) c.is_filed-filed.result (key_in F x) filed enters.free (c.enter_class.ensures own first xs may))
    ∙ before_is f (list_in f) w.listed m a x ∙ (λ t. added_before (web_by (c.self.view_is t)) (sym same t) a x)

pub place_from-place-requires-clause-membrane : goal.place_from-place-requires-clause-membrane
place_from-place-requires-clause-membrane c sure =
    let f = cells_by c.self.inside.cells in let m = cell_id c.in-Some.home in let a = cell_id c.args.after in let w = c.self.invariant.web in
    let home : link_in f a HOME ≡ Some m = c.link.ensures ∙ ap (option_map cell_id) c.in-Some.is in
    filed_membrane f _ m w (w.listed.homes m a home).0 sure
