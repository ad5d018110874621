use Rattle.std.proofs.Common.{◌≡◌, List, Some, sym, ap, subst, ◌∙◌}
use Rattle.std.specs.Option.{option_map}
use Rattle.lmn_base.specs.Lists.{In}
use Rattle.lmn_store_heap.specs.Lists.{from, after}
use Rattle.lmn_store_heap.proofs.Trees.{next_in}
use Rattle.lmn_web_cells.specs.Rows.{Row}
use Rattle.lmn_web_cells.specs.Cells.{cells_by}
use Rattle.lmn_web_cells.specs.CellIds.{cell_id}
use Rattle.lmn_web_cells.specs.Runs.{link_in}
use Rattle.lmn_web_cells.specs.Links.{HOME}
use Rattle.lmn_web.specs.declared.kind.CellKind.TheVariants.{Atom}
use Rattle.lmn_web.specs.Webs.{web_by, web_of, cells_in, list_in, home_at, kind_at, arity_at, web_label, label_class, with_class}
use Rattle.lmn_web.specs.Indexes.{cell_kind}
use Rattle.lmn_web.specs.Classes.{is_key, key_in, of_class}
use Rattle.lmn_web.proofs.ListedLemmas.{home_same, kind_same, list_same, own_line, if_some}
use Rattle.lmn_web.proofs.ClassReads.{class_list, key_by_label}
use Rattle.lmn_web.proofs.Filing.{filed_membrane}
use Rattle.lmn_web.proofs.web.Web.next_of_class.Goals as goal
use Rattle.lmn_store_heap.proofs.Filters.{in_filter}

pub next_in-requires-clause-there : goal.next_in-requires-clause-there
next_in-requires-clause-there c =
    let f = cells_by c.self.inside.cells in let x = cell_id c.args.c in let W = c.self.invariant in let n = cell_id c.home_of.result in
    let home : link_in f x HOME ≡ Some n = sym (home_same f (list_in f) x) ∙ ap (λ (z : List Row). home_at (web_by z) x) c.self.view_is ∙ c.home_of.ensures in
    (W.web.listed.homes n x home).0

pub next_in-requires-clause-membrane : goal.next_in-requires-clause-membrane
next_in-requires-clause-membrane c sure =
    let f = cells_by c.self.inside.cells in let x = cell_id c.args.c in let W = c.self.invariant in let n = cell_id c.home_of.result in
    let home : link_in f x HOME ≡ Some n = sym (home_same f (list_in f) x) ∙ ap (λ (z : List Row). home_at (web_by z) x) c.self.view_is ∙ c.home_of.ensures in
    filed_membrane f _ n W.web (W.web.listed.homes n x home).0 sure

pub next_in-requires-clause-kinds : goal.next_in-requires-clause-kinds
next_in-requires-clause-kinds c z i = c.self.invariant.web.listed.kinds (cell_id c.home_of.result) z Atom i

pub next_in-requires-clause-line : goal.next_in-requires-clause-line
next_in-requires-clause-line c =
    let f = cells_by c.self.inside.cells in let x = cell_id c.args.c in let W = c.self.invariant in let n = cell_id c.home_of.result in
    let home : link_in f x HOME ≡ Some n = sym (home_same f (list_in f) x) ∙ ap (λ (z : List Row). home_at (web_by z) x) c.self.view_is ∙ c.home_of.ensures in
    let atom : cell_kind f x ≡ Atom = sym (kind_same f (list_in f) x) ∙ ap (λ (z : List Row). kind_at (web_by z) x) c.self.view_is ∙ c.requires.atom in
    let among : In x (list_in f n Atom) = subst (λ k. In x (list_in f n k)) atom (W.web.listed.homes n x home).1 in
    own_line f (list_in f) W.web.listed n x Atom among

pub next_in-requires-clause-inside : goal.next_in-requires-clause-inside
next_in-requires-clause-inside c =
    let f = cells_by c.self.inside.cells in let x = cell_id c.args.c in let W = c.self.invariant in let n = cell_id c.home_of.result in
    let home : link_in f x HOME ≡ Some n = sym (home_same f (list_in f) x) ∙ ap (λ (z : List Row). home_at (web_by z) x) c.self.view_is ∙ c.home_of.ensures in
    let atom : cell_kind f x ≡ Atom = sym (kind_same f (list_in f) x) ∙ ap (λ (z : List Row). kind_at (web_by z) x) c.self.view_is ∙ c.requires.atom in
    let among : In x (list_in f n Atom) = subst (λ k. In x (list_in f n k)) atom (W.web.listed.homes n x home).1 in
    among

pub next_in-requires-clause-classes : goal.next_in-requires-clause-classes
next_in-requires-clause-classes c sure = c.self.invariant.classed.classes (cell_id c.home_of.result) sure

pub returns-clause-list : goal.returns-clause-list
returns-clause-list c m label at named =
    let f = cells_by c.self.inside.cells in let x = cell_id c.args.c in let W = c.self.invariant in let n = cell_id c.home_of.result in let r = option_map cell_id c.next_in.result in
    let own : home_at (web_by c.args.self.now) x ≡ Some n = c.home_of.ensures in
    let same : n ≡ m = let e : Some n ≡ Some m = sym own ∙ at in cc in
    let cells = list_in f m Atom in
    let on : from r (of_class f (key_in f x) cells) ≡ after x (of_class f (key_in f x) cells) = subst (λ n. from r (of_class f (key_in f x) (list_in f n Atom)) ≡ after x (of_class f (key_in f x) (list_in f n Atom))) same c.next_in.ensures in
    let w = web_of f in
    let key = key_by_label f _ W x label (ap (λ (z : List Row). web_label (web_by z) x) c.self.view_is ∙ named) in
    subst (λ (z : List Row). from r (with_class (web_by z) (label_class label) (arity_at (web_by z) x) (cells_in (web_by z) m Atom)) ≡ after x (with_class (web_by z) (label_class label) (arity_at (web_by z) x) (cells_in (web_by z) m Atom))) c.self.view_is
    (subst (λ us. from r us ≡ after x us) (sym (class_list f _ W m (label_class label) (arity_at w x))) (subst (λ p. from r (of_class f p cells) ≡ after x (of_class f p cells)) key on))

pub returns-clause-there : goal.returns-clause-there
returns-clause-there c m at =
    let f = cells_by c.self.inside.cells in let x = cell_id c.args.c in let W = c.self.invariant in let n = cell_id c.home_of.result in let r = option_map cell_id c.next_in.result in
    let own : home_at (web_by c.args.self.now) x ≡ Some n = c.home_of.ensures in
    let same : n ≡ m = let e : Some n ≡ Some m = sym own ∙ at in cc in
    let cells = list_in f m Atom in
    let on : from r (of_class f (key_in f x) cells) ≡ after x (of_class f (key_in f x) cells) = subst (λ n. from r (of_class f (key_in f x) (list_in f n Atom)) ≡ after x (of_class f (key_in f x) (list_in f n Atom))) same c.next_in.ensures in
    if_some cell_id c.next_in.result (λ q. In q (cells_in (web_by c.args.self.now) m Atom)) (λ q e.
    subst (λ (z : List Row). In q (cells_in (web_by z) m Atom)) c.self.view_is (subst (λ us. In q us) (sym (list_same f (list_in f) W.web.listed m Atom))
    (in_filter (λ a. is_key (key_in f a) (key_in f x)) q cells (next_in x q (of_class f (key_in f x) cells) (ap (λ u. from u (of_class f (key_in f x) cells)) (sym e) ∙ on))).0))
