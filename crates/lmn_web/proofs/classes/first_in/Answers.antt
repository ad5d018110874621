use Rattle.std.proofs.Common.{◌≡◌, Some, refl, sym, ap, subst, ◌∙◌}
use Rattle.std.specs.Option.{option_map}
use Rattle.lmn_base.specs.Lists.{In}
use Rattle.lmn_store_heap.specs.Lists.{from}
use Rattle.lmn_store_heap.proofs.ListLemmas.{each_in}
use Rattle.lmn_web_cells.specs.Cells.{cells_by}
use Rattle.lmn_web_cells.specs.CellIds.{cell_id}
use Rattle.lmn_web_cells.specs.Runs.{link_in}
use Rattle.lmn_web.specs.declared.kind.CellKind.TheVariants.{Atom}
use Rattle.lmn_web.specs.Webs.{list_in}
use Rattle.lmn_web.specs.Classes.{key_by, of_class, place_in, top}
use Rattle.lmn_web.proofs.ClassPlaces.{class_none, last_in}
use Rattle.lmn_web.proofs.ListedLemmas.{begins_list, from_in, if_some, some_there}
use Rattle.lmn_web.proofs.ClassReads.{class_begins, class_first}
use Rattle.lmn_web.proofs.classes.first_in.Goals as goal

pub last_of-requires-clause-tree : goal.last_of-requires-clause-tree
last_of-requires-clause-tree c =
    let o = c.requires.classes (sym c.is_filed.ensures ∙ c.if-is_filed.true) in (o.0, o.1.tree, o.1.sorted, λ l i. c.requires.kinds l (o.1.inside l i))

pub target-requires-clause-there : goal.target-requires-clause-there
target-requires-clause-there c =
    let f = cells_by c.args.cells.now in let m = cell_id c.args.m in let p = key_by c.args.key in
    let o = c.requires.classes (sym c.is_filed.ensures ∙ c.if-is_filed.true) in
    let l = cell_id c.in-Some.last in
    let no_m : In m (list_in f m Atom) → ⊥ = λ i. (each_in _ _ m c.requires.line.cells i).1 refl in
    let found : top (place_in f p m o.0).tree ≡ Some l = sym (c.last_of.ensures o.0 o.1.tree) ∙ ap (option_map cell_id) c.in-Some.is in
    (each_in _ _ l c.requires.line.cells (o.1.inside l (last_in f m (list_in f m Atom) o.0 o.1 no_m p l found).0)).0

pub returns-in-None : goal.returns-in-None
returns-in-None c =
    let f = cells_by c.args.cells.now in let m = cell_id c.args.m in let p = key_by c.args.key in
    let o = c.requires.classes (sym c.is_filed.ensures ∙ c.if-is_filed.true) in
    let no_m : In m (list_in f m Atom) → ⊥ = λ i. (each_in _ _ m c.requires.line.cells i).1 refl in
    sym (class_none f m (list_in f m Atom) o.0 o.1 no_m p (sym (c.last_of.ensures o.0 o.1.tree) ∙ ap (option_map cell_id) c.in-None.is))

pub target-requires-clause-leads : goal.target-requires-clause-leads
target-requires-clause-leads c =
    let f = cells_by c.args.cells.now in let m = cell_id c.args.m in let p = key_by c.args.key in
    let o = c.requires.classes (sym c.is_filed.ensures ∙ c.if-is_filed.true) in
    let no_m : In m (list_in f m Atom) → ⊥ = λ i. (each_in _ _ m c.requires.line.cells i).1 refl in
    some_there _ (λ e. class_first f m (list_in f m Atom) o.0 o.1 no_m p (cell_id c.in-Some.last) (sym (c.last_of.ensures o.0 o.1.tree) ∙ ap (option_map cell_id) c.in-Some.is) e)

pub returns-in-Some : goal.returns-in-Some
returns-in-Some c =
    let f = cells_by c.args.cells.now in let m = cell_id c.args.m in let p = key_by c.args.key in
    let o = c.requires.classes (sym c.is_filed.ensures ∙ c.if-is_filed.true) in
    let l = cell_id c.in-Some.last in let own = of_class f p (list_in f m Atom) in
    let no_m : In m (list_in f m Atom) → ⊥ = λ i. (each_in _ _ m c.requires.line.cells i).1 refl in
    subst (λ u. from u own ≡ own) (c.target.ensures) (class_begins f m (list_in f m Atom) o.0 o.1 no_m p l (sym (c.last_of.ensures o.0 o.1.tree) ∙ ap (option_map cell_id) c.in-Some.is))

pub seek-requires-clause-start : goal.seek-requires-clause-start
seek-requires-clause-start c =
    let f = cells_by c.args.cells.now in let m = cell_id c.args.m in let all = list_in f m Atom in
    if_some cell_id c.link.result (λ q. In q all) (λ q e. from_in (link_in f m 3) all (begins_list f m 3 all c.requires.line) q (c.link.ensures ∙ e))

pub returns-else-is_filed : goal.returns-else-is_filed
returns-else-is_filed c =
    let f = cells_by c.args.cells.now in let m = cell_id c.args.m in let all = list_in f m Atom in let p = key_by c.args.key in
    let begins : from (option_map cell_id c.link.result) all ≡ all = subst (λ o. from o all ≡ all) c.link.ensures (begins_list f m 3 all c.requires.line) in
    c.seek.ensures ∙ ap (of_class f p) begins
