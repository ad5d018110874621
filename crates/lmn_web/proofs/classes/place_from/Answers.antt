use Rattle.std.proofs.Common.{◌≡◌, ◌≢◌, not, Some, None, IsSome, sym, ap, subst, ◌∙◌}
use Rattle.std.specs.Option.{option_map}
use Rattle.lmn_store_heap.specs.Lists.{from}
use Rattle.lmn_store_heap.proofs.ListLemmas.{each_in}
use Rattle.lmn_web_cells.specs.Cells.{cells_by}
use Rattle.lmn_web_cells.specs.CellIds.{cell_id}
use Rattle.lmn_web_cells.specs.Links.{HOME, PREV}
use Rattle.lmn_web_cells.specs.Runs.{link_in}
use Rattle.lmn_web.specs.declared.kind.CellKind.TheVariants.{Atom}
use Rattle.lmn_web.specs.Webs.{list_in}
use Rattle.lmn_web.specs.Classes.{of_class, key_by, key_in}
use Rattle.lmn_web.proofs.ListedLemmas.{first_of_list, none_told}
use Rattle.lmn_web.proofs.classes.place_from.Goals as goal

pub link-requires-clause-there : goal.link-requires-clause-there
link-requires-clause-there c =
    let f = cells_by c.args.cells.now in let m = cell_id c.args.m in
    (each_in (λ y. IsSome (f y) × (y ≢ m) × (link_in f y HOME ≡ Some m)) (list_in f m Atom) (cell_id c.args.start) (c.requires.line c.if-not-filed.false).cells (c.requires.start c.if-not-filed.false)).0

pub returns-then-is_none : goal.returns-then-is_none
returns-then-is_none c sure =
    let f = cells_by c.args.cells.now in let m = cell_id c.args.m in let all = list_in f m Atom in
    let none : link_in f (cell_id c.args.start) PREV ≡ None = c.link.ensures ∙ none_told cell_id c.link.result (c.is_none.ensures ∙ ap not c.if-is_none.true) in
    let key : key_by c.own_key-key.result ≡ key_in f (cell_id c.args.c) = c.own_key-key.ensures.class in
    subst (λ p. from (option_map cell_id c.first_in.result) (of_class f p all) ≡ of_class f p all) key c.first_in.ensures ∙ ap (of_class f (key_in f (cell_id c.args.c))) (sym (first_of_list f m 3 (cell_id c.args.start) all (c.requires.line sure) (c.requires.start sure) none))
