use Rattle.std.proofs.Common.{◌≡◌, true, false, sym, ap, subst, ◌∙◌}
use Rattle.std.specs.Option.{option_map}
use Rattle.lmn_store_heap.specs.Lists.{from, after}
use Rattle.lmn_store_heap.proofs.ListLemmas.{each_in}
use Rattle.lmn_web_cells.specs.Cells.{cells_by}
use Rattle.lmn_web_cells.specs.CellIds.{cell_id}
use Rattle.lmn_web.specs.declared.kind.CellKind.TheVariants.{Atom}
use Rattle.lmn_web.specs.Webs.{list_in}
use Rattle.lmn_base.specs.Lists.{In}
use Rattle.lmn_web.specs.Classes.{key_by, key_in, is_key, lasts, of_class}
use Rattle.lmn_web.proofs.ClassEnds.{even_alive, ends_last, files_membrane, last_ends}
use Rattle.lmn_web.proofs.ListedLemmas.{goes_on, some_there}
use Rattle.lmn_web.proofs.SeekLemmas.{next_some}
use Rattle.lmn_web.proofs.Reclassing.{key_same}
use Rattle.lmn_web.proofs.ClassReads.{class_goes_on, class_next}
use Rattle.lmn_web.proofs.classes.next_in.Goals as goal
use Rattle.lmn_store_heap.proofs.Filters.{filter_after}

pub is_last-requires-clause-there : goal.is_last-requires-clause-there
is_last-requires-clause-there c = (each_in _ _ (cell_id c.args.c) c.requires.line.cells c.requires.inside).0

pub is_last-requires-clause-even : goal.is_last-requires-clause-even
is_last-requires-clause-even c d e =
    let f = cells_by c.args.cells.now in let m = cell_id c.args.m in let filed = sym c.is_filed.ensures ∙ c.if-is_filed.true in
    let o = c.requires.classes filed in
    even_alive f m (list_in f m Atom) o.0 o.1 c.requires.kinds (files_membrane f m filed) c.requires.there (λ x i. (each_in _ _ x c.requires.line.cells i).0) (cell_id c.args.c) c.requires.inside d e

pub target-requires-clause-there : goal.target-requires-clause-there
target-requires-clause-there c = (each_in _ _ (cell_id c.args.c) c.requires.line.cells c.requires.inside).0

pub link-requires-clause-there : goal.link-requires-clause-there
link-requires-clause-there c = (each_in _ _ (cell_id c.args.c) c.requires.line.cells c.requires.inside).0

pub own_key-requires : goal.own_key-requires
own_key-requires c = (each_in _ _ (cell_id c.args.c) c.requires.line.cells c.requires.inside).0

pub target-requires-clause-leads : goal.target-requires-clause-leads
target-requires-clause-leads c =
    let f = cells_by c.args.cells.now in let m = cell_id c.args.m in let o = c.requires.classes (sym c.is_filed.ensures ∙ c.if-is_filed.true) in
    some_there _ (λ e. class_next f m (list_in f m Atom) o.0 o.1 (cell_id c.args.c) c.requires.inside e)

pub returns-then-is_last : goal.returns-then-is_last
returns-then-is_last c =
    let f = cells_by c.args.cells.now in let m = cell_id c.args.m in let x = cell_id c.args.c in let filed = sym c.is_filed.ensures ∙ c.if-is_filed.true in
    let o = c.requires.classes filed in
    let last = ends_last f m (list_in f m Atom) o.0 o.1 c.requires.kinds (files_membrane f m filed) x c.requires.inside (sym c.is_last.ensures ∙ c.if-is_last.true) in
    sym ((class_goes_on f m (list_in f m Atom) o.0 o.1 c.requires.line.once x c.requires.inside).0 last)

pub returns-else-is_last : goal.returns-else-is_last
returns-else-is_last c =
    let f = cells_by c.args.cells.now in let m = cell_id c.args.m in let x = cell_id c.args.c in let own = of_class f (key_in f x) (list_in f m Atom) in let filed = sym c.is_filed.ensures ∙ c.if-is_filed.true in
    let o = c.requires.classes filed in
    let inner : In x (lasts o.0) → ⊥ = λ i. (let z : true ≡ false = sym (last_ends f m (list_in f m Atom) o.0 o.1 c.requires.kinds (files_membrane f m filed) x i) ∙ sym c.is_last.ensures ∙ c.if-is_last.false in cc) in
    subst (λ u. from u own ≡ after x own) (c.target.ensures) ((class_goes_on f m (list_in f m Atom) o.0 o.1 c.requires.line.once x c.requires.inside).1 inner)

pub seek-requires-clause-start : goal.seek-requires-clause-start
seek-requires-clause-start c =
    let f = cells_by c.args.cells.now in let m = cell_id c.args.m in let x = cell_id c.args.c in let all = list_in f m Atom in
    let on : from (option_map cell_id c.link.result) all ≡ after x all = ap (λ o. from o all) (sym c.link.ensures) ∙ goes_on f m 3 x all c.requires.line c.requires.inside in
    next_some cell_id c.link.result x all on

pub returns-else-is_filed : goal.returns-else-is_filed
returns-else-is_filed c =
    let f = cells_by c.args.cells.now in let m = cell_id c.args.m in let x = cell_id c.args.c in let all = list_in f m Atom in
    let on : from (option_map cell_id c.link.result) all ≡ after x all = ap (λ o. from o all) (sym c.link.ensures) ∙ goes_on f m 3 x all c.requires.line c.requires.inside in
    let key : key_by c.own_key.result ≡ key_in f x = c.own_key.ensures.class in
    let p = key_in f x in let r = option_map cell_id c.seek.result in
    let found : from r (of_class f p all) ≡ of_class f p (from (option_map cell_id c.link.result) all) = subst (λ k. from r (of_class f k all) ≡ of_class f k (from (option_map cell_id c.link.result) all)) key c.seek.ensures in
    found ∙ ap (of_class f p) on ∙ sym (filter_after (λ a. is_key (key_in f a) p) x all (key_same p))
