use Rattle.std.proofs.Common.{◌≡◌, ◌<◌, Some, refl, length, sym, subst, ap, ◌∙◌}
use Rattle.std.specs.Option.{option_map}
use Rattle.lmn_store_heap.specs.Lists.{from, after}
use Rattle.lmn_store_heap.proofs.ListLemmas.{each_in}
use Rattle.lmn_web_cells.specs.Cells.{cells_by}
use Rattle.lmn_web_cells.specs.CellIds.{cell_id}
use Rattle.lmn_web.specs.declared.kind.CellKind.TheVariants.{Atom}
use Rattle.lmn_web.specs.Webs.{list_in}
use Rattle.lmn_web.specs.Classes.{is_key, key_by, key_in}
use Rattle.lmn_web.proofs.ListedLemmas.{goes_on}
use Rattle.lmn_web.proofs.SeekLemmas.{Seeks, seeks_start, seeks_next, seeks_found}
use Rattle.lmn_web.proofs.classes.seek.Goals as goal

pub loop-at-init : goal.loop-at-init
loop-at-init c = seeks_start cell_id _ _ c.args.start c.requires.start

pub has_class-requires-clause-atom : goal.has_class-requires-clause-atom
has_class-requires-clause-atom c =
    let f = cells_by c.args.cells.now in let m = cell_id c.args.m in let all = list_in f m Atom in let x = cell_id c.in-Some.c in
    let s : Seeks (λ a. is_key (key_in f a) (key_by c.args.key)) all (option_map cell_id c.args.start) (Some x) = rw c.in-Some.is at c.loop-at.invariant in
    c.requires.kinds x (s.there x refl)

pub has_class-requires-clause-there : goal.has_class-requires-clause-there
has_class-requires-clause-there c =
    let f = cells_by c.args.cells.now in let m = cell_id c.args.m in let all = list_in f m Atom in let x = cell_id c.in-Some.c in
    let s : Seeks (λ a. is_key (key_in f a) (key_by c.args.key)) all (option_map cell_id c.args.start) (Some x) = rw c.in-Some.is at c.loop-at.invariant in
    (each_in _ all x c.requires.line.cells (s.there x refl)).0

pub returns-then-has_class : goal.returns-then-has_class
returns-then-has_class c =
    let f = cells_by c.args.cells.now in let m = cell_id c.args.m in let all = list_in f m Atom in let x = cell_id c.in-Some.c in
    let s : Seeks (λ a. is_key (key_in f a) (key_by c.args.key)) all (option_map cell_id c.args.start) (Some x) = rw c.in-Some.is at c.loop-at.invariant in
    seeks_found _ all _ x s (sym c.has_class.ensures ∙ c.if-has_class.true)

pub link-at-requires-clause-there : goal.link-at-requires-clause-there
link-at-requires-clause-there c =
    let f = cells_by c.args.cells.now in let m = cell_id c.args.m in let all = list_in f m Atom in let x = cell_id c.in-Some.c in
    let s : Seeks (λ a. is_key (key_in f a) (key_by c.args.key)) all (option_map cell_id c.args.start) (Some x) = rw c.in-Some.is at c.loop-at.invariant in
    (each_in _ all x c.requires.line.cells (s.there x refl)).0

pub loop-at-smaller : goal.loop-at-smaller
loop-at-smaller c =
    let f = cells_by c.args.cells.now in let m = cell_id c.args.m in let all = list_in f m Atom in let x = cell_id c.in-Some.c in
    let s : Seeks (λ a. is_key (key_in f a) (key_by c.args.key)) all (option_map cell_id c.args.start) (Some x) = rw c.in-Some.is at c.loop-at.invariant in
    let on : from (option_map cell_id c.link-at.result) all ≡ after x all = ap (λ o. from o all) (sym c.link-at.ensures) ∙ goes_on f m 3 x all c.requires.line (s.there x refl) in
    subst (λ o. length (from (option_map cell_id c.link-at.result) all) < length (from (option_map cell_id o) all)) (sym c.in-Some.is) (seeks_next _ all _ _ x s (sym c.has_class.ensures ∙ c.if-has_class.false) on).1

pub loop-at-preserved : goal.loop-at-preserved
loop-at-preserved c =
    let f = cells_by c.args.cells.now in let m = cell_id c.args.m in let all = list_in f m Atom in let x = cell_id c.in-Some.c in
    let s : Seeks (λ a. is_key (key_in f a) (key_by c.args.key)) all (option_map cell_id c.args.start) (Some x) = rw c.in-Some.is at c.loop-at.invariant in
    let on : from (option_map cell_id c.link-at.result) all ≡ after x all = ap (λ o. from o all) (sym c.link-at.ensures) ∙ goes_on f m 3 x all c.requires.line (s.there x refl) in
    (seeks_next _ all _ _ x s (sym c.has_class.ensures ∙ c.if-has_class.false) on).0

pub returns : goal.returns
returns c =
    let f = cells_by c.args.cells.now in let m = cell_id c.args.m in let all = list_in f m Atom in
    let s : Seeks (λ a. is_key (key_in f a) (key_by c.args.key)) all (option_map cell_id c.args.start) _ = rw c.in_default.is at c.loop-at.invariant in
    s.rest
