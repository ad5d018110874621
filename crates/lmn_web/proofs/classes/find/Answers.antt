use Rattle.std.proofs.Common.{◌≡◌, ◌<◌, ◌/◌, Some, length, refl, sym, ap, subst, ◌∙◌, inl, inr}
use Rattle.std.specs.Option.{option_map}
use Rattle.lmn_web_cells.specs.Cells.{cells_by}
use Rattle.lmn_web_cells.specs.CellIds.{cell_id}
use Rattle.lmn_web_cells.specs.Runs.{link_in}
use Rattle.lmn_web_cells.specs.Links.{LEADERS}
use Rattle.lmn_web_cells.proofs.MadeLemmas.{link_itself}
use Rattle.lmn_web.specs.Classes.{key_by}
use Rattle.lmn_web.proofs.ClassLemmas.{Left, bulk, tree_small, side_of, side_small, left_all, left_next, left_found, left_none, left_there, left_atom}
use Rattle.lmn_web.proofs.classes.find.Goals as goal

pub loop-at-init : goal.loop-at-init
loop-at-init c =
    let f = cells_by c.args.cells.now in let m = cell_id c.args.m in let n = length c.args.cells.now in let p = key_by c.args.key in let l = c.requires.tree in
    (subst (λ o. Left f p m n m LEADERS (c.args.key / 65536) o) c.last_link-at.ensures (left_all f p m n l.0 l.1 l.3 (tree_small c.args.cells.now (link_in f m LEADERS) 0 l.0 l.1 l.2)), inr refl)

pub has_class-requires-clause-there : goal.has_class-requires-clause-there
has_class-requires-clause-there c = left_there (cells_by c.args.cells.now) _ _ _ _ _ _ _ (rw c.in-Some.is at c.loop-at.invariant.0)

pub has_class-requires-clause-atom : goal.has_class-requires-clause-atom
has_class-requires-clause-atom c = left_atom (cells_by c.args.cells.now) _ _ _ _ _ _ _ (rw c.in-Some.is at c.loop-at.invariant.0)

pub link-at-requires-clause-there : goal.link-at-requires-clause-there
link-at-requires-clause-there c = left_there (cells_by c.args.cells.now) _ _ _ _ _ _ _ (rw c.in-Some.is at c.loop-at.invariant.0)

pub returns-then-has_class-clause-place : goal.returns-then-has_class-clause-place
returns-then-has_class-clause-place c = left_found (cells_by c.args.cells.now) _ _ _ _ _ _ _ (rw c.in-Some.is at c.loop-at.invariant.0) (sym c.has_class.ensures ∙ c.if-has_class.true)

pub loop-at-smaller : goal.loop-at-smaller
loop-at-smaller c =
    let f = cells_by c.args.cells.now in let m = cell_id c.args.m in let n = length c.args.cells.now in let p = key_by c.args.key in let x = cell_id c.in-Some.c in
    let next = left_next f p m n _ _ c.loop-at.rest x (rw c.in-Some.is at c.loop-at.invariant.0) (sym c.has_class.ensures ∙ c.if-has_class.false) in
    let read : link_in f x (side_of c.loop-at.rest) ≡ option_map cell_id c.link-at.result = ap (link_in f x) (sym c.side-word.ensures) ∙ c.link-at.ensures in
    subst (λ o. bulk f n (option_map cell_id c.link-at.result) < bulk f n (option_map cell_id o)) (sym c.in-Some.is) (subst (λ o. bulk f n o < bulk f n (Some x)) read next.1)

pub loop-at-preserved : goal.loop-at-preserved
loop-at-preserved c =
    let f = cells_by c.args.cells.now in let m = cell_id c.args.m in let n = length c.args.cells.now in let p = key_by c.args.key in let x = cell_id c.in-Some.c in
    let next = left_next f p m n _ _ c.loop-at.rest x (rw c.in-Some.is at c.loop-at.invariant.0) (sym c.has_class.ensures ∙ c.if-has_class.false) in
    let read : link_in f x (side_of c.loop-at.rest) ≡ option_map cell_id c.link-at.result = ap (link_in f x) (sym c.side-word.ensures) ∙ c.link-at.ensures in
    let small : c.side-word.result < 7 = side_small c.loop-at.rest c.side-word.result c.side-word.ensures in
    (subst (λ k. Left f p m n x k (c.loop-at.rest / 2) (option_map cell_id c.link-at.result)) (sym (link_itself c.side-word.result small ∙ c.side-word.ensures)) (subst (λ o. Left f p m n x (side_of c.loop-at.rest) (c.loop-at.rest / 2) o) read next.0), inl small)

pub returns-clause-place : goal.returns-clause-place
returns-clause-place c = left_none (cells_by c.args.cells.now) _ _ _ _ _ _ (rw c.in_default.is at c.loop-at.invariant.0)
