use Rattle.std.proofs.Common.{length, ap}
use Rattle.std.specs.Option.{option_map}
use Rattle.lmn_web_cells.specs.Cells.{cells_by}
use Rattle.lmn_web_cells.specs.CellIds.{cell_id}
use Rattle.lmn_web.specs.Classes.{Hung}
use Rattle.lmn_web.proofs.ClassLemmas.{tree_small, down_all, down_next, down_none, down_there}
use Rattle.lmn_web.proofs.classes.lowest.Goals as goal

pub loop-next-init : goal.loop-next-init
loop-next-init c =
    let f = cells_by c.args.cells.now in let x = cell_id c.args.c in let r = c.requires.tree in let o = c.below-place.result in
    down_all f x (length c.args.cells.now) r.0 r.1 r.2 r.3 (tree_small c.args.cells.now _ r.4 r.0 r.2 r.5) (tree_small c.args.cells.now _ r.4 r.1 r.3 r.6) (record { holder = cell_id o.holder; link = o.word; last = option_map cell_id o.last })
    (record { holder = ap cell_id c.below-place.ensures.holder; link = c.below-place.ensures.word; last = c.below-place.ensures.last })

pub below-next-requires : goal.below-next-requires
below-next-requires c = record { there = down_there (cells_by c.args.cells.now) _ _ (cell_id c.in-Some.d) _ _ c.loop-next.invariant (ap (option_map cell_id) c.in-Some.is) }

pub loop-next-smaller : goal.loop-next-smaller
loop-next-smaller c =
    let o = c.below-next.result in
    (down_next (cells_by c.args.cells.now) _ _ (cell_id c.in-Some.d) _ _ (record { holder = cell_id o.holder; link = o.word; last = option_map cell_id o.last }) c.loop-next.invariant (ap (option_map cell_id) c.in-Some.is)
    (record { holder = ap cell_id c.below-next.ensures.holder; link = c.below-next.ensures.word; last = c.below-next.ensures.last })).1

pub loop-next-preserved : goal.loop-next-preserved
loop-next-preserved c =
    let o = c.below-next.result in
    (down_next (cells_by c.args.cells.now) _ _ (cell_id c.in-Some.d) _ _ (record { holder = cell_id o.holder; link = o.word; last = option_map cell_id o.last }) c.loop-next.invariant (ap (option_map cell_id) c.in-Some.is)
    (record { holder = ap cell_id c.below-next.ensures.holder; link = c.below-next.ensures.word; last = c.below-next.ensures.last })).0

pub returns : goal.returns
returns c a b q r =
    let same = down_none (cells_by c.args.cells.now) _ _ _ _ c.loop-next.invariant (ap (option_map cell_id) c.in_default.is) a b q r in
    (ap (λ (w : Hung). w.holder) same, ap (λ (w : Hung). w.link) same, ap (λ (w : Hung). w.last) same)
