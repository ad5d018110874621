use Rattle.std.proofs.Common.{refl, ap, subst, List, ℕ, vec_len}
use Rattle.lmn_web_rows.specs.Rows.{Row, items_in}
use Rattle.lmn_web_rows.specs.Tiles.{AreTiled}
use Rattle.lmn_web_rows.proofs.StoreLemmas.{last_block, none_left, none_came}
use Rattle.lmn_web_rows.proofs.store.Store.end.Goals as goal

pub free-requires : goal.free-requires
free-requires c =
    let h = last_block c.loop-at.rows.rows c.loop-at.blocks.blocks c.loop-at.all.items c.pop.new.self.items c.in-Some.at c.loop-at.invariant.0 c.loop-at.invariant.1 c.in-Some.ensures.items in
    (h.start, refl, h.first, h.side)

pub end-requires : goal.end-requires
end-requires c =
    let none = none_left c.loop-at.blocks.blocks c.loop-at.all.items c.loop-at.invariant.1 (none_came c.loop-at.all.items (vec_len c.loop-at.all) (vec_len c.pop.new.self) c.pop.result c.loop-at.all.ok.0 c.pop.ensures.cases c.in_default.not-Some) in
    λ b. ap (λ (z : List Row). items_in z b) (subst (λ (z : List ℕ). AreTiled z c.loop-at.rows.rows) none c.loop-at.invariant.0)

pub end-requires-2 : goal.end-requires-2
end-requires-2 c = none_left c.loop-at.blocks.blocks c.loop-at.all.items c.loop-at.invariant.1 (none_came c.loop-at.all.items (vec_len c.loop-at.all) (vec_len c.pop.new.self) c.pop.result c.loop-at.all.ok.0 c.pop.ensures.cases c.in_default.not-Some)
