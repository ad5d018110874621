use Rattle.std.proofs.Common.{◌≡◌, ℕ, zero, suc, ◌-◌, List, IsSome, refl, sym, ap, subst, ◌∙◌}
use Rattle.lmn_web_cells.specs.Rows.{Row}
use Rattle.lmn_web_cells.specs.Cells.{cells_by}
use Rattle.lmn_web_cells.specs.CellIds.{cell_id}
use Rattle.std.proofs.Common.{arith}
use Rattle.std.specs.Option.{option_map}
use Rattle.lmn_store_heap.specs.Heap.{alter}
use Rattle.lmn_web.specs.Webs.{web_by, web_of, list_in, with_mark}
use Rattle.lmn_web.specs.Indexes.{IsClassedWeb, most_cells}
use Rattle.lmn_web.proofs.WebLemmas.{told_mark, told_own, port_mark_keeps, own_mark_keeps, port_mark_web, own_mark_web, mark_keeps, own_keeps, some_back, mark_there}
use Rattle.lmn_web.proofs.Filing.{same_classed}
use Rattle.lmn_web.proofs.web.Web.set_mark.Goals as goal

pub set_mark-requires-clause-small : goal.set_mark-requires-clause-small
set_mark-requires-clause-small c = c.requires.small c.if-slot-eq0.false

pub invariant_of-self : goal.invariant_of-self
invariant_of-self c =
    let f = cells_by c.self.inside.cells in let a = cell_id c.args.c in
    subst (λ f. IsClassedWeb f most_cells) (sym c.set_number.ensures)
    (same_classed f _ _ c.self.invariant (told_own f a c.args.v) (own_mark_keeps f _ a c.args.v c.self.invariant.web))

pub invariant_of-self-else-slot-eq0 : goal.invariant_of-self-else-slot-eq0
invariant_of-self-else-slot-eq0 c =
    let f = cells_by c.self.inside.cells in let a = cell_id c.args.c in let i = c.args.slot - 1 in
    subst (λ f. IsClassedWeb f most_cells) (sym c.set_mark.ensures)
    (same_classed f _ _ c.self.invariant (told_mark f a i c.args.v) (port_mark_keeps f _ a i c.args.v c.self.invariant.web))

pub returns-then-slot-eq0 : goal.returns-then-slot-eq0
returns-then-slot-eq0 c =
    let f = cells_by c.self.inside.cells in let a = cell_id c.args.c in
    let there : IsSome (f a) = some_back f (list_in f) a (subst (λ (z : List Row). IsSome (web_by z a)) (sym c.self.view_is) c.requires.there) in
    own_keeps f (cells_by c.set_number.new.self) _ a c.args.v c.self.invariant.web c.set_number.ensures ∙ own_mark_web f (list_in f) a c.args.v (mark_there f _ c.self.invariant.web a there)
    ∙ ap (λ k. alter (web_of f) a (option_map (with_mark k c.args.v))) (sym c.if-slot-eq0.true) ∙ ap (λ (z : List Row). alter (web_by z) a (option_map (with_mark c.args.slot c.args.v))) c.self.view_is

pub returns-else-slot-eq0 : goal.returns-else-slot-eq0
returns-else-slot-eq0 c =
    let f = cells_by c.self.inside.cells in let a = cell_id c.args.c in let i = c.args.slot - 1 in
    mark_keeps f (cells_by c.set_mark.new.self) _ a i c.args.v c.self.invariant.web c.set_mark.ensures ∙ port_mark_web f (list_in f) a i c.args.v
    ∙ ap (λ k. alter (web_of f) a (option_map (with_mark k c.args.v))) (behind c.args.slot c.if-slot-eq0.false) ∙ ap (λ (z : List Row). alter (web_by z) a (option_map (with_mark c.args.slot c.args.v))) c.self.view_is
  where
    behind : (n : ℕ) → (n ≡ 0 → ⊥) → suc (n - 1) ≡ n
    behind zero d = absurd (d refl)
    behind (suc n) d = omega arith
