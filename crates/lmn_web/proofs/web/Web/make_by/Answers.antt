use Rattle.std.proofs.Common.{◌≡◌, ℕ, ◌/◌, ◌%◌, ◌^◌, ◌<◌, List, Option, Some, None, IsSome, refl, sym, ap, subst, ◌∙◌, arith}
use Rattle.lmn_store_heap.specs.Heap.{alter}
use Rattle.lmn_store_heap.proofs.Listing.{alter_at}
use Rattle.lmn_web_cells.specs.Rows.{Row}
use Rattle.lmn_web_cells.specs.Cells.{HeldCell, cells_by}
use Rattle.std.specs.Option.{option_map}
use Rattle.lmn_web_cells.specs.CellIds.{cell_id}
use Rattle.lmn_web.specs.Kinds.{kind_by}
use Rattle.lmn_web.specs.Webs.{web_by, web_of, web_cell, list_in, new_cell, label_by}
use Rattle.lmn_web.specs.Indexes.{described, blank_by, most_cells, IsClassedWeb}
use Rattle.lmn_web.proofs.WebLemmas.{made_once, made_is, made_with, no_list, new_web}
use Rattle.lmn_web.proofs.Filing.{made_classed}
use Rattle.lmn_web.proofs.web.Web.make_by.Goals as goal

pub describe-requires-clause-there : goal.describe-requires-clause-there
describe-requires-clause-there c =
    let a = cell_id c.in_ok-c.c in
    subst (λ (g : ℕ → Option HeldCell). IsSome (g a)) (sym c.in_ok-c.ensures.4) (subst (λ (o : Option HeldCell). IsSome o) (sym (alter_at (cells_by c.self.inside.cells) a (λ _. Some (blank_by c.in_ok-c.ensures.1 c.args.kind c.args.arity)))) refl)

pub invariant_of-self-2 : goal.invariant_of-self-2
invariant_of-self-2 c =
    let f = cells_by c.self.inside.cells in let a = cell_id c.in_ok-c.c in let n = c.args.arity in let k = c.args.kind in let h = c.args.label / 2 ^ 64 in let low = c.args.label % 2 ^ 64 in let i = c.in_ok-c.ensures.1 in
    let small : n < 256 = c.ranges.arity.fits in
    let once : cells_by c.describe.new.cells ≡ alter f a (λ _. Some (described n k h low (blank_by i k n))) = made_once f _ _ a (blank_by i k n) _ c.in_ok-c.ensures.4 c.describe.ensures in
    subst (λ (g : ℕ → Option HeldCell). IsClassedWeb g most_cells) (sym once) (made_classed f most_cells c.self.invariant a n k h low c.in_ok-c.ensures.0 small i c.in_ok-c.ensures.2 c.in_ok-c.ensures.3 (omega arith) c.requires.filed)

pub returns : goal.returns
returns c =
    let f = cells_by c.self.inside.cells in let a = cell_id c.in_ok-c.c in let n = c.args.arity in let k = c.args.kind in let h = c.args.label / 2 ^ 64 in let low = c.args.label % 2 ^ 64 in let i = c.in_ok-c.ensures.1 in
    let small : n < 256 = c.ranges.arity.fits in
    let once : cells_by c.describe.new.cells ≡ alter f a (λ _. Some (described n k h low (blank_by i k n))) = made_once f _ _ a (blank_by i k n) _ c.in_ok-c.ensures.4 c.describe.ensures in
    let whole : label_by h low ≡ c.args.label = omega arith in (
      subst (λ (z : List Row). web_by z a ≡ None) c.self.view_is (ap (λ (o : Option HeldCell). option_map (web_cell (list_in f a)) o) c.in_ok-c.ensures.0),
      ap web_of once ∙ made_with f most_cells c.self.invariant.web a n k h low c.in_ok-c.ensures.0 small i c.in_ok-c.ensures.2 c.in_ok-c.ensures.3 ∙ made_is f (list_in f) a _
          ∙ ap (λ x. alter (web_of f) a (λ _. Some x)) (new_web (list_in f a) c.args.label n i k h low (kind_by k) (no_list f most_cells c.self.invariant.web a n k h low c.in_ok-c.ensures.0 small i c.in_ok-c.ensures.2 c.in_ok-c.ensures.3) whole refl)
          ∙ ap (λ (z : List Row). alter (web_by z) a (λ _. Some (new_cell c.args.label n (kind_by k)))) c.self.view_is,
    )
