use Rattle.std.proofs.Common.{ℕ, List, refl, subst, ◌≡◌, ◌∙◌, ◌==◌, ◌%◌, ◌^◌}
use Rattle.lmn_web_cells.specs.Rows.{Row}
use Rattle.lmn_web_cells.specs.Cells.{cells_by}
use Rattle.lmn_web_cells.specs.CellIds.{cell_id}
use Rattle.lmn_web.specs.Webs.{arity_at, is_labelled, label_class, number_in, web_by, web_label}
use Rattle.lmn_web_cells.specs.Numbers.{LOW}
use Rattle.std.proofs.Common.{Some}
use Rattle.lmn_web.proofs.SeekLemmas.{label_by_half}
use Rattle.lmn_web.proofs.web.Web.has_label.Goals as goal

pub returns : goal.returns
returns c =
    let f = cells_by c.self.inside.cells in let a = cell_id c.args.c in let label = c.args.label in
    subst (λ (z : List Row). (l n : ℕ) → web_label (web_by z) a ≡ Some l → label_class l ≡ label_class label → arity_at (web_by z) a ≡ n → (c.number.result == label % 2 ^ 64) ≡ is_labelled (web_by z) label n a) c.self.view_is
    (λ l n here same ports. (λ t. c.number.ensures t == label % 2 ^ 64) ∙ label_by_half f a l label n (number_in f a LOW) refl (c.self.invariant.classed.low a) here same ports)
