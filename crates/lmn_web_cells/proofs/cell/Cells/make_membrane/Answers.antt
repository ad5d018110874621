use Rattle.std.proofs.Common.{◌≡◌, ◌∙◌, List, Some, None, subst, ap}
use Rattle.lmn_web_cells.specs.Rows.{Row, place_of}
use Rattle.lmn_web_cells.specs.Cells.{cell_by, cells_by, IsNewIndex, blank_membrane}
use Rattle.lmn_store_heap.specs.Heap.{alter}
use Rattle.lmn_web_cells.proofs.MadeLemmas.{made_membrane, new_index}
use Rattle.lmn_web_cells.proofs.cell.Cells.make_membrane.Goals as goal

pub invariant_of-self : goal.invariant_of-self
invariant_of-self c = (made_membrane c.self.inside.rows.rows c.make.new.self.rows c.fill_membrane.new.rows.rows (place_of c.in-Ok.at) c.self.invariant c.in-Ok.ensures.1 c.fill_membrane.ensures).laid

pub returns-in-Ok : goal.returns-in-Ok
returns-in-Ok c =
    let n = place_of c.in-Ok.at in let m = c.in-Ok.ensures.1 in (
      subst (λ (z : List Row). cells_by z n ≡ None) c.self.view_is (ap cell_by m.none),
      m.number,
      m.small,
      subst (λ (z : List Row). IsNewIndex (cells_by z) m.number) c.self.view_is (new_index c.self.inside.rows.rows c.make.new.self.rows n 15 c.self.invariant m),
      (made_membrane c.self.inside.rows.rows c.make.new.self.rows c.fill_membrane.new.rows.rows n c.self.invariant m c.fill_membrane.ensures).cells ∙ ap (λ (z : List Row). alter (cells_by z) n (λ _. Some (blank_membrane m.number))) c.self.view_is,
    )
