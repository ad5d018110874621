use Rattle.std.proofs.Common.{◌≡◌, ◌+◌, ◌*◌, ◌∙◌, List, Some, None, subst, ap}
use Rattle.lmn_web_cells.specs.Rows.{Row, place_of}
use Rattle.lmn_web_cells.specs.Cells.{cell_by, cells_by, IsNewIndex, blank_cell}
use Rattle.lmn_web_rows.specs.Seen.{IsMade}
use Rattle.lmn_store_heap.specs.Heap.{alter}
use Rattle.lmn_web_cells.proofs.MadeLemmas.{made, new_index}
use Rattle.lmn_web_cells.proofs.cell.Cells.make.Goals as goal

pub invariant_of-self : goal.invariant_of-self
invariant_of-self c = (made c.self.inside.rows.rows c.make.new.self.rows c.fill.new.rows.rows (place_of c.in-Ok.at) c.args.ports c.self.invariant c.requires (subst (λ w. IsMade c.self.inside.rows.rows c.make.new.self.rows (place_of c.in-Ok.at) w) c.atom_words.ensures c.in-Ok.ensures.1) c.fill.ensures).laid

pub returns-in-Ok : goal.returns-in-Ok
returns-in-Ok c =
    let n = place_of c.in-Ok.at in let m = (subst (λ w. IsMade c.self.inside.rows.rows c.make.new.self.rows (place_of c.in-Ok.at) w) c.atom_words.ensures c.in-Ok.ensures.1) in (
      subst (λ (z : List Row). cells_by z n ≡ None) c.self.view_is (ap cell_by m.none),
      m.number,
      m.small,
      subst (λ (z : List Row). IsNewIndex (cells_by z) m.number) c.self.view_is (new_index c.self.inside.rows.rows c.make.new.self.rows n (10 + c.args.ports * 2) c.self.invariant m),
      (made c.self.inside.rows.rows c.make.new.self.rows c.fill.new.rows.rows n c.args.ports c.self.invariant c.requires m c.fill.ensures).cells ∙ ap (λ (z : List Row). alter (cells_by z) n (λ _. Some (blank_cell m.number c.args.ports))) c.self.view_is,
    )
