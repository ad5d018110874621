use Rattle.std.proofs.Common.{◌+◌, None, refl, inr, ◌∙◌}
use Rattle.std.specs.Option.{option_map}
use Rattle.lmn_store_heap.specs.Heap.{alter}
use Rattle.lmn_web_cells.specs.Cells.{cells_by, with_link, with_number}
use Rattle.lmn_web_cells.specs.CellIds.{cell_id}
use Rattle.lmn_web_cells.specs.Links.{LEADERS}
use Rattle.lmn_web.proofs.WebLemmas.{four_steps, stays_some, same_count}
use Rattle.lmn_web.proofs.web.forget_atoms.Goals as goal

pub set_link-requires-2-clause-there : goal.set_link-requires-2-clause-there
set_link-requires-2-clause-there c = stays_some _ _ (cell_id c.args.m) (with_link c.first_link-first.result None) c.set_link.ensures c.requires.there

pub set_link_in-requires-clause-there : goal.set_link_in-requires-clause-there
set_link_in-requires-clause-there c =
    stays_some _ _ (cell_id c.args.m) (with_link (c.first_link-first.result + 1) None) c.set_link-2.ensures (stays_some _ _ (cell_id c.args.m) (with_link c.first_link-first.result None) c.set_link.ensures c.requires.there)

pub set_link_in-requires-clause-word : goal.set_link_in-requires-clause-word
set_link_in-requires-clause-word c =
    let m = cell_id c.args.m in
    inr (refl, same_count _ _ m (c.first_link-first.result + 1) None c.set_link-2.ensures ∙ same_count _ _ m c.first_link-first.result None c.set_link.ensures ∙ c.requires.numbers)

pub set_count-requires-clause-there : goal.set_count-requires-clause-there
set_count-requires-clause-there c =
    stays_some _ _ (cell_id c.args.m) (with_link LEADERS None) c.set_link_in.ensures
    (stays_some _ _ (cell_id c.args.m) (with_link (c.first_link-first.result + 1) None) c.set_link-2.ensures (stays_some _ _ (cell_id c.args.m) (with_link c.first_link-first.result None) c.set_link.ensures c.requires.there))

pub set_count-requires-clause-numbers : goal.set_count-requires-clause-numbers
set_count-requires-clause-numbers c =
    let m = cell_id c.args.m in
    same_count _ _ m LEADERS None c.set_link_in.ensures ∙ same_count _ _ m (c.first_link-first.result + 1) None c.set_link-2.ensures ∙ same_count _ _ m c.first_link-first.result None c.set_link.ensures ∙ c.requires.numbers

pub returns : goal.returns
returns c =
    let f = cells_by c.args.cells.now in let m = cell_id c.args.m in
    four_steps f (cells_by c.set_link.new.self) (cells_by c.set_link-2.new.self) (cells_by c.set_link_in.new.self) (cells_by c.set_count.new.self) m (with_link 3 None) (with_link 4 None) (with_link LEADERS None) (with_number 6 0)
    (c.set_link.ensures ∙ (λ t. alter f m (option_map (with_link (c.first_link-first.ensures t) None))))
    (c.set_link-2.ensures ∙ (λ t. alter (cells_by c.set_link.new.self) m (option_map (with_link (c.first_link-first.ensures t + 1) None))))
    c.set_link_in.ensures
    (c.set_count.ensures ∙ (λ t. alter (cells_by c.set_link_in.new.self) m (option_map (with_number (c.count_place.ensures t) 0))))
