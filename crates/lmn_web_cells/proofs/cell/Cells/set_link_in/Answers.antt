use Rattle.std.proofs.Common.{◌∙◌, List, IsSome, sym, subst, ap}
use Rattle.std.specs.Option.{option_map}
use Rattle.lmn_web_cells.specs.Rows.{Row, link}
use Rattle.lmn_web_cells.specs.Cells.{cells_by, link_to, with_link, IsLinkWord, link_of}
use Rattle.lmn_store_heap.specs.Heap.{alter}
use Rattle.lmn_web_cells.specs.CellIds.{cell_id}
use Rattle.lmn_web_cells.proofs.CellRows.{laid_after, cells_after}
use Rattle.lmn_web_cells.proofs.MadeLemmas.{word_apart, word_changes, word_there, word_small}
use Rattle.lmn_web_cells.proofs.cell.Cells.set_link_in.Goals as goal

pub set_link-requires : goal.set_link-requires
set_link-requires c =
    let there : IsSome (cells_by c.self.inside.rows.rows (cell_id c.args.c)) = subst (λ (z : List Row). IsSome (cells_by z (cell_id c.args.c))) (sym c.self.view_is) c.requires.there in
    let is_word : IsLinkWord (cells_by c.self.inside.rows.rows (cell_id c.args.c)) c.args.word = subst (λ (z : List Row). IsLinkWord (cells_by z (cell_id c.args.c)) c.args.word) (sym c.self.view_is) c.requires.word in
    (c.args.c.start, word_small (cells_by c.self.inside.rows.rows (cell_id c.args.c)) c.args.word is_word, word_apart (cells_by c.self.inside.rows.rows (cell_id c.args.c)) c.args.word is_word, word_there _ _ c.args.word c.self.invariant there is_word)

pub invariant_of-self : goal.invariant_of-self
invariant_of-self c =
    let there : IsSome (cells_by c.self.inside.rows.rows (cell_id c.args.c)) = subst (λ (z : List Row). IsSome (cells_by z (cell_id c.args.c))) (sym c.self.view_is) c.requires.there in
    let is_word : IsLinkWord (cells_by c.self.inside.rows.rows (cell_id c.args.c)) c.args.word = subst (λ (z : List Row). IsLinkWord (cells_by z (cell_id c.args.c)) c.args.word) (sym c.self.view_is) c.requires.word in
    laid_after c.self.inside.rows.rows _ (cell_id c.args.c) c.args.word (link_to (option_map cell_id c.args.to)) (link c.pointer_of.result) (with_link (link_of c.args.word) (option_map cell_id c.args.to)) (word_changes c.self.inside.rows.rows (cell_id c.args.c) c.args.word (option_map cell_id c.args.to) c.self.invariant there is_word) (ap link c.pointer_of.ensures) c.set_link.ensures

pub returns : goal.returns
returns c =
    let there : IsSome (cells_by c.self.inside.rows.rows (cell_id c.args.c)) = subst (λ (z : List Row). IsSome (cells_by z (cell_id c.args.c))) (sym c.self.view_is) c.requires.there in
    let is_word : IsLinkWord (cells_by c.self.inside.rows.rows (cell_id c.args.c)) c.args.word = subst (λ (z : List Row). IsLinkWord (cells_by z (cell_id c.args.c)) c.args.word) (sym c.self.view_is) c.requires.word in
    cells_after c.self.inside.rows.rows _ (cell_id c.args.c) c.args.word (link_to (option_map cell_id c.args.to)) (link c.pointer_of.result) (with_link (link_of c.args.word) (option_map cell_id c.args.to)) (word_changes c.self.inside.rows.rows (cell_id c.args.c) c.args.word (option_map cell_id c.args.to) c.self.invariant there is_word) (ap link c.pointer_of.ensures) c.set_link.ensures
    ∙ ap (λ (z : List Row). alter (cells_by z) (cell_id c.args.c) (option_map (with_link (link_of c.args.word) (option_map cell_id c.args.to)))) c.self.view_is
