use Rattle.std.proofs.Common.{◌∙◌, sym, ap, ℕ, Option, Some}
use Rattle.std.specs.Option.{option_map}
use Rattle.lmn_web_cells.specs.Cells.{HeldCell, cells_by, link_of}
use Rattle.lmn_web_cells.specs.CellIds.{cell_id}
use Rattle.lmn_web.specs.Classes.{link_written}
use Rattle.lmn_web_cells.specs.Links.{EVEN, ODD}
use Rattle.lmn_web.proofs.ClassWrites.{kept, word_kept}
use Rattle.lmn_web.proofs.classes.take_over.Goals as goal

pub set_link-requires-2-clause-there : goal.set_link-requires-2-clause-there
set_link-requires-2-clause-there c = kept _ _ _ _ _ (cell_id c.args.to) c.set_link.ensures (c.requires.to)

pub set_link_in-requires-clause-there : goal.set_link_in-requires-clause-there
set_link_in-requires-clause-there c = kept _ _ _ _ _ (cell_id c.args.holder) c.set_link-2.ensures (kept _ _ _ _ _ (cell_id c.args.holder) c.set_link.ensures (c.requires.holder))

pub set_link_in-requires-clause-word : goal.set_link_in-requires-clause-word
set_link_in-requires-clause-word c = word_kept _ _ _ _ _ (cell_id c.args.holder) c.args.word c.set_link-2.ensures (word_kept _ _ _ _ _ (cell_id c.args.holder) c.args.word c.set_link.ensures c.requires.word)

pub returns : goal.returns
returns c = c.set_link_in.ensures ∙ ap (λ (h : ℕ → Option HeldCell). link_written h (cell_id c.args.holder) (link_of c.args.word) (Some (cell_id c.args.to))) (c.set_link-2.ensures ∙ ap (λ (h : ℕ → Option HeldCell). link_written h (cell_id c.args.to) ODD (option_map cell_id c.link-odd.result)) (c.set_link.ensures)) ∙ sym (λ t. (link_written (link_written (link_written (cells_by c.args.cells.now) (cell_id c.args.to) EVEN (c.link-even.ensures t)) (cell_id c.args.to) ODD (c.link-odd.ensures t)) (cell_id c.args.holder) (link_of c.args.word) (Some (cell_id c.args.to))))
