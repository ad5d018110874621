use Rattle.std.proofs.Common.{◌∙◌, ap, ℕ, Option, Some}
use Rattle.lmn_web_cells.specs.Cells.{HeldCell, link_of}
use Rattle.lmn_web_cells.specs.CellIds.{cell_id}
use Rattle.lmn_web_cells.specs.Links.{EVEN}
use Rattle.lmn_web.specs.Classes.{link_written, taken_over}
use Rattle.lmn_web.proofs.ClassWrites.{put_kept, put_word, taken_kept}
use Rattle.lmn_web.proofs.classes.lengthen.Goals as goal

pub take_over-requires-clause-holder : goal.take_over-requires-clause-holder
take_over-requires-clause-holder c = put_kept _ _ _ _ _ (cell_id c.args.holder) c.put_between.ensures c.requires.holder

pub take_over-requires-clause-word : goal.take_over-requires-clause-word
take_over-requires-clause-word c = put_word _ _ _ _ _ (cell_id c.args.holder) c.args.word c.put_between.ensures c.requires.word

pub take_over-requires-clause-from : goal.take_over-requires-clause-from
take_over-requires-clause-from c = put_kept _ _ _ _ _ (cell_id c.args.last) c.put_between.ensures c.requires.last

pub take_over-requires-clause-to : goal.take_over-requires-clause-to
take_over-requires-clause-to c = put_kept _ _ _ _ _ (cell_id c.args.c) c.put_between.ensures c.requires.c

pub set_link-requires-clause-there : goal.set_link-requires-clause-there
set_link-requires-clause-there c = taken_kept _ _ _ _ _ _ (cell_id c.args.last) c.take_over.ensures (put_kept _ _ _ _ _ (cell_id c.args.last) c.put_between.ensures c.requires.last)

pub returns : goal.returns
returns c =
    c.set_link.ensures ∙ ap (λ (h : ℕ → Option HeldCell). link_written h (cell_id c.args.last) EVEN (Some (cell_id c.args.m)))
    (c.take_over.ensures ∙ ap (λ (h : ℕ → Option HeldCell). taken_over h (cell_id c.args.holder) (link_of c.args.word) (cell_id c.args.last) (cell_id c.args.c)) c.put_between.ensures)
