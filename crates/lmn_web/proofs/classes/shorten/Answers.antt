use Rattle.std.proofs.Common.{◌∙◌, ap, ℕ, Option}
use Rattle.lmn_web_cells.specs.Cells.{HeldCell, link_of}
use Rattle.lmn_web_cells.specs.CellIds.{cell_id}
use Rattle.lmn_web.specs.Classes.{taken_over}
use Rattle.lmn_web.proofs.ClassWrites.{closed_kept, closed_word}
use Rattle.lmn_web.proofs.classes.shorten.Goals as goal

pub take_over-requires-clause-holder : goal.take_over-requires-clause-holder
take_over-requires-clause-holder c = closed_kept _ _ _ _ (cell_id c.args.holder) c.close.ensures c.requires.holder

pub take_over-requires-clause-word : goal.take_over-requires-clause-word
take_over-requires-clause-word c = closed_word _ _ _ _ (cell_id c.args.holder) c.args.word c.close.ensures c.requires.word

pub take_over-requires-clause-from : goal.take_over-requires-clause-from
take_over-requires-clause-from c = closed_kept _ _ _ _ (cell_id c.args.c) c.close.ensures c.requires.c

pub take_over-requires-clause-to : goal.take_over-requires-clause-to
take_over-requires-clause-to c = closed_kept _ _ _ _ (cell_id c.args.prev) c.close.ensures c.requires.prev

pub returns : goal.returns
returns c = c.take_over.ensures ∙ ap (λ (h : ℕ → Option HeldCell). taken_over h (cell_id c.args.holder) (link_of c.args.word) (cell_id c.args.c) (cell_id c.args.prev)) c.close.ensures
