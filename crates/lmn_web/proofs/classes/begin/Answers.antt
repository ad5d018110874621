use Rattle.std.proofs.Common.{◌∙◌, ap, ℕ, Option, Some, None}
use Rattle.lmn_web_cells.specs.Cells.{HeldCell, link_of}
use Rattle.lmn_web_cells.specs.CellIds.{cell_id}
use Rattle.lmn_web.specs.Classes.{link_written}
use Rattle.lmn_web_cells.specs.Links.{CLASS_PREV, EVEN, ODD}
use Rattle.lmn_web.proofs.ClassWrites.{kept, word_kept}
use Rattle.lmn_web.proofs.classes.begin.Goals as goal

pub set_link-requires-2-clause-there : goal.set_link-requires-2-clause-there
set_link-requires-2-clause-there c =
    kept _ _ _ _ _ (cell_id c.args.c) c.set_link.ensures (c.requires.c)

pub set_link-requires-3-clause-there : goal.set_link-requires-3-clause-there
set_link-requires-3-clause-there c =
    kept _ _ _ _ _ (cell_id c.args.c) c.set_link-2.ensures (kept _ _ _ _ _ (cell_id c.args.c) c.set_link.ensures (c.requires.c))

pub set_link-requires-4-clause-there : goal.set_link-requires-4-clause-there
set_link-requires-4-clause-there c =
    kept _ _ _ _ _ (cell_id c.args.c) c.set_link-3.ensures (kept _ _ _ _ _ (cell_id c.args.c) c.set_link-2.ensures (kept _ _ _ _ _ (cell_id c.args.c) c.set_link.ensures (c.requires.c)))

pub set_link_in-requires-clause-there : goal.set_link_in-requires-clause-there
set_link_in-requires-clause-there c =
    kept _ _ _ _ _ (cell_id c.args.holder) c.set_link-4.ensures (kept _ _ _ _ _ (cell_id c.args.holder) c.set_link-3.ensures (kept _ _ _ _ _ (cell_id c.args.holder) c.set_link-2.ensures (kept _ _ _ _ _ (cell_id c.args.holder) c.set_link.ensures (c.requires.holder))))

pub set_link_in-requires-clause-word : goal.set_link_in-requires-clause-word
set_link_in-requires-clause-word c =
    word_kept _ _ _ _ _ (cell_id c.args.holder) c.args.word c.set_link-4.ensures (word_kept _ _ _ _ _ (cell_id c.args.holder) c.args.word c.set_link-3.ensures (word_kept _ _ _ _ _ (cell_id c.args.holder) c.args.word c.set_link-2.ensures (word_kept _ _ _ _ _ (cell_id c.args.holder) c.args.word c.set_link.ensures (c.requires.word))))

pub returns : goal.returns
returns c =
    c.set_link_in.ensures ∙ ap (λ (h : ℕ → Option HeldCell). link_written h (cell_id c.args.holder) (link_of c.args.word) (Some (cell_id c.args.c))) (c.set_link-4.ensures ∙ ap (λ (h : ℕ → Option HeldCell). link_written h (cell_id c.args.c) ODD None) (c.set_link-3.ensures ∙ ap (λ (h : ℕ → Option HeldCell). link_written h (cell_id c.args.c) EVEN None) (c.set_link-2.ensures ∙ ap (λ (h : ℕ → Option HeldCell). link_written h (cell_id c.args.c) CLASS_PREV (Some (cell_id c.args.c))) (c.set_link.ensures))))
