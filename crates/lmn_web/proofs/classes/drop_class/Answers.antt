use Rattle.std.proofs.Common.{◌∙◌, ◌<◌, sym, ap, subst, ℕ, Option, IfSome, IsSome}
use Rattle.std.specs.Option.{option_map}
use Rattle.lmn_web_cells.specs.Cells.{HeldCell, cells_by, link_of}
use Rattle.lmn_web_cells.specs.CellIds.{cell_id}
use Rattle.lmn_web.specs.Classes.{dropped, taken_over}
use Rattle.lmn_web.proofs.ClassWrites.{kept, word_kept}
use Rattle.lmn_web.proofs.classes.drop_class.Goals as goal

pub set_link-requires-clause-there : goal.set_link-requires-clause-there
set_link-requires-clause-there c = let f = cells_by c.args.cells.now in let r = subst (λ o. IfSome o (λ l. IsSome (f (cell_id l)) × IsSome (f (cell_id c.args.leaf.holder)) × (c.args.leaf.word < 7))) c.in-Some.is c.requires.leaf in r.1

pub set_link-requires-clause-below : goal.set_link-requires-clause-below
set_link-requires-clause-below c = let f = cells_by c.args.cells.now in let r = subst (λ o. IfSome o (λ l. IsSome (f (cell_id l)) × IsSome (f (cell_id c.args.leaf.holder)) × (c.args.leaf.word < 7))) c.in-Some.is c.requires.leaf in r.2

pub take_over-requires-clause-holder : goal.take_over-requires-clause-holder
take_over-requires-clause-holder c = kept _ _ _ _ _ (cell_id c.args.holder) c.set_link.ensures c.requires.holder

pub take_over-requires-clause-from : goal.take_over-requires-clause-from
take_over-requires-clause-from c = kept _ _ _ _ _ (cell_id c.args.c) c.set_link.ensures c.requires.c

pub take_over-requires-clause-to : goal.take_over-requires-clause-to
take_over-requires-clause-to c = let f = cells_by c.args.cells.now in let r = subst (λ o. IfSome o (λ l. IsSome (f (cell_id l)) × IsSome (f (cell_id c.args.leaf.holder)) × (c.args.leaf.word < 7))) c.in-Some.is c.requires.leaf in kept _ _ _ _ _ (cell_id c.in-Some.l) c.set_link.ensures r.0

pub take_over-requires-clause-word : goal.take_over-requires-clause-word
take_over-requires-clause-word c = word_kept _ _ _ _ _ (cell_id c.args.holder) c.args.word c.set_link.ensures c.requires.word

pub returns-in-None : goal.returns-in-None
returns-in-None c =
    c.set_link_in.ensures ∙ ap (λ o. dropped (cells_by c.args.cells.now) (cell_id c.args.holder) (link_of c.args.word) (cell_id c.args.c) (cell_id c.args.leaf.holder) c.args.leaf.word (option_map cell_id o)) (sym c.in-None.is)

pub returns-in-Some : goal.returns-in-Some
returns-in-Some c =
    c.take_over.ensures ∙ ap (λ (h : ℕ → Option HeldCell). taken_over h (cell_id c.args.holder) (link_of c.args.word) (cell_id c.args.c) (cell_id c.in-Some.l)) c.set_link.ensures
    ∙ ap (λ o. dropped (cells_by c.args.cells.now) (cell_id c.args.holder) (link_of c.args.word) (cell_id c.args.c) (cell_id c.args.leaf.holder) c.args.leaf.word (option_map cell_id o)) (sym c.in-Some.is)
