use Rattle.std.proofs.Common.{length, ◌≤◌, subst, sym}
use Rattle.lmn_app_single.specs.Texts.{text_bytes}
use Rattle.lmn_app_single.specs.Writing.{told_under}
use Rattle.lmn_app_single.proofs.OutcomeLemmas.{ended_told, unread_ended}
use Rattle.lmn_app_single.proofs.single.perform_file.Goals as goal

pub perform_on-requires-clause-short : goal.perform_on-requires-clause-short
perform_on-requires-clause-short g c = subst (λ text. length text ≤ text_bytes) (sym c.as_slice.ensures) c.in-Ok.ensures.text.0

pub returns-in-Ok-clause-ended : goal.returns-in-Ok-clause-ended
returns-in-Ok-clause-ended g c =
    let told = told_under (g.F.Shelf.told c.args.shelf.now) c.args.name.now in
    let read = g.F.Shelf.faults c.args.shelf.now c.args.name.now in
    let reads = g.F.Shelf.faults c.fetch.new.shelf c.args.name.now in
    ended_told told c.as_slice.result.now (rw c.as_slice.ensures c.in-Ok.ensures.text.1) c.args.task _ _ _ _ _ read reads (c.perform_on.ensures read reads)

pub returns-in-Err-clause-ended : goal.returns-in-Err-clause-ended
returns-in-Err-clause-ended g c = unread_ended c.args.task _ _ _ _ _ _ c.in-Err.ensures.fault
