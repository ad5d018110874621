use Rattle.std.proofs.Common.{refl}
use Rattle.lmn_io.proofs.TakingLemmas.{no_put}
use Rattle.lmn_app.proofs.CheckLemmas.{chain_found, checked_ended, checked_part, wrong_found}
use Rattle.lmn_app.proofs.checking.check_by.Goals as goal

pub returns-in-Ok-write_checked-clause-ended : goal.returns-in-Ok-write_checked-clause-ended
returns-in-Ok-write_checked-clause-ended g c = λ program a.
    let read = c.args.accepted.now in
    let names = c.args.names.now in
    let of = c.in-Ok.ensures.chain in
    let checked = chain_found c.accepted_texts.ensures c.plains_are_printable.ensures program names read.plain read.plans a of.2.0 of.2.1 _ refl of.0 c.args.alloc
    c.chains_are_commits.ensures.all c.chains_are_commits.ensures.each c.in-Ok.commits of.2.2 in
    (of.0, of.1, checked_ended program of.0 _ _ _ _ _ c.in-Ok.commits checked c.in-Ok-write_checked.ensures)

pub returns-in-Err-clause-ended : goal.returns-in-Err-clause-ended
returns-in-Err-clause-ended g c = λ program a.
    let read = c.args.accepted.now in
    let names = c.args.names.now in
    let of = c.in-Ok.ensures.chain in
    let checked = chain_found c.accepted_texts.ensures c.plains_are_printable.ensures program names read.plain read.plans a of.2.0 of.2.1 _ refl of.0 c.args.alloc
    c.chains_are_commits.ensures.all c.chains_are_commits.ensures.each c.in-Ok.commits of.2.2 in
    (of.0, of.1, checked_part program of.0 _ _ _ _ _ c.in-Ok.commits checked c.in-Err.ensures)

pub returns-in-Err-Refused-clause-ended : goal.returns-in-Err-Refused-clause-ended
returns-in-Err-Refused-clause-ended g c = λ program a.
    let read = c.args.accepted.now in
    let names = c.args.names.now in
    let wrong = rw c.in-Err-Refused.field-0-is at c.in-Err-Refused.ensures.wrong in
    (wrong.0, wrong.1, wrong_found c.accepted_texts.ensures c.plains_are_printable.ensures program names read.plain read.plans a wrong.2.0 wrong.2.1 _ refl wrong.0 c.in-Err-Refused.refusal _ _ wrong.2.2)

pub returns-in-Err-Failed-clause-ended : goal.returns-in-Err-Failed-clause-ended
returns-in-Err-Failed-clause-ended g c = λ program a.
    let rose = rw c.in-Err-Failed.field-0-is at c.in-Err-Failed.ensures.failed in
    (rose refl, refl, no_put _)
