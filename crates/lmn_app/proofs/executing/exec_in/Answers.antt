use Rattle.std.proofs.Common.{ap, subst}
use Rattle.lmn_schedule_loading.specs.Loaded.{LoadCauses}
use Rattle.lmn_app_words.specs.Forms.{pair_of}
use Rattle.lmn_app.specs.Executions.{executed_size}
use Rattle.lmn_app.specs.Pairs.{most_items_of_pair}
use Rattle.lmn_app.specs.Runnings.{EndsExecuted}
use Rattle.lmn_app.proofs.DebugLemmas.{large_refused}
use Rattle.lmn_app.proofs.ExecLemmas.{stored_program}
use Rattle.lmn_app.proofs.PairLemmas.{exec_ended, executed_refuses_none, fetched_behind}
use Rattle.lmn_app.proofs.executing.exec_in.Goals as goal

pub load_awake-requires-clause-plain : goal.load_awake-requires-clause-plain
load_awake-requires-clause-plain g c =
    let read = c.args.accepted.now in
    let a = c.requires.accepted.1 in
    let can = c.accepted_texts_can_be_loaded.ensures.loaded c.requires.accepted.0 c.args.names.now read.plain read.plans a.named a.accepted in
    can.made

pub load_awake-requires-clause-closed : goal.load_awake-requires-clause-closed
load_awake-requires-clause-closed g c =
    let read = c.args.accepted.now in
    let a = c.requires.accepted.1 in
    let can = c.accepted_texts_can_be_loaded.ensures.loaded c.requires.accepted.0 c.args.names.now read.plain read.plans a.named a.accepted in
    can.closed

pub returns-in-Ok-fetch_second-clause-asked : goal.returns-in-Ok-fetch_second-clause-asked
returns-in-Ok-fetch_second-clause-asked g c =
    let pair = pair_of c.args.words in
    let read = c.args.accepted.now in
    let program = c.requires.accepted.0 in
    let names = c.args.names.now in
    let a = c.requires.accepted.1 in
    let can = c.accepted_texts_can_be_loaded.ensures.loaded program names read.plain read.plans a.named a.accepted in
    let of = stored_program pair (g.F.Shelf.told c.args.shelf.now) program c.requires.accepted.2 names read.plain read.plans a c.requires.kind can.made _ c.in-Ok.ensures.loaded c.in-Ok.ensures.fits in
    let ends = subst (λ listing. EndsExecuted program listing c.exec_listing.result (g.O.Sink.told c.args.out.now) (g.O.Sink.told c.exec_listing.new.out) (g.O.Sink.faults c.args.out.now) (g.O.Sink.faults c.exec_listing.new.out)) c.as_slice.ensures (c.exec_listing.ensures program a) in
    fetched_behind pair (g.F.Shelf.told c.args.shelf.now) of _ _ c.fetch_second.ensures.asked c.exec_listing.result
    (executed_refuses_none program c.in-Ok-fetch_second.listing c.exec_listing.result (g.O.Sink.told c.args.out.now) (g.O.Sink.told c.exec_listing.new.out) (g.O.Sink.faults c.args.out.now) (g.O.Sink.faults c.exec_listing.new.out) ends)

pub returns-in-Ok-fetch_second-clause-ended : goal.returns-in-Ok-fetch_second-clause-ended
returns-in-Ok-fetch_second-clause-ended g c =
    let pair = pair_of c.args.words in
    let read = c.args.accepted.now in
    let program = c.requires.accepted.0 in
    let names = c.args.names.now in
    let a = c.requires.accepted.1 in
    let can = c.accepted_texts_can_be_loaded.ensures.loaded program names read.plain read.plans a.named a.accepted in
    let of = stored_program pair (g.F.Shelf.told c.args.shelf.now) program c.requires.accepted.2 names read.plain read.plans a c.requires.kind can.made _ c.in-Ok.ensures.loaded c.in-Ok.ensures.fits in
    exec_ended pair (g.F.Shelf.told c.args.shelf.now) of c.in-Ok-fetch_second.listing c.in-Ok-fetch_second.ensures.told c.in-Ok-fetch_second.ensures.short _ _ _ _ _ _ c.requires.kind c.exec_listing.result
    (subst (λ listing. EndsExecuted program listing c.exec_listing.result (g.O.Sink.told c.args.out.now) (g.O.Sink.told c.exec_listing.new.out) (g.O.Sink.faults c.args.out.now) (g.O.Sink.faults c.exec_listing.new.out)) c.as_slice.ensures (c.exec_listing.ensures program a))

pub returns-in-Ok-clause-asked : goal.returns-in-Ok-clause-asked
returns-in-Ok-clause-asked g c =
    let pair = pair_of c.args.words in
    let read = c.args.accepted.now in
    let program = c.requires.accepted.0 in
    let names = c.args.names.now in
    let a = c.requires.accepted.1 in
    let can = c.accepted_texts_can_be_loaded.ensures.loaded program names read.plain read.plans a.named a.accepted in
    c.in-Err.ensures.fetched (stored_program pair (g.F.Shelf.told c.args.shelf.now) program c.requires.accepted.2 names read.plain read.plans a c.requires.kind can.made _ c.in-Ok.ensures.loaded c.in-Ok.ensures.fits)

pub returns-in-Ok-clause-ended : goal.returns-in-Ok-clause-ended
returns-in-Ok-clause-ended g c =
    let read = c.args.accepted.now in
    let program = c.requires.accepted.0 in
    let names = c.args.names.now in
    let a = c.requires.accepted.1 in
    let can = c.accepted_texts_can_be_loaded.ensures.loaded program names read.plain read.plans a.named a.accepted in
    c.in-Err.ensures.fault _ _ (stored_program (pair_of c.args.words) (g.F.Shelf.told c.args.shelf.now) program c.requires.accepted.2 names read.plain read.plans a c.requires.kind can.made _ c.in-Ok.ensures.loaded c.in-Ok.ensures.fits)

pub returns-in-Err-Size-clause-ended : goal.returns-in-Err-Size-clause-ended
returns-in-Err-Size-clause-ended g c =
    let read = c.args.accepted.now in
    let program = c.requires.accepted.0 in
    let names = c.args.names.now in
    let a = c.requires.accepted.1 in
    let can = c.accepted_texts_can_be_loaded.ensures.loaded program names read.plain read.plans a.named a.accepted in
    let causes = subst (LoadCauses read.plain executed_size) c.in-Err-Size.field-0-is c.in-Err-Size.ensures.fault in
    large_refused (pair_of c.args.words) _ program names read.plain read.plans c.in-Err-Size.field-0-0 (ap most_items_of_pair c.requires.kind) a c.requires.accepted.2 can causes _ _ _ _
