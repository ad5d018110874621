use Rattle.std.proofs.Common.{ap, subst, sym}
use Rattle.lmn_schedule_loading.specs.Loaded.{LoadCauses}
use Rattle.lmn_schedule.specs.Held.{CanBeLoaded}
use Rattle.lmn_app_words.specs.Forms.{pair_of}
use Rattle.lmn_app.specs.Debugs.{session_size}
use Rattle.lmn_app.specs.Pairs.{most_items_of_pair}
use Rattle.lmn_app.specs.Runnings.{EndsDebugged}
use Rattle.lmn_app.proofs.DebugLemmas.{large_refused, loaded_program}
use Rattle.lmn_app.proofs.PairLemmas.{debug_ended, debugged_refuses_none, fetched_behind}
use Rattle.lmn_app.proofs.debugging.debug_in.Goals as goal

pub load-requires-clause-plain : goal.load-requires-clause-plain
load-requires-clause-plain g c =
    let read = c.args.accepted.now in
    let a = c.requires.accepted.1 in
    subst (CanBeLoaded read.plain) (sym c.as_slice.ensures) (c.accepted_texts_can_be_loaded.ensures.loaded c.requires.accepted.0 c.args.names.now read.plain read.plans a.named a.accepted)

pub returns-in-Ok-fetch_second-clause-asked : goal.returns-in-Ok-fetch_second-clause-asked
returns-in-Ok-fetch_second-clause-asked g c =
    let pair = pair_of c.args.words in
    let read = c.args.accepted.now in
    let program = c.requires.accepted.0 in
    let a = c.requires.accepted.1 in
    let of = loaded_program c.accepted_texts_can_be_loaded.ensures.named pair (g.F.Shelf.told c.args.shelf.now) program c.requires.accepted.2 c.args.names.now read.plain read.plans a c.requires.kind _ c.in-Ok.ensures.holds c.in-Ok.ensures.fits in
    let ends = subst (λ script. EndsDebugged program script c.obey.result (g.O.Sink.told c.args.out.now) (g.O.Sink.told c.obey.new.out) (g.O.Sink.faults c.args.out.now) (g.O.Sink.faults c.obey.new.out)) c.as_slice-in-Ok-fetch_second.ensures (c.obey.ensures program a) in
    fetched_behind pair (g.F.Shelf.told c.args.shelf.now) of _ _ c.fetch_second.ensures.asked c.obey.result
    (debugged_refuses_none program c.in-Ok-fetch_second.script c.obey.result (g.O.Sink.told c.args.out.now) (g.O.Sink.told c.obey.new.out) (g.O.Sink.faults c.args.out.now) (g.O.Sink.faults c.obey.new.out) ends)

pub returns-in-Ok-fetch_second-clause-ended : goal.returns-in-Ok-fetch_second-clause-ended
returns-in-Ok-fetch_second-clause-ended g c =
    let pair = pair_of c.args.words in
    let read = c.args.accepted.now in
    let program = c.requires.accepted.0 in
    let a = c.requires.accepted.1 in
    let of = loaded_program c.accepted_texts_can_be_loaded.ensures.named pair (g.F.Shelf.told c.args.shelf.now) program c.requires.accepted.2 c.args.names.now read.plain read.plans a c.requires.kind _ c.in-Ok.ensures.holds c.in-Ok.ensures.fits in
    debug_ended pair (g.F.Shelf.told c.args.shelf.now) of c.in-Ok-fetch_second.script c.in-Ok-fetch_second.ensures.told c.in-Ok-fetch_second.ensures.short _ _ _ _ _ _ c.requires.kind c.obey.result
    (subst (λ script. EndsDebugged program script c.obey.result (g.O.Sink.told c.args.out.now) (g.O.Sink.told c.obey.new.out) (g.O.Sink.faults c.args.out.now) (g.O.Sink.faults c.obey.new.out)) c.as_slice-in-Ok-fetch_second.ensures (c.obey.ensures program a))

pub returns-in-Ok-clause-asked : goal.returns-in-Ok-clause-asked
returns-in-Ok-clause-asked g c =
    let pair = pair_of c.args.words in
    let read = c.args.accepted.now in
    let program = c.requires.accepted.0 in
    let a = c.requires.accepted.1 in
    c.in-Err.ensures.fetched (loaded_program c.accepted_texts_can_be_loaded.ensures.named pair (g.F.Shelf.told c.args.shelf.now) program c.requires.accepted.2 c.args.names.now read.plain read.plans a c.requires.kind _ c.in-Ok.ensures.holds c.in-Ok.ensures.fits)

pub returns-in-Ok-clause-ended : goal.returns-in-Ok-clause-ended
returns-in-Ok-clause-ended g c =
    let pair = pair_of c.args.words in
    let read = c.args.accepted.now in
    let program = c.requires.accepted.0 in
    let a = c.requires.accepted.1 in
    c.in-Err.ensures.fault _ _ (loaded_program c.accepted_texts_can_be_loaded.ensures.named pair (g.F.Shelf.told c.args.shelf.now) program c.requires.accepted.2 c.args.names.now read.plain read.plans a c.requires.kind _ c.in-Ok.ensures.holds c.in-Ok.ensures.fits)

pub returns-in-Err-Size-clause-ended : goal.returns-in-Err-Size-clause-ended
returns-in-Err-Size-clause-ended g c =
    let read = c.args.accepted.now in
    let program = c.requires.accepted.0 in
    let names = c.args.names.now in
    let a = c.requires.accepted.1 in
    let can = c.accepted_texts_can_be_loaded.ensures.loaded program names read.plain read.plans a.named a.accepted in
    let causes = subst (LoadCauses read.plain session_size) c.in-Err-Size.field-0-is c.in-Err-Size.ensures.fault in
    large_refused (pair_of c.args.words) _ program names read.plain read.plans c.in-Err-Size.field-0-0 (ap most_items_of_pair c.requires.kind) a c.requires.accepted.2 can causes _ _ _ _

pub load-requires-clause-store : goal.load-requires-clause-store
load-requires-clause-store g c = c.requires.store
