use Rattle.std.proofs.Common.{subst, sym}
use Rattle.lmn_debug.specs.Courses.{course}
use Rattle.lmn_debug.specs.Debugged.{Debugged}
use Rattle.lmn_order.specs.declared.order.Order.TheVariants.{First}
use Rattle.lmn_order.specs.Orders.{chosen}
use Rattle.lmn_schedule.specs.Held.{CanBeLoaded}
use Rattle.lmn_debug_script.specs.Asked.{AreAskedWith}
use Rattle.lmn_app.specs.Debugs.{session_size}
use Rattle.lmn_app.specs.Runnings.{EndsDebugged}
use Rattle.lmn_app.proofs.DebugLemmas.{debugged_ended, named_later}
use Rattle.lmn_app.proofs.debugging.obey.Goals as goal

pub debug-end-requires-clause-plain : goal.debug-end-requires-clause-plain
debug-end-requires-clause-plain g c =
    let read = c.args.accepted.now in
    let a = c.requires.accepted.1 in
    subst (CanBeLoaded read.plain) (sym c.as_slice.ensures) (c.accepted_texts_can_be_loaded.ensures.loaded c.requires.accepted.0 c.args.names.now read.plain read.plans a.named a.accepted)

pub debug-end-requires-clause-orders : goal.debug-end-requires-clause-orders
debug-end-requires-clause-orders g c = subst (λ orders. AreAskedWith c.read_script.new.names orders) (sym c.as_slice-in-Ok.ensures) c.in-Ok.ensures.asked

pub returns-in-Ok : goal.returns-in-Ok
returns-in-Ok g c = λ program a.
    let read = c.args.accepted.now in
    let behind = c.accepted_texts_can_be_loaded.ensures.behind in
    let later = c.read_script.new.names in
    let adds = c.in-Ok.ensures.names in
    let known = named_later behind program c.args.script.now c.args.names.now read.plain read.plans a later adds c.len.ensures.names in
    let held = c.requires.holds later known in
    let old = g.O.Sink.told c.args.out.now in
    let new = g.O.Sink.told c.debug-end.new.out in
    let count = g.O.Sink.faults c.args.out.now in
    let count' = g.O.Sink.faults c.debug-end.new.out in
    let did = subst (λ orders. Debugged later (course (chosen First) session_size held.solid) orders c.debug-end.result old new) c.as_slice-in-Ok.ensures
    (c.debug-end.ensures.debugged (chosen First) c.requires.gives known held) in
    subst (λ ending. EndsDebugged program c.args.script.now ending old new count count') (sym c.ending_of.ensures)
    (debugged_ended behind program c.args.script.now c.args.names.now read.plain read.plans a later adds c.len.ensures.names _ c.requires.fits held c.in-Ok.orders c.in-Ok.ensures.ok c.debug-end.result old new count count' did c.debug-end.ensures.counts)

pub debug-end-requires-clause-run : goal.debug-end-requires-clause-run
debug-end-requires-clause-run g c = (c.requires.run, c.requires.engine.3)
