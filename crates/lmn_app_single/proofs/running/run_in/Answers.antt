use Rattle.std.proofs.Common.{◌∙◌, ℕ, Some, subst, sym}
use Rattle.lmn_congruence.specs.Regions.{Region}
use Rattle.lmn_schedule_loading.specs.Loaded.{LoadCauses}
use Rattle.lmn_order.specs.Orders.{chosen}
use Rattle.lmn_schedule.specs.Held.{CanBeLoaded}
use Rattle.lmn_app_drive.specs.Driving.{Drove, given_by_engine}
use Rattle.lmn_app_runs.specs.Laws.{solid_of}
use Rattle.lmn_app_single.specs.declared.task.Task.TheVariants as task
use Rattle.lmn_app_single.specs.Outcomes.{Ended}
use Rattle.lmn_app_single.proofs.DriveLemmas.{driven_ended, too_large_ended}
use Rattle.lmn_app_accepted.proofs.Loadable.{loadable, well_named}
use Rattle.lmn_app_single.proofs.RunLemmas.{Laws}
use Rattle.lmn_app_single.proofs.running.run_in.Goals as goal

pub load-requires-clause-plain : goal.load-requires-clause-plain
load-requires-clause-plain g c =
    let plain = c.args.accepted.now.plain in
    let plans = c.args.accepted.now.plans in
    subst (CanBeLoaded plain) (sym c.as_slice.ensures)
    (loadable c.accepted_texts.ensures c.requires.accepted.0 c.args.names.now plain plans c.requires.accepted.1.named c.requires.accepted.1.accepted)

pub returns-in-Ok : goal.returns-in-Ok
returns-in-Ok g c text before after a =
    let names = c.args.names.now in
    let plain = c.args.accepted.now.plain in
    let plans = c.args.accepted.now.plans in
    let settings = c.args.settings.now in
    let engine = c.in-Ok.engine in
    let end = c.drive_whole-end.result in
    let old = g.O.Sink.told c.args.out.now in
    let new = g.O.Sink.told c.drive_whole-end.new.out in
    let count = g.O.Sink.faults c.args.out.now in
    let count' = g.O.Sink.faults c.drive_whole-end.new.out in
    let laws : Laws = record { accepted = c.accepted_texts.ensures; printable = c.plains_are_printable.ensures; runs = c.traces_are_runs.ensures } in
    let held = c.in-Ok.ensures.holds names (well_named c.accepted_texts.ensures text names plain plans a.named a.accepted) in
    let from = held.from in
    let keeps = c.in-Ok.ensures.keeps.1 in
    let same = c.new-chooser.ensures.same in
    let whole = c.drive_whole-end.ensures.drove (chosen settings.order)
    (λ t m r t_is m_is some answer. answer.0 ∙ (λ i. chosen (keeps i).f.0.now t m) ∙ (λ i. chosen (same i).0.now t m)) in
    let n = whole.0 in
    let h = whole.1 in
    let D : Region → ℕ → Type 0 = λ S size. Drove (given_by_engine names plain.rules size (record { trace = settings.trace; folded = settings.folded; budget = settings.budget }) (chosen settings.order) S) n h end old new in
    let drove : D held.solid engine.size = whole.2 held.solid held.holds in
    let first = subst (λ S. D S engine.size) from.2 drove in
    let driven = subst (D (solid_of names plain from.0)) c.in-Ok.ensures.keeps.2 first in
    subst (λ ending. Ended (task.Run settings) ending (Some (Some text)) old new count count' before after) (sym c.ending_of.ensures)
    (driven_ended c.args.alloc laws settings text names plain plans a from.0 from.1 (c.in-Ok.ensures.fits from.0 from.1) names n h end old new count count' before after driven c.drive_whole-end.ensures.faults.0 c.drive_whole-end.ensures.faults.1)

pub returns-in-Err-Size : goal.returns-in-Err-Size
returns-in-Err-Size g c text before after a =
    let names = c.args.names.now in
    let plain = c.args.accepted.now.plain in
    let plans = c.args.accepted.now.plans in
    let can = loadable c.accepted_texts.ensures text names plain plans a.named a.accepted in
    let causes = subst (LoadCauses plain c.args.settings.now.size) c.in-Err-Size.field-0-is c.in-Err-Size.ensures.fault in
    too_large_ended c.args.settings.now text names plain plans c.in-Err-Size.field-0-0 a can.made can.closed causes
    (g.O.Sink.told c.args.out.now) (g.O.Sink.faults c.args.out.now) before after

pub drive_whole-end-requires-clause-run : goal.drive_whole-end-requires-clause-run
drive_whole-end-requires-clause-run g c = (c.in-Ok.ensures.run.0, c.in-Ok.ensures.keeps.0, c.in-Ok.ensures.keeps.3)
