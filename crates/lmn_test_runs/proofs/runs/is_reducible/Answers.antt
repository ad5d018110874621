use Rattle.std.proofs.Common.{subst, sym}
use Rattle.lmn_order.specs.Answers.{AnswersBelow}
use Rattle.lmn_schedule.specs.Held.{EngineCanTurn}
use Rattle.lmn_store_slab.specs.Kept.{heap_of}
use Rattle.lmn_test_runs.proofs.runs.is_reducible.Goals as goal

pub returns-clause-run : goal.returns-clause-run
returns-clause-run g c =
    let old = c.args.engine.now in
    subst (λ e. EngineCanTurn (heap_of c.reducible.new.self.machine.store) e.plain.now.rules e.codes e.size) (sym c.reducible.ensures.keeps)
    (subst (λ h. EngineCanTurn h old.plain.now.rules old.codes old.size) (sym c.reducible.ensures.same) c.requires.run)

pub returns-clause-chooser : goal.returns-clause-chooser
returns-clause-chooser g c = subst (λ e. AnswersBelow (λ f t m. g.F.Fn.pre f (t, (m, tt))) (λ f t m r. g.F.Fn.post f (t, (m, tt)) r) e.chooser.f) (sym c.reducible.ensures.keeps) c.requires.chooser
