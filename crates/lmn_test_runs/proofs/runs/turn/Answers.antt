use Rattle.std.proofs.Common.{subst, sym}
use Rattle.lmn_order.specs.Answers.{AnswersBelow}
use Rattle.lmn_schedule.specs.Held.{EngineCanTurn}
use Rattle.lmn_store_slab.specs.Kept.{heap_of}
use Rattle.lmn_test_runs.proofs.runs.turn.Goals as goal

pub returns-clause-run : goal.returns-clause-run
returns-clause-run g c = subst (λ e. EngineCanTurn (heap_of c.turn-answer.new.self.machine.store) e.plain.now.rules e.codes e.size) (sym c.turn-answer.ensures.keeps) c.turn-answer.ensures.again

pub returns-clause-chooser : goal.returns-clause-chooser
returns-clause-chooser g c = subst (λ e. AnswersBelow (λ f t m. g.F.Fn.pre f (t, (m, tt))) (λ f t m r. g.F.Fn.post f (t, (m, tt)) r) e.chooser.f) (sym c.turn-answer.ensures.keeps) c.is_reducible-reducible.ensures.chooser
