use Rattle.lmn_order.specs.Answers.{AnswersBelow}
use Rattle.lmn_schedule.specs.Held.{EngineCanTurn}
use Rattle.lmn_store_slab.specs.Kept.{heap_of}
use Rattle.lmn_test_runs.proofs.runs.turns.Given as goal

abbrev pub invariant-loop : goal.invariant-loop
invariant-loop g l = record {
  run : EngineCanTurn (heap_of l.engine.machine.store) l.engine.plain.now.rules l.engine.codes l.engine.size;
  chooser : AnswersBelow (λ f t m. g.F.Fn.pre f (t, (m, tt))) (λ f t m r. g.F.Fn.post f (t, (m, tt)) r) l.engine.chooser.f;
}
