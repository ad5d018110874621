use Rattle.std.proofs.Common.{◌≡◌, subst, sym}
use Rattle.std.proofs.lemmas.Result.{IfOk-at_ok}
use Rattle.lmn_store_heap.specs.Heap.{lone_root}
use Rattle.lmn_schedule_loading.specs.Loaded.{IsEmpty}
use Rattle.lmn_schedule.specs.Held.{CanBeLoaded, EngineCanTurn}
use Rattle.lmn_store_slab.specs.Kept.{heap_of}
use Rattle.lmn_test_runs.proofs.runs.run_alone.Goals as goal

pub load-requires-clause-plain : goal.load-requires-clause-plain
load-requires-clause-plain g c = subst (CanBeLoaded c.args.accepted.now.plain) (sym c.as_slice.ensures) c.requires.accepted

pub load-requires-clause-store : goal.load-requires-clause-store
load-requires-clause-store g c = subst IsEmpty (sym (IfOk-at_ok (λ s. heap_of s ≡ lone_root) c.expect-store.ensures c.new.ensures.heap)) c.loading_settles.ensures.empty.0

pub turns-answer-requires-clause-run : goal.turns-answer-requires-clause-run
turns-answer-requires-clause-run g c = subst (λ p. EngineCanTurn (heap_of c.in_ok-engine.engine.machine.store) p.rules c.in_ok-engine.engine.codes c.in_ok-engine.engine.size) (sym c.in_ok-engine.ensures.keeps.0) c.in_ok-engine.ensures.run.0
