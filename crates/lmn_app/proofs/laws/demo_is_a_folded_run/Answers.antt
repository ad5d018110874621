use Rattle.lmn_app.proofs.DemoLemmas.{demo_is_folded_run, some_demo}
use Rattle.lmn_app.proofs.laws.demo_is_a_folded_run.Goals as goal

pub returns-clause-run : goal.returns-clause-run
returns-clause-run c = demo_is_folded_run

pub returns-clause-text : goal.returns-clause-text
returns-clause-text c = some_demo
