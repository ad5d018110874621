use Rattle.lmn_debug.proofs.ExampleCourses.{waits_stop}
use Rattle.lmn_debug.proofs.examples.waits_stop.Goals as goal

pub returns : goal.returns
returns c = waits_stop c.traces_end.ensures.0.0 c.traces_end.ensures.0.1
