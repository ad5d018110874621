use Rattle.lmn_debug.proofs.ExampleCourses.{steps_stop}
use Rattle.lmn_debug.proofs.examples.steps_stop.Goals as goal

pub returns : goal.returns
returns c = steps_stop c.traces_end.ensures.0.0 c.traces_end.ensures.0.1
