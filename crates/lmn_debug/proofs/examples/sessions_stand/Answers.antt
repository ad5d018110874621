use Rattle.lmn_debug.proofs.ExampleCourses.{sessions_stand}
use Rattle.lmn_debug.proofs.examples.sessions_stand.Goals as goal

pub returns : goal.returns
returns c = sessions_stand c.traces_end.ensures.0.0 c.traces_end.ensures.0.1
