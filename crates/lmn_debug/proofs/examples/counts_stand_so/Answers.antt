use Rattle.lmn_debug.proofs.ExampleCourses.{counts_stand_so}
use Rattle.lmn_debug.proofs.examples.counts_stand_so.Goals as goal

pub returns : goal.returns
returns c = counts_stand_so
