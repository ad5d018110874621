use Rattle.lmn_debug.proofs.ExampleCourses.{counts_at_every_depth}
use Rattle.lmn_debug.proofs.examples.counts_at_every_depth.Goals as goal

pub returns : goal.returns
returns c = counts_at_every_depth
