use Rattle.lmn_debug.proofs.ExampleCourses.{courses_have_sizes}
use Rattle.lmn_debug.proofs.examples.courses_have_sizes.Goals as goal

pub returns : goal.returns
returns c = courses_have_sizes
