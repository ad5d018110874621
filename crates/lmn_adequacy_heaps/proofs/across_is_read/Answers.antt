use Rattle.lmn_adequacy_heaps.proofs.ExampleReadings.{across_is_read}
use Rattle.lmn_adequacy_heaps.proofs.across_is_read.Goals as goal

pub returns : goal.returns
returns c = across_is_read
