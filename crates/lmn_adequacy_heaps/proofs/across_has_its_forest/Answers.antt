use Rattle.lmn_adequacy_heaps.proofs.ExampleReadings.{across_has_its_forest}
use Rattle.lmn_adequacy_heaps.proofs.across_has_its_forest.Goals as goal

pub returns : goal.returns
returns c = across_has_its_forest
