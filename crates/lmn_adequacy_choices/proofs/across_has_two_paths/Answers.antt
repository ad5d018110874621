use Rattle.lmn_adequacy_choices.proofs.ExampleHeaps as examples
use Rattle.lmn_adequacy_choices.proofs.across_has_two_paths.Goals as goal

pub returns : goal.returns
returns c = examples.across_has_two_paths
