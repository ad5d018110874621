use Rattle.lmn_adequacy_choices.proofs.ExampleHeaps as examples
use Rattle.lmn_adequacy_choices.proofs.across_is_read_with.Goals as goal

pub returns : goal.returns
returns c = examples.across_is_read_with
