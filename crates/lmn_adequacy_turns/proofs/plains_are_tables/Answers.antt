use Rattle.lmn_adequacy_turns.proofs.Tables as tables
use Rattle.lmn_adequacy_turns.proofs.plains_are_tables.Goals as goal

pub returns : goal.returns
returns c = tables.plains_are_tables
