use Rattle.lmn_solid_tables.proofs.ExampleTables.{both_outside_is_not_across}
use Rattle.lmn_solid_tables.proofs.examples.both_outside_is_not_across.Goals as goal

pub returns : goal.returns
returns c = both_outside_is_not_across
