use Rattle.lmn_solid_tables.proofs.ExampleTables.{inner_is_left}
use Rattle.lmn_solid_tables.proofs.examples.inner_is_left.Goals as goal

pub returns : goal.returns
returns c = inner_is_left
