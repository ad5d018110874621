use Rattle.lmn_solid_tables.proofs.ExampleTables.{across_has_its_tables}
use Rattle.lmn_solid_tables.proofs.examples.across_has_its_tables.Goals as goal

pub returns : goal.returns
returns c = across_has_its_tables
