use Rattle.lmn_solid_tables.proofs.ExampleTables.{one_port_twice_is_no_link}
use Rattle.lmn_solid_tables.proofs.examples.one_port_twice_is_no_link.Goals as goal

pub returns : goal.returns
returns c = one_port_twice_is_no_link
