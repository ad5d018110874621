use Rattle.lmn_solid_tables.proofs.Partners.{port_below, link_is}
use Rattle.lmn_solid_tables.proofs.flat.Flat.link.Goals as goal

-- src/reading.rt:37:10
pub at-requires : goal.at-requires
at-requires c = port_below c.args.self.now c.args.port.atom c.args.port.index c.index.result.now c.requires c.index.ensures

-- src/reading.rt:33:5
pub returns : goal.returns
returns c = link_is c.args.self.now c.args.port.atom c.args.port.index c.index.result.now c.requires c.index.ensures c.at.result.now c.at.ensures
