use Rattle.std.proofs.Common.{refl}
use Rattle.lmn_solid_tables.proofs.Steps.{goes_at, ports_next, goes_on_next}
use Rattle.lmn_solid_tables.proofs.building.add_ports.Goals as goal

pub add_port-requires : goal.add_port-requires
add_port-requires c = goes_at c.loop-index.ports.items c.args.links.now c.loop-index.index c.loop-index-test.true c.loop-index.invariant.goes_on

pub loop-index-preserved : goal.loop-index-preserved
loop-index-preserved c =
    let i = c.loop-index.invariant in record {
      rest = ports_next c.loop-index.ports.items c.add_port.new.ports.items c.args.links.now c.args.atom c.loop-index.index _ c.loop-index-test.true refl c.in_ok-add_port.ensures _ i.rest;
      goes_on = goes_on_next c.loop-index.ports.items c.add_port.new.ports.items c.args.links.now c.args.atom c.loop-index.index _ c.loop-index-test.true refl c.in_ok-add_port.ensures i.goes_on;
    }
