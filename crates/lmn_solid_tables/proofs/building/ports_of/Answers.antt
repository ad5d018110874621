use Rattle.lmn_solid_tables.proofs.Steps.{goes_in, atoms_next, goes_on_atoms}
use Rattle.lmn_solid_tables.proofs.building.ports_of.Goals as goal

pub add_ports-requires : goal.add_ports-requires
add_ports-requires c = goes_in c.loop-number.ports.items c.loop-number.ports.items c.args.atoms.now c.loop-number.number c.index-atoms-number.result c.as_slice.result.now c.loop-number-test.true c.index-atoms-number.is c.as_slice.ensures c.loop-number.invariant.goes_on

pub loop-number-preserved : goal.loop-number-preserved
loop-number-preserved c =
    let i = c.loop-number.invariant in record {
      rest = atoms_next c.loop-number.ports.items c.add_ports.new.ports.items c.args.atoms.now c.loop-number.number c.index-atoms-number.result c.as_slice.result.now c.loop-number-test.true c.index-atoms-number.is c.as_slice.ensures c.in_ok-add_ports.ensures _ i.rest;
      goes_on = goes_on_atoms c.loop-number.ports.items c.add_ports.new.ports.items c.args.atoms.now c.loop-number.number c.index-atoms-number.result c.as_slice.result.now c.loop-number-test.true c.index-atoms-number.is c.as_slice.ensures c.in_ok-add_ports.ensures i.goes_on;
    }
