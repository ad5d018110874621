use Rattle.std.specs.Prelude.{false}
use Rattle.lmn_print_plain.specs.Stored.{solid_atom_text}
use Rattle.lmn_print_plain.proofs.RowLemmas.{row_first, row_next, row_all}
use Rattle.lmn_receipt_line.proofs.items.add_atoms.Goals as goal

pub loop-atom-init : goal.loop-atom-init
loop-atom-init g c = row_first c.args.between.now false (solid_atom_text c.args.names.now) c.args.atoms.now _

pub loop-atom-preserved : goal.loop-atom-preserved
loop-atom-preserved g c =
    row_next c.args.between.now false (solid_atom_text c.args.names.now) c.args.atoms.now c.loop-atom.atom-index c.atom-item.result c.atom-item.result c.loop-atom.any _ _ _ _ c.loop-atom-test.true c.atom-item.is c.loop-atom.invariant c.add_between.ensures c.add_atom.ensures

pub returns : goal.returns
returns g c = (row_all c.args.between.now false (solid_atom_text c.args.names.now) c.args.atoms.now _ c.loop-atom.any _ _ c.loop-atom-test.false c.loop-atom.invariant).0
