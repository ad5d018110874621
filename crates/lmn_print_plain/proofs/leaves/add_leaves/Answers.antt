use Rattle.std.specs.Prelude.{codes, false}
use Rattle.lmn_print_plain.specs.Parts.{leaf_text}
use Rattle.lmn_print_plain.proofs.RowLemmas.{row_first, row_next, row_all}
use Rattle.lmn_print_plain.proofs.leaves.add_leaves.Goals as goal

pub loop-leaf-init : goal.loop-leaf-init
loop-leaf-init g c = row_first (codes ", ") false (leaf_text c.args.names.now) c.args.leaves.now _

pub loop-leaf-preserved : goal.loop-leaf-preserved
loop-leaf-preserved g c =
    row_next (codes ", ") false (leaf_text c.args.names.now) c.args.leaves.now c.loop-leaf.leaf-index c.leaf-item.result c.leaf-item.result c.loop-leaf.any _ _ _ _ c.loop-leaf-test.true c.leaf-item.is c.loop-leaf.invariant c.add_between.ensures c.add_leaf.ensures

pub returns-clause-text : goal.returns-clause-text
returns-clause-text g c = (row_all (codes ", ") false (leaf_text c.args.names.now) c.args.leaves.now _ c.loop-leaf.any _ _ c.loop-leaf-test.false c.loop-leaf.invariant).0

pub returns-clause-any : goal.returns-clause-any
returns-clause-any g c = (row_all (codes ", ") false (leaf_text c.args.names.now) c.args.leaves.now _ c.loop-leaf.any _ _ c.loop-leaf-test.false c.loop-leaf.invariant).1
