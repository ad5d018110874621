use Rattle.std.specs.Prelude.{codes}
use Rattle.lmn_print_plain.specs.Parts.{untyped_text}
use Rattle.lmn_print_plain.proofs.RowLemmas.{row_first, row_at, row_all}
use Rattle.lmn_print_plain.proofs.leaves.add_untyped.Goals as goal

pub loop-use_-init : goal.loop-use_-init
loop-use_-init g c = row_first (codes ", ") c.args.before (untyped_text c.args.names.now) c.args.uses.now _

pub loop-use_-preserved : goal.loop-use_-preserved
loop-use_-preserved g c =
    row_at (codes ", ") c.args.before (untyped_text c.args.names.now) c.args.uses.now c.loop-use_.use_-index _ c.loop-use_.any _ _ _ _ c.loop-use_-test.true c.loop-use_.invariant c.add_between.ensures c.add_open_or_closed.ensures

pub returns-clause-text : goal.returns-clause-text
returns-clause-text g c = (row_all (codes ", ") c.args.before (untyped_text c.args.names.now) c.args.uses.now _ c.loop-use_.any _ _ c.loop-use_-test.false c.loop-use_.invariant).0

pub returns-clause-any : goal.returns-clause-any
returns-clause-any g c = (row_all (codes ", ") c.args.before (untyped_text c.args.names.now) c.args.uses.now _ c.loop-use_.any _ _ c.loop-use_-test.false c.loop-use_.invariant).1
