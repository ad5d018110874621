use Rattle.std.proofs.Common.{◌∙◌}
use Rattle.lmn_base.specs.declared.level.Level.TheViews.{out-Level}
use Rattle.lmn_solid_firing.specs.Making.{context_membranes}
use Rattle.lmn_solid_firing.proofs.Laying.{inner_laid, inner_next}
use Rattle.lmn_solid_firing.proofs.body.+add_membranes.Goals as goal

pub loop-inner-preserved : goal.loop-inner-preserved
loop-inner-preserved _ c =
    let ls = c.as_slice-inner-items.result.now in
    let i = c.loop-inner.inner-index in record {
      next = λ left. inner_next c.args.flat.now c.args.taken.now left ls i c.inner-item.result c.loop-inner-test.true c.inner-item.is c.loop-inner.next c.add_row.new.next c.add_membranes.new.next
          (c.in_ok-own.ensures.next left) (c.in_ok-add_membranes.ensures.next left) _ (c.loop-inner.invariant.next left);
      rows = λ left forms. inner_laid c.args.flat.now c.args.taken.now left ls i c.inner-item.result c.loop-inner-test.true c.inner-item.is c.loop-inner.next c.add_row.new.next c.add_membranes.new.next
          (c.in_ok-own.ensures.next left) (c.in_ok-add_membranes.ensures.next left) c.loop-inner.rows.items c.add_row.new.rows.items c.add_membranes.new.rows.items _ c.args.around c.len-number.result c.in_ok-own.own
          (context_membranes c.args.flat.now c.args.taken.now left c.args.start (out-Level c.args.level.now).contexts)
          (c.len-number.ensures ∙ c.loop-inner.rows.ok.0) (c.in_ok-own.ensures.start left) (c.in_ok-own.ensures.rows left) (c.in_ok-add_membranes.ensures.rows left forms) (c.loop-inner.invariant.rows left forms);
    }
