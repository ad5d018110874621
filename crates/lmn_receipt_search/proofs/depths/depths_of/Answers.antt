use Rattle.std.proofs.Common.{◌+◌, ◌∙◌, ap, arith, get_or, subst, sym}
use Rattle.lmn_receipt_search.proofs.PathDepths.{AreDepths, depths_are, depths_more, no_depths}
use Rattle.lmn_receipt_search.proofs.depths.depths_of.Goals as goal

pub parent-requires : goal.parent-requires
parent-requires c = (c.membrane_count-count.ensures.count c.loop-membrane.membrane).1 c.loop-membrane-test.true

pub loop-membrane-init : goal.loop-membrane-init
loop-membrane-init c = subst (AreDepths c.args.flat.now 0) (sym c.new-depths.ensures.items) (no_depths c.args.flat.now)

pub loop-membrane-preserved : goal.loop-membrane-preserved
loop-membrane-preserved c =
    let q = c.requires in
    depths_more q.0 c.args.flat.now q.1 c.loop-membrane.membrane c.in_ok-depth.depth c.loop-membrane.depths.items _ c.parent.result c.in_ok-push.ensures.items c.loop-membrane.invariant c.parent.ensures c.in_ok-depth.ensures.root
    (λ x e. c.in_ok-depth.ensures.inside x e ∙ ap (λ xs. get_or xs x 0 + 1) c.as_slice.ensures.value)

pub returns : goal.returns
returns c names table s w =
    let past = c.loop-membrane-test.false in
    let auto = c.loop-membrane.auto.membrane-end in
    depths_are s c.args.flat.now w c.membrane_count-count.result c.membrane_count-count.ensures.count c.loop-membrane.depths.items
    (subst (λ n. AreDepths c.args.flat.now n c.loop-membrane.depths.items) (omega (arith, past, auto)) c.loop-membrane.invariant) names table
