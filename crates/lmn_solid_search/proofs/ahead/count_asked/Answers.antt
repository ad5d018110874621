use Rattle.std.proofs.Common.{◌∙◌, ap, arith, if◌then◌else◌}
use Rattle.lmn_solid_search.proofs.AheadLemmas.{asked_on, asked_whole}
use Rattle.lmn_solid_search.proofs.ahead.count_asked.Goals as goal
use Rattle.lmn_solid_search.proofs.ahead.count_asked.Goals.{then-asks, else-asks}

pub loop-item-preserved : goal.loop-item-preserved
loop-item-preserved c = elim c.if-asks.branch [
  | then-asks w ↦
      (let k = c.loop-item.invariant.few in let e = w.count-is in
      let r = asked_on c.args.number c.args.functor c.args.items.now c.loop-item.item-index c.loop-item.count 1 c.item-item.result c.loop-item-test.true c.item-item.is (c.asks.ensures ∙ ap (λ b. if b then 1 else 0) w.if-asks.true) c.loop-item.invariant.all in
      record { few = omega (arith, k, e); all = omega (arith, r, e) })
  | else-asks w ↦
      (let k = c.loop-item.invariant.few in let e = w.count-is in
      let r = asked_on c.args.number c.args.functor c.args.items.now c.loop-item.item-index c.loop-item.count 0 c.item-item.result c.loop-item-test.true c.item-item.is (c.asks.ensures ∙ ap (λ b. if b then 1 else 0) w.if-asks.false) c.loop-item.invariant.all in
      record { few = omega (arith, k, e); all = omega (arith, r, e) })
]

pub returns : goal.returns
returns c = asked_whole c.args.number c.args.functor c.args.items.now c.loop-item.item-index c.loop-item.count c.loop-item-test.false c.loop-item.invariant.all
