use Rattle.std.proofs.Common.{◌≤◌, subst, arith, length}
use Rattle.std.proofs.lemmas.List.{take_all}
use Rattle.lmn_io.proofs.TakingLemmas.{no_put, none_more}
use Rattle.lmn_store_web.specs.WebHeaps.{heap_of}
use Rattle.lmn_debug.specs.Courses.{course}
use Rattle.lmn_debug.specs.Debugged.{FailedSo}
use Rattle.lmn_debug.specs.Obeying.{ObeyedSo}
use Rattle.lmn_debug.proofs.Obeyings.{at_fault, failed_behind, none_obeyed, one_obeyed}
use Rattle.lmn_debug.proofs.debugging.carry_out.Goals as goal

pub loop-order-init : goal.loop-order-init
loop-order-init g c = record {
  same = c.requires.same;
  run = c.requires.run;
  most = let none = c.requires.commits in omega (arith, none);
  counts = no_put (g.O.Sink.faults c.args.out.now);
  obeyed = λ k gives named S first stands.
      none_obeyed c.args.names.now c.args.beginning.now.plain.now.rules (course k c.args.beginning.now.size S) (g.O.Sink.told c.args.out.now) c.args.session.now.engine.commits (heap_of c.args.session.now.engine.machine.store)
      c.requires.commits stands;
}

pub loop-order-preserved : goal.loop-order-preserved
loop-order-preserved g c = record {
  same = c.in_ok-obey.ensures.same;
  run = c.in_ok-obey.ensures.again;
  most = let before = c.loop-order.invariant.most in let here = c.in_ok-obey.ensures.most in omega (arith, before, here);
  counts = none_more (g.O.Sink.faults c.args.out.now) (g.O.Sink.faults c.loop-order.out) (g.O.Sink.faults c.obey.new.out) c.loop-order.invariant.counts c.in_ok-obey.ensures.counts;
  obeyed = λ k gives named S first stands.
      (let so = c.loop-order.invariant.obeyed k gives named S first stands in
      one_obeyed c.args.names.now c.args.beginning.now.plain.now.rules (course k c.args.beginning.now.size S) (g.O.Sink.told c.args.out.now) c.args.orders.now c.loop-order.order-index _ c.loop-order-test.true
      c.loop-order.session.engine.commits (heap_of c.loop-order.session.engine.machine.store) (g.O.Sink.told c.loop-order.out) so c.obey.new.session.engine.commits (heap_of c.obey.new.session.engine.machine.store)
      (g.O.Sink.told c.obey.new.out) (c.in_ok-obey.ensures.obeyed k gives named S first so.stands));
}

pub returns-clause-obeyed : goal.returns-clause-obeyed
returns-clause-obeyed g c k gives named S first stands =
    let past : length c.args.orders.now ≤ c.loop-order.order-index = let end = c.loop-order-test.false in omega (arith, end) in
    subst
    (λ orders. ObeyedSo c.args.names.now c.args.beginning.now.plain.now.rules (course k c.args.beginning.now.size S) orders c.loop-order.session.engine.commits (heap_of c.loop-order.session.engine.machine.store)
    (g.O.Sink.told c.args.out.now) (g.O.Sink.told c.loop-order.out))
    (take_all c.loop-order.order-index c.args.orders.now past) (c.loop-order.invariant.obeyed k gives named S first stands)

pub returns-in_err-obey-clause-obeyed : goal.returns-in_err-obey-clause-obeyed
returns-in_err-obey-clause-obeyed g c k gives named S first stands =
    let names = c.args.names.now in
    let table = c.args.beginning.now.plain.now.rules in
    let g' = course k c.args.beginning.now.size S in
    let old = g.O.Sink.told c.args.out.now in
    let new = g.O.Sink.told c.obey.new.out in
    let so = c.loop-order.invariant.obeyed k gives named S first stands in
    at_fault (λ done. ObeyedSo names table g' c.args.orders.now c.obey.new.session.engine.commits (heap_of c.obey.new.session.engine.machine.store) old new) (λ halt. FailedSo names g' c.args.orders.now halt old new) c.in_err-obey.field-0.0
    c.from_residual.result c.from_residual.ensures.1
    (failed_behind names table g' old c.args.orders.now c.loop-order.order-index _ c.loop-order-test.true c.loop-order.session.engine.commits (heap_of c.loop-order.session.engine.machine.store) (g.O.Sink.told c.loop-order.out) so
    c.in_err-obey.field-0.0 new (c.in_err-obey.ensures.obeyed k gives named S first so.stands))
