use Rattle.std.proofs.Common.{◌≤◌, ◌*◌, take}
use Rattle.lmn_io.specs.Counts.{NoneFailed}
use Rattle.lmn_store_web.specs.WebHeaps.{heap_of}
use Rattle.lmn_debug.specs.Beginnings.{CanGoOn, IsEngineOf}
use Rattle.lmn_debug.specs.Sessions.{StandsAt}
use Rattle.lmn_debug.specs.Obeying.{ObeyedSo, OfEachCourse, most_asked}
use Rattle.lmn_debug.proofs.debugging.carry_out.Given as goal

abbrev pub invariant-loop-order : goal.invariant-loop-order
invariant-loop-order g l =
    let plain = l.beginning.plain.now in
    record {
      same : IsEngineOf l.beginning l.session.engine;
      run : CanGoOn l.beginning l.session.engine;
      most : l.session.engine.commits ≤ l.order-index * most_asked;
      counts : NoneFailed (g.O.Sink.faults l.fn.out) (g.O.Sink.faults l.out);
      obeyed : OfEachCourse (λ f t m r. g.F.Fn.post f (t, (m, tt)) r) l.beginning.choose l.names plain l.beginning.size
          (λ g'. StandsAt l.names plain.rules g' 0 (heap_of l.fn.session.engine.machine.store) →
          ObeyedSo l.names plain.rules g' (take l.order-index l.orders) l.session.engine.commits (heap_of l.session.engine.machine.store) (g.O.Sink.told l.fn.out) (g.O.Sink.told l.out));
    }
